-- Laws of what is watched, and a worked run.
use Rattle.std.specs.Prelude.{◌≡◌, ℕ, ◌+◌, List, [], ◌∷◌, ◌++◌, length, codes}
use Rattle.floor_config.specs.Configuration.{Configuration}
use Rattle.floor_machine.specs.Conference.{Conference}
use Rattle.floor_machine.specs.declared.event.Event.{Event}
use Rattle.floor_machine.specs.Journal.{after, after_from}
use Rattle.floor_control.specs.Watch.{texts, watched, watched_from}
use Rattle.floor_control.specs.Watcher.{watched_whole}

-- what is watched from a place on is the rest of what is watched from the first
abbrev pub WatchedOn : Type 0
WatchedOn = (config : Configuration) (es fs : List Event) →
    watched_whole config (es ++ fs) ≡ watched_whole config es ++ watched_from (length es + 1) (after config es) fs

-- and so it is from wherever one began
abbrev pub WatchedBoth : Type 0
WatchedBoth = (place : ℕ) (s : Conference) (es fs : List Event) →
    watched_from place s (es ++ fs) ≡ watched_from place s es ++ watched_from (place + length es) (after_from s es) fs

-- an event that shows nothing has no line
abbrev pub NothingShown : Type 0
NothingShown = (place : ℕ) (s : Conference) (e : Event) → texts s e ≡ [] → watched place s e ≡ []
