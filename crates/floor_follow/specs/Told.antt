-- What a line of the control socket tells.
use Rattle.std.specs.Prelude.{ℕ, ◌^◌, List, codes, bytes_eq, Option, Some, None, Result, Ok, Err, if◌then◌else◌}
use Rattle.floor_room.specs.declared.status.Phase.{Phase}
use Rattle.floor_room.specs.declared.status.Phase.TheVariants.{Running, Ended, Broken}
use Rattle.floor_follow.specs.Reading.{and_then, cut, begins_with, expect, is_empty, end, numbered}
use Rattle.floor_follow.specs.Live.{event, notice}
use Rattle.floor_follow.specs.Row.{row}
use Rattle.floor_follow.specs.declared.fault.FollowFault.{FollowFault}
use Rattle.floor_follow.specs.declared.fault.FollowFault.TheVariants.{UnknownLine}
use Rattle.floor_follow.specs.declared.told.Told.{Told}
use Rattle.floor_follow.specs.declared.told.Told.TheVariants.{Live, Row, Listed, End, Done, Refused}

-- `! <c> <place> ..`: an event of a conference
abbrev pub live : List ℕ → Result Told FollowFault
live text = and_then (numbered (2 ^ 32) text) (λ c. and_then (numbered (10 ^ 10) c.1) (λ p. and_then (event p.1) (λ change. Ok (Live c.0 change))))

-- `~ <c> ..`: what is told of a conference and is no event
abbrev pub noticed : List ℕ → Result Told FollowFault
noticed text = and_then (numbered (2 ^ 32) text) (λ c. and_then (notice c.1) (λ change. Ok (Live c.0 change)))

abbrev pub phase : List ℕ → Result Phase FollowFault
phase name =
    if bytes_eq name (codes "open") then Ok Running
    else if bytes_eq name (codes "ended") then Ok Ended
    else if bytes_eq name (codes "broken") then Ok Broken
    else Err UnknownLine

-- what is left behind `unkept`, where that stands there
abbrev pub unkept_mark : List ℕ → Result (List ℕ) FollowFault
unkept_mark text = if begins_with (codes "unkept") text then expect (codes "unkept") text else Ok text

-- `conference <c> members <m> ongoing <k> events <e> <phase> [unkept]`
abbrev pub listed : List ℕ → Result Told FollowFault
listed text =
    and_then (numbered (2 ^ 32) text) (λ c.
    and_then (expect (codes "members") c.1) (λ at_members.
    and_then (numbered (2 ^ 32) at_members) (λ m.
    and_then (expect (codes "ongoing") m.1) (λ at_ongoing.
    and_then (numbered (2 ^ 32) at_ongoing) (λ k.
    and_then (expect (codes "events") k.1) (λ at_events.
    and_then (numbered (10 ^ 10) at_events) (λ e.
    and_then (cut e.1) (λ word.
    and_then (phase word.0) (λ is.
    and_then (unkept_mark word.1) (λ rest.
    and_then (end rest) (λ _.
    Ok (Listed (record { conference = c.0; phase = is; events = e.0 })))))))))))))

-- `end <count> [<next place>]`
abbrev pub ending : List ℕ → Result Told FollowFault
ending text = and_then (numbered (10 ^ 10) text) (λ count.
    if is_empty count.1 then Ok (End None)
    else and_then (numbered (10 ^ 10) count.1) (λ next. and_then (end next.1) (λ _. Ok (End (Some next.0)))))

abbrev pub told_of : List ℕ → List ℕ → Result Told FollowFault
told_of name rest =
    if bytes_eq name (codes "!") then live rest
    else if bytes_eq name (codes "~") then noticed rest
    else if bytes_eq name (codes "conference") then listed rest
    else if bytes_eq name (codes "end") then ending rest
    else if bytes_eq name (codes "ok") then Ok Done
    else if bytes_eq name (codes "error") then Ok Refused
    else and_then (row name rest) (λ facts. Ok (Row facts))

-- what a line tells, by its first word
abbrev pub told : List ℕ → Result Told FollowFault
told line = and_then (cut line) (λ c. told_of c.0 c.1)
