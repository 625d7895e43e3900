-- The conference that a file's events lead to.
use Rattle.std.specs.Prelude.{◌≡◌, ◌+◌, true, false, not, List, ◌∷◌, ◌++◌, length, filter, is_some}
use Rattle.floor_config.specs.Configuration.{Configuration}
use Rattle.floor_machine.specs.Journal.{IsJournal}
use Rattle.floor_machine.specs.declared.event.Event.{Event}
use Rattle.floor_room.specs.Ledger.{Ledger, refusal}
use Rattle.floor_room.specs.Room.{Room}
use Rattle.floor_kept.specs.Body.{event_of, events_of}
use Rattle.floor_kept.specs.declared.entry.Entry.{Entry}
use Rattle.floor_kept.specs.declared.opening.OpenFault.{OpenFault}
use Rattle.floor_kept.specs.declared.opening.OpenFault.TheVariants.{NotAJournal, Memory}
use Rattle.floor_kept.specs.declared.opening.Unlawful.{Unlawful}

-- the ledger of a conference that opened so, and in which these events happened
abbrev pub ledger_of : Configuration → List Event → Ledger
ledger_of config events = record { config = config; journal = events; is_broken = false }

-- the entries that are no events, in order
abbrev pub notes_of : List Entry → List Entry
notes_of entries = filter (λ entry. not (is_some (event_of entry))) entries

-- the room is that of the conference in which these events happened, and they are a journal
pub record IsOpened (config : Configuration) (events : List Event) (room : Room) : Type 0 where
  pub journal : IsJournal config events
  pub ledger : room.ledger ≡ ledger_of config events

-- The first event that isn't taken behind those before it. It is told by its place among the events, and by that of its entry among all,
-- each from 1 on.
pub record IsFirstRefused (config : Configuration) (entries : List Entry) (unlawful : Unlawful) : Type 0 where
  pub before : List Entry
  pub event : Event
  pub behind : List Entry
  pub parts : entries ≡ before ++ Entry.Happened event ∷ behind
  pub journal : IsJournal config (events_of before)
  pub refused : is_some (refusal (ledger_of config (events_of before)) event) ≡ true
  pub place : unlawful.place ≡ length (events_of before) + 1
  pub number : unlawful.number ≡ length before + 1

abbrev pub IsRefused : Configuration → List Entry → OpenFault → Type 0
IsRefused config entries (NotAJournal unlawful) = IsFirstRefused config entries unlawful
IsRefused config entries Memory = Unit {0}
