-- A journal that is run again.
use Rattle.std.specs.Prelude.{ℕ, ◌≤◌, ◌-◌, List, length, map, take}
use Rattle.std.specs.List.{concat}
use Rattle.floor_config.specs.Configuration.{Configuration}
use Rattle.floor_machine.specs.declared.event.Event.{Event}
use Rattle.floor_machine.specs.Parcel.{Parcel}
use Rattle.floor_machine.specs.Conference.{opening}
use Rattle.floor_machine.specs.Journal.{IsJournal, parcels_from, sent_to}
use Rattle.floor_room.specs.declared.replaying.ReplayFault.{ReplayFault}
use Rattle.floor_room.specs.declared.replaying.ReplayFault.TheVariants.{NotAJournal, Memory}

-- The event at this place, from 1, is the first that makes the events no journal.
pub record IsFirstFault (config : Configuration) (es : List Event) (place : ℕ) : Type 0 where
  pub first : 1 ≤ place
  pub last : place ≤ length es
  pub before : IsJournal config (take (place - 1) es)
  pub fault : ¬ IsJournal config (take place es)

abbrev pub IsFault : Configuration → List Event → ReplayFault → Type 0
IsFault config es (NotAJournal place) = IsFirstFault config es place
IsFault config es Memory = Unit {0}

-- the bytes of parcels, one after another
abbrev pub bytes_of : List Parcel → List ℕ
bytes_of ps = concat (map (λ p. p.bytes) ps)

-- the bytes that these events send n
abbrev pub bytes_to : ℕ → Configuration → List Event → List ℕ
bytes_to n config es = bytes_of (sent_to n (parcels_from (opening config) es))
