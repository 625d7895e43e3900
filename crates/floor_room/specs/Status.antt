-- How a conference stands.
use Rattle.std.specs.Prelude.{◌≡◌, if◌then◌else◌, Bool, true, false, length, count_by}
use Rattle.floor_room.specs.declared.status.Phase.{Phase}
use Rattle.floor_room.specs.declared.status.Phase.TheVariants.{Running, Ended, Broken}
use Rattle.floor_room.specs.declared.status.Status.{Status}
use Rattle.floor_room.specs.Ledger.{Ledger, conference_of}

-- a broken conference is Broken, also where it is closed
abbrev pub phase_of : Bool → Bool → Phase
phase_of is_broken is_open = if is_broken then Broken else if is_open then Running else Ended

-- The phase; how many events there were; the live members and the ongoing requests, of which a broken one has none.
pub record IsStatus (l : Ledger) (s : Status) : Type 0 where
  pub phase : s.phase ≡ phase_of l.is_broken (conference_of l).is_open
  pub events : s.events ≡ length l.journal
  pub members : l.is_broken ≡ false → s.members ≡ count_by (λ m. m.is_live) (conference_of l).members
  pub ongoing : l.is_broken ≡ false → s.ongoing ≡ length (conference_of l).ongoing
  pub no_members : l.is_broken ≡ true → s.members ≡ 0
  pub none_ongoing : l.is_broken ≡ true → s.ongoing ≡ 0
