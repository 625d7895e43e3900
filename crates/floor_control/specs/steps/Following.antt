-- What a watcher keeps of its machine.
use Rattle.std.specs.Prelude.{◌≡◌, ◌≤◌, ℕ, Bool, false, List, length}
use Rattle.floor_machine.specs.Machine.{Machine}
use Rattle.floor_machine.specs.Journal.{MAX_EVENTS}
use Rattle.floor_control.specs.Watch.{cut_of}

-- Unless an event was broken off: its machine is whole, the members that are cut are noted, and there were at most as many members as
-- events, and no more of these than a journal has.
pub record Follows (m : Machine) (noted : List ℕ) (events : ℕ) : Type 0 where
  pub whole : m.is_broken ≡ false
  pub cut : noted ≡ cut_of m.conference
  pub members : length m.conference.members ≤ events
  pub place : events ≤ MAX_EVENTS

abbrev pub IsFollowing : Machine → List ℕ → ℕ → Bool → Type 0
IsFollowing m noted events is_broken = is_broken ≡ false → Follows m noted events
