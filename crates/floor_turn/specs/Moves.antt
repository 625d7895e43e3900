-- What the calls of the server do to its meetings: calls of theirs, one after another.
use Rattle.std.specs.Prelude.{◌≡◌, ℕ, Bool, true, false, List, [], ◌∷◌, if◌then◌else◌, length, min, nat_eq, take}
use Rattle.floor_meetings.specs.declared.meetings.Meetings.{Meetings}
use Rattle.floor_meetings.specs.Runs.{Call, Does, bytes_by}

-- These calls, the first in front, led from the first value to the last; each did what its contract says.
abbrev pub Leads : List Call → Meetings → Meetings → Type 0
Leads [] first last = last ≡ first
Leads (c ∷ cs) first last = (next : Meetings) × Does c first next × Leads cs next last

-- Calls led from one value to the other, and by them the socket in each slot took these bytes.
pub record Moves (taken : ℕ → List ℕ) (old new : Meetings) : Type 0 where
  pub calls : List Call
  pub lead : Leads calls old new
  pub took : (slot : ℕ) → bytes_by slot calls ≡ taken slot

-- no socket took any
abbrev pub nothing_taken : ℕ → List ℕ
nothing_taken slot = []

-- one socket took these bytes, and no other any
abbrev pub taken_at : ℕ → List ℕ → ℕ → List ℕ
taken_at socket bytes slot = if nat_eq socket slot then bytes else []

-- what a socket took by a write of which so much is told, where one was asked: as much of what was lent, all of it at most
abbrev pub taken_of : Bool → ℕ → List ℕ → List ℕ
taken_of false count lent = []
taken_of true count lent = take (min count (length lent)) lent
