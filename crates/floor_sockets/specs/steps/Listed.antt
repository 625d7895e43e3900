-- Who waits for a turn.
use Rattle.std.specs.Prelude.{◌≡◌, ◌≤◌, ◌⊎◌, ℕ, Bool, true, false, not, List, All, Contains, filter, Some, is_some, nat_eq}
use Rattle.slab.specs.Slab.{Slab, get, slab_len}
use Rattle.floor_sockets.specs.declared.deadlines.Deadline.{Deadline}
use Rattle.floor_sockets.specs.declared.life.Asked.{Asked}
use Rattle.floor_sockets.specs.declared.life.Deed.{Deed}
use Rattle.floor_sockets.specs.declared.life.Life.{Life}
use Rattle.floor_sockets.specs.Life.{at_deadline, deed_of, is_awaiting, next_asked}
use Rattle.floor_sockets.specs.Rounds.{IsTurn, Rounds, times}
use Rattle.floor_sockets.specs.Sockets.{HasTurn, Passes, due_times}
use Rattle.floor_sockets.specs.steps.Due.{Deadlines}

-- each of whom something is to be asked stands in the line
abbrev pub IsListed : Slab Life → Rounds → Type 0
IsListed lives line = (slot : ℕ) (l : Life) → get lives slot ≡ Some l → is_awaiting l ≡ true → times line slot ≡ 1

-- nobody stands in the line twice
abbrev pub IsOnce : Rounds → Type 0
IsOnce line = (slot : ℕ) → times line slot ≤ 1

abbrev pub with_asked : Asked → Life → Life
with_asked asked l = record l { asked = asked }

-- What is to be asked next of the socket in a slot was asked by this deed, and nothing else has changed.
pub record Asks (old new : Slab Life) (slot : ℕ) (deed : Deed) : Type 0 where
  pub life : Life
  pub was : get old slot ≡ Some life
  pub by_deed : deed_of (next_asked life) slot ≡ Some deed
  pub here : get new slot ≡ Some (with_asked (next_asked life) life)
  pub others : (k : ℕ) → nat_eq slot k ≡ false → get new k ≡ get old k

-- The first in the line of whom anything is to be asked was asked.
pub record TurnsIn (old new : Slab Life) (before after : Rounds) (deed : Deed) : Type 0 where
  pub passed : List ℕ
  pub line : Rounds
  pub passes : Passes (get old) passed before line
  pub slot : ℕ
  pub turn : IsTurn line after slot
  pub asks : Asks old new slot deed

-- What is to be asked next of any socket was asked by this deed.
pub record AsksAny (old new : Slab Life) (deed : Deed) : Type 0 where
  pub slot : ℕ
  pub asks : Asks old new slot deed

-- The next turn was had, in the line or beside it.
pub record NextIn (old new : Slab Life) (before after : Rounds) (was_short is_short : Bool) (deed : Deed) : Type 0 where
  pub passed : List ℕ
  pub line : Rounds
  pub passes : Passes (get old) passed before line
  pub slot : ℕ
  pub turn : HasTurn line after slot was_short is_short
  pub asks : Asks old new slot deed

-- the slot of a deadline has a socket
abbrev pub HasLife : Slab Life → Deadline → Type 0
HasLife lives d = is_some (get lives d.slot) ≡ true

-- A deadline has come, and was taken out.
pub record IsDueIn (old new : Slab Life) (due left : List Deadline) (time : ℕ) (deed : Deed) : Type 0 where
  pub deadline : Deadline
  pub life : Life
  pub stood : Contains due deadline
  pub come : deadline.until ≤ time
  pub was : get old deadline.slot ≡ Some life
  pub by_deed : deed_of ((at_deadline life).asked) deadline.slot ≡ Some deed
  pub here : get new deadline.slot ≡ Some (at_deadline life)
  pub others : (k : ℕ) → nat_eq deadline.slot k ≡ false → get new k ≡ get old k
  pub rest : left ≡ filter (λ d. not (nat_eq d.slot deadline.slot)) due

-- Each of whom something is to be asked stands in the line, unless it is short, and each slot of a deadline has a socket; each stands there once, and has one deadline, at most; and there is room for a deadline of each socket.
pub record IsSound (lives : Slab Life) (line : Rounds) (is_short : Bool) (deadlines : Deadlines) : Type 0 where
  pub listed : is_short ≡ false → IsListed lives line
  pub alive : All (HasLife lives) deadlines.items
  pub once : IsOnce line
  pub few : (slot : ℕ) → due_times deadlines.items slot ≤ 1
  pub room : slab_len lives ≤ deadlines.room
