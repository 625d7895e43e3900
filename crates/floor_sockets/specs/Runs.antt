-- Runs of the table: calls, one after another, each of which did what its contract says.
use Rattle.std.specs.Prelude.{◌≡◌, ◌⊎◌, ℕ, Bool, true, false, max, List, [], ◌∷◌, Option, Some, None}
use Rattle.floor_sockets.specs.declared.life.Deed.{Deed}
use Rattle.floor_sockets.specs.declared.life.Life.{Life}
use Rattle.floor_sockets.specs.declared.role.Role.{Role}
use Rattle.floor_sockets.specs.Life.{came, held, is_shutting, lent, none_came, one_came, over, put_off, served, taken, unblocked, worded}
use Rattle.floor_sockets.specs.Sockets.{Changed, Closed, IsDone, IsDueOf, IsTurnOf, Left, Opens, Rests, Sockets, accepts, goes_on, is_there, later, life_at, renamed_due, renamed_life, with_due}

-- a call that may change the table, and what `open` and `next` gave; `Refused` is any to which memory was refused
pub data Call : Type 0 where
  Time : (now : ℕ) → Call
  Open : Role → (group slot : ℕ) → Call
  Readable : (slot : ℕ) → Bool → Call
  Writable : (slot : ℕ) → Call
  Lend : (slot : ℕ) → Bool → Call
  Hold : (slot : ℕ) → Bool → Call
  BecomeRole : (slot : ℕ) → Role → (group : ℕ) → Call
  Came : (slot count : ℕ) → Bool → Call
  NothingCame : (slot : ℕ) → Call
  Accepted : (slot : ℕ) → Call
  Unaccepted : (slot : ℕ) → Call
  Served : (slot : ℕ) → Bool → Call
  Took : (slot count lent : ℕ) → Call
  End : (slot : ℕ) → Call
  Fail : (slot : ℕ) → Call
  Shut : (slot : ℕ) → Call
  Next : Option Deed → Call
  Refused : Call

-- The socket in the slot is no more where it was being shut; of any other nothing has changed.
pub record Shuts (slot : ℕ) (old new : Sockets) : Type 0 where
  pub took : (l : Life) → life_at old slot ≡ Some l → is_shutting l.asked ≡ true → Closed slot old new
  pub not_asked : (l : Life) → life_at old slot ≡ Some l → is_shutting l.asked ≡ false → Left old new
  pub none : life_at old slot ≡ None → Left old new

-- what the contract of the call says
abbrev pub Does : Call → Sockets → Sockets → Type 0
Does (Time now) old new = new ≡ record old { time = max old.time now }
Does (Open role group slot) old new = Opens role group old new slot
Does (Readable slot ends) old new = Changed (worded ends) slot old.deadlines old new
Does (Writable slot) old new = Changed unblocked slot old.deadlines old new
Does (Lend slot has_bytes) old new = Changed (lent has_bytes) slot old.deadlines old new
Does (Hold slot is_held) old new = Changed (held is_held) slot old.deadlines old new
Does (BecomeRole slot role group) old new = Changed (renamed_life role group) slot (renamed_due slot (life_at old slot) old.deadlines) old new
Does (Came slot count has_more) old new = Changed (came count has_more) slot old.deadlines old new
Does (NothingCame slot) old new = Changed none_came slot old.deadlines old new
Does (Accepted slot) old new = Changed one_came slot old.deadlines old new
Does (Unaccepted slot) old new = Changed put_off slot (with_due (accepts (life_at old slot)) slot (later old.time 100000) old.deadlines) old new
Does (Served slot has_more) old new = Changed (served has_more) slot old.deadlines old new
Does (Took slot count of_lent) old new = Changed (taken count of_lent) slot old.deadlines old new
Does (End slot) old new = Changed over slot (with_due (goes_on (life_at old slot)) slot (later old.time 10000000) old.deadlines) old new
Does (Fail slot) old new = Changed over slot (with_due (is_there (life_at old slot)) slot old.time old.deadlines) old new
Does (Shut slot) old new = Shuts slot old new
Does (Next (Some deed)) old new = IsDueOf old new deed ⊎ IsTurnOf old new deed
Does (Next None) old new = IsDone old × Rests old new
Does Refused old new = Left old new

-- these calls, the last of them in front, led from the first table to the last
abbrev pub Calls : List Call → Sockets → Sockets → Type 0
Calls [] first last = last ≡ first
Calls (c ∷ earlier) first last = (between : Sockets) × Calls earlier first between × Does c between last
