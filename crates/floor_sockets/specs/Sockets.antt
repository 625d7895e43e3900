-- The table of sockets.
use Rattle.std.specs.Prelude.{◌≡◌, ◌≤◌, ◌<◌, ◌⊎◌, ◌++◌, ◌+◌, ℕ, Bool, true, false, not, min, List, [], ◌∷◌, if◌then◌else◌, Option, Some, None, All, Contains, count_by, filter, nat_eq, option_map, slice_index_or}
use Rattle.floor_sockets.specs.declared.deadlines.Deadline.{Deadline}
use Rattle.floor_sockets.specs.declared.life.Deed.{Deed}
use Rattle.floor_sockets.specs.declared.life.Life.{Life}
use Rattle.floor_sockets.specs.declared.role.Role.{Role}
use Rattle.floor_sockets.specs.declared.role.Role.TheVariants as role
use Rattle.floor_sockets.specs.Life.{at_deadline, deed_of, is_accepting, is_awaiting, is_shutting, next_asked, opened, renamed}
use Rattle.floor_sockets.specs.Rounds.{IsPut, IsTurn, Rounds, SameQueues, times}

-- what is known of the socket in each slot, if there is one; whose turn it is; by when something is due for whom; how late it is; and whether the line may lack somebody, since memory was refused
pub record Sockets : Type 0 where
  pub lives : List (Option Life)
  pub line : Rounds
  pub deadlines : List Deadline
  pub time : ℕ
  pub is_short : Bool

abbrev pub life_at : Sockets → ℕ → Option Life
life_at s slot = slice_index_or s.lives slot None

-- Nothing has changed.
pub record Left (old new : Sockets) : Type 0 where
  pub lives : (slot : ℕ) → life_at new slot ≡ life_at old slot
  pub line : SameQueues old.line new.line
  pub deadlines : new.deadlines ≡ old.deadlines
  pub time : new.time ≡ old.time
  pub short : new.is_short ≡ old.is_short

-- nothing is to be asked, or there is no socket
abbrev pub IsIdle : Option Life → Type 0
IsIdle life = (l : Life) → life ≡ Some l → is_awaiting l ≡ false

-- A socket of which this is known stands in the line: behind its group where something is to be asked of it and it doesn't wait; else the same wait.
pub record StandsIn (life : Life) (slot : ℕ) (old new : Rounds) : Type 0 where
  pub put : is_awaiting life ≡ true → times old slot ≡ 0 → IsPut old new life.group slot
  pub waits : times old slot ≡ 1 → SameQueues old new
  pub idle : is_awaiting life ≡ false → SameQueues old new

-- Whose turn it is, once this is known of the socket in a slot: it stands in the line, or memory was refused, the same wait, and the line is short from now on. Without a socket the same wait.
pub record IsLined (life : Option Life) (slot : ℕ) (old new : Rounds) (was_short is_short : Bool) : Type 0 where
  pub there : (l : Life) → life ≡ Some l → ((StandsIn l slot old new × (is_short ≡ was_short)) ⊎ (SameQueues old new × (is_short ≡ true)))
  pub none : life ≡ None → (SameQueues old new × (is_short ≡ was_short))

-- What is known of the socket in the slot has changed so, if there is one; nothing is known otherwise of any other, and the deadlines are these.
pub record Changed (f : Life → Life) (slot : ℕ) (deadlines : List Deadline) (old new : Sockets) : Type 0 where
  pub here : life_at new slot ≡ option_map f (life_at old slot)
  pub others : (k : ℕ) → nat_eq slot k ≡ false → life_at new k ≡ life_at old k
  pub line : IsLined (option_map f (life_at old slot)) slot old.line new.line old.is_short new.is_short
  pub due : new.deadlines ≡ deadlines
  pub time : new.time ≡ old.time

-- the deadlines without those of a slot
abbrev pub without : ℕ → List Deadline → List Deadline
without slot deadlines = filter (λ d. not (nat_eq d.slot slot)) deadlines

-- a time so much later: the last there is, where there is none
abbrev pub later : ℕ → ℕ → ℕ
later time micros = min (time + micros) 18446744073709551615

-- where the test says so this is the slot's deadline, and none before it
abbrev pub with_due : Bool → ℕ → ℕ → List Deadline → List Deadline
with_due false slot until deadlines = deadlines
with_due true slot until deadlines = without slot deadlines ++ record { slot = slot; until = until } ∷ []

-- of a socket that isn't to be shut down yet, of one that isn't being shut, and of a listener of which an accept is awaited
abbrev pub goes_on : Option Life → Bool
goes_on None = false
goes_on (Some l) = not l.is_over

abbrev pub is_there : Option Life → Bool
is_there None = false
is_there (Some l) = not (is_shutting l.asked)

abbrev pub accepts : Option Life → Bool
accepts None = false
accepts (Some l) = is_accepting l.asked

-- somebody at a door has five seconds
abbrev pub is_at_door : Role → Bool
is_at_door role.Listener = false
is_at_door role.Member = false
is_at_door role.AtDoor = true
is_at_door role.MemberByDoor = false
is_at_door role.Control = false
is_at_door role.Observer = false
is_at_door role.Console = false
is_at_door role.Probe = false
is_at_door role.Http = false

-- A socket was opened: in a slot that had none.
pub record Opens (role : Role) (group : ℕ) (old new : Sockets) (slot : ℕ) : Type 0 where
  pub free : life_at old slot ≡ None
  pub here : life_at new slot ≡ Some (opened role group)
  pub others : (k : ℕ) → nat_eq slot k ≡ false → life_at new k ≡ life_at old k
  pub line : new.line ≡ old.line
  pub due : new.deadlines ≡ with_due (is_at_door role) slot (later old.time 5000000) old.deadlines
  pub time : new.time ≡ old.time
  pub short : new.is_short ≡ old.is_short

-- The socket is for something else, unless it is to be shut down: who was at a door has no deadline any more.
abbrev pub renamed_due : ℕ → Option Life → List Deadline → List Deadline
renamed_due slot None deadlines = deadlines
renamed_due slot (Some l) deadlines = if l.is_over then deadlines else if is_at_door l.role then without slot deadlines else deadlines

abbrev pub renamed_life : Role → ℕ → Life → Life
renamed_life role group l = if l.is_over then l else renamed role group l

-- The socket is no more, and its slot is free.
pub record Closed (slot : ℕ) (old new : Sockets) : Type 0 where
  pub here : life_at new slot ≡ None
  pub others : (k : ℕ) → nat_eq slot k ≡ false → life_at new k ≡ life_at old k
  pub line : new.line ≡ old.line
  pub due : new.deadlines ≡ without slot old.deadlines
  pub time : new.time ≡ old.time
  pub short : new.is_short ≡ old.is_short

-- Turns went by: each of these slots had one, in this order, and of none was anything to be asked.
abbrev pub Passes : (ℕ → Option Life) → List ℕ → (old new : Rounds) → Type 0
Passes lives [] old new = new ≡ old
Passes lives (slot ∷ slots) old new = (between : Rounds) × IsTurn old between slot × IsIdle (lives slot) × Passes lives slots between new

-- The slot has the turn: the next in the line, or where nobody stands in it and it is short, any.
abbrev pub HasTurn : (old new : Rounds) (slot : ℕ) (was_short is_short : Bool) → Type 0
HasTurn old new slot was_short is_short =
    (IsTurn old new slot × (is_short ≡ was_short)) ⊎ (((k : ℕ) → times old k ≡ 0) × (new ≡ old) × (was_short ≡ true) × (is_short ≡ true))

-- A turn: no deadline has come, and of the first of whom anything is to be asked, in the order of the turns, was asked what is to be asked of it next.
pub record IsTurnOf (old new : Sockets) (deed : Deed) : Type 0 where
  pub early : All (λ d. old.time < d.until) old.deadlines
  pub passed : List ℕ
  pub line : Rounds
  pub passes : Passes (life_at old) passed old.line line
  pub slot : ℕ
  pub turn : HasTurn line new.line slot old.is_short new.is_short
  pub life : Life
  pub was : life_at old slot ≡ Some life
  pub asked : deed_of (next_asked life) slot ≡ Some deed
  pub here : life_at new slot ≡ Some (record life { asked = next_asked life })
  pub others : (k : ℕ) → nat_eq slot k ≡ false → life_at new k ≡ life_at old k
  pub due : new.deadlines ≡ old.deadlines
  pub time : new.time ≡ old.time

-- A deadline has come: the socket is shut, or the listener accepts again.
pub record IsDueOf (old new : Sockets) (deed : Deed) : Type 0 where
  pub deadline : Deadline
  pub life : Life
  pub stood : Contains old.deadlines deadline
  pub come : deadline.until ≤ old.time
  pub was : life_at old deadline.slot ≡ Some life
  pub asked : deed_of ((at_deadline life).asked) deadline.slot ≡ Some deed
  pub changed : Changed at_deadline deadline.slot (without deadline.slot old.deadlines) old new

-- Nothing is to be done: no deadline has come, and of nobody is anything to be asked.
pub record IsDone (s : Sockets) : Type 0 where
  pub early : All (λ d. s.time < d.until) s.deadlines
  pub nobody : (slot : ℕ) (l : Life) → life_at s slot ≡ Some l → is_awaiting l ≡ false

-- All turns went by, and nothing else has changed: nobody waits any more, in the line or beside it.
pub record Rests (old new : Sockets) : Type 0 where
  pub passed : List ℕ
  pub passes : Passes (life_at old) passed old.line new.line
  pub nobody : (slot : ℕ) → times new.line slot ≡ 0
  pub whole : new.is_short ≡ false
  pub lives : (slot : ℕ) → life_at new slot ≡ life_at old slot
  pub due : new.deadlines ≡ old.deadlines
  pub time : new.time ≡ old.time

-- how many deadlines a slot has
abbrev pub due_times : List Deadline → ℕ → ℕ
due_times deadlines slot = count_by (λ d. nat_eq d.slot slot) deadlines

-- Each slot waits for one turn, and has one deadline, at most, whatever is told and asked of it.
pub record IsBounded (s : Sockets) : Type 0 where
  pub turns : (slot : ℕ) → times s.line slot ≤ 1
  pub deadlines : (slot : ℕ) → due_times s.deadlines slot ≤ 1
