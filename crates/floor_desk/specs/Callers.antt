-- Who is at which socket, of the control clients.
use Rattle.std.specs.Prelude.{◌≡◌, ◌⊎◌, ◌||◌, ℕ, Bool, true, false, List, [], Option, Some, None, nat_eq, nat_lt, slice_index_or}
use Rattle.floor_clients.specs.Clients.{Client, full, is_over, new_client}
use Rattle.floor_clients.specs.Outgoing.{lent}
use Rattle.floor_clients.specs.Watched.{next_of}
use Rattle.floor_clients.specs.declared.mode.Mode.{Mode}
use Rattle.floor_desk.specs.declared.caller.Caller.{Caller}
use Rattle.floor_desk.specs.declared.caller.PlaceOf.{PlaceOf}
use Rattle.floor_desk.specs.declared.caller.Task.{Task}
use Rattle.floor_desk.specs.declared.caller.Task.TheVariants as task
use Rattle.floor_desk.specs.declared.callers.Callers.{Callers}

-- who is at the socket in the slot
abbrev pub caller_at : Callers → ℕ → Option Caller
caller_at cs slot = slice_index_or cs.slots.items slot None

-- At each other socket is whoever was, as it was.
abbrev pub OthersStay : ℕ → Callers → Callers → Type 0
OthersStay slot old new = (k : ℕ) → nat_eq slot k ≡ false → caller_at new k ≡ caller_at old k

-- At each socket is whoever was, as it was.
abbrev pub Same : Callers → Callers → Type 0
Same old new = (k : ℕ) → caller_at new k ≡ caller_at old k

-- what is lent to who is at a socket
abbrev pub lent_to : Option Caller → List ℕ
lent_to None = []
lent_to (Some c) = lent c.client.outgoing

-- Whoever is there is the same one still, and its client has gone on so; where nobody is nobody is then.
abbrev pub GoesOnBy : (Client → Client → Type 0) → Option Caller → Option Caller → Type 0
GoesOnBy by None new = new ≡ None
GoesOnBy by (Some old) new = (c : Caller) × (new ≡ Some c) × (c.number ≡ old.number) × (c.task ≡ old.task) × by old.client c.client

-- The same; its task is this one then.
abbrev pub EndsTask : Task → (Client → Client → Type 0) → Option Caller → Option Caller → Type 0
EndsTask next by None new = new ≡ None
EndsTask next by (Some old) new = (c : Caller) × (new ≡ Some c) × (c.number ≡ old.number) × (c.task ≡ next) × by old.client c.client

-- somebody new, of whom nothing came; for whom there is no place is told so
pub record IsNew (mode : Mode) (c : Caller) : Type 0 where
  pub task : c.task ≡ task.Nothing
  pub client : (c.client ≡ new_client mode) ⊎ (c.client ≡ full mode)

-- what the answer to who is at a socket waits for
abbrev pub task_at : Option Caller → Task
task_at None = task.Nothing
task_at (Some c) = c.task

-- the place that it is to be told before it is answered
abbrev pub told_of : Task → Option PlaceOf
told_of (task.Told told answer) = Some told
told_of _ = None

abbrev pub told_at : Option Caller → Option PlaceOf
told_at None = None
told_at (Some c) = told_of c.task

-- it has been told each place of a conference up to this one, so far as it watches it; whoever is to be closed counts as told
abbrev pub is_behind : Option ℕ → ℕ → Bool
is_behind None place = true
is_behind (Some next) place = nat_lt place next

abbrev pub is_told_to : PlaceOf → Option Caller → Bool
is_told_to told None = true
is_told_to told (Some c) = is_over c.client.standing || is_behind (next_of c.client.watched told.conference) told.place
