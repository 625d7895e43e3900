-- Runs of the service: calls, one after another, each of which did to the clients what its contract says.
use Rattle.std.specs.Prelude.{◌≡◌, ℕ, List, [], ◌∷◌, ◌++◌, false, if◌then◌else◌, length, min, nat_eq, take}
use Rattle.floor_clients.specs.Clients.{came, ended}
use Rattle.floor_desk.specs.Attending.{Attends, beside}
use Rattle.floor_desk.specs.Callers.{caller_at, lent_to}
use Rattle.floor_desk.specs.Clients.{OrCloses}
use Rattle.floor_desk.specs.declared.desk.Desk.{Desk}
use Rattle.floor_service.specs.Calls.{FirstAt, OthersAttend, ServesAfter, Takes}

-- A call that may change a client: bytes of one came, its stream ended, its socket took bytes, or its next line was served; somebody came to a socket or is there
-- no more; or any other.
pub data Call : Type 0 where
  Came : (socket : ℕ) → List ℕ → Call
  Ended : (socket : ℕ) → Call
  Took : (socket : ℕ) → List ℕ → Call
  Serve : (socket : ℕ) → Call
  Seats : (socket : ℕ) → Call
  Other : Call

-- what the contract of the call says of the clients
abbrev pub Does : Call → Desk → Desk → Type 0
Does (Came socket bytes) old new = FirstAt socket (OrCloses (came bytes)) old.callers new.callers
Does (Ended socket) old new = FirstAt socket (λ before after. after ≡ ended before) old.callers new.callers
Does (Took socket bytes) old new =
    (count : ℕ) × (bytes ≡ take (min count (length (lent_to (caller_at old.callers socket)))) (lent_to (caller_at old.callers socket))) × FirstAt socket (Takes count) old.callers new.callers
Does (Serve socket) old new = ServesAfter socket old.is_draining old.callers new.callers
Does (Seats socket) old new = OthersAttend socket old.callers new.callers
Does Other old new = Attends beside old.callers new.callers

-- These calls, the first in front, led from the first value to the last.
abbrev pub Calls : List Call → Desk → Desk → Type 0
Calls [] first last = last ≡ first
Calls (c ∷ cs) first last = (next : Desk) × Does c first next × Calls cs next last

-- the call leaves it who is at this socket
abbrev pub Leaves : ℕ → Call → Type 0
Leaves slot (Came socket bytes) = Unit {0}
Leaves slot (Ended socket) = Unit {0}
Leaves slot (Took socket bytes) = Unit {0}
Leaves slot (Serve socket) = Unit {0}
Leaves slot (Seats socket) = nat_eq socket slot ≡ false
Leaves slot Other = Unit {0}

abbrev pub AllLeave : ℕ → List Call → Type 0
AllLeave slot [] = Unit {0}
AllLeave slot (c ∷ cs) = Leaves slot c × AllLeave slot cs

-- the bytes that came from the socket by a call, and by these
abbrev pub came_of : ℕ → Call → List ℕ
came_of slot (Came socket bytes) = if nat_eq socket slot then bytes else []
came_of slot (Ended socket) = []
came_of slot (Took socket bytes) = []
came_of slot (Serve socket) = []
came_of slot (Seats socket) = []
came_of slot Other = []

abbrev pub came_by : ℕ → List Call → List ℕ
came_by slot [] = []
came_by slot (c ∷ cs) = came_of slot c ++ came_by slot cs

-- the bytes that the socket took by a call, and by these
abbrev pub taken_of : ℕ → Call → List ℕ
taken_of slot (Came socket bytes) = []
taken_of slot (Ended socket) = []
taken_of slot (Took socket bytes) = if nat_eq socket slot then bytes else []
taken_of slot (Serve socket) = []
taken_of slot (Seats socket) = []
taken_of slot Other = []

abbrev pub taken_by : ℕ → List Call → List ℕ
taken_by slot [] = []
taken_by slot (c ∷ cs) = taken_of slot c ++ taken_by slot cs
