-- Runs of the server: calls, one after another, each of which did of its meetings what its contract says.
use Rattle.std.specs.Prelude.{◌≡◌, ℕ, List, [], ◌∷◌, ◌++◌}
use Rattle.floor_sockets.specs.Sockets.{life_at}
use Rattle.floor_meetings.specs.declared.meetings.Meetings.{Meetings}
use Rattle.floor_meetings.specs.declared.members.Member.{Member}
use Rattle.floor_meetings.specs.Meetings.{lent_at}
use Rattle.floor_meetings.specs.Runs.{Call as Part, IsLiving}
use Rattle.floor_turn.specs.declared.server.Server.{Server}
use Rattle.floor_connections.specs.Asked.{writes}
use Rattle.floor_turn.specs.Moves.{Leads, Moves, nothing_taken, taken_at, taken_of}

-- a call that may change something: `took`, with the socket and the bytes that this took, or any other
pub data Call : Type 0 where
  Took : (socket : ℕ) → List ℕ → Call
  Other : Call

-- what the contract of the call says
abbrev pub Does : Call → Server → Server → Type 0
Does (Took socket bytes) old new =
    (count : ℕ) × (bytes ≡ taken_of (writes (life_at old.connections.sockets socket)) count (lent_at old.meetings socket)) × Moves (taken_at socket bytes) old.meetings new.meetings
Does Other old new = Moves nothing_taken old.meetings new.meetings

-- These calls, the first in front, led from the first value to the last.
abbrev pub Calls : List Call → Server → Server → Type 0
Calls [] first last = last ≡ first
Calls (c ∷ cs) first last = (next : Server) × Does c first next × Calls cs next last

-- the bytes that the socket took by these
abbrev pub bytes_by : ℕ → List Call → List ℕ
bytes_by slot [] = []
bytes_by slot (Took socket bytes ∷ cs) = taken_at socket bytes slot ++ bytes_by slot cs
bytes_by slot (Other ∷ cs) = bytes_by slot cs

-- behind each of these calls of the meetings the member is in the slot, and its connection is live
abbrev pub StaysBy : ℕ → Member → (parts : List Part) → (first last : Meetings) → Leads parts first last → Type 0
StaysBy slot member [] first last lead = Unit {0}
StaysBy slot member (p ∷ ps) first last lead = IsLiving slot member lead.0 × StaysBy slot member ps lead.0 last lead.2

-- so behind each that a call of the server came to
abbrev pub StaysIn : ℕ → Member → (c : Call) → (first next : Server) → Does c first next → Type 0
StaysIn slot member (Took socket bytes) first next d = StaysBy slot member d.2.calls first.meetings next.meetings d.2.lead
StaysIn slot member Other first next d = StaysBy slot member d.calls first.meetings next.meetings d.lead

abbrev pub Stays : ℕ → Member → (calls : List Call) → (first last : Server) → Calls calls first last → Type 0
Stays slot member [] first last run = Unit {0}
Stays slot member (c ∷ cs) first last run = StaysIn slot member c first run.0 run.1 × Stays slot member cs run.0 last run.2
