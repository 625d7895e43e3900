-- The law of lives, for any list of calls of the server; and what is left where nothing is to be done.
use Rattle.std.specs.Prelude.{◌≡◌, ◌&&◌, ℕ, List, [], false, not, Some}
use Rattle.floor_room.specs.Room.{Room}
use Rattle.floor_hub.specs.declared.connection.Connection.{Connection}
use Rattle.floor_hub.specs.declared.step.Step.{Step}
use Rattle.floor_hub.specs.Connections.{connection_at}
use Rattle.floor_hub.specs.Hub.{room_at}
use Rattle.floor_hub.specs.Runs.{run}
use Rattle.floor_hub.specs.StandsFor.{StandsFor}
use Rattle.floor_hub.specs.World.{nothing}
use Rattle.floor_loop.specs.Laws.{IsNew}
use Rattle.floor_meetings.specs.declared.members.Member.{Member}
use Rattle.floor_meetings.specs.declared.meetings.Meetings.{Meetings}
use Rattle.floor_meetings.specs.Laws.{IsCalledFor}
use Rattle.floor_meetings.specs.Runs.{Call as Part, IsLiving, Lives}
use Rattle.floor_meetings.specs.Runs as meetings
use Rattle.floor_sockets.specs.declared.life.Asked.TheVariants as asked
use Rattle.floor_sockets.specs.declared.life.Life.{Life}
use Rattle.floor_sockets.specs.Sockets.{IsDone, Sockets, life_at}
use Rattle.floor_turn.specs.declared.server.Server.{Server}
use Rattle.floor_turn.specs.Runs.{Call, Calls, Stays, bytes_by}

-- The law. From a member's join on, and behind it whatever else of the same call came of it while no socket took anything: while it is in its slot and its
-- connection is live, the bytes that were lent to its socket and that it took are a front of what its conference's floor machine alone calls for, whatever
-- other conferences and other sockets are asked, leave or close.
abbrev pub TakenIsCalledFor : Type 0
TakenIsCalledFor =
    (before : List Step) (rest : List Part) (calls : List Call) (slot : ℕ) (member : Member) (joined : Meetings) (first last : Server) (through : Calls calls first last) → StandsFor joined.hub.hub (run nothing before) →
    IsLiving slot member joined → IsNew joined.hub member.number → Lives slot member rest joined first.meetings → meetings.bytes_by slot rest ≡ [] → Stays slot member calls first last through →
    (x : Connection) (r : Room) → connection_at last.meetings.hub.hub.connections member.number ≡ Some x → room_at last.meetings.hub.hub x.conference ≡ Some r → r.ledger.is_broken ≡ false →
    IsCalledFor last.meetings.hub x r (bytes_by slot calls)

-- Where nothing is to be done: of a socket that isn't over or held, and of which no answer is awaited, nothing is left to be read that the poll gave word of,
-- no turn is left over, and nothing is lent to it that it takes.
abbrev pub NothingIsLeft : Type 0
NothingIsLeft =
    (s : Sockets) (slot : ℕ) (l : Life) → IsDone s → life_at s slot ≡ Some l → l.asked ≡ asked.Nothing → l.is_over ≡ false → l.is_held ≡ false →
    (l.is_readable ≡ false) × (l.has_more ≡ false) × ((l.has_bytes && not l.is_blocked) ≡ false)
