-- The law of lives, for any list of calls.
use Rattle.std.specs.Prelude.{◌≡◌, ℕ, List, false, nat_eq, Some, None}
use Rattle.floor_room.specs.Room.{Room}
use Rattle.floor_hub.specs.declared.connection.Connection.{Connection}
use Rattle.floor_hub.specs.declared.step.Step.{Step}
use Rattle.floor_hub.specs.Connections.{connection_at}
use Rattle.floor_hub.specs.Hub.{room_at}
use Rattle.floor_hub.specs.Runs.{alone, configuration, events, run}
use Rattle.floor_hub.specs.StandsFor.{StandsFor}
use Rattle.floor_hub.specs.World.{nothing}
use Rattle.floor_loop.specs.Laws.{IsFront, IsNew}
use Rattle.floor_loop.specs.Loop.{Loop}
use Rattle.floor_meetings.specs.declared.meetings.Meetings.{Meetings}
use Rattle.floor_meetings.specs.declared.members.Member.{Member}
use Rattle.floor_meetings.specs.Meetings.{member_at}
use Rattle.floor_meetings.specs.Members.{IsPaired}
use Rattle.floor_meetings.specs.Runs.{Call, Calls, Does, IsLiving, Join, Lives, bytes_by}

-- Steps from nothing led to where the loop's hub stands; and these bytes are a front of what the floor machine of the room's configuration calls for at
-- the connection, after the events that its conference has alone by these steps.
pub record IsCalledFor (l : Loop) (x : Connection) (r : Room) (bytes : List ℕ) : Type 0 where
  pub steps : List Step
  pub stands : StandsFor l.hub (run nothing steps)
  pub opened : configuration x.conference steps ≡ Some r.ledger.config
  pub parcels : ℕ
  pub front : IsFront r.ledger.config (events x.conference (alone x.conference steps)) x.n bytes parcels

-- The law. From a member's join on, while it lives in its slot: the bytes that were lent to its socket and that it took are a front of what its
-- conference's floor machine alone calls for, whatever other conferences and other slots are asked, leave or close.
abbrev pub TakenIsCalledFor : Type 0
TakenIsCalledFor =
    (before : List Step) (calls : List Call) (slot : ℕ) (member : Member) (first last : Meetings) → StandsFor first.hub.hub (run nothing before) → IsLiving slot member first → IsNew first.hub member.number →
    Lives slot member calls first last → (x : Connection) (r : Room) → connection_at last.hub.hub.connections member.number ≡ Some x → room_at last.hub.hub x.conference ≡ Some r → r.ledger.is_broken ≡ false →
    IsCalledFor last.hub x r (bytes_by slot calls)

-- In any run from nothing, a join leaves the member of each other slot as it was.
abbrev pub OthersStay : Type 0
OthersStay =
    (calls : List Call) (slot conference user : ℕ) (first last next : Meetings) → StandsFor first.hub.hub nothing → ((k : ℕ) → member_at first k ≡ None) → Calls calls first last → IsPaired last.members →
    Does (Join slot conference user) last next → (k : ℕ) → nat_eq slot k ≡ false → member_at next k ≡ member_at last k

-- In any run from nothing, two joins give two numbers, whatever slots they are of: no life is another's.
abbrev pub JoinsAreApart : Type 0
JoinsAreApart =
    (before between : List Call) (slot other conference user conference_2 user_2 : ℕ) (first a b c d : Meetings) (m n : Member) → StandsFor first.hub.hub nothing → ((k : ℕ) → member_at first k ≡ None) →
    Calls before first a → IsPaired a.members → Does (Join slot conference user) a b → Calls between b c → Does (Join other conference_2 user_2) c d → member_at b slot ≡ Some m → member_at d other ≡ Some n →
    nat_eq m.number n.number ≡ false
