-- Worked runs, computed: two interleavings that give a conference the same events, a step for each refusal, and steps that acknowledge and that change a conference.
use Rattle.std.specs.Prelude.{◌≡◌, ℕ, zero, suc, false, List, [], ◌∷◌, ◌++◌, Some, None, refl}
use Rattle.std.proofs.Common.{sym, ◌∙◌}
use Rattle.floor_config.specs.Configuration.{Configuration}
use Rattle.floor_config.specs.declared.users.User.{User}
use Rattle.floor_wire.specs.Message.{messages, messages_of_at_most}
use Rattle.floor_wire.specs.Spelled.{spelled, spelled_within}
use Rattle.floor_message.specs.Ask.{ask}
use Rattle.floor_machine.specs.declared.act.Act.{Act}
use Rattle.floor_machine.specs.declared.event.Event.{Event}
use Rattle.floor_machine.specs.declared.event.Event.TheVariants.{Join, Message, Took as Takes, Leave as Leaves, Close, AddUser, AddFloor, SetChair, Say as Says}
use Rattle.floor_machine.specs.declared.machine.Refusal.TheVariants.{Ended, NoUser, Full, NoRequest, BadCount, DoubleUser, NoFloor}
use Rattle.floor_machine.specs.Shown.{info_of}
use Rattle.floor_machine.specs.Same.{same_info}
use Rattle.floor_machine.specs.Checks.{refusal}
use Rattle.floor_machine.specs.Said.{said}
use Rattle.floor_machine.specs.Change.{change, shown, settled}
use Rattle.floor_machine.specs.Outgoing.{outgoing_bytes}
use Rattle.floor_machine.specs.Reply.{reply}
use Rattle.floor_machine.specs.Told.{changed_requests, changed_floors, due}
use Rattle.floor_machine.specs.Next.{next, told}
use Rattle.floor_machine.specs.Journal.{parcels_of}
use Rattle.floor_room.specs.declared.refusal.RoomRefusal.TheVariants.{Refused as ByMachine}
use Rattle.floor_hub.specs.declared.refusal.HubRefusal.TheVariants.{Used, NoConference, NoConnection, BadMessage, ByRoom}
use Rattle.floor_hub.specs.declared.step.Step.{Step}
use Rattle.floor_hub.specs.declared.step.Step.TheVariants.{Open, Attach, Piece, Serve, Took, Leave, Admin, Say}
use Rattle.floor_hub.specs.declared.step.Answer.TheVariants.{Done, Attached, Nothing, Served, Said, Refused}
use Rattle.floor_hub.specs.World.{nothing}
use Rattle.floor_hub.specs.Laws.{GiveAlike}
use Rattle.floor_hub.specs.Runs.{alone, answers, answers_to, events, queues, steps_of}

-- a user without name, URI and port
abbrev plain : ℕ → User
plain id = record { id = id; name = None; uri = None; proxy = false; port = None }

-- users 10, 11 and 12, and floor 1, which has no chair and room for one
abbrev demonstration : ℕ → Configuration
demonstration conference =
    record { conference = conference; limit = 4; connections = 64; users = plain 10 ∷ plain 11 ∷ plain 12 ∷ []; floors = record { id = 1; room = 1; chair = None } ∷ [] }

-- user 10 asks for floor 1, and then user 11
abbrev first_request : List ℕ
first_request = 0x20 ∷ 0x01 ∷ 0x00 ∷ 0x01 ∷ 0x00 ∷ 0x00 ∷ 0x00 ∷ 0x01 ∷ 0x00 ∷ 0x02 ∷ 0x00 ∷ 0x0a ∷ 0x04 ∷ 0x04 ∷ 0x00 ∷ 0x01 ∷ []

abbrev second_request : List ℕ
second_request = 0x20 ∷ 0x01 ∷ 0x00 ∷ 0x01 ∷ 0x00 ∷ 0x00 ∷ 0x00 ∷ 0x01 ∷ 0x00 ∷ 0x01 ∷ 0x00 ∷ 0x0b ∷ 0x04 ∷ 0x04 ∷ 0x00 ∷ 0x01 ∷ []

-- user 10 asks for floor 1 of conference 2
abbrev other_request : List ℕ
other_request = 0x20 ∷ 0x01 ∷ 0x00 ∷ 0x01 ∷ 0x00 ∷ 0x00 ∷ 0x00 ∷ 0x02 ∷ 0x00 ∷ 0x01 ∷ 0x00 ∷ 0x0a ∷ 0x04 ∷ 0x04 ∷ 0x00 ∷ 0x01 ∷ []

-- two users of conference 1 ask for its floor, and the first leaves
abbrev one_conference : List Step
one_conference =
    Open (demonstration 1)
    ∷ Attach 1 10
    ∷ Attach 1 11
    ∷ Piece 1 first_request
    ∷ Serve 1
    ∷ Piece 2 second_request
    ∷ Serve 2
    ∷ Leave 1
    ∷ []

-- the same, with other pieces, and between them what goes on in conference 2
abbrev two_conferences : List Step
two_conferences =
    Open (demonstration 1)
    ∷ Open (demonstration 2)
    ∷ Attach 2 10
    ∷ Attach 1 10
    ∷ Piece 1 other_request
    ∷ Serve 1
    ∷ Attach 1 11
    ∷ Piece 2 (0x20 ∷ 0x01 ∷ 0x00 ∷ 0x01 ∷ 0x00 ∷ [])
    ∷ Serve 2
    ∷ Admin 2 Act.Close
    ∷ Piece 2 (0x00 ∷ 0x00 ∷ 0x01 ∷ 0x00 ∷ 0x02 ∷ 0x00 ∷ 0x0a ∷ 0x04 ∷ 0x04 ∷ 0x00 ∷ 0x01 ∷ [])
    ∷ Serve 2
    ∷ Piece 3 second_request
    ∷ Serve 3
    ∷ Leave 2
    ∷ []

-- the events of conference 1
abbrev one_journal : List Event
one_journal = Join 10 ∷ Join 11 ∷ Message 1 first_request ∷ Message 2 second_request ∷ Leaves 1 ∷ []

pub one_events : events 1 one_conference ≡ one_journal
unfolding ask spelled spelled_within outgoing_bytes info_of same_info refusal change shown settled reply changed_requests changed_floors due told next parcels_of messages messages_of_at_most
one_events = refl

pub two_events : events 1 two_conferences ≡ one_journal
unfolding ask spelled spelled_within outgoing_bytes info_of same_info refusal change shown settled reply changed_requests changed_floors due told next parcels_of messages messages_of_at_most
two_events = refl

-- the headline speaks of these two
pub headline_applies : GiveAlike 1 (demonstration 1) one_conference two_conferences
unfolding ask spelled spelled_within outgoing_bytes info_of same_info refusal change shown settled reply changed_requests changed_floors due told next parcels_of messages messages_of_at_most
headline_applies = record { first = refl; second = refl; events = one_events ∙ sym two_events }

pub other_events : events 2 two_conferences ≡ Join 10 ∷ Message 1 other_request ∷ Close ∷ []
unfolding ask spelled spelled_within outgoing_bytes info_of same_info refusal change shown settled reply changed_requests changed_floors due told next parcels_of messages messages_of_at_most
other_events = refl

pub two_answers : answers nothing two_conferences ≡
    Done ∷ Done ∷ Attached 1 ∷ Attached 2 ∷ Done ∷ Served ∷ Attached 3 ∷ Done ∷ Nothing ∷ Done ∷ Done ∷ Served ∷ Done ∷ Served ∷ Done ∷ []
unfolding ask spelled spelled_within outgoing_bytes info_of same_info refusal change shown settled reply changed_requests changed_floors due told next parcels_of messages messages_of_at_most
two_answers = refl

-- conference 1 alone: its arrivals have the numbers 1 and 2
pub two_alone : alone 1 two_conferences ≡
    Open (demonstration 1)
    ∷ Attach 1 10
    ∷ Attach 1 11
    ∷ Piece 1 (0x20 ∷ 0x01 ∷ 0x00 ∷ 0x01 ∷ 0x00 ∷ [])
    ∷ Serve 1
    ∷ Piece 1 (0x00 ∷ 0x00 ∷ 0x01 ∷ 0x00 ∷ 0x02 ∷ 0x00 ∷ 0x0a ∷ 0x04 ∷ 0x04 ∷ 0x00 ∷ 0x01 ∷ [])
    ∷ Serve 1
    ∷ Piece 2 second_request
    ∷ Serve 2
    ∷ Leave 1
    ∷ []
unfolding ask spelled spelled_within outgoing_bytes info_of same_info refusal change shown settled reply changed_requests changed_floors due told next parcels_of messages messages_of_at_most
two_alone = refl

pub two_answers_to : answers_to 1 nothing two_conferences ≡
    Done ∷ Attached 1 ∷ Attached 2 ∷ Done ∷ Nothing ∷ Done ∷ Served ∷ Done ∷ Served ∷ Done ∷ []
unfolding ask spelled spelled_within outgoing_bytes info_of same_info refusal change shown settled reply changed_requests changed_floors due told next parcels_of messages messages_of_at_most
two_answers_to = refl

-- the steps of its own of that journal
pub one_steps : steps_of (demonstration 1) one_journal ≡
    Open (demonstration 1)
    ∷ Attach 1 10
    ∷ Attach 1 11
    ∷ Piece 1 first_request
    ∷ Serve 1
    ∷ Piece 2 second_request
    ∷ Serve 2
    ∷ Leave 1
    ∷ []
one_steps = refl

-- user 10 is granted the floor; user 11 waits, and then gets it
abbrev to_first : List ℕ
to_first = 0x20 ∷ 0x04 ∷ 0x00 ∷ 0x07 ∷ 0x00 ∷ 0x00 ∷ 0x00 ∷ 0x01 ∷ 0x00 ∷ 0x02 ∷ 0x00 ∷ 0x0a ∷ 0x1e ∷ 0x1c ∷ 0x00 ∷ 0x01 ∷ 0x24 ∷ 0x08 ∷ 0x00 ∷ 0x01 ∷ 0x0a ∷ 0x04 ∷ 0x03 ∷ 0x00 ∷ 0x22 ∷ 0x08 ∷ 0x00 ∷ 0x01 ∷ 0x0a ∷ 0x04 ∷ 0x03 ∷ 0x00 ∷ 0x1c ∷ 0x04 ∷ 0x00 ∷ 0x0a ∷ 0x08 ∷ 0x04 ∷ 0x40 ∷ 0x00 ∷ []

abbrev to_second : List ℕ
to_second = 0x20 ∷ 0x04 ∷ 0x00 ∷ 0x07 ∷ 0x00 ∷ 0x00 ∷ 0x00 ∷ 0x01 ∷ 0x00 ∷ 0x01 ∷ 0x00 ∷ 0x0b ∷ 0x1e ∷ 0x1c ∷ 0x00 ∷ 0x02 ∷ 0x24 ∷ 0x08 ∷ 0x00 ∷ 0x02 ∷ 0x0a ∷ 0x04 ∷ 0x02 ∷ 0x01 ∷ 0x22 ∷ 0x08 ∷ 0x00 ∷ 0x01 ∷ 0x0a ∷ 0x04 ∷ 0x02 ∷ 0x01 ∷ 0x1c ∷ 0x04 ∷ 0x00 ∷ 0x0b ∷ 0x08 ∷ 0x04 ∷ 0x40 ∷ 0x00 ∷ 0x20 ∷ 0x04 ∷ 0x00 ∷ 0x07 ∷ 0x00 ∷ 0x00 ∷ 0x00 ∷ 0x01 ∷ 0x00 ∷ 0x00 ∷ 0x00 ∷ 0x0b ∷ 0x1e ∷ 0x1c ∷ 0x00 ∷ 0x02 ∷ 0x24 ∷ 0x08 ∷ 0x00 ∷ 0x02 ∷ 0x0a ∷ 0x04 ∷ 0x03 ∷ 0x00 ∷ 0x22 ∷ 0x08 ∷ 0x00 ∷ 0x01 ∷ 0x0a ∷ 0x04 ∷ 0x03 ∷ 0x00 ∷ 0x1c ∷ 0x04 ∷ 0x00 ∷ 0x0b ∷ 0x08 ∷ 0x04 ∷ 0x40 ∷ 0x00 ∷ []

pub one_queues : queues one_conference ≡
    record { number = 1; conference = 1; n = 1; bytes = to_first }
    ∷ record { number = 2; conference = 1; n = 2; bytes = to_second }
    ∷ []
unfolding ask spelled spelled_within outgoing_bytes info_of same_info refusal change shown settled reply changed_requests changed_floors due told next parcels_of messages messages_of_at_most
one_queues = refl

pub two_queues : queues two_conferences ≡
    record {
      number = 1;
      conference = 2;
      n = 1;
      bytes = 0x20 ∷ 0x04 ∷ 0x00 ∷ 0x07 ∷ 0x00 ∷ 0x00 ∷ 0x00 ∷ 0x02 ∷ 0x00 ∷ 0x01 ∷ 0x00 ∷ 0x0a ∷ 0x1e ∷ 0x1c ∷ 0x00 ∷ 0x01 ∷ 0x24 ∷ 0x08 ∷ 0x00 ∷ 0x01 ∷ 0x0a ∷ 0x04 ∷ 0x03 ∷ 0x00 ∷ 0x22 ∷ 0x08 ∷ 0x00 ∷ 0x01 ∷ 0x0a ∷ 0x04 ∷ 0x03 ∷ 0x00 ∷ 0x1c ∷ 0x04 ∷ 0x00 ∷ 0x0a ∷ 0x08 ∷ 0x04 ∷ 0x40 ∷ 0x00 ∷ [];
    }
    ∷ record { number = 2; conference = 1; n = 1; bytes = to_first }
    ∷ record { number = 3; conference = 1; n = 2; bytes = to_second }
    ∷ []
unfolding ask spelled spelled_within outgoing_bytes info_of same_info refusal change shown settled reply changed_requests changed_floors due told next parcels_of messages messages_of_at_most
two_queues = refl

-- a refusal of each kind, and steps after it that go on
abbrev refusals : List Step
refusals =
    Attach 9 10
    ∷ Admin 9 Act.Close
    ∷ Piece 1 first_request
    ∷ Open (demonstration 1)
    ∷ Open (demonstration 1)
    ∷ Attach 1 99
    ∷ Attach 1 10
    ∷ Attach 1 11
    ∷ Admin 1 (Act.Revoke 9)
    ∷ Serve 1
    ∷ Serve 0
    ∷ Serve 3
    ∷ Leave 2
    ∷ Piece 2 second_request
    ∷ Serve 2
    ∷ Leave 2
    ∷ Piece 1 first_request
    ∷ Admin 1 Act.Close
    ∷ Serve 1
    ∷ Attach 1 10
    ∷ Admin 1 Act.Close
    ∷ Piece 1 first_request
    ∷ Open (demonstration 1)
    ∷ Leave 1
    ∷ Leave 1
    ∷ []

pub refusals_answers : answers nothing refusals ≡
    Refused NoConference
    ∷ Refused NoConference
    ∷ Refused NoConnection
    ∷ Done
    ∷ Refused Used
    ∷ Refused (ByRoom (ByMachine NoUser))
    ∷ Attached 1
    ∷ Attached 2
    ∷ Refused (ByRoom (ByMachine NoRequest))
    ∷ Nothing
    ∷ Refused NoConnection
    ∷ Refused NoConnection
    ∷ Done
    ∷ Refused NoConnection
    ∷ Refused NoConnection
    ∷ Refused NoConnection
    ∷ Done
    ∷ Done
    ∷ Refused (ByRoom (ByMachine Ended))
    ∷ Refused (ByRoom (ByMachine Ended))
    ∷ Refused (ByRoom (ByMachine Ended))
    ∷ Done
    ∷ Refused Used
    ∷ Done
    ∷ Refused NoConnection
    ∷ []
unfolding ask spelled spelled_within outgoing_bytes info_of same_info refusal change shown settled reply changed_requests changed_floors due told next parcels_of messages messages_of_at_most
refusals_answers = refl

-- a refused step adds no event, nor does a leave after the end
pub refusals_events : events 1 refusals ≡ Join 10 ∷ Join 11 ∷ Leaves 2 ∷ Close ∷ []
unfolding ask spelled spelled_within outgoing_bytes info_of same_info refusal change shown settled reply changed_requests changed_floors due told next parcels_of messages messages_of_at_most
refusals_events = refl

-- user 10 acknowledges the answer to its request, not before it is queued and not twice; a user is added, and joins
abbrev acknowledged : List Step
acknowledged =
    Open (demonstration 1)
    ∷ Attach 1 10
    ∷ Took 1 1
    ∷ Piece 1 first_request
    ∷ Serve 1
    ∷ Took 1 0
    ∷ Took 1 2
    ∷ Took 1 1
    ∷ Took 1 1
    ∷ Took 2 1
    ∷ Admin 1 (Act.AddUser (plain 10))
    ∷ Admin 1 (Act.SetChair 9 None)
    ∷ Admin 1 (Act.AddUser (plain 13))
    ∷ Attach 1 13
    ∷ Admin 1 (Act.AddFloor record { id = 2; room = 1; chair = None })
    ∷ Admin 1 (Act.SetChair 2 (Some 13))
    ∷ []

pub acknowledged_answers : answers nothing acknowledged ≡
    Done
    ∷ Attached 1
    ∷ Refused (ByRoom (ByMachine BadCount))
    ∷ Done
    ∷ Served
    ∷ Refused (ByRoom (ByMachine BadCount))
    ∷ Refused (ByRoom (ByMachine BadCount))
    ∷ Done
    ∷ Refused (ByRoom (ByMachine BadCount))
    ∷ Refused NoConnection
    ∷ Refused (ByRoom (ByMachine DoubleUser))
    ∷ Refused (ByRoom (ByMachine NoFloor))
    ∷ Done
    ∷ Attached 2
    ∷ Done
    ∷ Done
    ∷ []
unfolding ask spelled spelled_within outgoing_bytes info_of same_info refusal change shown settled reply changed_requests changed_floors due told next parcels_of messages messages_of_at_most
acknowledged_answers = refl

-- what is acknowledged, and what the administrator changes, are events
pub acknowledged_events : events 1 acknowledged ≡
    Join 10
    ∷ Message 1 first_request
    ∷ Takes 1 1
    ∷ AddUser (plain 13)
    ∷ Join 13
    ∷ AddFloor record { id = 2; room = 1; chair = None }
    ∷ SetChair 2 (Some 13)
    ∷ []
unfolding ask spelled spelled_within outgoing_bytes info_of same_info refusal change shown settled reply changed_requests changed_floors due told next parcels_of messages messages_of_at_most
acknowledged_events = refl

-- messages are said for users of conference 1, who have no connection: a request, a Hello, and bytes that are no message
abbrev says : List Step
says =
    Say 1 10 first_request
    ∷ Open (demonstration 1)
    ∷ Say 1 99 (0x20 ∷ 0x01 ∷ 0x00 ∷ 0x01 ∷ [])
    ∷ Say 1 10 (0x20 ∷ 0x01 ∷ 0x00 ∷ 0x01 ∷ [])
    ∷ Say 1 10 first_request
    ∷ Say 1 10 (0x20 ∷ 0x0b ∷ 0x00 ∷ 0x00 ∷ 0x00 ∷ 0x00 ∷ 0x00 ∷ 0x01 ∷ 0x00 ∷ 0x03 ∷ 0x00 ∷ 0x0a ∷ [])
    ∷ Attach 1 11
    ∷ Admin 1 Act.Close
    ∷ Say 1 99 first_request
    ∷ []

-- each is answered to who says it, or refused, and makes no arrival
pub says_answers : answers nothing says ≡
    Refused NoConference
    ∷ Done
    ∷ Refused (ByRoom (ByMachine NoUser))
    ∷ Refused BadMessage
    ∷ Said record { place = 1; reply = Some (0x20 ∷ 0x04 ∷ 0x00 ∷ 0x07 ∷ 0x00 ∷ 0x00 ∷ 0x00 ∷ 0x01 ∷ 0x00 ∷ 0x02 ∷ 0x00 ∷ 0x0a ∷ 0x1e ∷ 0x1c ∷ 0x00 ∷ 0x01 ∷ 0x24 ∷ 0x08 ∷ 0x00 ∷ 0x01 ∷ 0x0a ∷ 0x04 ∷ 0x03 ∷ 0x00 ∷ 0x22 ∷ 0x08 ∷ 0x00 ∷ 0x01 ∷ 0x0a ∷ 0x04 ∷ 0x03 ∷ 0x00 ∷ 0x1c ∷ 0x04 ∷ 0x00 ∷ 0x0a ∷ 0x08 ∷ 0x04 ∷ 0x40 ∷ 0x00 ∷ []) }
    ∷ Said record { place = 2; reply = Some (0x20 ∷ 0x0d ∷ 0x00 ∷ 0x01 ∷ 0x00 ∷ 0x00 ∷ 0x00 ∷ 0x01 ∷ 0x00 ∷ 0x03 ∷ 0x00 ∷ 0x0a ∷ 0x0c ∷ 0x03 ∷ 0x03 ∷ 0x00 ∷ []) }
    ∷ Attached 1
    ∷ Done
    ∷ Refused (ByRoom (ByMachine Ended))
    ∷ []
unfolding ask said spelled spelled_within outgoing_bytes info_of same_info refusal change shown settled reply changed_requests changed_floors due told next parcels_of messages messages_of_at_most
says_answers = refl

-- what was taken is an event, also where its answer is an Error
pub says_events : events 1 says ≡
    Says 10 first_request
    ∷ Says 10 (0x20 ∷ 0x0b ∷ 0x00 ∷ 0x00 ∷ 0x00 ∷ 0x00 ∷ 0x00 ∷ 0x01 ∷ 0x00 ∷ 0x03 ∷ 0x00 ∷ 0x0a ∷ [])
    ∷ Join 11
    ∷ Close
    ∷ []
unfolding ask said spelled spelled_within outgoing_bytes info_of same_info refusal change shown settled reply changed_requests changed_floors due told next parcels_of messages messages_of_at_most
says_events = refl

-- so many connections of user 10
abbrev attaches : ℕ → List Step
attaches zero = []
attaches (suc k) = Attach 1 10 ∷ attaches k

-- the 65th live connection is refused, and takes no number: the next one of conference 2 has the number 65
pub full_answers : answers nothing (Open (demonstration 1) ∷ attaches 65 ++ Open (demonstration 2) ∷ Attach 2 11 ∷ []) ≡
    Done
    ∷ Attached 1 ∷ Attached 2 ∷ Attached 3 ∷ Attached 4 ∷ Attached 5 ∷ Attached 6 ∷ Attached 7 ∷ Attached 8 ∷ Attached 9 ∷ Attached 10 ∷ Attached 11 ∷ Attached 12 ∷ Attached 13 ∷ Attached 14 ∷ Attached 15 ∷ Attached 16 ∷ Attached 17 ∷ Attached 18 ∷ Attached 19 ∷ Attached 20 ∷ Attached 21 ∷ Attached 22 ∷ Attached 23 ∷ Attached 24 ∷ Attached 25 ∷ Attached 26 ∷ Attached 27 ∷ Attached 28 ∷ Attached 29 ∷ Attached 30 ∷ Attached 31 ∷ Attached 32 ∷ Attached 33 ∷ Attached 34 ∷ Attached 35 ∷ Attached 36 ∷ Attached 37 ∷ Attached 38 ∷ Attached 39 ∷ Attached 40 ∷ Attached 41 ∷ Attached 42 ∷ Attached 43 ∷ Attached 44 ∷ Attached 45 ∷ Attached 46 ∷ Attached 47 ∷ Attached 48 ∷ Attached 49 ∷ Attached 50 ∷ Attached 51 ∷ Attached 52 ∷ Attached 53 ∷ Attached 54 ∷ Attached 55 ∷ Attached 56 ∷ Attached 57 ∷ Attached 58 ∷ Attached 59 ∷ Attached 60 ∷ Attached 61 ∷ Attached 62 ∷ Attached 63 ∷ Attached 64
    ∷ Refused (ByRoom (ByMachine Full))
    ∷ Done
    ∷ Attached 65
    ∷ []
unfolding ask spelled spelled_within outgoing_bytes info_of same_info refusal change shown settled reply changed_requests changed_floors due told next parcels_of messages messages_of_at_most
full_answers = refl
