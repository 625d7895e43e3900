-- What a message is answered by (RFC 8855, section 13).
use Rattle.std.specs.Prelude.{ℕ, ◌+◌, ◌==◌, List, [], ◌∷◌, map, filter, Option, Some, None, option_map, unwrap_or}
use Rattle.std.specs.List.{list_any}
use Rattle.std.specs.Option.{option_map_or}
use Rattle.floor_config.specs.Configuration.{Configuration}
use Rattle.floor_queue.specs.Queue.{involves}
use Rattle.floor_message.specs.Ask.{Answer, asks, refused, unanswered, ask}
use Rattle.floor_message.specs.Code.{code_number}
use Rattle.floor_message.specs.declared.ask.Ask.{Ask}
use Rattle.floor_message.specs.declared.ask.Ask.TheVariants.{FloorRequest, FloorRelease, FloorRequestQuery, UserQuery, FloorQuery, ChairAction, Hello}
use Rattle.floor_message.specs.declared.head.Head.{Head}
use Rattle.floor_message.specs.declared.information.Info.{Info}
use Rattle.floor_message.specs.declared.tell.Tell.{Tell}
use Rattle.floor_message.specs.declared.tell.Tell.TheVariants.{FloorRequestStatus, UserStatus, FloorStatus, ChairActionAck, HelloAck, Error}
use Rattle.floor_message.specs.Head.{response_head}
use Rattle.floor_message.specs.Picked.{first}
use Rattle.floor_machine.specs.Conference.{Conference, user_of, binding, binding_for}
use Rattle.floor_machine.specs.declared.event.Event.{Event}
use Rattle.floor_machine.specs.declared.event.Event.TheVariants.{Message, Say}
use Rattle.floor_machine.specs.Shown.{Entry, ongoing_of, info, info_of, described}
use Rattle.floor_machine.specs.Checks.{refusal}
use Rattle.floor_machine.specs.Said.{said}
use Rattle.floor_machine.specs.Change.{shown, settled}
use Rattle.floor_machine.specs.Outgoing.{Outgoing, notice, outgoing_bytes}

-- the primitives that the server supports: all that are sent over a reliable transport
abbrev pub supported_primitives : List ℕ
supported_primitives = 1 ∷ 2 ∷ 3 ∷ 4 ∷ 5 ∷ 6 ∷ 7 ∷ 8 ∷ 9 ∷ 10 ∷ 11 ∷ 12 ∷ 13 ∷ []

-- the types of attributes that it supports: all of section 5.2
abbrev pub supported_attributes : List ℕ
supported_attributes = 1 ∷ 2 ∷ 3 ∷ 4 ∷ 5 ∷ 6 ∷ 7 ∷ 8 ∷ 9 ∷ 10 ∷ 11 ∷ 12 ∷ 13 ∷ 14 ∷ 15 ∷ 16 ∷ 17 ∷ 18 ∷ []

-- what is shown of the ongoing requests, ascending
abbrev pub infos : Conference → List Info
infos s = map (info s.config s.ongoing) s.ongoing

-- those infos that name the floor
abbrev pub infos_on : ℕ → List Info → List Info
infos_on floor shown_infos = filter (λ i. list_any (λ f. f.0 == floor) i.floors) shown_infos

-- what is shown of the ongoing requests of which the user is requester or beneficiary, ascending
abbrev pub infos_of_user : ℕ → Conference → List Info
infos_of_user user s = map (info s.config s.ongoing) (filter (λ r. involves r user) s.ongoing)

-- the floor with all ongoing requests that name it (section 13.5.1)
abbrev pub floor_status_tell : Conference → ℕ → Tell
floor_status_tell s floor = FloorStatus (Some floor) (infos_on floor (infos s))

-- a FloorStatus for each floor asked about, or one without attributes where none is (section 13.5)
abbrev pub floor_answers : Conference → List ℕ → List Tell
floor_answers s [] = FloorStatus None [] ∷ []
floor_answers s (floor ∷ floors) = map (floor_status_tell s) (floor ∷ floors)

-- the status of the request with this number, among those that an event leaves
abbrev pub request_answer : Configuration → List Entry → ℕ → List Tell
request_answer config entries request =
    map (λ e. FloorRequestStatus (info_of config (ongoing_of entries) e)) (filter (λ e. e.request.number == request) entries)

-- what an accepted message of this user is answered by
abbrev pub answer_tells : Conference → Event → ℕ → Ask → List Tell
answer_tells s e user (FloorRequest beneficiary floors priority info) = request_answer s.config (shown s e) (s.given + 1)
answer_tells s e user (FloorRelease request) = request_answer s.config (shown s e) request
answer_tells s e user (FloorRequestQuery request) = request_answer s.config (shown s e) request
answer_tells s e user (UserQuery beneficiary) =
    UserStatus (option_map (described s.config) beneficiary) (infos_of_user (unwrap_or beneficiary user) (settled s e)) ∷ []
answer_tells s e user (FloorQuery floors) = floor_answers (settled s e) floors
answer_tells s e user (ChairAction request verdicts reason) = ChairActionAck ∷ []
answer_tells s e user Hello = HelloAck supported_primitives supported_attributes ∷ []

-- what a message is answered by, as it is read: an Error where it is refused
abbrev pub reply_tells : Conference → Event → ℕ → Answer → List Tell
reply_tells s e user unanswered = []
reply_tells s e user (refused code details) = Error (code_number code) details ∷ []
reply_tells s e user (asks a) = option_map_or (λ code. Error (code_number code) [] ∷ []) (refusal s user a) (answer_tells s e user a)

-- the first is the response, and the others are messages that the server starts
abbrev pub headed : Head → List Tell → List Outgoing
headed head [] = []
headed head (tell ∷ tells) = record { head = head; tell = tell } ∷ map (notice head.conference head.user) tells

-- the answer to an event: none, unless it is a message, of a member or said for a user
unfoldable pub reply : Conference → Event → List Outgoing
reply s (Message n bytes) =
    headed (response_head bytes) (reply_tells s (Message n bytes) (user_of s n) (ask bytes (binding s n)))
reply s (Say user bytes) =
    headed (response_head bytes) (reply_tells s (Say user bytes) user (said bytes (binding_for s user)))
reply s _ = []

-- what is handed to who says a message for a user: the answer, which is one message
abbrev pub said_reply : Conference → Event → Option (List ℕ)
said_reply s (Say user bytes) = first (map outgoing_bytes (reply s (Say user bytes)))
said_reply s _ = None
