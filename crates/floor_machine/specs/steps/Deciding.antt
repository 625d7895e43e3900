-- What an event comes to once it is checked, what that changes, and what it answers.
use Rattle.std.specs.Prelude.{◌≡◌, ◌≢◌, ◌<◌, ℕ, ◌+◌, Bool, true, false, List, [], ◌∷◌, ◌++◌, length, map, Option, Some, None, IfSome, IsSome, IsSomeAnd, if◌then◌else◌}
use Rattle.std.specs.List.{list_any, list_all}
use Rattle.std.specs.Option.{option_map_or}
use Rattle.floor_config.specs.Changed.{chair_fault, floor_fault, user_fault}
use Rattle.floor_queue.specs.declared.request.New.{New}
use Rattle.floor_queue.specs.declared.request.Request.{Request}
use Rattle.floor_queue.specs.Order.{names}
use Rattle.floor_queue.specs.Queue.{IsAddable, IsReason, first_request, request_at}
use Rattle.floor_message.specs.declared.verdicts.Verdict.{Verdict}
use Rattle.floor_message.specs.Ask.{Answer, ask, asks, refused, unanswered}
use Rattle.floor_message.specs.Binding.{Binding}
use Rattle.floor_message.specs.declared.ask.Ask.{Ask}
use Rattle.floor_message.specs.declared.ask.Ask.TheVariants.{FloorRequest, FloorRelease, FloorRequestQuery, UserQuery, FloorQuery, ChairAction, Hello}
use Rattle.floor_message.specs.declared.code.ErrorCode.{ErrorCode}
use Rattle.floor_message.specs.declared.code.ErrorCode.TheVariants.{ConferenceDoesNotExist, UnauthorizedOperation, UnknownPrimitive, UnsupportedVersion, UserDoesNotExist}
use Rattle.floor_message.specs.Head.{response_head}
use Rattle.floor_machine.specs.declared.decision.Change.{Change as Decided}
use Rattle.floor_machine.specs.declared.decision.Change.TheVariants as to
use Rattle.floor_machine.specs.declared.decision.Reply.TheVariants as say
use Rattle.floor_machine.specs.declared.decision.Decision.{Decision}
use Rattle.floor_machine.specs.declared.decision.EndedBy.TheVariants.{Chair, Participant}
use Rattle.floor_machine.specs.declared.decision.Sender.{Sender}
use Rattle.floor_machine.specs.declared.event.Event.{Event}
use Rattle.floor_machine.specs.declared.event.Event.TheVariants.{Join, Message, Took, Leave, Revoke, Close, AddUser, AddFloor, SetChair, Say}
use Rattle.floor_machine.specs.Conference.{Conference, binding, binding_for, user_of}
use Rattle.floor_machine.specs.Shown.{entry_of}
use Rattle.floor_machine.specs.Checks.{refusal, beneficiary_of, is_allowed}
use Rattle.floor_machine.specs.Said.{said}
use Rattle.floor_machine.specs.Change.{Change, change, no_change, is_final, decided_at, reasoned, watching}
use Rattle.floor_machine.specs.steps.Ending.{change_ending}

-- the request that a FloorRequest of this user asks for
abbrev pub new_of_ask : ℕ → Option ℕ → List ℕ → ℕ → Option (List ℕ) → New
new_of_ask user beneficiary floors priority info =
    record { requester = user; beneficiary = beneficiary_of user beneficiary; floors = floors; priority = priority; info = info }

-- what is refused by this error code comes to its Error
abbrev pub refused_by : ErrorCode → Decision
refused_by code = record { change = to.Nothing; reply = say.Error code [] }

-- what verdicts on a request change: one that ends it ends it, and all others leave their words, each with the reason
abbrev pub verdicts_change : ℕ → List (ℕ × Verdict) → Option (List ℕ) → Decided
verdicts_change request verdicts reason =
    if list_any (λ v. is_final v.1) verdicts then to.End request Chair reason else to.Words request verdicts reason

-- what is changed by an event that nobody is answered
abbrev pub changing : Decided → Decision
changing c = record { change = c; reply = say.Nothing }

-- a FloorQuery makes the member that sent it watch these floors
abbrev pub watch_by : Option ℕ → List ℕ → Decided
watch_by None floors = to.Nothing
watch_by (Some n) floors = to.Watch n floors

-- what is asked for this user, by n or by nobody, comes to this, where no check refuses it
abbrev pub accepted : Option ℕ → ℕ → Ask → Decision
accepted n user (FloorRequest beneficiary floors priority info) =
    record { change = to.Add (new_of_ask user beneficiary floors priority info); reply = say.Added }
accepted n user (FloorRelease request) = record { change = to.End request Participant None; reply = say.Status request }
accepted n user (FloorRequestQuery request) = record { change = to.Nothing; reply = say.Status request }
accepted n user (UserQuery beneficiary) = record { change = to.Nothing; reply = say.User beneficiary }
accepted n user (FloorQuery floors) = record { change = watch_by n floors; reply = say.Floors floors }
accepted n user (ChairAction request verdicts reason) = record { change = verdicts_change request verdicts reason; reply = say.Ack }
accepted n user Hello = record { change = to.Nothing; reply = say.Hello }

-- what is asked for this user comes to this, by the checks of its own
abbrev pub asked : Conference → Option ℕ → ℕ → Ask → Decision
asked s n user a = option_map_or refused_by (refusal s user a) (accepted n user a)

-- what a message comes to that n sends for this user, or nobody, as it is read
abbrev pub decision_of : Conference → Option ℕ → ℕ → Answer → Decision
decision_of s n user unanswered = changing to.Nothing
decision_of s n user (refused code details) = record { change = to.Nothing; reply = say.Error code details }
decision_of s n user (asks a) = asked s n user a

-- the error code answers what the header alone is refused for
abbrev pub is_of_header : ErrorCode → Bool
is_of_header UnsupportedVersion = true
is_of_header ConferenceDoesNotExist = true
is_of_header UserDoesNotExist = true
is_of_header UnauthorizedOperation = true
is_of_header _ = false

-- the answer to a message whose primitive isn't said, by what it is answered as one of a connection
abbrev pub barred : Answer → Answer
barred (refused code details) = if is_of_header code then refused code [] else refused UnknownPrimitive []
barred (asks a) = refused UnknownPrimitive []
barred unanswered = refused UnknownPrimitive []

-- how a message is read: of n as one of its connection, and of nobody as one that is said
abbrev pub heard : Option ℕ → List ℕ → Binding → Answer
heard (Some n) bytes b = ask bytes b
heard None bytes b = said bytes b

-- what this message for a user comes to, which n sends, or nobody
abbrev pub IsDecided : Conference → Option ℕ → ℕ → List ℕ → Decision → Type 0
IsDecided s n user bytes d = d ≡ decision_of s n user (heard n bytes (binding_for s user))

-- who sent this message for a user, n or nobody, and what it comes to
abbrev pub IsSent : Conference → Option ℕ → ℕ → List ℕ → Option Sender → Decision → Type 0
IsSent s n user bytes sender d = (sender ≡ Some record { n = n; user = user; head = response_head bytes }) × IsDecided s n user bytes d

-- nobody sent the event, which changes this
abbrev pub IsUnsent : Option Sender → Decision → Decided → Type 0
IsUnsent sender d c = (sender ≡ None) × (d ≡ changing c)

-- The event comes to this decision, and this is who sent it. Whoever joins or acknowledges is no decision's.
abbrev pub ComesTo : Conference → Event → Option Sender → Decision → Type 0
ComesTo s (Join user) sender d = ⊥
ComesTo s (Message n bytes) sender d = IsSent s (Some n) (user_of s n) bytes sender d
ComesTo s (Took n k) sender d = ⊥
ComesTo s (Leave n) sender d = IsUnsent sender d (to.Leave n)
ComesTo s (Revoke request) sender d = IsUnsent sender d (to.End request Chair None)
ComesTo s Close sender d = IsUnsent sender d to.Close
ComesTo s (AddUser user) sender d = IsUnsent sender d (to.AddUser user)
ComesTo s (AddFloor floor) sender d = IsUnsent sender d (to.AddFloor floor)
ComesTo s (SetChair floor chair) sender d = IsUnsent sender d (to.SetChair floor chair)
ComesTo s (Say user bytes) sender d = IsSent s None user bytes sender d

-- the event is this message of that sender
abbrev pub IsMessageOf : Conference → Event → Sender → List ℕ → Type 0
IsMessageOf s e sender bytes = (d : Decision) → IsDecided s sender.n sender.user bytes d → ComesTo s e (Some sender) d

-- this request is added
abbrev pub change_adding : Conference → New → Change
change_adding s new =
    record (no_change s) {
      given = s.given + 1;
      entries = map entry_of s.ongoing ++ entry_of (first_request s.config.floors (s.given + 1) new) ∷ [];
    }

-- the verdicts leave their words on the floors of a request
abbrev pub change_words : Conference → ℕ → List (ℕ × Verdict) → Change
change_words s request verdicts = record (no_change s) { entries = map (λ r. entry_of (decided_at request verdicts r)) s.ongoing }

-- what is decided changes this
abbrev pub change_by : Conference → Decided → Change
change_by s to.Nothing = no_change s
change_by s (to.Add new) = change_adding s new
change_by s (to.End request by reason) = change_ending (reasoned s request reason) request by
change_by s (to.Words request verdicts reason) = change_words (reasoned s request reason) request verdicts
change_by s (to.Watch n floors) = record (no_change s) { members = map (watching n floors) s.members }
change_by s (to.Leave n) = change s (Leave n)
change_by s to.Close = change s Close
change_by s (to.AddUser user) = change s (AddUser user)
change_by s (to.AddFloor floor) = change s (AddFloor floor)
change_by s (to.SetChair floor chair) = change s (SetChair floor chair)

-- it ends the conference
abbrev pub is_closing : Decided → Bool
is_closing to.Close = true
is_closing _ = false

-- the verdicts may be done: the request is ongoing, names each of their floors, and its state allows each
abbrev pub MayDecide : List Request → ℕ → List (ℕ × Verdict) → Type 0
MayDecide ongoing request verdicts =
    IsSomeAnd (request_at ongoing request)
    (λ r. (list_all (λ v. names r v.0) verdicts ≡ true) × (list_all (λ v. is_allowed r.is_granted v.1) verdicts ≡ true))

-- there is room for one more request: fewer than 256 are ongoing, and the last number isn't given yet
pub record HasRoom (ongoing : List Request) (given : ℕ) : Type 0 where
  pub few : length ongoing < 256
  pub left : given ≢ 65535

-- It may be done: a request that is added may be, and there is room for it, one that ends is ongoing, and verdicts that leave words
-- may be done, and none of them ends the request; a reason is one; and what is added or set the configuration may get.
abbrev pub MayChange : Conference → Decided → Type 0
MayChange s to.Nothing = Unit {0}
MayChange s (to.Add new) = IsAddable s.config.floors new × HasRoom s.ongoing s.given
MayChange s (to.End request by reason) = IsSome (request_at s.ongoing request) × IfSome reason IsReason
MayChange s (to.Words request verdicts reason) =
    MayDecide s.ongoing request verdicts × (list_any (λ v. is_final v.1) verdicts ≡ false) × IfSome reason IsReason
MayChange s (to.Watch n floors) = Unit {0}
MayChange s (to.Leave n) = Unit {0}
MayChange s to.Close = Unit {0}
MayChange s (to.AddUser user) = user_fault s.config user ≡ None
MayChange s (to.AddFloor floor) = floor_fault s.config floor ≡ None
MayChange s (to.SetChair floor chair) = chair_fault s.config floor chair ≡ None

-- what is asked by this user, and no check refuses, may be done
abbrev pub MayServe : Conference → ℕ → Ask → Type 0
MayServe s user (FloorRequest beneficiary floors priority info) =
    IsAddable s.config.floors (new_of_ask user beneficiary floors priority info) × HasRoom s.ongoing s.given
MayServe s user (FloorRelease request) = IsSome (request_at s.ongoing request)
MayServe s user (FloorRequestQuery request) = Unit {0}
MayServe s user (UserQuery beneficiary) = Unit {0}
MayServe s user (FloorQuery floors) = Unit {0}
MayServe s user (ChairAction request verdicts reason) = MayDecide s.ongoing request verdicts × IfSome reason IsReason
MayServe s user Hello = Unit {0}
