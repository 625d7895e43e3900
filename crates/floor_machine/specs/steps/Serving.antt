-- The steps by which an event is served.
use Rattle.std.specs.Prelude.{◌≡◌, ℕ, ◌==◌, ◌&&◌, Bool, true, false, not, List, [], ◌∷◌, map, filter, option_map, unwrap_or, is_some, nat_lt}
use Rattle.std.specs.List.{flat_map, list_all}
use Rattle.std.specs.Option.{option_map_or}
use Rattle.floor_queue.specs.Queue.{Queue, IsSettled, request_at}
use Rattle.floor_message.specs.Code.{code_number}
use Rattle.floor_message.specs.declared.tell.Tell.{Tell}
use Rattle.floor_message.specs.declared.tell.Tell.TheVariants.{FloorRequestStatus, UserStatus, ChairActionAck, HelloAck, Error}
use Rattle.floor_machine.specs.declared.course.Course.{Course}
use Rattle.floor_machine.specs.declared.course.Ended.{Ended}
use Rattle.floor_machine.specs.declared.decision.Reply.{Reply as Replying}
use Rattle.floor_machine.specs.declared.decision.Reply.TheVariants as say
use Rattle.floor_machine.specs.declared.decision.Sender.{Sender}
use Rattle.floor_machine.specs.declared.replied.Replied.{Replied}
use Rattle.floor_machine.specs.declared.conference.State.{State}
use Rattle.floor_machine.specs.Conference.{Conference}
use Rattle.floor_machine.specs.declared.event.Event.{Event}
use Rattle.floor_machine.specs.declared.event.Event.TheVariants.{Close, Took}
use Rattle.floor_machine.specs.Shown.{Entry, ongoing_of, described}
use Rattle.floor_machine.specs.Change.{Change, no_change, released}
use Rattle.floor_machine.specs.Reply.{infos_of_user, floor_answers, supported_primitives, supported_attributes}
use Rattle.floor_machine.specs.steps.Marks.{AreNoted}
use Rattle.floor_machine.specs.steps.Telling.{AreInfos, entry_of_ended, listed, shown_at}

-- the conference that a state is
abbrev pub conference_of : State → Conference
conference_of s =
    record { config = s.config; given = s.requests.given; ongoing = s.requests.ongoing; members = s.members; is_open = s.is_open }

-- the conference with these requests
abbrev pub with_requests : Conference → Queue → Conference
with_requests s q = record s { given = q.given; ongoing = q.ongoing }

-- A conference between two events: no request is due any more, and what is shown is that of the ongoing requests.
pub record IsAtRest (s : State) : Type 0 where
  pub settled : IsSettled s.requests
  pub shows : AreInfos s.config s.requests.ongoing s.shown.items

-- what a machine keeps: unless it is broken, its conference is at rest
abbrev pub IsMachine : State → Bool → Type 0
IsMachine s is_broken = is_broken ≡ false → IsAtRest s

-- the requests that ended
abbrev pub ended_of : List Entry → List Entry
ended_of entries = filter (λ e. is_some e.ending) entries

-- the numbers of the entries
abbrev pub numbers_in : List Entry → List ℕ
numbers_in entries = map (λ e. e.request.number) entries

-- each number is below all later ones
abbrev pub is_rising : List ℕ → Bool
is_rising [] = true
is_rising (n ∷ numbers) = list_all (nat_lt n) numbers && is_rising numbers

-- t, which isn't settled yet, is s after the change, and the course has noted which requests there were, and which ended
pub record IsMade (s : Conference) (c : Change) (t : Conference) (course : Course) : Type 0 where
  pub config : t.config ≡ c.config
  pub given : t.given ≡ c.given
  pub members : t.members ≡ c.members
  pub is_open : t.is_open ≡ c.is_open
  pub ongoing : t.ongoing ≡ ongoing_of c.entries
  pub ended : map entry_of_ended course.ended.items ≡ ended_of c.entries
  pub numbers : course.numbers.items ≡ numbers_in c.entries
  pub rising : is_rising course.numbers.items ≡ true
  pub old : flat_map (λ n. listed (request_at s.ongoing n)) course.numbers.items ≡ s.ongoing

-- such a change that leaves the configuration as it is, and of which the marks have noted what else it changed
pub record IsChanged (s : Conference) (c : Change) (t : Conference) (course : Course) : Type 0 where
  pub made : IsMade s c t course
  pub config : t.config ≡ s.config
  pub noted : AreNoted s.config.floors s.ongoing t.ongoing course.marks.items

-- the event tells live members what it changed: all do but Close
abbrev pub is_telling : Event → Bool
is_telling Close = false
is_telling _ = true

-- the event acknowledges nothing
abbrev pub is_untaking : Event → Bool
is_untaking (Took n k) = false
is_untaking _ = true

-- the course of an event that has changed nothing yet
abbrev pub IsBegun : Conference → Course → Type 0
IsBegun s course = IsChanged s (no_change s) s course

-- the queue after all requests for this beneficiary ended
abbrev pub after_release_for : Queue → ℕ → Queue
after_release_for q beneficiary = record q { ongoing = filter (λ r. not (r.beneficiary == beneficiary)) q.ongoing }

-- the requests for this beneficiary, as they end where they are given back
abbrev pub released_for : Queue → ℕ → List Ended
released_for q beneficiary =
    map (λ r. record { request = r; ending = released r }) (filter (λ r. r.beneficiary == beneficiary) q.ongoing)

-- the status of the request with this number, which ended or is ongoing
abbrev pub status_tells : Conference → List Ended → ℕ → List Tell
status_tells t ended number =
    option_map_or (λ shown. FloorRequestStatus shown.info ∷ []) (shown_at t.config t.ongoing ended number) []

-- what is decided is answered by, for this user and after the event
abbrev pub tells_by : Conference → List Ended → ℕ → Replying → List Tell
tells_by t ended user say.Nothing = []
tells_by t ended user (say.Status request) = status_tells t ended request
tells_by t ended user say.Added = status_tells t ended t.given
tells_by t ended user (say.User beneficiary) =
    UserStatus (option_map (described t.config) beneficiary) (infos_of_user (unwrap_or beneficiary user) t) ∷ []
tells_by t ended user (say.Floors floors) = floor_answers t floors
tells_by t ended user say.Ack = ChairActionAck ∷ []
tells_by t ended user say.Hello = HelloAck supported_primitives supported_attributes ∷ []
tells_by t ended user (say.Error code details) = Error (code_number code) details ∷ []

-- what this sender is answered
abbrev pub replied_by : Conference → List Ended → Replying → Sender → Replied
replied_by t ended reply sender = record { n = sender.n; head = sender.head; tells = tells_by t ended sender.user reply }
