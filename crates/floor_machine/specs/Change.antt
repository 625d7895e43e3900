-- What an event does to a conference (RFC 8855, sections 10 to 13).
use Rattle.std.specs.Prelude.{◌≡◌, ℕ, ◌+◌, ◌-◌, ◌<◌, ◌≤◌, ◌==◌, ◌&&◌, not, if◌then◌else◌, Bool, true, false, List, [], ◌∷◌, ◌++◌, length, map, find, count_by, Option, Some, None, is_some}
use Rattle.std.specs.List.{list_any}
use Rattle.std.specs.Option.{option_map_or}
use Rattle.floor_wire.specs.Message.{IsMessage}
use Rattle.floor_config.specs.Changed.{chair_fault, floor_fault, user_fault, with_chair, with_floor, with_user}
use Rattle.floor_config.specs.Configuration.{Configuration}
use Rattle.floor_config.specs.Lookup.{is_user}
use Rattle.floor_queue.specs.declared.request.Request.{Request}
use Rattle.floor_queue.specs.declared.requested_floor.FloorStatus.TheVariants.{Accepted as AcceptedFloor}
use Rattle.floor_queue.specs.declared.requested_floor.RequestedFloor.{RequestedFloor}
use Rattle.floor_queue.specs.declared.requested_floor.Word.{Word}
use Rattle.floor_queue.specs.declared.requested_floor.Word.TheVariants.{Accepted as AcceptedWord, Granted as GrantedWord}
use Rattle.floor_queue.specs.Queue.{Queue, after_set_chair, request_at, first_request, with_reason}
use Rattle.floor_message.specs.Ask.{Answer, asks, refused, unanswered, ask}
use Rattle.floor_message.specs.declared.ask.Ask.{Ask}
use Rattle.floor_message.specs.declared.ask.Ask.TheVariants.{FloorRequest, FloorRelease, FloorRequestQuery, UserQuery, FloorQuery, ChairAction, Hello}
use Rattle.floor_message.specs.declared.verdicts.Verdict.{Verdict}
use Rattle.floor_message.specs.declared.verdicts.Verdict.TheVariants.{Accepted, Granted, Denied, Revoked}
use Rattle.floor_message.specs.declared.status.RequestStatus.{RequestStatus}
use Rattle.floor_message.specs.declared.status.RequestStatus.TheVariants as status
use Rattle.floor_machine.specs.declared.member.Member.{Member}
use Rattle.floor_machine.specs.Conference.{Conference, backlog, is_cut, is_live, is_present, joining, user_of, binding, binding_for}
use Rattle.floor_machine.specs.declared.event.Event.{Event}
use Rattle.floor_machine.specs.declared.event.Event.TheVariants.{Join, Message, Took, Leave, Revoke, Close, AddUser, AddFloor, SetChair, Say}
use Rattle.floor_machine.specs.Shown.{Entry, entry_of, ongoing_of, settle_entries}
use Rattle.floor_machine.specs.Checks.{beneficiary_of, refusal}
use Rattle.floor_machine.specs.Said.{said}

-- what an event makes of a conference before it is settled, with the requests that ended still among the others
pub record Change : Type 0 where
  pub config : Configuration
  pub given : ℕ
  pub entries : List Entry
  pub members : List Member
  pub is_open : Bool

-- an event that changes nothing
abbrev pub no_change : Conference → Change
no_change s =
    record { config = s.config; given = s.given; entries = map entry_of s.ongoing; members = s.members; is_open = s.is_open }

-- the ongoing requests, of which some end, each with the status that is said of it
abbrev pub ending : Conference → (Request → Option RequestStatus) → List Entry
ending s ends = map (λ r. record { request = r; ending = ends r }) s.ongoing

-- the one request with this number ends
abbrev pub ends_at : ℕ → (Request → RequestStatus) → Request → Option RequestStatus
ends_at request how r = if r.number == request then Some (how r) else None

-- a request that is given back is Released where it was Granted, else Cancelled (section 13.4)
abbrev pub released : Request → RequestStatus
released r = if r.is_granted then status.Released else status.Cancelled

-- a request that is refused is Revoked where it was Granted, else Denied (section 13.6)
abbrev pub dismissed : Request → RequestStatus
dismissed r = if r.is_granted then status.Revoked else status.Denied

-- a verdict that ends the request
abbrev pub is_final : Verdict → Bool
is_final Accepted = false
is_final Granted = false
is_final Denied = true
is_final Revoked = true

-- the word that a verdict which doesn't end the request leaves on the floor
abbrev pub word_of : Verdict → Word
word_of Granted = GrantedWord
word_of Accepted = AcceptedWord
word_of Denied = AcceptedWord
word_of Revoked = AcceptedWord

-- a floor of a request after the verdicts: where there is one on it, it is Accepted and has that last word
abbrev pub decided : List (ℕ × Verdict) → RequestedFloor → RequestedFloor
decided verdicts f =
    option_map_or (λ v. record { floor = f.floor; status = AcceptedFloor; word = Some (word_of v.1) })
    (find (λ v. v.0 == f.floor) verdicts) f

-- the request with this number after the verdicts on its floors, and any other as it is
abbrev pub decided_at : ℕ → List (ℕ × Verdict) → Request → Request
decided_at request verdicts r = if r.number == request then record r { floors = map (decided verdicts) r.floors } else r

-- the requests after a ChairAction on the one with this number: a reason is that request's from then on, and without one it keeps its own
abbrev pub reasoned_among : ℕ → Option (List ℕ) → List Request → List Request
reasoned_among request None requests = requests
reasoned_among request (Some reason) requests = map (with_reason request reason) requests

-- the conference with its requests so
abbrev pub reasoned : Conference → ℕ → Option (List ℕ) → Conference
reasoned s request reason = record s { ongoing = reasoned_among request reason s.ongoing }

-- the requests that verdicts on the one with this number leave
abbrev pub entries_decided : Conference → ℕ → List (ℕ × Verdict) → List Entry
entries_decided s request verdicts =
    if list_any (λ v. is_final v.1) verdicts
    then ending s (ends_at request dismissed)
    else map (λ r. entry_of (decided_at request verdicts r)) s.ongoing

-- the requests that an accepted message of this user leaves
abbrev pub entries_after : Conference → ℕ → Ask → List Entry
entries_after s user (FloorRequest beneficiary floors priority info) =
    map entry_of s.ongoing
    ++ entry_of (first_request s.config.floors (s.given + 1)
    record { requester = user; beneficiary = beneficiary_of user beneficiary; floors = floors; priority = priority; info = info }) ∷ []
entries_after s user (FloorRelease request) = ending s (ends_at request released)
entries_after s user (FloorRequestQuery request) = map entry_of s.ongoing
entries_after s user (UserQuery beneficiary) = map entry_of s.ongoing
entries_after s user (FloorQuery floors) = map entry_of s.ongoing
entries_after s user (ChairAction request verdicts reason) = entries_decided (reasoned s request reason) request verdicts
entries_after s user Hello = map entry_of s.ongoing

-- how many requests were ever accepted, after an accepted message
abbrev pub given_after : Conference → Ask → ℕ
given_after s (FloorRequest beneficiary floors priority info) = s.given + 1
given_after s _ = s.given

-- n watches these floors, and all others what they did
abbrev pub watching : ℕ → List ℕ → Member → Member
watching n floors m = if m.n == n then record m { watched = floors } else m

-- the members after an accepted message: a FloorQuery replaces the watched floors of the member that sent it (section 13.5)
abbrev pub members_after : Conference → Option ℕ → Ask → List Member
members_after s n (FloorQuery floors) = option_map_or (λ k. map (watching k floors) s.members) n s.members
members_after s n _ = s.members

-- an accepted message of this user, which a member sent, or nobody
abbrev pub asked_change : Conference → Option ℕ → ℕ → Ask → Change
asked_change s n user a =
    record {
      config = s.config;
      given = given_after s a;
      entries = entries_after s user a;
      members = members_after s n a;
      is_open = s.is_open;
    }

-- such a message, as it is read: what is refused or left unanswered changes nothing
abbrev pub message_change : Conference → Option ℕ → ℕ → Answer → Change
message_change s n user unanswered = no_change s
message_change s n user (refused code details) = no_change s
message_change s n user (asks a) = if is_some (refusal s user a) then no_change s else asked_change s n user a

-- k of the messages that were told to n are acknowledged, and all others stay as they were
abbrev pub acknowledging : ℕ → ℕ → Member → Member
acknowledging n k m = if m.n == n then record m { backlog = m.backlog - k } else m

-- n is no longer live, and all others are what they were
abbrev pub leaving : ℕ → Member → Member
leaving n m = if m.n == n then record m { is_live = false } else m

-- a request that ends with the last connection of its beneficiary: it was this user's, and none of the members is any more
abbrev pub ends_without : List Member → ℕ → Request → Option RequestStatus
ends_without members user r = if r.beneficiary == user && not (is_present members user) then Some (released r) else None

-- the requests of a conference, as a queue
abbrev pub queue_of : Conference → Queue
queue_of s = record { floors = s.config.floors; given = s.given; ongoing = s.ongoing }

-- what an event makes of a conference
unfoldable pub change : Conference → Event → Change
change s (Join user) =
    record (no_change s) {
      members = s.members ++ joining (length s.members + 1) user ∷ [];
    }
change s (Message n bytes) = message_change s (Some n) (user_of s n) (ask bytes (binding s n))
change s (Took n k) = record (no_change s) { members = map (acknowledging n k) s.members }
change s (Leave n) =
    let members = map (leaving n) s.members in
    record (no_change s) { members = members; entries = ending s (ends_without members (user_of s n)) }
change s (Revoke request) = record (no_change s) { entries = ending s (ends_at request dismissed) }
change s Close = record (no_change s) { entries = []; is_open = false }
change s (AddUser user) = record (no_change s) { config = with_user s.config user }
change s (AddFloor floor) = record (no_change s) { config = with_floor s.config floor }
change s (SetChair floor chair) =
    record (no_change s) {
      config = with_chair s.config floor chair;
      entries = map entry_of (after_set_chair (queue_of s) floor chair).ongoing;
    }
change s (Say user bytes) = message_change s None user (said bytes (binding_for s user))

-- the requests after an event: settled, with those that ended kept aside among them
unfoldable pub shown : Conference → Event → List Entry
shown s e = settle_entries (change s e).config.floors (change s e).entries

-- the settled conference after an event, without the requests that ended
unfoldable pub settled : Conference → Event → Conference
settled s e =
    record {
      config = (change s e).config;
      given = (change s e).given;
      ongoing = ongoing_of (shown s e);
      members = (change s e).members;
      is_open = (change s e).is_open;
    }

-- the event may happen now: an open conference is joined by its users, 64 live members at most; a live member that isn't cut sends
-- one whole message; a live member acknowledges some of its backlog, or leaves; an ongoing request is revoked; the conference is
-- closed; a user, a floor or a chair is one that the configuration may get; and one whole message is said for a user
abbrev pub IsLawful : Conference → Event → Type 0
IsLawful s (Join user) = (s.is_open ≡ true) × (is_user s.config user ≡ true) × (count_by (λ m. m.is_live) s.members < 64)
IsLawful s (Message n bytes) = (s.is_open ≡ true) × (is_live s n ≡ true) × (is_cut s n ≡ false) × IsMessage bytes
IsLawful s (Took n k) = (s.is_open ≡ true) × (is_live s n ≡ true) × (1 ≤ k) × (k ≤ backlog s n)
IsLawful s (Leave n) = (s.is_open ≡ true) × (is_live s n ≡ true)
IsLawful s (Revoke request) = (s.is_open ≡ true) × (is_some (request_at s.ongoing request) ≡ true)
IsLawful s Close = s.is_open ≡ true
IsLawful s (AddUser user) = (s.is_open ≡ true) × (user_fault s.config user ≡ None)
IsLawful s (AddFloor floor) = (s.is_open ≡ true) × (floor_fault s.config floor ≡ None)
IsLawful s (SetChair floor chair) = (s.is_open ≡ true) × (chair_fault s.config floor chair ≡ None)
IsLawful s (Say user bytes) = (s.is_open ≡ true) × (is_user s.config user ≡ true) × IsMessage bytes
