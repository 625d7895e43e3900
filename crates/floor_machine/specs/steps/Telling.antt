-- What the steps of one event find, one after another, and the parcels that are made of it.
use Rattle.std.specs.Prelude.{◌≡◌, All, ℕ, ◌==◌, ◌&&◌, ◌||◌, not, if◌then◌else◌, Bool, false, List, [], ◌∷◌, ◌++◌, map, filter, find, count_by, fold, max, Option, Some, None, is_none, option_map}
use Rattle.std.specs.List.{list_any, flat_map}
use Rattle.std.specs.Option.{option_map_or}
use Rattle.floor_config.specs.Configuration.{Configuration}
use Rattle.floor_config.specs.declared.floors.Floor.{Floor}
use Rattle.floor_queue.specs.declared.request.Request.{Request}
use Rattle.floor_queue.specs.declared.requested_floor.RequestedFloor.{RequestedFloor}
use Rattle.floor_queue.specs.Queue.{request_at}
use Rattle.floor_wire.specs.Header.{addressed}
use Rattle.floor_message.specs.Written.{tell_bytes}
use Rattle.floor_message.specs.declared.head.Head.{Head}
use Rattle.floor_message.specs.Shown.{IsShownInfo}
use Rattle.floor_message.specs.declared.information.Info.{Info}
use Rattle.floor_message.specs.declared.tell.Tell.{Tell}
use Rattle.floor_message.specs.declared.tell.Tell.TheVariants.{FloorRequestStatus, FloorStatus}
use Rattle.floor_message.specs.Head.{notice_head}
use Rattle.floor_message.specs.Picked.{first}
use Rattle.floor_machine.specs.declared.member.Member.{Member}
use Rattle.floor_machine.specs.Parcel.{Parcel}
use Rattle.floor_machine.specs.declared.course.Ended.{Ended}
use Rattle.floor_machine.specs.declared.information.shown.Shown.{Shown}
use Rattle.floor_machine.specs.declared.replied.Replied.{Replied}
use Rattle.floor_machine.specs.declared.tell.changed.Update.{Update}
use Rattle.floor_machine.specs.declared.tell.notices.FloorNotice.{FloorNotice}
use Rattle.floor_machine.specs.steps.Outcomes.{FloorUpdate}
use Rattle.floor_machine.specs.Shown.{Entry, entry_of, info, info_of, named}
use Rattle.floor_machine.specs.Same.{same_infos}
use Rattle.floor_machine.specs.Outgoing.{Outgoing, notice, outgoing_bytes}
use Rattle.floor_machine.specs.Reply.{infos_on}
use Rattle.floor_machine.specs.Told.{is_changed, is_status_of}
use Rattle.floor_machine.specs.Journal.{parcel}

-- a request that ended, as an entry
abbrev pub entry_of_ended : Ended → Entry
entry_of_ended d = record { request = d.request; ending = Some d.ending }

-- the entry with this number: among the requests that ended, else among the ongoing ones
abbrev pub entry_at : List Ended → List Request → ℕ → Option Entry
entry_at ended ongoing number =
    option_map_or (λ d. Some (entry_of_ended d)) (find (λ d. d.request.number == number) ended)
    (option_map entry_of (request_at ongoing number))

-- a floor of a request that ended, with the status of the request
abbrev pub ended_floor_shown : ℕ → RequestedFloor → ℕ × Option (ℕ × ℕ)
ended_floor_shown status f = (f.floor, Some (status, 0))

-- the queue position with which a floor is shown
abbrev pub position_shown : ℕ × Option (ℕ × ℕ) → ℕ
position_shown shown = option_map_or (λ status. status.1) shown.1 0

-- a request with this status, and its floors as they are shown
abbrev pub info_with : Configuration → Request → ℕ → List (ℕ × Option (ℕ × ℕ)) → Info
info_with config r status shown =
    record {
      request = r.number;
      overall = Some (status, fold max 0 (map position_shown shown));
      reason = r.reason;
      floors = shown;
      beneficiary = Some (named config r.beneficiary);
      requester = if r.requester == r.beneficiary then None else Some (named config r.requester);
      priority = Some r.priority;
      info = r.info;
    }

-- whom an entry concerns, and what is shown of it
abbrev pub shown_of : Configuration → List Request → Entry → Shown
shown_of config ongoing e =
    record {
      number = e.request.number;
      requester = e.request.requester;
      beneficiary = e.request.beneficiary;
      info = info_of config ongoing e;
    }

-- what is shown of the request with this number
abbrev pub shown_at : Configuration → List Request → List Ended → ℕ → Option Shown
shown_at config ongoing ended number = option_map (shown_of config ongoing) (entry_at ended ongoing number)

-- what is shown of all ongoing requests
abbrev pub infos_of : Configuration → List Request → List Info
infos_of config ongoing = map (info config ongoing) ongoing

-- These infos show all ongoing requests, and no more than a conference has.
pub record AreInfos (config : Configuration) (ongoing : List Request) (shown : List Info) : Type 0 where
  pub infos : shown ≡ infos_of config ongoing
  pub fit : All IsShownInfo shown

-- the user is the requester or the beneficiary of the request that is shown
abbrev pub shows_user : ℕ → Info → Bool
shows_user user i =
    option_map_or (λ who. who.user == user) i.requester false || option_map_or (λ who. who.user == user) i.beneficiary false

-- those infos of which the user is requester or beneficiary
abbrev pub infos_with_user : ℕ → List Info → List Info
infos_with_user user shown_infos = filter (shows_user user) shown_infos

-- what is there, as a list
abbrev pub listed : {A : Type 0} → Option A → List A
listed o = option_map_or (λ x. x ∷ []) o []

-- the status that tells of a changed request
abbrev pub update_of : Shown → Update
update_of shown =
    record {
      number = shown.number;
      requester = shown.requester;
      beneficiary = shown.beneficiary;
      tell = FloorRequestStatus shown.info;
    }

-- what a message shows of a request, if it is the status of one
abbrev pub shown_by : Tell → List Info
shown_by (FloorRequestStatus i) = i ∷ []
shown_by _ = []

-- what these statuses show of their requests
abbrev pub infos_told : List Update → List Info
infos_told updates = flat_map (λ u. shown_by u.tell) updates

-- the request is one that the user made, or one for the user
abbrev pub is_of : ℕ → Update → Bool
is_of user update = update.requester == user || update.beneficiary == user

-- these numbers with one more, unless it is among them
abbrev pub noting : ℕ → List ℕ → List ℕ
noting user users = if list_any (λ u. u == user) users then users else users ++ user ∷ []

-- the users of the updates are these, each once
abbrev pub AreOf : List ℕ → List Update → Type 0
AreOf users updates = (k : ℕ) → count_by (λ u. u == k) users ≡ (if list_any (is_of k) updates then 1 else 0)

-- the status of a request, if it is shown otherwise than before
abbrev pub update_if : List Info → Shown → List Update
update_if before shown = if is_changed before shown.info then update_of shown ∷ [] else []

-- the status of the request with this number, if it is shown otherwise than before
abbrev pub update_at : Configuration → List Request → List Ended → List Info → ℕ → List Update
update_at config ongoing ended before number = option_map_or (update_if before) (shown_at config ongoing ended number) []

-- the statuses of those with these numbers that are shown otherwise than before
abbrev pub updates : Configuration → List Request → List Ended → List Info → List ℕ → List Update
updates config ongoing ended before numbers = flat_map (update_at config ongoing ended before) numbers

-- the status of each of these requests tells of it as it is shown
abbrev pub AreTold : Configuration → List Request → List Ended → List Update → Type 0
AreTold config ongoing ended updates =
    (number : ℕ) (u : Update) → find (λ u. u.number == number) updates ≡ Some u → option_map update_of (shown_at config ongoing ended number) ≡ Some u

-- the floor with all requests shown that name it
abbrev pub floor_update : List Info → Floor → FloorUpdate
floor_update now floor = record { floor = floor.id; tell = FloorStatus (Some floor.id) (infos_on floor.id now) }

-- the requests that name the floor are shown otherwise than before
abbrev pub is_floor_changed : List Info → List Info → Floor → Bool
is_floor_changed before now floor = not (same_infos (infos_on floor.id before) (infos_on floor.id now))

-- the floors whose requests are shown otherwise than before
abbrev pub floor_updates : List Info → List Info → List Floor → List FloorUpdate
floor_updates before now floors = map (floor_update now) (filter (is_floor_changed before now) floors)

-- a floor is one of these exactly where the requests that name it are shown otherwise than before
abbrev pub AreChanged : List Info → List Info → List ℕ → Type 0
AreChanged before now changed =
    (floor : ℕ) → list_any (λ f. f == floor) changed ≡ not (same_infos (infos_on floor before) (infos_on floor now))

-- the floor is one of these
abbrev pub is_one_of : List ℕ → Floor → Bool
is_one_of changed f = list_any (λ floor. floor == f.id) changed

-- the statuses of the floors that are among the changed ones
abbrev pub floors_changed : List Info → List ℕ → List Floor → List FloorUpdate
floors_changed now changed floors = map (floor_update now) (filter (is_one_of changed) floors)

-- the first message has the head, and those behind it the same without the transaction
abbrev pub answered : Head → List Tell → List Outgoing
answered head [] = []
answered head (tell ∷ tells) = record { head = head; tell = tell } ∷ answered (record head { transaction = 0 }) tells

-- the reply is to n
abbrev pub is_to : ℕ → Replied → Bool
is_to n reply = option_map_or (λ k. k == n) reply.n false

-- what the reply tells n
abbrev pub answered_to : Option Replied → ℕ → List Outgoing
answered_to reply n = option_map_or (λ r. if is_to n r then answered r.head r.tells else []) reply []

-- what is handed to who says a message for a user: the first message of a reply that is to no member
abbrev pub said_of : Option Replied → Option (List ℕ)
said_of reply = option_map_or (λ r. if is_none r.n then first (map outgoing_bytes (answered r.head r.tells)) else None) reply None

-- the reply to n is already the status of this request
abbrev pub is_answered : Option Replied → ℕ → ℕ → Bool
is_answered reply n number = option_map_or (λ r. is_to n r && list_any (is_status_of number) r.tells) reply false

-- a changed request is told to its requester and its beneficiary, unless the reply to the member is its status already
abbrev pub is_due_to : Option Replied → Member → Update → Bool
is_due_to reply m update =
    (update.requester == m.user || update.beneficiary == m.user) && not (is_answered reply m.n update.number)

-- the member watches the floor
abbrev pub is_watched : Member → FloorUpdate → Bool
is_watched m update = list_any (λ floor. floor == update.floor) m.watched

-- a live member watches the floor
abbrev pub is_watched_by : List Member → FloorUpdate → Bool
is_watched_by members update = list_any (λ m. m.is_live && is_watched m update) members

-- the floor is one of the changed ones, and a live member watches it
abbrev pub is_to_notice : List Member → List ℕ → Floor → Bool
is_to_notice members changed f =
    is_one_of changed f && list_any (λ m. m.is_live && list_any (λ floor. floor == f.id) m.watched) members

-- a status of a changed request, to the member
abbrev pub update_to : ℕ → Member → Update → Outgoing
update_to conference m update = notice conference m.user update.tell

-- a status of a changed floor, to the member
abbrev pub floor_update_to : ℕ → Member → FloorUpdate → Outgoing
floor_update_to conference m update = notice conference m.user update.tell

-- the parcels of a member: the reply to it, the changed requests of its user, and the changed floors that it watches
abbrev pub parcels_to : ℕ → Option Replied → List Update → List FloorUpdate → Member → List Parcel
parcels_to conference reply requests floors m =
    map (parcel m.n) (answered_to reply m.n)
    ++ map (λ u. parcel m.n (update_to conference m u)) (filter (is_due_to reply m) requests)
    ++ map (λ u. parcel m.n (floor_update_to conference m u)) (filter (is_watched m) floors)

-- the parcels of the live members, in their order
abbrev pub parcels_to_all : ℕ → Option Replied → List Update → List FloorUpdate → List Member → List Parcel
parcels_to_all conference reply requests floors members =
    flat_map (λ m. if m.is_live then parcels_to conference reply requests floors m else []) members

-- the status of a changed floor as it is written, under User ID 0
abbrev pub floor_notice : ℕ → FloorUpdate → FloorNotice
floor_notice conference update = record { floor = update.floor; message = tell_bytes (notice_head conference 0) update.tell }

-- it, under the User ID of the member
abbrev pub floor_notice_to : Member → FloorNotice → Parcel
floor_notice_to m notice = record { n = m.n; bytes = addressed notice.message m.user }

-- the member watches the floor
abbrev pub is_noticed : Member → FloorNotice → Bool
is_noticed m notice = list_any (λ floor. floor == notice.floor) m.watched

-- the parcels of a member, where the statuses of the changed floors are written already
abbrev pub noticed_to : ℕ → Option Replied → List Update → List FloorNotice → Member → List Parcel
noticed_to conference reply requests notices m =
    map (parcel m.n) (answered_to reply m.n)
    ++ map (λ u. parcel m.n (update_to conference m u)) (filter (is_due_to reply m) requests)
    ++ map (floor_notice_to m) (filter (is_noticed m) notices)

-- the reply is to the member, a changed request is one of its user, or it watches a changed floor
abbrev pub is_concerned : Option Replied → List Update → List FloorNotice → Member → Bool
is_concerned reply requests notices m =
    option_map_or (is_to m.n) reply false || list_any (is_noticed m) notices || list_any (is_of m.user) requests

-- the parcels of the live members, in their order
abbrev pub noticed_to_all : ℕ → Option Replied → List Update → List FloorNotice → List Member → List Parcel
noticed_to_all conference reply requests notices members =
    flat_map (λ m. if m.is_live then noticed_to conference reply requests notices m else []) members
