-- What is told to whoever watches a conference, as JSON.
use Rattle.std.specs.Prelude.{ℕ, List, codes}
use Rattle.json.specs.Json as json
use Rattle.json.specs.Json.{Json}
use Rattle.floor_rpc.specs.Json.{list_json, number_json, option_json, two_members}
use Rattle.floor_rpc.specs.Names.{primitive_json}
use Rattle.floor_rpc.specs.Pictures.{request_shown_json}
use Rattle.floor_rpc.specs.declared.notification.ChairTold.{ChairTold}
use Rattle.floor_rpc.specs.declared.notification.EventTold.{EventTold}
use Rattle.floor_rpc.specs.declared.notification.FloorHolders.{FloorHolders}
use Rattle.floor_rpc.specs.declared.notification.FloorTold.{FloorTold}
use Rattle.floor_rpc.specs.declared.notification.Holder.{Holder}
use Rattle.floor_rpc.specs.declared.notification.MemberOf.{MemberOf}
use Rattle.floor_rpc.specs.declared.notification.MessageOf.{MessageOf}
use Rattle.floor_rpc.specs.declared.notification.RevokedTold.{RevokedTold}
use Rattle.floor_rpc.specs.declared.notification.ServerTold.{ServerTold}
use Rattle.floor_rpc.specs.declared.notification.UserOf.{UserOf}
use Rattle.floor_rpc.specs.declared.notification.UserTold.{UserTold}
use Rattle.floor_rpc.specs.declared.notification.WordTold.{WordTold}
use Rattle.floor_rpc.specs.declared.notification.Happened.{Happened}
use Rattle.floor_rpc.specs.declared.notification.Happened.TheVariants as happened
use Rattle.floor_rpc.specs.declared.notification.Notification.{Notification}
use Rattle.floor_rpc.specs.declared.notification.Notification.TheVariants as told
use Rattle.floor_rpc.specs.declared.notification.What.{What}
use Rattle.floor_rpc.specs.declared.notification.What.TheVariants as what

-- a member and its user
abbrev pub member_of_json : MemberOf → Json
member_of_json m = two_members (codes "member") (number_json m.member) (codes "user") (number_json m.user)

-- a floor request that holds a floor, and its beneficiary
abbrev pub holder_json : Holder → Json
holder_json h = two_members (codes "request") (number_json h.request) (codes "user") (number_json h.user)

-- a floor, and who holds it
abbrev pub floor_holders_json : FloorHolders → Json
floor_holders_json f = two_members (codes "floor") (number_json f.floor) (codes "holders") (list_json holder_json f.holders)

-- the word for what happened, and one thing that it names, or two
abbrev pub event_of : List ℕ → List ℕ → Json → Json
event_of event key j = json.object (json.member (codes "event") (json.string event) (json.member key j json.no_members))

abbrev pub event_of_two : List ℕ → List ℕ → Json → List ℕ → Json → Json
event_of_two event key j other k =
    json.object (
    json.member (codes "event") (json.string event) (
    json.member key j (
    json.member other k json.no_members)))

-- a member and its user, behind the word for what happened
abbrev pub member_of_event : List ℕ → MemberOf → Json
member_of_event event m = event_of_two event (codes "member") (number_json m.member) (codes "user") (number_json m.user)

-- a message that was sent, behind the word for what happened
abbrev pub message_of_event : List ℕ → MessageOf → Json
message_of_event event m =
    json.object (
    json.member (codes "event") (json.string event) (
    json.member (codes "member") (option_json number_json m.member) (
    json.member (codes "user") (number_json m.user) (
    json.member (codes "primitive") (primitive_json m.primitive) (
    json.member (codes "request") (option_json number_json m.request) json.no_members)))))

-- a user that was added, behind the word for what happened
abbrev pub user_told_event : List ℕ → UserTold → Json
user_told_event event u =
    json.object (
    json.member (codes "event") (json.string event) (
    json.member (codes "user") (number_json u.user) (
    json.member (codes "name") (option_json json.string u.name) (
    json.member (codes "uri") (option_json json.string u.uri) (
    json.member (codes "proxy") (json.boolean u.proxy) (
    json.member (codes "port") (option_json number_json u.port) json.no_members))))))

-- a floor that was added, behind the word for what happened
abbrev pub floor_told_event : List ℕ → FloorTold → Json
floor_told_event event f =
    json.object (
    json.member (codes "event") (json.string event) (
    json.member (codes "floor") (number_json f.floor) (
    json.member (codes "room") (number_json f.room) (
    json.member (codes "chair") (option_json number_json f.chair) json.no_members))))

-- a floor's chair, behind the word for what happened
abbrev pub chair_told_event : List ℕ → ChairTold → Json
chair_told_event event c = event_of_two event (codes "floor") (number_json c.floor) (codes "chair") (option_json number_json c.chair)

-- a floor request that was revoked, behind the word for what happened
abbrev pub revoked_told_event : List ℕ → RevokedTold → Json
revoked_told_event event r = event_of event (codes "request") (number_json r.request)

-- a word that was set; without a text it was taken away, behind the word for what happened
abbrev pub word_told_event : List ℕ → WordTold → Json
word_told_event event w = event_of_two event (codes "key") (json.string w.key) (codes "text") (option_json json.string w.text)

-- a user, behind the word for what happened
abbrev pub user_of_event : List ℕ → UserOf → Json
user_of_event event u = event_of event (codes "user") (number_json u.user)

-- a word for what happened, alone
abbrev pub bare_event : List ℕ → Json
bare_event event = json.object (json.member (codes "event") (json.string event) json.no_members)

-- what an event is
abbrev pub what_json : What → Json
what_json what.Closed = bare_event (codes "closed")
what_json (what.Joined w) = member_of_event (codes "joined") w
what_json (what.Left w) = member_of_event (codes "left") w
what_json (what.Message w) = message_of_event (codes "message") w
what_json (what.User w) = user_told_event (codes "user") w
what_json (what.Floor w) = floor_told_event (codes "floor") w
what_json (what.Chair w) = chair_told_event (codes "chair") w
what_json (what.Revoked w) = revoked_told_event (codes "revoked") w

-- what happened beside the events
abbrev pub happened_json : Happened → Json
happened_json happened.Opened = bare_event (codes "opened")
happened_json happened.Forgotten = bare_event (codes "forgotten")
happened_json happened.Broken = bare_event (codes "broken")
happened_json happened.Unkept = bare_event (codes "unkept")
happened_json (happened.Word w) = word_told_event (codes "word") w
happened_json (happened.Away w) = member_of_event (codes "away") w
happened_json (happened.Back w) = member_of_event (codes "back") w
happened_json (happened.Removed w) = user_of_event (codes "removed") w
happened_json (happened.Admitted w) = user_of_event (codes "admitted") w

-- what an event of a conference shows
abbrev pub event_told_json : EventTold → Json
event_told_json e =
    json.object (
    json.member (codes "conference") (number_json e.conference) (
    json.member (codes "place") (number_json e.place) (
    json.member (codes "time") (option_json json.string e.time) (
    json.member (codes "what") (what_json e.what) (
    json.member (codes "requests") (list_json request_shown_json e.requests) (
    json.member (codes "cut") (list_json member_of_json e.cut) (
    json.member (codes "floors") (list_json floor_holders_json e.floors) json.no_members)))))))

-- what happened beside the events of a conference
abbrev pub server_told_json : ServerTold → Json
server_told_json s = two_members (codes "conference") (number_json s.conference) (codes "what") (happened_json s.what)

-- a notification: its method and its parameters
abbrev pub told_json : List ℕ → Json → Json
told_json method params =
    json.object (
    json.member (codes "jsonrpc") (json.string (codes "2.0")) (
    json.member (codes "method") (json.string method) (
    json.member (codes "params") params json.no_members)))

abbrev pub notification_json : Notification → Json
notification_json (told.Event e) = told_json (codes "event") (event_told_json e)
notification_json (told.Server s) = told_json (codes "server") (server_told_json s)
