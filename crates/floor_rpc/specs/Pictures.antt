-- A whole conference, as JSON.
use Rattle.std.specs.Prelude.{codes}
use Rattle.json.specs.Json as json
use Rattle.json.specs.Json.{Json}
use Rattle.floor_rpc.specs.Json.{list_json, number_json, option_json, two_members}
use Rattle.floor_rpc.specs.Names.{phase_json, status_json}
use Rattle.floor_rpc.specs.Words.{words_json}
use Rattle.floor_rpc.specs.declared.picture.FloorShown.{FloorShown}
use Rattle.floor_rpc.specs.declared.picture.FloorStatus.{FloorStatus}
use Rattle.floor_rpc.specs.declared.picture.MemberShown.{MemberShown}
use Rattle.floor_rpc.specs.declared.picture.Picture.{Picture}
use Rattle.floor_rpc.specs.declared.picture.RequestShown.{RequestShown}
use Rattle.floor_rpc.specs.declared.picture.UserShown.{UserShown}

-- a live member
abbrev pub member_shown_json : MemberShown → Json
member_shown_json m =
    json.object (
    json.member (codes "member") (number_json m.member) (
    json.member (codes "behind") (number_json m.behind) (
    json.member (codes "cut") (json.boolean m.cut) (
    json.member (codes "away") (option_json number_json m.away) json.no_members))))

-- a user and its live members
abbrev pub user_shown_json : UserShown → Json
user_shown_json u =
    json.object (
    json.member (codes "user") (number_json u.user) (
    json.member (codes "name") (option_json json.string u.name) (
    json.member (codes "uri") (option_json json.string u.uri) (
    json.member (codes "proxy") (json.boolean u.proxy) (
    json.member (codes "port") (option_json number_json u.port) (
    json.member (codes "removed") (json.boolean u.removed) (
    json.member (codes "members") (list_json member_shown_json u.members) json.no_members)))))))

-- a floor and the floor requests for it
abbrev pub floor_shown_json : FloorShown → Json
floor_shown_json f =
    json.object (
    json.member (codes "floor") (number_json f.floor) (
    json.member (codes "title") (option_json json.string f.title) (
    json.member (codes "room") (number_json f.room) (
    json.member (codes "chair") (option_json number_json f.chair) (
    json.member (codes "holders") (list_json number_json f.holders) (
    json.member (codes "waiting") (list_json number_json f.waiting) (
    json.member (codes "pending") (list_json number_json f.pending) json.no_members)))))))

-- a floor of a floor request, and how that stands with it
abbrev pub floor_status_json : FloorStatus → Json
floor_status_json f = two_members (codes "floor") (number_json f.floor) (codes "status") (status_json f.status)

-- a floor request as it is shown
abbrev pub request_shown_json : RequestShown → Json
request_shown_json r =
    json.object (
    json.member (codes "request") (number_json r.request) (
    json.member (codes "user") (number_json r.user) (
    json.member (codes "by") (option_json number_json r.by) (
    json.member (codes "floors") (list_json floor_status_json r.floors) (
    json.member (codes "status") (status_json r.status) (
    json.member (codes "position") (number_json r.position) (
    json.member (codes "priority") (option_json number_json r.priority) (
    json.member (codes "info") (option_json json.string r.info) (
    json.member (codes "reason") (option_json json.string r.reason) (
    json.member (codes "since") (option_json json.string r.since) (
    json.member (codes "granted") (option_json json.string r.granted) json.no_members)))))))))))

-- a whole conference, as it stands before the event at a place
abbrev pub picture_json : Picture → Json
picture_json p =
    json.object (
    json.member (codes "next") (number_json p.next) (
    json.member (codes "phase") (phase_json p.phase) (
    json.member (codes "members") (number_json p.members) (
    json.member (codes "ongoing") (number_json p.ongoing) (
    json.member (codes "title") (option_json json.string p.title) (
    json.member (codes "limit") (number_json p.limit) (
    json.member (codes "connections") (number_json p.connections) (
    json.member (codes "kept") (json.boolean p.kept) (
    json.member (codes "users") (list_json user_shown_json p.users) (
    json.member (codes "floors") (list_json floor_shown_json p.floors) (
    json.member (codes "requests") (list_json request_shown_json p.requests) (
    json.member (codes "words") (words_json p.words) json.no_members))))))))))))
