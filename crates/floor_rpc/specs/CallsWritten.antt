-- Calls, as JSON: what isn't given is left out.
use Rattle.std.specs.Prelude.{ℕ, Bool, true, Option, [], ◌∷◌, codes}
use Rattle.std.specs.Bool.{then_some}
use Rattle.json.specs.Json as json
use Rattle.json.specs.Json.{Json}
use Rattle.floor_rpc.specs.Ids.{id_json}
use Rattle.floor_rpc.specs.Json.{Fields, given, given_where, list_json, number_json, object_of, one_member, option_json, two_members}
use Rattle.floor_rpc.specs.Methods.{name_of}
use Rattle.floor_rpc.specs.declared.call.Call.{Call}
use Rattle.floor_rpc.specs.declared.call.Call.TheVariants as call
use Rattle.floor_rpc.specs.declared.call.ChairSetting.{ChairSetting}
use Rattle.floor_rpc.specs.declared.call.Creation.{Creation}
use Rattle.floor_rpc.specs.declared.call.Decision.{Decision}
use Rattle.floor_rpc.specs.declared.call.FloorAddition.{FloorAddition}
use Rattle.floor_rpc.specs.declared.call.JournalFrom.{JournalFrom}
use Rattle.floor_rpc.specs.declared.call.NewFloor.{NewFloor}
use Rattle.floor_rpc.specs.declared.call.NewUser.{NewUser}
use Rattle.floor_rpc.specs.declared.call.OfConference.{OfConference}
use Rattle.floor_rpc.specs.declared.call.OfRequest.{OfRequest}
use Rattle.floor_rpc.specs.declared.call.OfUser.{OfUser}
use Rattle.floor_rpc.specs.declared.call.Parts.{Parts}
use Rattle.floor_rpc.specs.declared.call.Release.{Release}
use Rattle.floor_rpc.specs.declared.call.Removal.{Removal}
use Rattle.floor_rpc.specs.declared.call.Unwatching.{Unwatching}
use Rattle.floor_rpc.specs.declared.call.UserAddition.{UserAddition}
use Rattle.floor_rpc.specs.declared.call.Watched.{Watched}
use Rattle.floor_rpc.specs.declared.call.Watching.{Watching}
use Rattle.floor_rpc.specs.declared.call.WordSetting.{WordSetting}
use Rattle.floor_rpc.specs.declared.call.WordsOf.{WordsOf}
use Rattle.floor_rpc.specs.declared.call.Listing.{Listing}
use Rattle.floor_rpc.specs.declared.call.Listing.TheVariants as listing
use Rattle.floor_rpc.specs.declared.call.Opening.{Opening}
use Rattle.floor_rpc.specs.declared.call.Opening.TheVariants as opening
use Rattle.floor_rpc.specs.declared.call.Whom.{Whom}
use Rattle.floor_rpc.specs.declared.call.Whom.TheVariants as whom
use Rattle.floor_rpc.specs.declared.method.Method.{Method}
use Rattle.floor_rpc.specs.declared.method.Method.TheVariants as method
use Rattle.floor_rpc.specs.declared.request.Request.{Request}

-- a mark, where it is set
abbrev pub set : Bool → Option Bool
set mark = then_some mark true

-- a user that is to be added. What isn't given is the server's to choose, or isn't there
abbrev pub new_user_fields : NewUser → Fields
new_user_fields n =
    given_where (codes "id") number_json n.id ∷
    given_where (codes "name") json.string n.name ∷
    given_where (codes "uri") json.string n.uri ∷
    given_where (codes "proxy") json.boolean (set n.proxy) ∷
    given_where (codes "port") number_json n.port ∷ []

abbrev pub new_user_json : NewUser → Json
new_user_json n = object_of (new_user_fields n)

-- a floor that is to be added. What isn't given is the server's to choose, or isn't there
abbrev pub new_floor_fields : NewFloor → Fields
new_floor_fields n =
    given_where (codes "id") number_json n.id ∷
    given_where (codes "room") number_json n.room ∷
    given_where (codes "chair") number_json n.chair ∷
    given_where (codes "title") json.string n.title ∷ []

abbrev pub new_floor_json : NewFloor → Json
new_floor_json n = object_of (new_floor_fields n)

-- the parts of a conference that is to be opened. What isn't given is the server's to choose
abbrev pub parts_fields : Parts → Fields
parts_fields p =
    given_where (codes "id") number_json p.id ∷
    given_where (codes "title") json.string p.title ∷
    given_where (codes "limit") number_json p.limit ∷
    given_where (codes "connections") number_json p.connections ∷
    given (codes "users") (list_json new_user_json p.users) ∷
    given (codes "floors") (list_json new_floor_json p.floors) ∷ []

abbrev pub parts_json : Parts → Json
parts_json p = object_of (parts_fields p)

-- a conference
abbrev pub of_conference_fields : OfConference → Fields
of_conference_fields o =
    given (codes "conference") (number_json o.conference) ∷ []

abbrev pub of_conference_json : OfConference → Json
of_conference_json o = object_of (of_conference_fields o)

-- a floor that is to have this chair, or none
abbrev pub chair_setting_fields : ChairSetting → Fields
chair_setting_fields c =
    given (codes "conference") (number_json c.conference) ∷
    given (codes "floor") (number_json c.floor) ∷
    given (codes "chair") (option_json number_json c.chair) ∷ []

abbrev pub chair_setting_json : ChairSetting → Json
chair_setting_json c = object_of (chair_setting_fields c)

-- a user of a conference
abbrev pub of_user_fields : OfUser → Fields
of_user_fields o =
    given (codes "conference") (number_json o.conference) ∷
    given (codes "user") (number_json o.user) ∷ []

abbrev pub of_user_json : OfUser → Json
of_user_json o = object_of (of_user_fields o)

-- a floor request that is to be made (RFC 8855, section 5.3.1)
abbrev pub creation_fields : Creation → Fields
creation_fields c =
    given (codes "conference") (number_json c.conference) ∷
    given (codes "for") (number_json c.beneficiary) ∷
    given (codes "floors") (list_json number_json c.floors) ∷
    given_where (codes "priority") number_json c.priority ∷
    given_where (codes "info") json.string c.info ∷
    given_where (codes "by") number_json c.by ∷ []

abbrev pub creation_json : Creation → Json
creation_json c = object_of (creation_fields c)

-- a floor request that is to be released (RFC 8855, section 5.3.2)
abbrev pub release_fields : Release → Fields
release_fields r =
    given (codes "conference") (number_json r.conference) ∷
    given (codes "request") (number_json r.request) ∷
    given_where (codes "by") number_json r.by ∷ []

abbrev pub release_json : Release → Json
release_json r = object_of (release_fields r)

-- what a chair decides of a floor request (RFC 8855, section 5.3.9)
abbrev pub decision_fields : Decision → Fields
decision_fields d =
    given (codes "conference") (number_json d.conference) ∷
    given (codes "request") (number_json d.request) ∷
    given_where (codes "floors") (list_json number_json) d.floors ∷
    given_where (codes "reason") json.string d.reason ∷
    given_where (codes "by") number_json d.by ∷ []

abbrev pub decision_json : Decision → Json
decision_json d = object_of (decision_fields d)

-- a floor request of a conference
abbrev pub of_request_fields : OfRequest → Fields
of_request_fields o =
    given (codes "conference") (number_json o.conference) ∷
    given (codes "request") (number_json o.request) ∷ []

abbrev pub of_request_json : OfRequest → Json
of_request_json o = object_of (of_request_fields o)

-- a word that is to be kept beside a conference
abbrev pub word_setting_fields : WordSetting → Fields
word_setting_fields w =
    given (codes "conference") (number_json w.conference) ∷
    given (codes "key") (json.string w.key) ∷
    given (codes "text") (option_json json.string w.text) ∷ []

abbrev pub word_setting_json : WordSetting → Json
word_setting_json w = object_of (word_setting_fields w)

-- the words that are kept beside a conference, or the one of a key
abbrev pub words_of_fields : WordsOf → Fields
words_of_fields w =
    given (codes "conference") (number_json w.conference) ∷
    given_where (codes "key") json.string w.key ∷ []

abbrev pub words_of_json : WordsOf → Json
words_of_json w = object_of (words_of_fields w)

-- a conference that is to be watched
abbrev pub watched_fields : Watched → Fields
watched_fields w =
    given (codes "conference") (number_json w.conference) ∷
    given_where (codes "from") number_json w.from ∷ []

abbrev pub watched_json : Watched → Json
watched_json w = object_of (watched_fields w)

-- what is to be watched
abbrev pub watching_fields : Watching → Fields
watching_fields w =
    given (codes "conferences") (list_json watched_json w.conferences) ∷
    given_where (codes "all") json.boolean (set w.all) ∷ []

abbrev pub watching_json : Watching → Json
watching_json w = object_of (watching_fields w)

-- what is to be watched no more
abbrev pub unwatching_fields : Unwatching → Fields
unwatching_fields u =
    given (codes "conferences") (list_json of_conference_json u.conferences) ∷
    given_where (codes "all") json.boolean (set u.all) ∷ []

abbrev pub unwatching_json : Unwatching → Json
unwatching_json u = object_of (unwatching_fields u)

-- what happened in a conference
abbrev pub journal_from_fields : JournalFrom → Fields
journal_from_fields j =
    given (codes "conference") (number_json j.conference) ∷
    given_where (codes "from") number_json j.from ∷
    given_where (codes "count") number_json j.count ∷ []

abbrev pub journal_from_json : JournalFrom → Json
journal_from_json j = object_of (journal_from_fields j)

-- a user that is to be added to a conference
abbrev pub user_addition_fields : UserAddition → Fields
user_addition_fields u =
    given (codes "conference") (number_json u.conference) ∷
    given_where (codes "id") number_json u.user.id ∷
    given_where (codes "name") json.string u.user.name ∷
    given_where (codes "uri") json.string u.user.uri ∷
    given_where (codes "proxy") json.boolean (set u.user.proxy) ∷
    given_where (codes "port") number_json u.user.port ∷ []

abbrev pub user_addition_json : UserAddition → Json
user_addition_json u = object_of (user_addition_fields u)

-- a floor that is to be added to a conference
abbrev pub floor_addition_fields : FloorAddition → Fields
floor_addition_fields f =
    given (codes "conference") (number_json f.conference) ∷
    given_where (codes "id") number_json f.floor.id ∷
    given_where (codes "room") number_json f.floor.room ∷
    given_where (codes "chair") number_json f.floor.chair ∷
    given_where (codes "title") json.string f.floor.title ∷ []

abbrev pub floor_addition_json : FloorAddition → Json
floor_addition_json f = object_of (floor_addition_fields f)

-- who is to be shown out
abbrev pub removal_json_of : ℕ → Whom → Json
removal_json_of c (whom.Member n) = two_members (codes "conference") (number_json c) (codes "member") (number_json n)
removal_json_of c (whom.User user) = two_members (codes "conference") (number_json c) (codes "user") (number_json user)

abbrev pub removal_json : Removal → Json
removal_json r = removal_json_of r.conference r.whom

-- which conferences are to be told
abbrev pub listing_json : Listing → Json
listing_json listing.First = object_of []
listing_json (listing.Only c) = one_member (codes "conference") (number_json c)
listing_json (listing.After c) = one_member (codes "after") (number_json c)

-- a conference that is to be opened
abbrev pub opening_json : Opening → Json
opening_json (opening.Toml text) = one_member (codes "toml") (json.string text)
opening_json (opening.Parts p) = parts_json p

-- the method that is called
abbrev pub method_of : Call → Method
method_of (call.ConferenceOpen p) = method.ConferenceOpen
method_of (call.ConferenceList p) = method.ConferenceList
method_of (call.ConferenceGet p) = method.ConferenceGet
method_of (call.ConferenceClose p) = method.ConferenceClose
method_of (call.ConferenceForget p) = method.ConferenceForget
method_of (call.UserAdd p) = method.UserAdd
method_of (call.FloorAdd p) = method.FloorAdd
method_of (call.FloorChair p) = method.FloorChair
method_of (call.MemberRemove p) = method.MemberRemove
method_of (call.UserAdmit p) = method.UserAdmit
method_of (call.RequestCreate p) = method.RequestCreate
method_of (call.RequestRelease p) = method.RequestRelease
method_of (call.RequestAccept p) = method.RequestAccept
method_of (call.RequestGrant p) = method.RequestGrant
method_of (call.RequestDeny p) = method.RequestDeny
method_of (call.RequestRevoke p) = method.RequestRevoke
method_of (call.WordSet p) = method.WordSet
method_of (call.WordGet p) = method.WordGet
method_of (call.Watch p) = method.Watch
method_of (call.Unwatch p) = method.Unwatch
method_of (call.Journal p) = method.Journal
method_of call.ServerStatus = method.ServerStatus
method_of call.ServerDrain = method.ServerDrain
method_of call.ServerStop = method.ServerStop
method_of call.Help = method.Help

-- the parameters
abbrev pub params_json : Call → Json
params_json (call.ConferenceOpen p) = opening_json p
params_json (call.ConferenceList p) = listing_json p
params_json (call.ConferenceGet p) = of_conference_json p
params_json (call.ConferenceClose p) = of_conference_json p
params_json (call.ConferenceForget p) = of_conference_json p
params_json (call.UserAdd p) = user_addition_json p
params_json (call.FloorAdd p) = floor_addition_json p
params_json (call.FloorChair p) = chair_setting_json p
params_json (call.MemberRemove p) = removal_json p
params_json (call.UserAdmit p) = of_user_json p
params_json (call.RequestCreate p) = creation_json p
params_json (call.RequestRelease p) = release_json p
params_json (call.RequestAccept p) = decision_json p
params_json (call.RequestGrant p) = decision_json p
params_json (call.RequestDeny p) = decision_json p
params_json (call.RequestRevoke p) = of_request_json p
params_json (call.WordSet p) = word_setting_json p
params_json (call.WordGet p) = words_of_json p
params_json (call.Watch p) = watching_json p
params_json (call.Unwatch p) = unwatching_json p
params_json (call.Journal p) = journal_from_json p
params_json call.ServerStatus = object_of []
params_json call.ServerDrain = object_of []
params_json call.ServerStop = object_of []
params_json call.Help = object_of []

-- a request
abbrev pub request_fields : Request → Fields
request_fields r =
    given (codes "jsonrpc") (json.string (codes "2.0")) ∷
    given_where (codes "id") id_json r.id ∷
    given (codes "method") (json.string (name_of (method_of r.call))) ∷
    given (codes "params") (params_json r.call) ∷ []

abbrev pub request_json : Request → Json
request_json r = object_of (request_fields r)
