-- The methods: their names, their parameters, and which of them an observer may call.
use Rattle.std.specs.Prelude.{ℕ, Bool, true, false, List, [], ◌∷◌, codes}
use Rattle.floor_rpc.specs.declared.method.Method.{Method}
use Rattle.floor_rpc.specs.declared.method.Method.TheVariants.{ConferenceOpen, ConferenceList, ConferenceGet, ConferenceClose, ConferenceForget, UserAdd, FloorAdd, FloorChair, MemberRemove, UserAdmit, RequestCreate, RequestRelease, RequestAccept, RequestGrant, RequestDeny, RequestRevoke, WordSet, WordGet, Watch, Unwatch, Journal, ServerStatus, ServerDrain, ServerStop, Help}

-- all of them, in the order of `help`
abbrev pub methods : List Method
methods =
    ConferenceOpen ∷ ConferenceList ∷ ConferenceGet ∷ ConferenceClose ∷ ConferenceForget ∷
    UserAdd ∷ FloorAdd ∷ FloorChair ∷ MemberRemove ∷ UserAdmit ∷
    RequestCreate ∷ RequestRelease ∷ RequestAccept ∷ RequestGrant ∷ RequestDeny ∷
    RequestRevoke ∷ WordSet ∷ WordGet ∷ Watch ∷ Unwatch ∷
    Journal ∷ ServerStatus ∷ ServerDrain ∷ ServerStop ∷ Help ∷ []

-- the name by which a request calls it
abbrev pub name_of : Method → List ℕ
name_of ConferenceOpen = codes "conference.open"
name_of ConferenceList = codes "conference.list"
name_of ConferenceGet = codes "conference.get"
name_of ConferenceClose = codes "conference.close"
name_of ConferenceForget = codes "conference.forget"
name_of UserAdd = codes "user.add"
name_of FloorAdd = codes "floor.add"
name_of FloorChair = codes "floor.chair"
name_of MemberRemove = codes "member.remove"
name_of UserAdmit = codes "user.admit"
name_of RequestCreate = codes "request.create"
name_of RequestRelease = codes "request.release"
name_of RequestAccept = codes "request.accept"
name_of RequestGrant = codes "request.grant"
name_of RequestDeny = codes "request.deny"
name_of RequestRevoke = codes "request.revoke"
name_of WordSet = codes "word.set"
name_of WordGet = codes "word.get"
name_of Watch = codes "watch"
name_of Unwatch = codes "unwatch"
name_of Journal = codes "journal"
name_of ServerStatus = codes "server.status"
name_of ServerDrain = codes "server.drain"
name_of ServerStop = codes "server.stop"
name_of Help = codes "help"

-- the names of its parameters, in order
abbrev pub parameters_of : Method → List (List ℕ)
parameters_of ConferenceOpen = codes "id" ∷ codes "title" ∷ codes "limit" ∷ codes "connections" ∷ codes "users" ∷ codes "floors" ∷ codes "toml" ∷ []
parameters_of ConferenceList = codes "conference" ∷ codes "after" ∷ []
parameters_of ConferenceGet = codes "conference" ∷ []
parameters_of ConferenceClose = codes "conference" ∷ []
parameters_of ConferenceForget = codes "conference" ∷ []
parameters_of UserAdd = codes "conference" ∷ codes "id" ∷ codes "name" ∷ codes "uri" ∷ codes "proxy" ∷ codes "port" ∷ []
parameters_of FloorAdd = codes "conference" ∷ codes "id" ∷ codes "room" ∷ codes "chair" ∷ codes "title" ∷ []
parameters_of FloorChair = codes "conference" ∷ codes "floor" ∷ codes "chair" ∷ []
parameters_of MemberRemove = codes "conference" ∷ codes "member" ∷ codes "user" ∷ []
parameters_of UserAdmit = codes "conference" ∷ codes "user" ∷ []
parameters_of RequestCreate = codes "conference" ∷ codes "for" ∷ codes "floors" ∷ codes "priority" ∷ codes "info" ∷ codes "by" ∷ []
parameters_of RequestRelease = codes "conference" ∷ codes "request" ∷ codes "by" ∷ []
parameters_of RequestAccept = codes "conference" ∷ codes "request" ∷ codes "floors" ∷ codes "reason" ∷ codes "by" ∷ []
parameters_of RequestGrant = codes "conference" ∷ codes "request" ∷ codes "floors" ∷ codes "reason" ∷ codes "by" ∷ []
parameters_of RequestDeny = codes "conference" ∷ codes "request" ∷ codes "floors" ∷ codes "reason" ∷ codes "by" ∷ []
parameters_of RequestRevoke = codes "conference" ∷ codes "request" ∷ []
parameters_of WordSet = codes "conference" ∷ codes "key" ∷ codes "text" ∷ []
parameters_of WordGet = codes "conference" ∷ codes "key" ∷ []
parameters_of Watch = codes "conferences" ∷ codes "all" ∷ []
parameters_of Unwatch = codes "conferences" ∷ codes "all" ∷ []
parameters_of Journal = codes "conference" ∷ codes "from" ∷ codes "count" ∷ []
parameters_of ServerStatus = []
parameters_of ServerDrain = []
parameters_of ServerStop = []
parameters_of Help = []

-- it changes nothing, and so an observer may call it
abbrev pub is_observing : Method → Bool
is_observing ConferenceOpen = false
is_observing ConferenceList = true
is_observing ConferenceGet = true
is_observing ConferenceClose = false
is_observing ConferenceForget = false
is_observing UserAdd = false
is_observing FloorAdd = false
is_observing FloorChair = false
is_observing MemberRemove = false
is_observing UserAdmit = false
is_observing RequestCreate = false
is_observing RequestRelease = false
is_observing RequestAccept = false
is_observing RequestGrant = false
is_observing RequestDeny = false
is_observing RequestRevoke = false
is_observing WordSet = false
is_observing WordGet = false
is_observing Watch = true
is_observing Unwatch = true
is_observing Journal = true
is_observing ServerStatus = true
is_observing ServerDrain = false
is_observing ServerStop = false
is_observing Help = true
