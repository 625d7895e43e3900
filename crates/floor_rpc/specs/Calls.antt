-- What the parameters of each method say.
use Rattle.std.specs.Prelude.{ℕ, Option, Some, None, Result, Ok, Err, List, [], ◌∷◌, codes}
use Rattle.json.specs.Json.{Json}
use Rattle.json.specs.Find.{get}
use Rattle.floor_rpc.specs.Methods.{parameters_of}
use Rattle.floor_rpc.specs.Params.{and_then, flag, item_only, list_or_empty, named, needed, needed_list, only, optional, optional_list, or_null, place_of, priority_of, text_of, u16_of, u32_of}
use Rattle.floor_rpc.specs.declared.call.Call.{Call}
use Rattle.floor_rpc.specs.declared.call.Call.TheVariants as call
use Rattle.floor_rpc.specs.declared.call.ChairSetting.{ChairSetting}
use Rattle.floor_rpc.specs.declared.call.Creation.{Creation}
use Rattle.floor_rpc.specs.declared.call.Decision.{Decision}
use Rattle.floor_rpc.specs.declared.call.FloorAddition.{FloorAddition}
use Rattle.floor_rpc.specs.declared.call.JournalFrom.{JournalFrom}
use Rattle.floor_rpc.specs.declared.call.Listing.{Listing}
use Rattle.floor_rpc.specs.declared.call.Listing.TheVariants.{First, Only, After}
use Rattle.floor_rpc.specs.declared.call.NewFloor.{NewFloor}
use Rattle.floor_rpc.specs.declared.call.NewUser.{NewUser}
use Rattle.floor_rpc.specs.declared.call.OfConference.{OfConference}
use Rattle.floor_rpc.specs.declared.call.OfRequest.{OfRequest}
use Rattle.floor_rpc.specs.declared.call.OfUser.{OfUser}
use Rattle.floor_rpc.specs.declared.call.Opening.{Opening}
use Rattle.floor_rpc.specs.declared.call.Opening.TheVariants.{Toml, Parts as OfParts}
use Rattle.floor_rpc.specs.declared.call.Parts.{Parts}
use Rattle.floor_rpc.specs.declared.call.Release.{Release}
use Rattle.floor_rpc.specs.declared.call.Removal.{Removal}
use Rattle.floor_rpc.specs.declared.call.Unwatching.{Unwatching}
use Rattle.floor_rpc.specs.declared.call.UserAddition.{UserAddition}
use Rattle.floor_rpc.specs.declared.call.Watched.{Watched}
use Rattle.floor_rpc.specs.declared.call.Watching.{Watching}
use Rattle.floor_rpc.specs.declared.call.Whom.{Whom}
use Rattle.floor_rpc.specs.declared.call.Whom.TheVariants.{Member, User}
use Rattle.floor_rpc.specs.declared.call.WordSetting.{WordSetting}
use Rattle.floor_rpc.specs.declared.call.WordsOf.{WordsOf}
use Rattle.floor_rpc.specs.declared.fault.RequestFault.{RequestFault}
use Rattle.floor_rpc.specs.declared.method.Method.{Method}
use Rattle.floor_rpc.specs.declared.method.Method.TheVariants as method

-- the conference of most methods
abbrev pub conference_in : Json → Result ℕ RequestFault
conference_in p = needed u32_of (codes "conference") p

-- the name of each parameter of a user and of a floor
abbrev pub user_names : List (List ℕ)
user_names = codes "id" ∷ codes "name" ∷ codes "uri" ∷ codes "proxy" ∷ codes "port" ∷ []

abbrev pub floor_names : List (List ℕ)
floor_names = codes "id" ∷ codes "room" ∷ codes "chair" ∷ codes "title" ∷ []

-- a user that is to be added
abbrev pub new_user : Json → Result NewUser RequestFault
new_user p =
    and_then (optional u16_of (codes "id") p) (λ id.
    and_then (optional text_of (codes "name") p) (λ name.
    and_then (optional text_of (codes "uri") p) (λ uri.
    and_then (flag (codes "proxy") p) (λ proxy.
    and_then (optional u16_of (codes "port") p) (λ port.
    Ok record { id = id; name = name; uri = uri; proxy = proxy; port = port })))))

-- a floor that is to be added
abbrev pub new_floor : Json → Result NewFloor RequestFault
new_floor p =
    and_then (optional u16_of (codes "id") p) (λ id.
    and_then (optional u16_of (codes "room") p) (λ room.
    and_then (optional u16_of (codes "chair") p) (λ chair.
    and_then (optional text_of (codes "title") p) (λ title.
    Ok record { id = id; room = room; chair = chair; title = title }))))

-- a user, and a floor, of a list: an object with no other parameter
abbrev pub listed_user : Json → Result NewUser RequestFault
listed_user j = and_then (item_only (codes "users") user_names j) (λ _. new_user j)

abbrev pub listed_floor : Json → Result NewFloor RequestFault
listed_floor j = and_then (item_only (codes "floors") floor_names j) (λ _. new_floor j)

-- the parts of a conference
abbrev pub parts : Json → Result Parts RequestFault
parts p =
    and_then (optional u32_of (codes "id") p) (λ id.
    and_then (optional text_of (codes "title") p) (λ title.
    and_then (optional u16_of (codes "limit") p) (λ limit.
    and_then (optional u16_of (codes "connections") p) (λ connections.
    and_then (needed_list listed_user (codes "users") p) (λ users.
    and_then (needed_list listed_floor (codes "floors") p) (λ floors.
    Ok record { id = id; title = title; limit = limit; connections = connections; users = users; floors = floors }))))))

-- the text of a configuration, which stands alone
abbrev pub toml : Json → Result Opening RequestFault
toml p =
    and_then (only (codes "toml" ∷ []) p) (λ _.
    and_then (needed text_of (codes "toml") p) (λ text. Ok (Toml text)))

abbrev pub opening_with : Option Json → Json → Result Opening RequestFault
opening_with (Some _) p = toml p
opening_with None p = and_then (parts p) (λ all. Ok (OfParts all))

abbrev pub opening : Json → Result Opening RequestFault
opening p = opening_with (get (codes "toml") p) p

-- one conference, which stands alone, or those behind one, or the first ones
abbrev pub only_one : Json → Result Listing RequestFault
only_one p =
    and_then (only (codes "conference" ∷ []) p) (λ _.
    and_then (conference_in p) (λ c. Ok (Only c)))

abbrev pub listing_after : Option ℕ → Listing
listing_after (Some c) = After c
listing_after None = First

abbrev pub listing_with : Option Json → Json → Result Listing RequestFault
listing_with (Some _) p = only_one p
listing_with None p = and_then (optional u32_of (codes "after") p) (λ after. Ok (listing_after after))

abbrev pub listing : Json → Result Listing RequestFault
listing p = listing_with (get (codes "conference") p) p

abbrev pub of_conference : Json → Result OfConference RequestFault
of_conference p = and_then (conference_in p) (λ c. Ok record { conference = c })

abbrev pub user_addition : Json → Result UserAddition RequestFault
user_addition p = and_then (conference_in p) (λ c. and_then (new_user p) (λ user. Ok record { conference = c; user = user }))

abbrev pub floor_addition : Json → Result FloorAddition RequestFault
floor_addition p = and_then (conference_in p) (λ c. and_then (new_floor p) (λ floor. Ok record { conference = c; floor = floor }))

abbrev pub chair_setting : Json → Result ChairSetting RequestFault
chair_setting p =
    and_then (conference_in p) (λ c.
    and_then (needed u16_of (codes "floor") p) (λ floor.
    and_then (needed (or_null u16_of) (codes "chair") p) (λ chair.
    Ok record { conference = c; floor = floor; chair = chair })))

-- a member, beside which no user stands, or a user
abbrev pub member_in : Json → Result Whom RequestFault
member_in p =
    and_then (only (codes "conference" ∷ codes "member" ∷ []) p) (λ _.
    and_then (needed u32_of (codes "member") p) (λ n. Ok (Member n)))

abbrev pub whom_with : Option Json → Json → Result Whom RequestFault
whom_with (Some _) p = member_in p
whom_with None p = and_then (needed u16_of (codes "user") p) (λ user. Ok (User user))

abbrev pub whom_in : Json → Result Whom RequestFault
whom_in p = whom_with (get (codes "member") p) p

abbrev pub removal : Json → Result Removal RequestFault
removal p = and_then (conference_in p) (λ c. and_then (whom_in p) (λ whom. Ok record { conference = c; whom = whom }))

abbrev pub of_user : Json → Result OfUser RequestFault
of_user p = and_then (conference_in p) (λ c. and_then (needed u16_of (codes "user") p) (λ user. Ok record { conference = c; user = user }))

-- a floor of a list
abbrev pub floor_id : Json → Result ℕ RequestFault
floor_id j = named (codes "floors") (u16_of j)

abbrev pub creation : Json → Result Creation RequestFault
creation p =
    and_then (conference_in p) (λ c.
    and_then (needed u16_of (codes "for") p) (λ beneficiary.
    and_then (needed_list floor_id (codes "floors") p) (λ floors.
    and_then (optional priority_of (codes "priority") p) (λ priority.
    and_then (optional text_of (codes "info") p) (λ info.
    and_then (optional u16_of (codes "by") p) (λ by.
    Ok record { conference = c; beneficiary = beneficiary; floors = floors; priority = priority; info = info; by = by }))))))

abbrev pub release : Json → Result Release RequestFault
release p =
    and_then (conference_in p) (λ c.
    and_then (needed u16_of (codes "request") p) (λ request.
    and_then (optional u16_of (codes "by") p) (λ by.
    Ok record { conference = c; request = request; by = by })))

abbrev pub decision : Json → Result Decision RequestFault
decision p =
    and_then (conference_in p) (λ c.
    and_then (needed u16_of (codes "request") p) (λ request.
    and_then (optional_list floor_id (codes "floors") p) (λ floors.
    and_then (optional text_of (codes "reason") p) (λ reason.
    and_then (optional u16_of (codes "by") p) (λ by.
    Ok record { conference = c; request = request; floors = floors; reason = reason; by = by })))))

abbrev pub of_request : Json → Result OfRequest RequestFault
of_request p = and_then (conference_in p) (λ c. and_then (needed u16_of (codes "request") p) (λ request. Ok record { conference = c; request = request }))

abbrev pub word_setting : Json → Result WordSetting RequestFault
word_setting p =
    and_then (conference_in p) (λ c.
    and_then (needed text_of (codes "key") p) (λ key.
    and_then (needed (or_null text_of) (codes "text") p) (λ text.
    Ok record { conference = c; key = key; text = text })))

abbrev pub words_of : Json → Result WordsOf RequestFault
words_of p = and_then (conference_in p) (λ c. and_then (optional text_of (codes "key") p) (λ key. Ok record { conference = c; key = key }))

-- a conference of the list of what is to be watched, and of what is to be watched no more
abbrev pub watched : Json → Result Watched RequestFault
watched j =
    and_then (item_only (codes "conferences") (codes "conference" ∷ codes "from" ∷ []) j) (λ _.
    and_then (conference_in j) (λ c.
    and_then (optional place_of (codes "from") j) (λ from.
    Ok record { conference = c; from = from })))

abbrev pub unwatched : Json → Result OfConference RequestFault
unwatched j = and_then (item_only (codes "conferences") (codes "conference" ∷ []) j) (λ _. of_conference j)

abbrev pub watching : Json → Result Watching RequestFault
watching p =
    and_then (list_or_empty watched (codes "conferences") p) (λ conferences.
    and_then (flag (codes "all") p) (λ all.
    Ok record { conferences = conferences; all = all }))

abbrev pub unwatching : Json → Result Unwatching RequestFault
unwatching p =
    and_then (list_or_empty unwatched (codes "conferences") p) (λ conferences.
    and_then (flag (codes "all") p) (λ all.
    Ok record { conferences = conferences; all = all }))

abbrev pub journal_from : Json → Result JournalFrom RequestFault
journal_from p =
    and_then (conference_in p) (λ c.
    and_then (optional place_of (codes "from") p) (λ from.
    and_then (optional place_of (codes "count") p) (λ count.
    Ok record { conference = c; from = from; count = count })))

abbrev pub call_by : {A : Type 0} → (A → Call) → Result A RequestFault → Result Call RequestFault
call_by make (Ok p) = Ok (make p)
call_by make (Err fault) = Err fault

-- the call of a method with these parameters, each of which it knows
abbrev pub known_call : Method → Json → Result Call RequestFault
known_call method.ConferenceOpen p = call_by call.ConferenceOpen (opening p)
known_call method.ConferenceList p = call_by call.ConferenceList (listing p)
known_call method.ConferenceGet p = call_by call.ConferenceGet (of_conference p)
known_call method.ConferenceClose p = call_by call.ConferenceClose (of_conference p)
known_call method.ConferenceForget p = call_by call.ConferenceForget (of_conference p)
known_call method.UserAdd p = call_by call.UserAdd (user_addition p)
known_call method.FloorAdd p = call_by call.FloorAdd (floor_addition p)
known_call method.FloorChair p = call_by call.FloorChair (chair_setting p)
known_call method.MemberRemove p = call_by call.MemberRemove (removal p)
known_call method.UserAdmit p = call_by call.UserAdmit (of_user p)
known_call method.RequestCreate p = call_by call.RequestCreate (creation p)
known_call method.RequestRelease p = call_by call.RequestRelease (release p)
known_call method.RequestAccept p = call_by call.RequestAccept (decision p)
known_call method.RequestGrant p = call_by call.RequestGrant (decision p)
known_call method.RequestDeny p = call_by call.RequestDeny (decision p)
known_call method.RequestRevoke p = call_by call.RequestRevoke (of_request p)
known_call method.WordSet p = call_by call.WordSet (word_setting p)
known_call method.WordGet p = call_by call.WordGet (words_of p)
known_call method.Watch p = call_by call.Watch (watching p)
known_call method.Unwatch p = call_by call.Unwatch (unwatching p)
known_call method.Journal p = call_by call.Journal (journal_from p)
known_call method.ServerStatus p = Ok call.ServerStatus
known_call method.ServerDrain p = Ok call.ServerDrain
known_call method.ServerStop p = Ok call.ServerStop
known_call method.Help p = Ok call.Help

-- the call of a method with these parameters: one that the method doesn't know is looked at first
abbrev pub call_of : Method → Json → Result Call RequestFault
call_of m p = and_then (only (parameters_of m) p) (λ _. known_call m p)
