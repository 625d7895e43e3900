-- What is written of a call is read as that call.
use Rattle.std.proofs.Common.{◌≡◌, ◌<◌, ◌^◌, ◌&&◌, ℕ, Bool, true, false, cond, not, List, [], ◌∷◌, map, refl, sym, ◌∙◌, ap, arith}
use Rattle.std.specs.Prelude.{Option, Some, None, Result, Ok, Err, codes, ⊤, option_map}
use Rattle.std.specs.List.{find, list_any}
use Rattle.std.specs.Str.{bytes_eq}
use Rattle.std.proofs.lemmas.Bool.{false≢true, le-leb}
use Rattle.floor_words.specs.Laws.{NumbersAreReadBack}
use Rattle.json.specs.Json as json
use Rattle.json.specs.Json.{Json, Members}
use Rattle.json.specs.Find.{get, get_member, later_or}
use Rattle.json.specs.Strict.{keys}
use Rattle.json.specs.Value.{items_of}
use Rattle.floor_rpc.specs.Calls.{call_by, call_of, chair_setting, conference_in, creation, decision, floor_addition, floor_id, floor_names, journal_from, known_call, listed_floor, listed_user, new_floor, new_user, of_conference, of_request, of_user, parts, release, removal, unwatched, unwatching, user_addition, user_names, watched, watching, whom_in, words_of, word_setting}
use Rattle.floor_rpc.specs.CallsWritten.{chair_setting_fields, chair_setting_json, creation_fields, creation_json, decision_fields, decision_json, floor_addition_fields, floor_addition_json, journal_from_fields, journal_from_json, new_floor_fields, new_floor_json, new_user_fields, new_user_json, of_conference_fields, of_conference_json, of_request_fields, of_request_json, of_user_fields, of_user_json, parts_fields, parts_json, release_fields, release_json, unwatching_fields, unwatching_json, user_addition_fields, user_addition_json, watched_fields, watched_json, watching_fields, watching_json, word_setting_fields, word_setting_json, words_of_fields, words_of_json, listing_json, method_of, opening_json, params_json, removal_json, removal_json_of, set}
use Rattle.floor_rpc.specs.Json.{Fields, given, list_json, member_where, members_of, number_json, object_of, option_json}
use Rattle.floor_rpc.specs.Laws.{AllAre, AllAreWhere, BelowWhere, IsCall, IsChairSetting, IsCreation, IsDecision, IsFloorAddition, IsJournalFrom, IsListing, IsNewFloor, IsNewUser, IsOfConference, IsOfRequest, IsOfUser, IsOpening, IsParts, IsRelease, IsRemoval, IsU16, IsU32, IsUnwatching, IsUserAddition, IsWatched, IsWatching, IsWhom, IsWordSetting, IsWordsOf}
use Rattle.floor_rpc.specs.Methods.{methods, name_of, parameters_of}
use Rattle.floor_rpc.specs.Params.{and_rest, and_then, each, first_unknown, flag, flag_in, item_only, list_in, list_or_empty, named, needed, needed_in, needed_list, only, optional, optional_in, optional_list, optional_list_in, or_null, or_why, place_of, priority_of, refuse, some, some_value, text_of, u16_of, u32_of, up_to_4}
use Rattle.floor_rpc.specs.Requests.{with_params}
use Rattle.floor_rpc.specs.declared.call.Call.{Call}
use Rattle.floor_rpc.specs.declared.call.Call.TheVariants as call
use Rattle.floor_rpc.specs.declared.call.Listing.{Listing}
use Rattle.floor_rpc.specs.declared.call.Listing.TheVariants as listing
use Rattle.floor_rpc.specs.declared.call.Opening.{Opening}
use Rattle.floor_rpc.specs.declared.call.Opening.TheVariants as opening
use Rattle.floor_rpc.specs.declared.call.Whom.{Whom}
use Rattle.floor_rpc.specs.declared.call.Whom.TheVariants as whom
use Rattle.floor_rpc.specs.declared.fault.RequestFault.{RequestFault}
use Rattle.floor_rpc.specs.declared.fault.RequestFault.TheVariants.{BadParam}
use Rattle.floor_rpc.specs.declared.fault.Why.{Why}
use Rattle.floor_rpc.specs.declared.fault.Why.TheVariants.{Missing, OutOfRange}
use Rattle.floor_rpc.specs.declared.method.Method.{Method}
use Rattle.floor_rpc.specs.declared.method.Method.TheVariants as method
use Rattle.floor_rpc.specs.declared.call.ChairSetting.{ChairSetting}
use Rattle.floor_rpc.specs.declared.call.Creation.{Creation}
use Rattle.floor_rpc.specs.declared.call.Decision.{Decision}
use Rattle.floor_rpc.specs.declared.call.FloorAddition.{FloorAddition}
use Rattle.floor_rpc.specs.declared.call.JournalFrom.{JournalFrom}
use Rattle.floor_rpc.specs.declared.call.NewFloor.{NewFloor}
use Rattle.floor_rpc.specs.declared.call.NewUser.{NewUser}
use Rattle.floor_rpc.specs.declared.call.OfConference.{OfConference}
use Rattle.floor_rpc.specs.declared.call.OfRequest.{OfRequest}
use Rattle.floor_rpc.specs.declared.call.OfUser.{OfUser}
use Rattle.floor_rpc.specs.declared.call.Parts.{Parts}
use Rattle.floor_rpc.specs.declared.call.Release.{Release}
use Rattle.floor_rpc.specs.declared.call.Removal.{Removal}
use Rattle.floor_rpc.specs.declared.call.Unwatching.{Unwatching}
use Rattle.floor_rpc.specs.declared.call.UserAddition.{UserAddition}
use Rattle.floor_rpc.specs.declared.call.Watched.{Watched}
use Rattle.floor_rpc.specs.declared.call.Watching.{Watching}
use Rattle.floor_rpc.specs.declared.call.WordSetting.{WordSetting}
use Rattle.floor_rpc.specs.declared.call.WordsOf.{WordsOf}

-- ---- members that may be left out

or_none : (o : Option Json) → later_or o None ≡ o
or_none None = refl
or_none (Some j) = refl

-- the last value under a name
abbrev last_of : List ℕ → Fields → Option Json
last_of name [] = None
last_of name (f ∷ fs) = cond (bytes_eq f.0 name) (later_or (last_of name fs) f.1) (last_of name fs)

some_later : (b : Bool) (x : Option Json) (j : Json) → later_or x (cond b (Some j) None) ≡ cond b (later_or x (Some j)) x
some_later true x j = refl
some_later false x j = or_none x

none_later : (b : Bool) (x : Option Json) → x ≡ cond b (later_or x None) x
none_later true x = sym (or_none x)
none_later false x = refl

get_where : (name key : List ℕ) (o : Option Json) (ms : Members) (x : Option Json) → get_member name ms ≡ x
    → get_member name (member_where key o ms) ≡ cond (bytes_eq key name) (later_or x o) x
get_where name key (Some j) ms x e = ap (λ y. later_or y (cond (bytes_eq key name) (Some j) None)) e ∙ some_later (bytes_eq key name) x j
get_where name key None ms x e = e ∙ none_later (bytes_eq key name) x

pub get_fields : (name : List ℕ) (fs : Fields) → get name (object_of fs) ≡ last_of name fs
unfolding members_of
get_fields name [] = refl
get_fields name (f ∷ fs) = get_where name f.0 f.1 (members_of fs) (last_of name fs) (get_fields name fs)

-- each key is among the names
abbrev all_known : List (List ℕ) → Fields → Bool
all_known names [] = true
all_known names (f ∷ fs) = list_any (λ name. bytes_eq name f.0) names && all_known names fs

left_of : (a b : Bool) → (a && b) ≡ true → a ≡ true
left_of true b e = refl
left_of false b e = e

right_of : (a b : Bool) → (a && b) ≡ true → b ≡ true
right_of true b e = e
right_of false b e = absurd (false≢true e)

abbrev unknown : List (List ℕ) → List ℕ → Bool
unknown names key = not (list_any (λ name. bytes_eq name key) names)

known_where : (names : List (List ℕ)) (key : List ℕ) (o : Option Json) (ms : Members) → list_any (λ name. bytes_eq name key) names ≡ true
    → find (unknown names) (keys ms) ≡ None → find (unknown names) (keys (member_where key o ms)) ≡ None
known_where names key (Some j) ms known rest = ap (λ b. cond (not b) (Some key) (find (unknown names) (keys ms))) known ∙ rest
known_where names key None ms known rest = rest

pub none_unknown : (names : List (List ℕ)) (fs : Fields) → all_known names fs ≡ true → first_unknown names (object_of fs) ≡ None
unfolding members_of
none_unknown names [] e = refl
none_unknown names (f ∷ fs) e =
    known_where names f.0 f.1 (members_of fs) (left_of (list_any (λ name. bytes_eq name f.0) names) (all_known names fs) e)
    (none_unknown names fs (right_of (list_any (λ name. bytes_eq name f.0) names) (all_known names fs) e))

only_fields : (names : List (List ℕ)) (fs : Fields) → all_known names fs ≡ true → only names (object_of fs) ≡ Ok tt
only_fields names fs e = ap refuse (none_unknown names fs e)

item_fields : (list : List ℕ) (names : List (List ℕ)) (fs : Fields) → all_known names fs ≡ true → item_only list names (object_of fs) ≡ Ok tt
item_fields list names fs e = only_fields names fs e

-- ---- values

u16_back : NumbersAreReadBack → (n : ℕ) → n < 2 ^ 16 → u16_of (number_json n) ≡ Ok n
u16_back back n h = ap (or_why OutOfRange) (back (2 ^ 16) n h (omega arith)).value

u32_back : NumbersAreReadBack → (n : ℕ) → n < 2 ^ 32 → u32_of (number_json n) ≡ Ok n
u32_back back n h = ap (or_why OutOfRange) (back (2 ^ 32) n h (omega arith)).value

place_back : NumbersAreReadBack → (n : ℕ) → n < 10 ^ 10 → place_of (number_json n) ≡ Ok n
place_back back n h = ap (or_why OutOfRange) (back (10 ^ 10) n h h).value

priority_back : NumbersAreReadBack → (n : ℕ) → n < 5 → priority_of (number_json n) ≡ Ok n
priority_back back n h = ap up_to_4 (u16_back back n (omega arith)) ∙ ap (λ b. cond b (Ok n) (Err OutOfRange)) (le-leb n 4 (omega arith))

-- a value, where it is there, is read back
abbrev BackWhere : {A : Type 0} → (Json → Result A Why) → (A → Json) → Option A → Type 0
BackWhere read f (Some a) = read (f a) ≡ Ok a
BackWhere read f None = ⊤

u16_where : NumbersAreReadBack → (o : Option ℕ) → BelowWhere (2 ^ 16) o → BackWhere u16_of number_json o
u16_where back (Some n) h = u16_back back n h
u16_where back None h = tt

u32_where : NumbersAreReadBack → (o : Option ℕ) → BelowWhere (2 ^ 32) o → BackWhere u32_of number_json o
u32_where back (Some n) h = u32_back back n h
u32_where back None h = tt

place_where : NumbersAreReadBack → (o : Option ℕ) → BelowWhere (10 ^ 10) o → BackWhere place_of number_json o
place_where back (Some n) h = place_back back n h
place_where back None h = tt

priority_where : NumbersAreReadBack → (o : Option ℕ) → BelowWhere 5 o → BackWhere priority_of number_json o
priority_where back (Some n) h = priority_back back n h
priority_where back None h = tt

text_where : (o : Option (List ℕ)) → BackWhere text_of json.string o
text_where (Some s) = refl
text_where None = tt

u16_or_null : NumbersAreReadBack → (o : Option ℕ) → BelowWhere (2 ^ 16) o → or_null u16_of (option_json number_json o) ≡ Ok o
u16_or_null back (Some n) h = ap some_value (u16_back back n h)
u16_or_null back None h = refl

text_or_null : (o : Option (List ℕ)) → or_null text_of (option_json json.string o) ≡ Ok o
text_or_null (Some s) = refl
text_or_null None = refl

-- ---- parameters

need : {A : Type 0} (read : Json → Result A Why) (name : List ℕ) (fs : Fields) (j : Json) (a : A) → last_of name fs ≡ Some j → read j ≡ Ok a
    → needed read name (object_of fs) ≡ Ok a
need read name fs j a e h = ap (needed_in read name) (get_fields name fs ∙ e) ∙ ap (named name) h

may : {A : Type 0} (read : Json → Result A Why) (f : A → Json) (name : List ℕ) (fs : Fields) (o : Option A) → last_of name fs ≡ option_map f o → BackWhere read f o
    → optional read name (object_of fs) ≡ Ok o
may read f name fs (Some a) e h = ap (optional_in read name) (get_fields name fs ∙ e) ∙ ap (λ r. some (named name r)) h
may read f name fs None e h = ap (optional_in read name) (get_fields name fs ∙ e)

mark : (name : List ℕ) (fs : Fields) (b : Bool) → last_of name fs ≡ option_map json.boolean (set b) → flag name (object_of fs) ≡ Ok b
mark name fs true e = ap (flag_in name) (get_fields name fs ∙ e)
mark name fs false e = ap (flag_in name) (get_fields name fs ∙ e)

each_back : {A : Type 0} (read : Json → Result A RequestFault) (f : A → Json) (xs : List A) → AllAre (λ a. read (f a) ≡ Ok a) xs → each read (items_of (map f xs)) ≡ Ok xs
each_back read f [] h = refl
each_back read f (x ∷ xs) h = ap (λ r. and_then r (λ a. and_rest a (each read (items_of (map f xs))))) h.0 ∙ ap (and_rest x) (each_back read f xs h.1)

need_list : {A : Type 0} (read : Json → Result A RequestFault) (f : A → Json) (name : List ℕ) (fs : Fields) (xs : List A) → last_of name fs ≡ Some (list_json f xs)
    → AllAre (λ a. read (f a) ≡ Ok a) xs → needed_list read name (object_of fs) ≡ Ok xs
need_list read f name fs xs e h = ap (list_in read name (Err (BadParam (Some name) Missing))) (get_fields name fs ∙ e) ∙ each_back read f xs h

or_empty : {A : Type 0} (read : Json → Result A RequestFault) (f : A → Json) (name : List ℕ) (fs : Fields) (xs : List A) → last_of name fs ≡ Some (list_json f xs)
    → AllAre (λ a. read (f a) ≡ Ok a) xs → list_or_empty read name (object_of fs) ≡ Ok xs
or_empty read f name fs xs e h = ap (list_in read name (Ok [])) (get_fields name fs ∙ e) ∙ each_back read f xs h

abbrev AllBackWhere : {A : Type 0} → (Json → Result A RequestFault) → (A → Json) → Option (List A) → Type 0
AllBackWhere read f (Some xs) = AllAre (λ a. read (f a) ≡ Ok a) xs
AllBackWhere read f None = ⊤

may_list : {A : Type 0} (read : Json → Result A RequestFault) (f : A → Json) (name : List ℕ) (fs : Fields) (o : Option (List A))
    → last_of name fs ≡ option_map (list_json f) o → AllBackWhere read f o → optional_list read name (object_of fs) ≡ Ok o
may_list read f name fs (Some xs) e h = ap (optional_list_in read name) (get_fields name fs ∙ e) ∙ ap some (each_back read f xs h)
may_list read f name fs None e h = ap (optional_list_in read name) (get_fields name fs ∙ e)

all_back : {A : Type 0} (P : A → Type 0) (read : Json → Result A RequestFault) (f : A → Json) → ((a : A) → P a → read (f a) ≡ Ok a)
    → (xs : List A) → AllAre P xs → AllAre (λ a. read (f a) ≡ Ok a) xs
all_back P read f h [] ps = tt
all_back P read f h (x ∷ xs) ps = (h x ps.0, all_back P read f h xs ps.1)

floor_id_back : NumbersAreReadBack → (n : ℕ) → n < 2 ^ 16 → floor_id (number_json n) ≡ Ok n
floor_id_back back n h = ap (named (codes "floors")) (u16_back back n h)

floor_ids_back : NumbersAreReadBack → (xs : List ℕ) → AllAre IsU16 xs → AllAre (λ a. floor_id (number_json a) ≡ Ok a) xs
floor_ids_back back = all_back IsU16 floor_id number_json (floor_id_back back)

floor_ids_where : NumbersAreReadBack → (o : Option (List ℕ)) → AllAreWhere IsU16 o → AllBackWhere floor_id number_json o
floor_ids_where back (Some xs) h = floor_ids_back back xs h
floor_ids_where back None h = tt

-- ---- each method's parameters
new_user_back : NumbersAreReadBack → (n : NewUser) → IsNewUser n → new_user (new_user_json n) ≡ Ok n
new_user_back back n h =
    rw (may u16_of number_json (codes "id") (new_user_fields n) n.id refl (u16_where back n.id h.id))
    (rw (may text_of json.string (codes "name") (new_user_fields n) n.name refl (text_where n.name))
    (rw (may text_of json.string (codes "uri") (new_user_fields n) n.uri refl (text_where n.uri))
    (rw (mark (codes "proxy") (new_user_fields n) n.proxy refl)
    (rw (may u16_of number_json (codes "port") (new_user_fields n) n.port refl (u16_where back n.port h.port))
    (refl)))))

new_floor_back : NumbersAreReadBack → (n : NewFloor) → IsNewFloor n → new_floor (new_floor_json n) ≡ Ok n
new_floor_back back n h =
    rw (may u16_of number_json (codes "id") (new_floor_fields n) n.id refl (u16_where back n.id h.id))
    (rw (may u16_of number_json (codes "room") (new_floor_fields n) n.room refl (u16_where back n.room h.room))
    (rw (may u16_of number_json (codes "chair") (new_floor_fields n) n.chair refl (u16_where back n.chair h.chair))
    (rw (may text_of json.string (codes "title") (new_floor_fields n) n.title refl (text_where n.title))
    (refl))))

listed_user_back : NumbersAreReadBack → (u : NewUser) → IsNewUser u → listed_user (new_user_json u) ≡ Ok u
listed_user_back back u h = rw (item_fields (codes "users") user_names (new_user_fields u) refl) (new_user_back back u h)

listed_floor_back : NumbersAreReadBack → (f : NewFloor) → IsNewFloor f → listed_floor (new_floor_json f) ≡ Ok f
listed_floor_back back f h = rw (item_fields (codes "floors") floor_names (new_floor_fields f) refl) (new_floor_back back f h)

parts_back : NumbersAreReadBack → (p : Parts) → IsParts p → parts (parts_json p) ≡ Ok p
parts_back back p h =
    rw (may u32_of number_json (codes "id") (parts_fields p) p.id refl (u32_where back p.id h.id))
    (rw (may text_of json.string (codes "title") (parts_fields p) p.title refl (text_where p.title))
    (rw (may u16_of number_json (codes "limit") (parts_fields p) p.limit refl (u16_where back p.limit h.limit))
    (rw (may u16_of number_json (codes "connections") (parts_fields p) p.connections refl (u16_where back p.connections h.connections))
    (rw (need_list listed_user new_user_json (codes "users") (parts_fields p) p.users refl (all_back IsNewUser listed_user new_user_json (listed_user_back back) p.users h.users))
    (rw (need_list listed_floor new_floor_json (codes "floors") (parts_fields p) p.floors refl (all_back IsNewFloor listed_floor new_floor_json (listed_floor_back back) p.floors h.floors))
    (refl))))))

of_conference_back : NumbersAreReadBack → (o : OfConference) → IsOfConference o → of_conference (of_conference_json o) ≡ Ok o
of_conference_back back o h =
    rw (need u32_of (codes "conference") (of_conference_fields o) (number_json o.conference) o.conference refl (u32_back back o.conference h))
    (refl)

unwatched_back : NumbersAreReadBack → (o : OfConference) → IsOfConference o → unwatched (of_conference_json o) ≡ Ok o
unwatched_back back o h = rw (item_fields (codes "conferences") (codes "conference" ∷ []) (of_conference_fields o) refl) (of_conference_back back o h)

watched_back : NumbersAreReadBack → (w : Watched) → IsWatched w → watched (watched_json w) ≡ Ok w
watched_back back w h =
    rw (item_fields (codes "conferences") (codes "conference" ∷ codes "from" ∷ []) (watched_fields w) refl)
    (rw (need u32_of (codes "conference") (watched_fields w) (number_json w.conference) w.conference refl (u32_back back w.conference h.conference))
    (rw (may place_of number_json (codes "from") (watched_fields w) w.from refl (place_where back w.from h.from))
    (refl)))

chair_setting_back : NumbersAreReadBack → (c : ChairSetting) → IsChairSetting c → chair_setting (chair_setting_json c) ≡ Ok c
chair_setting_back back c h =
    rw (need u32_of (codes "conference") (chair_setting_fields c) (number_json c.conference) c.conference refl (u32_back back c.conference h.conference))
    (rw (need u16_of (codes "floor") (chair_setting_fields c) (number_json c.floor) c.floor refl (u16_back back c.floor h.floor))
    (rw (need (or_null u16_of) (codes "chair") (chair_setting_fields c) (option_json number_json c.chair) c.chair refl (u16_or_null back c.chair h.chair))
    (refl)))

of_user_back : NumbersAreReadBack → (o : OfUser) → IsOfUser o → of_user (of_user_json o) ≡ Ok o
of_user_back back o h =
    rw (need u32_of (codes "conference") (of_user_fields o) (number_json o.conference) o.conference refl (u32_back back o.conference h.conference))
    (rw (need u16_of (codes "user") (of_user_fields o) (number_json o.user) o.user refl (u16_back back o.user h.user))
    (refl))

creation_back : NumbersAreReadBack → (c : Creation) → IsCreation c → creation (creation_json c) ≡ Ok c
creation_back back c h =
    rw (need u32_of (codes "conference") (creation_fields c) (number_json c.conference) c.conference refl (u32_back back c.conference h.conference))
    (rw (need u16_of (codes "for") (creation_fields c) (number_json c.beneficiary) c.beneficiary refl (u16_back back c.beneficiary h.beneficiary))
    (rw (need_list floor_id number_json (codes "floors") (creation_fields c) c.floors refl (floor_ids_back back c.floors h.floors))
    (rw (may priority_of number_json (codes "priority") (creation_fields c) c.priority refl (priority_where back c.priority h.priority))
    (rw (may text_of json.string (codes "info") (creation_fields c) c.info refl (text_where c.info))
    (rw (may u16_of number_json (codes "by") (creation_fields c) c.by refl (u16_where back c.by h.by))
    (refl))))))

release_back : NumbersAreReadBack → (r : Release) → IsRelease r → release (release_json r) ≡ Ok r
release_back back r h =
    rw (need u32_of (codes "conference") (release_fields r) (number_json r.conference) r.conference refl (u32_back back r.conference h.conference))
    (rw (need u16_of (codes "request") (release_fields r) (number_json r.request) r.request refl (u16_back back r.request h.request))
    (rw (may u16_of number_json (codes "by") (release_fields r) r.by refl (u16_where back r.by h.by))
    (refl)))

decision_back : NumbersAreReadBack → (d : Decision) → IsDecision d → decision (decision_json d) ≡ Ok d
decision_back back d h =
    rw (need u32_of (codes "conference") (decision_fields d) (number_json d.conference) d.conference refl (u32_back back d.conference h.conference))
    (rw (need u16_of (codes "request") (decision_fields d) (number_json d.request) d.request refl (u16_back back d.request h.request))
    (rw (may_list floor_id number_json (codes "floors") (decision_fields d) d.floors refl (floor_ids_where back d.floors h.floors))
    (rw (may text_of json.string (codes "reason") (decision_fields d) d.reason refl (text_where d.reason))
    (rw (may u16_of number_json (codes "by") (decision_fields d) d.by refl (u16_where back d.by h.by))
    (refl)))))

of_request_back : NumbersAreReadBack → (o : OfRequest) → IsOfRequest o → of_request (of_request_json o) ≡ Ok o
of_request_back back o h =
    rw (need u32_of (codes "conference") (of_request_fields o) (number_json o.conference) o.conference refl (u32_back back o.conference h.conference))
    (rw (need u16_of (codes "request") (of_request_fields o) (number_json o.request) o.request refl (u16_back back o.request h.request))
    (refl))

word_setting_back : NumbersAreReadBack → (w : WordSetting) → IsWordSetting w → word_setting (word_setting_json w) ≡ Ok w
word_setting_back back w h =
    rw (need u32_of (codes "conference") (word_setting_fields w) (number_json w.conference) w.conference refl (u32_back back w.conference h))
    (rw (need text_of (codes "key") (word_setting_fields w) (json.string w.key) w.key refl refl)
    (rw (need (or_null text_of) (codes "text") (word_setting_fields w) (option_json json.string w.text) w.text refl (text_or_null w.text))
    (refl)))

words_of_back : NumbersAreReadBack → (w : WordsOf) → IsWordsOf w → words_of (words_of_json w) ≡ Ok w
words_of_back back w h =
    rw (need u32_of (codes "conference") (words_of_fields w) (number_json w.conference) w.conference refl (u32_back back w.conference h))
    (rw (may text_of json.string (codes "key") (words_of_fields w) w.key refl (text_where w.key))
    (refl))

watching_back : NumbersAreReadBack → (w : Watching) → IsWatching w → watching (watching_json w) ≡ Ok w
watching_back back w h =
    rw (or_empty watched watched_json (codes "conferences") (watching_fields w) w.conferences refl (all_back IsWatched watched watched_json (watched_back back) w.conferences h))
    (rw (mark (codes "all") (watching_fields w) w.all refl)
    (refl))

unwatching_back : NumbersAreReadBack → (u : Unwatching) → IsUnwatching u → unwatching (unwatching_json u) ≡ Ok u
unwatching_back back u h =
    rw (or_empty unwatched of_conference_json (codes "conferences") (unwatching_fields u) u.conferences refl (all_back IsOfConference unwatched of_conference_json (unwatched_back back) u.conferences h))
    (rw (mark (codes "all") (unwatching_fields u) u.all refl)
    (refl))

journal_from_back : NumbersAreReadBack → (j : JournalFrom) → IsJournalFrom j → journal_from (journal_from_json j) ≡ Ok j
journal_from_back back j h =
    rw (need u32_of (codes "conference") (journal_from_fields j) (number_json j.conference) j.conference refl (u32_back back j.conference h.conference))
    (rw (may place_of number_json (codes "from") (journal_from_fields j) j.from refl (place_where back j.from h.from))
    (rw (may place_of number_json (codes "count") (journal_from_fields j) j.count refl (place_where back j.count h.count))
    (refl)))

user_addition_back : NumbersAreReadBack → (u : UserAddition) → IsUserAddition u → user_addition (user_addition_json u) ≡ Ok u
user_addition_back back u h =
    rw (need u32_of (codes "conference") (user_addition_fields u) (number_json u.conference) u.conference refl (u32_back back u.conference h.conference))
    (rw (may u16_of number_json (codes "id") (user_addition_fields u) u.user.id refl (u16_where back u.user.id h.user.id))
    (rw (may text_of json.string (codes "name") (user_addition_fields u) u.user.name refl (text_where u.user.name))
    (rw (may text_of json.string (codes "uri") (user_addition_fields u) u.user.uri refl (text_where u.user.uri))
    (rw (mark (codes "proxy") (user_addition_fields u) u.user.proxy refl)
    (rw (may u16_of number_json (codes "port") (user_addition_fields u) u.user.port refl (u16_where back u.user.port h.user.port))
    (refl))))))

floor_addition_back : NumbersAreReadBack → (f : FloorAddition) → IsFloorAddition f → floor_addition (floor_addition_json f) ≡ Ok f
floor_addition_back back f h =
    rw (need u32_of (codes "conference") (floor_addition_fields f) (number_json f.conference) f.conference refl (u32_back back f.conference h.conference))
    (rw (may u16_of number_json (codes "id") (floor_addition_fields f) f.floor.id refl (u16_where back f.floor.id h.floor.id))
    (rw (may u16_of number_json (codes "room") (floor_addition_fields f) f.floor.room refl (u16_where back f.floor.room h.floor.room))
    (rw (may u16_of number_json (codes "chair") (floor_addition_fields f) f.floor.chair refl (u16_where back f.floor.chair h.floor.chair))
    (rw (may text_of json.string (codes "title") (floor_addition_fields f) f.floor.title refl (text_where f.floor.title))
    (refl)))))

-- who is to be shown out
removal_fields : ℕ → Whom → Fields
removal_fields c (whom.Member n) = given (codes "conference") (number_json c) ∷ given (codes "member") (number_json n) ∷ []
removal_fields c (whom.User user) = given (codes "conference") (number_json c) ∷ given (codes "user") (number_json user) ∷ []

whom_back : NumbersAreReadBack → (c : ℕ) (w : Whom) → IsWhom w → whom_in (removal_json_of c w) ≡ Ok w
whom_back back c (whom.Member n) h =
    let fs : Fields = given (codes "conference") (number_json c) ∷ given (codes "member") (number_json n) ∷ [] in
    rw (get_fields (codes "member") fs)
    (rw (only_fields (codes "conference" ∷ codes "member" ∷ []) fs refl)
    (rw (need u32_of (codes "member") fs (number_json n) n refl (u32_back back n h)) refl))
whom_back back c (whom.User user) h =
    let fs : Fields = given (codes "conference") (number_json c) ∷ given (codes "user") (number_json user) ∷ [] in
    rw (get_fields (codes "member") fs)
    (rw (need u16_of (codes "user") fs (number_json user) user refl (u16_back back user h)) refl)

conference_of_removal : NumbersAreReadBack → (c : ℕ) (w : Whom) → IsU32 c → conference_in (removal_json_of c w) ≡ Ok c
conference_of_removal back c (whom.Member n) h =
    need u32_of (codes "conference") (given (codes "conference") (number_json c) ∷ given (codes "member") (number_json n) ∷ []) (number_json c) c refl (u32_back back c h)
conference_of_removal back c (whom.User user) h =
    need u32_of (codes "conference") (given (codes "conference") (number_json c) ∷ given (codes "user") (number_json user) ∷ []) (number_json c) c refl (u32_back back c h)

removal_back : NumbersAreReadBack → (r : Removal) → IsRemoval r → removal (removal_json r) ≡ Ok r
removal_back back r h = rw (conference_of_removal back r.conference r.whom h.conference) (rw (whom_back back r.conference r.whom h.whom) refl)

known_removal : (c : ℕ) (w : Whom) → only (parameters_of method.MemberRemove) (removal_json_of c w) ≡ Ok tt
known_removal c (whom.Member n) = only_fields (parameters_of method.MemberRemove) (given (codes "conference") (number_json c) ∷ given (codes "member") (number_json n) ∷ []) refl
known_removal c (whom.User user) = only_fields (parameters_of method.MemberRemove) (given (codes "conference") (number_json c) ∷ given (codes "user") (number_json user) ∷ []) refl

-- a call whose parameters are those of an object that may lack members
calls : (m : Method) (fs : Fields) (c : Call) → all_known (parameters_of m) fs ≡ true → known_call m (object_of fs) ≡ Ok c → call_of m (object_of fs) ≡ Ok c
calls m fs c known e = rw (only_fields (parameters_of m) fs known) e

listing_back : NumbersAreReadBack → (l : Listing) → IsListing l → call_of method.ConferenceList (listing_json l) ≡ Ok (call.ConferenceList l)
listing_back back listing.First h =
    calls method.ConferenceList [] (call.ConferenceList listing.First) refl
    (rw (get_fields (codes "conference") []) (rw (may u32_of number_json (codes "after") [] None refl tt) refl))
listing_back back (listing.Only c) h =
    let fs : Fields = given (codes "conference") (number_json c) ∷ [] in
    calls method.ConferenceList fs (call.ConferenceList (listing.Only c)) refl
    (rw (get_fields (codes "conference") fs) (rw (only_fields (codes "conference" ∷ []) fs refl)
    (rw (need u32_of (codes "conference") fs (number_json c) c refl (u32_back back c h)) refl)))
listing_back back (listing.After c) h =
    let fs : Fields = given (codes "after") (number_json c) ∷ [] in
    calls method.ConferenceList fs (call.ConferenceList (listing.After c)) refl
    (rw (get_fields (codes "conference") fs) (rw (may u32_of number_json (codes "after") fs (Some c) refl (u32_back back c h)) refl))

opening_back : NumbersAreReadBack → (o : Opening) → IsOpening o → call_of method.ConferenceOpen (opening_json o) ≡ Ok (call.ConferenceOpen o)
opening_back back (opening.Toml text) h =
    let fs : Fields = given (codes "toml") (json.string text) ∷ [] in
    calls method.ConferenceOpen fs (call.ConferenceOpen (opening.Toml text)) refl
    (rw (get_fields (codes "toml") fs) (rw (only_fields (codes "toml" ∷ []) fs refl)
    (rw (need text_of (codes "toml") fs (json.string text) text refl refl) refl)))
opening_back back (opening.Parts p) h =
    calls method.ConferenceOpen (parts_fields p) (call.ConferenceOpen (opening.Parts p)) refl
    (rw (get_fields (codes "toml") (parts_fields p)) (rw (parts_back back p h) refl))

removed : NumbersAreReadBack → (c : ℕ) (w : Whom) → IsRemoval record { conference = c; whom = w } → with_params method.MemberRemove (Some (removal_json_of c w)) ≡ Ok (call.MemberRemove record { conference = c; whom = w })
removed back c (whom.Member n) h = rw (known_removal c (whom.Member n)) (ap (call_by call.MemberRemove) (removal_back back record { conference = c; whom = whom.Member n } h))
removed back c (whom.User user) h = rw (known_removal c (whom.User user)) (ap (call_by call.MemberRemove) (removal_back back record { conference = c; whom = whom.User user } h))

-- the parameters that are written of a call are read as that call
pub call_back : NumbersAreReadBack → (c : Call) → IsCall c → with_params (method_of c) (Some (params_json c)) ≡ Ok c
call_back back (call.ConferenceOpen (opening.Toml text)) h = opening_back back (opening.Toml text) h
call_back back (call.ConferenceOpen (opening.Parts p)) h = opening_back back (opening.Parts p) h
call_back back (call.ConferenceList listing.First) h = listing_back back listing.First h
call_back back (call.ConferenceList (listing.Only c)) h = listing_back back (listing.Only c) h
call_back back (call.ConferenceList (listing.After c)) h = listing_back back (listing.After c) h
call_back back (call.ConferenceGet p) h = calls method.ConferenceGet (of_conference_fields p) (call.ConferenceGet p) refl (ap (call_by call.ConferenceGet) (of_conference_back back p h))
call_back back (call.ConferenceClose p) h = calls method.ConferenceClose (of_conference_fields p) (call.ConferenceClose p) refl (ap (call_by call.ConferenceClose) (of_conference_back back p h))
call_back back (call.ConferenceForget p) h = calls method.ConferenceForget (of_conference_fields p) (call.ConferenceForget p) refl (ap (call_by call.ConferenceForget) (of_conference_back back p h))
call_back back (call.UserAdd p) h = calls method.UserAdd (user_addition_fields p) (call.UserAdd p) refl (ap (call_by call.UserAdd) (user_addition_back back p h))
call_back back (call.FloorAdd p) h = calls method.FloorAdd (floor_addition_fields p) (call.FloorAdd p) refl (ap (call_by call.FloorAdd) (floor_addition_back back p h))
call_back back (call.FloorChair p) h = calls method.FloorChair (chair_setting_fields p) (call.FloorChair p) refl (ap (call_by call.FloorChair) (chair_setting_back back p h))
call_back back (call.MemberRemove p) h = removed back p.conference p.whom h
call_back back (call.UserAdmit p) h = calls method.UserAdmit (of_user_fields p) (call.UserAdmit p) refl (ap (call_by call.UserAdmit) (of_user_back back p h))
call_back back (call.RequestCreate p) h = calls method.RequestCreate (creation_fields p) (call.RequestCreate p) refl (ap (call_by call.RequestCreate) (creation_back back p h))
call_back back (call.RequestRelease p) h = calls method.RequestRelease (release_fields p) (call.RequestRelease p) refl (ap (call_by call.RequestRelease) (release_back back p h))
call_back back (call.RequestAccept p) h = calls method.RequestAccept (decision_fields p) (call.RequestAccept p) refl (ap (call_by call.RequestAccept) (decision_back back p h))
call_back back (call.RequestGrant p) h = calls method.RequestGrant (decision_fields p) (call.RequestGrant p) refl (ap (call_by call.RequestGrant) (decision_back back p h))
call_back back (call.RequestDeny p) h = calls method.RequestDeny (decision_fields p) (call.RequestDeny p) refl (ap (call_by call.RequestDeny) (decision_back back p h))
call_back back (call.RequestRevoke p) h = calls method.RequestRevoke (of_request_fields p) (call.RequestRevoke p) refl (ap (call_by call.RequestRevoke) (of_request_back back p h))
call_back back (call.WordSet p) h = calls method.WordSet (word_setting_fields p) (call.WordSet p) refl (ap (call_by call.WordSet) (word_setting_back back p h))
call_back back (call.WordGet p) h = calls method.WordGet (words_of_fields p) (call.WordGet p) refl (ap (call_by call.WordGet) (words_of_back back p h))
call_back back (call.Watch p) h = calls method.Watch (watching_fields p) (call.Watch p) refl (ap (call_by call.Watch) (watching_back back p h))
call_back back (call.Unwatch p) h = calls method.Unwatch (unwatching_fields p) (call.Unwatch p) refl (ap (call_by call.Unwatch) (unwatching_back back p h))
call_back back (call.Journal p) h = calls method.Journal (journal_from_fields p) (call.Journal p) refl (ap (call_by call.Journal) (journal_from_back back p h))
call_back back call.ServerStatus h = calls method.ServerStatus [] call.ServerStatus refl refl
call_back back call.ServerDrain h = calls method.ServerDrain [] call.ServerDrain refl refl
call_back back call.ServerStop h = calls method.ServerStop [] call.ServerStop refl refl
call_back back call.Help h = calls method.Help [] call.Help refl refl

-- each method is the one of its name
pub method_back : (m : Method) → find (λ n. bytes_eq (name_of n) (name_of m)) methods ≡ Some m
method_back method.ConferenceOpen = refl
method_back method.ConferenceList = refl
method_back method.ConferenceGet = refl
method_back method.ConferenceClose = refl
method_back method.ConferenceForget = refl
method_back method.UserAdd = refl
method_back method.FloorAdd = refl
method_back method.FloorChair = refl
method_back method.MemberRemove = refl
method_back method.UserAdmit = refl
method_back method.RequestCreate = refl
method_back method.RequestRelease = refl
method_back method.RequestAccept = refl
method_back method.RequestGrant = refl
method_back method.RequestDeny = refl
method_back method.RequestRevoke = refl
method_back method.WordSet = refl
method_back method.WordGet = refl
method_back method.Watch = refl
method_back method.Unwatch = refl
method_back method.Journal = refl
method_back method.ServerStatus = refl
method_back method.ServerDrain = refl
method_back method.ServerStop = refl
method_back method.Help = refl
