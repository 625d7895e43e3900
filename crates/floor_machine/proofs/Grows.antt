-- What an event makes of the configuration keeps its limits and has grown from the opening one; whoever is a user stays one; and each
-- member and each ongoing request is of users.
use Rattle.std.proofs.Common.{◌≡◌, ℕ, zero, suc, ◌+◌, ◌-◌, Bool, true, false, cond, List, [], ◌∷◌, ◌++◌, length, map, take, drop, Option, Some, None, refl, sym, ap, subst, ◌∙◌, arith}
use Rattle.std.specs.Prelude.{◌==◌, ◌&&◌, not, filter, find, is_some}
use Rattle.std.specs.List.{list_all, list_any}
use Rattle.std.specs.Option.{option_map_or}
use Rattle.std.proofs.lemmas.List.{length-map}
use Rattle.floor_config.specs.declared.floors.Floor.{Floor}
use Rattle.floor_config.specs.declared.users.User.{User}
use Rattle.floor_config.specs.Changed.{added_user, chaired, with_user}
use Rattle.floor_config.specs.Configuration.{Configuration, IsConfiguration}
use Rattle.floor_config.specs.Lookup.{is_user, user_with}
use Rattle.floor_config.proofs.KeptAfter.{chair_kept, floor_kept, user_kept}
use Rattle.floor_queue.proofs.Counts.{list_all_mono}
use Rattle.floor_queue.specs.declared.request.Request.{Request}
use Rattle.floor_queue.specs.Order.{granted_if, is_due}
use Rattle.floor_queue.specs.Queue.{after_set_chair, first_request, loses_chair, with_reason, without, without_chair}
use Rattle.floor_message.specs.Ask.{Answer, asks, refused, unanswered, ask}
use Rattle.floor_message.specs.declared.ask.Ask.{Ask}
use Rattle.floor_message.specs.declared.ask.Ask.TheVariants.{FloorRequest, FloorRelease, FloorRequestQuery, UserQuery, FloorQuery, ChairAction, Hello}
use Rattle.floor_message.specs.declared.code.ErrorCode.{ErrorCode}
use Rattle.floor_message.specs.declared.verdicts.Verdict.{Verdict}
use Rattle.floor_machine.specs.Said.{said}
use Rattle.floor_machine.specs.declared.event.Event.{Event}
use Rattle.floor_machine.specs.declared.event.Event.TheVariants.{Join, Message, Took, Leave, Revoke, Close, AddUser, AddFloor, SetChair, Say}
use Rattle.floor_machine.specs.declared.member.Member.{Member}
use Rattle.floor_machine.specs.Conference.{Conference, binding, binding_for, is_live, is_present, joining, member_with, user_of}
use Rattle.floor_machine.specs.Shown.{Entry, entry_of, ongoing_of}
use Rattle.floor_machine.specs.Checks.{Check, beneficiary_of, first_of, refusal, request_checks, when}
use Rattle.floor_machine.specs.Change.{IsLawful, acknowledging, asked_change, change, decided, decided_at, dismissed, ending, ends_at, ends_without, entries_after, is_final, leaving, members_after, message_change, no_change, queue_of, reasoned, reasoned_among, released, settled, shown, watching}
use Rattle.floor_machine.specs.Next.{counted, next}
use Rattle.floor_machine.specs.Reachable.{HasGrown, unchaired}
use Rattle.floor_machine.proofs.Changing.{entries-added, ongoing_of-decided, ongoing_of-ending}
use Rattle.floor_machine.proofs.Configs.{config-change, keeps_config}
use Rattle.floor_machine.proofs.Ended.{ongoing_of-ends}
use Rattle.floor_machine.proofs.Entries.{ongoing_of-entries, ongoing_of-settled}
use Rattle.floor_machine.proofs.Found.{and_left, and_right}

-- the limits ------------------------------------------------------------------------------------

limits-same : (s : Conference) (e : Event) → keeps_config e ≡ true → IsConfiguration s.config → IsConfiguration (change s e).config
limits-same s e keeps h = subst IsConfiguration (sym (config-change s e keeps)) h

-- the configuration that a lawful event leaves keeps the limits
pub limits-change : (s : Conference) (e : Event) → IsLawful s e → IsConfiguration s.config → IsConfiguration (change s e).config
unfolding change
limits-change s (Join user) lawful h = h
limits-change s (Message n bytes) lawful h = limits-same s (Message n bytes) refl h
limits-change s (Took n k) lawful h = h
limits-change s (Leave n) lawful h = h
limits-change s (Revoke request) lawful h = h
limits-change s Close lawful h = h
limits-change s (AddUser user) lawful h = user_kept s.config user h lawful.1
limits-change s (AddFloor floor) lawful h = floor_kept s.config floor h lawful.1
limits-change s (SetChair floor chair) lawful h = chair_kept s.config floor chair h lawful.1
limits-change s (Say user bytes) lawful h = limits-same s (Say user bytes) refl h

-- growing ---------------------------------------------------------------------------------------

pub grown-opening : (config : Configuration) → HasGrown config config
grown-opening config = record { conference = refl; limit = refl; connections = refl; users = all config.users; floors = ap (map unchaired) (all config.floors) }
  where
    all : {A : Type 0} (xs : List A) → take (length xs) xs ≡ xs
    all [] = refl
    all (x ∷ xs) = ap (λ ys. x ∷ ys) (all xs)

-- the first ones stay where one more comes behind them
first-stay : {A : Type 0} (n : ℕ) (xs ys : List A) → length (take n xs) ≡ n → take n (xs ++ ys) ≡ take n xs
first-stay zero xs ys h = refl
first-stay (suc n) [] ys h = cc
first-stay (suc n) (x ∷ xs) ys h = ap (λ zs. x ∷ zs) (first-stay n xs ys (omega (arith, h)))

-- another chair is what doesn't count
unchaired-chaired : (id : ℕ) (chair : Option ℕ) (n : ℕ) (floors : List Floor) → map unchaired (take n (map (chaired id chair) floors)) ≡ map unchaired (take n floors)
unchaired-chaired id chair zero floors = refl
unchaired-chaired id chair (suc n) [] = refl
unchaired-chaired id chair (suc n) (f ∷ floors) =
    ap (λ (g : Floor). g ∷ map unchaired (take n (map (chaired id chair) floors))) (by (f.id == id))
    ∙ ap (λ (gs : List Floor). unchaired f ∷ gs) (unchaired-chaired id chair n floors)
  where
    by : (b : Bool) → unchaired (cond b (record f { chair = chair }) f) ≡ unchaired f
    by true = refl
    by false = refl

grown-same : (config : Configuration) (s : Conference) (e : Event) → keeps_config e ≡ true → HasGrown config s.config → HasGrown config (change s e).config
grown-same config s e keeps h = subst (HasGrown config) (sym (config-change s e keeps)) h

-- the configuration that an event leaves has grown from the opening one
pub grown-change : (config : Configuration) (s : Conference) (e : Event) → HasGrown config s.config → HasGrown config (change s e).config
unfolding change
grown-change config s (Join user) h = h
grown-change config s (Message n bytes) h = grown-same config s (Message n bytes) refl h
grown-change config s (Say user bytes) h = grown-same config s (Say user bytes) refl h
grown-change config s (Took n k) h = h
grown-change config s (Leave n) h = h
grown-change config s (Revoke request) h = h
grown-change config s Close h = h
grown-change config s (AddUser user) h =
    record {
      conference = h.conference;
      limit = h.limit;
      connections = h.connections;
      users = first-stay (length config.users) s.config.users (added_user user ∷ []) (ap (λ (us : List User). length us) h.users) ∙ h.users;
      floors = h.floors;
    }
grown-change config s (AddFloor floor) h =
    let n : ℕ = length config.floors in
    let long : length (take n s.config.floors) ≡ n =
    sym (length-map (take n s.config.floors) unchaired) ∙ ap (λ (fs : List Floor). length fs) h.floors ∙ length-map config.floors unchaired in
    record {
      conference = h.conference;
      limit = h.limit;
      connections = h.connections;
      users = h.users;
      floors = ap (map unchaired) (first-stay n s.config.floors (floor ∷ []) long) ∙ h.floors;
    }
grown-change config s (SetChair floor chair) h =
    record { conference = h.conference; limit = h.limit; connections = h.connections; users = h.users; floors = unchaired-chaired floor chair (length config.floors) s.config.floors ∙ h.floors }

-- users -----------------------------------------------------------------------------------------

-- what is made of them passes as they did
all-map : {A B : Type 0} (p : B → Bool) (q : A → Bool) (f : A → B) → ((x : A) → p (f x) ≡ q x) → (xs : List A) → list_all p (map f xs) ≡ list_all q xs
all-map p q f same [] = refl
all-map p q f same (x ∷ xs) = ap (λ (b : Bool). b && list_all p (map f xs)) (same x) ∙ ap (λ (b : Bool). q x && b) (all-map p q f same xs)

all-filter : {A : Type 0} (p q : A → Bool) (xs : List A) → list_all p xs ≡ true → list_all p (filter q xs) ≡ true
all-filter p q [] h = refl
all-filter p q (x ∷ xs) h = by (q x) (all-filter p q xs (and_right (p x) (list_all p xs) h))
  where
    both : (a b : Bool) → a ≡ true → b ≡ true → (a && b) ≡ true
    both true b h k = k
    both false b h k = h

    by : (b : Bool) → list_all p (filter q xs) ≡ true → list_all p (cond b (x ∷ filter q xs) (filter q xs)) ≡ true
    by true k = both (p x) (list_all p (filter q xs)) (and_left (p x) (list_all p xs) h) k
    by false k = k

all-push : {A : Type 0} (p : A → Bool) (xs : List A) (x : A) → list_all p xs ≡ true → p x ≡ true → list_all p (xs ++ x ∷ []) ≡ true
all-push p [] x h k = rw k refl
all-push p (y ∷ xs) x h k = rw (and_left (p y) (list_all p xs) h) (all-push p xs x (and_right (p y) (list_all p xs) h) k)

find-front : {A : Type 0} (p : A → Bool) (xs ys : List A) → is_some (find p xs) ≡ true → find p (xs ++ ys) ≡ find p xs
find-front p [] ys h = cc
find-front {A = A} p (x ∷ xs) ys h = by (p x) h (find-front p xs ys)
  where
    by : (b : Bool) → is_some (cond b (Some x) (find p xs)) ≡ true → (is_some (find p xs) ≡ true → find p (xs ++ ys) ≡ find p xs) → cond b (Some x) (find p (xs ++ ys)) ≡ cond b (Some x) (find p xs)
    by true h k = refl
    by false h k = k h

found-passes : {A : Type 0} (p q : A → Bool) (xs : List A) (x : A) → list_all q xs ≡ true → find p xs ≡ Some x → q x ≡ true
found-passes p q [] x h found = cc
found-passes {A = A} p q (y ∷ xs) x h found = by (p y) found (found-passes p q xs x (and_right (q y) (list_all q xs) h))
  where
    by : (b : Bool) → cond b (Some y) (find p xs) ≡ Some x → (find p xs ≡ Some x → q x ≡ true) → q x ≡ true
    by true f k = let same : y ≡ x = cc in ap q (sym same) ∙ and_left (q y) (list_all q xs) h
    by false f k = k f

-- whoever is a user is the same one behind a new one
pub user-more : (config : Configuration) (user : User) (id : ℕ) → is_user config id ≡ true → user_with (with_user config user) id ≡ user_with config id
user-more config user id h = find-front (λ (u : User). u.id == id) config.users (added_user user ∷ []) h

is_user-more : (config : Configuration) (user : User) (id : ℕ) → is_user config id ≡ true → is_user (with_user config user) id ≡ true
is_user-more config user id h = ap (λ (o : Option User). is_some o) (user-more config user id h) ∙ h

-- the requester and the beneficiary of the request are users
abbrev pub are_known : Configuration → Request → Bool
are_known config r = is_user config r.requester && is_user config r.beneficiary

are_known-more : (config : Configuration) (user : User) (r : Request) → are_known config r ≡ true → are_known (with_user config user) r ≡ true
are_known-more config user r h =
    rw (is_user-more config user r.requester (and_left (is_user config r.requester) (is_user config r.beneficiary) h), is_user-more config user r.beneficiary (and_right (is_user config r.requester) (is_user config r.beneficiary) h)) refl

-- the members' users ----------------------------------------------------------------------------

abbrev is_member_known : Configuration → Member → Bool
is_member_known config m = is_user config m.user

user-asked : (s : Conference) (n : Option ℕ) (a : Ask) → list_all (is_member_known s.config) s.members ≡ true → list_all (is_member_known s.config) (members_after s n a) ≡ true
user-asked s n (FloorRequest beneficiary floors priority info) h = h
user-asked s n (FloorRelease request) h = h
user-asked s n (FloorRequestQuery request) h = h
user-asked s n (UserQuery beneficiary) h = h
user-asked s None (FloorQuery floors) h = h
user-asked s (Some n) (FloorQuery floors) h = all-map (is_member_known s.config) (is_member_known s.config) (watching n floors) (λ m. by m (m.n == n)) s.members ∙ h
  where
    by : (m : Member) (b : Bool) → is_member_known s.config (cond b (record m { watched = floors }) m) ≡ is_member_known s.config m
    by m true = refl
    by m false = refl
user-asked s n (ChairAction request verdicts reason) h = h
user-asked s n Hello h = h

user-message : (s : Conference) (n : Option ℕ) (user : ℕ) (a : Answer) → list_all (is_member_known s.config) s.members ≡ true → list_all (is_member_known s.config) (message_change s n user a).members ≡ true
user-message s n user unanswered h = h
user-message s n user (refused code details) h = h
user-message s n user (asks a) h = by (is_some (refusal s user a))
  where
    by : (b : Bool) → list_all (is_member_known s.config) (cond b (no_change s) (asked_change s n user a)).members ≡ true
    by true = h
    by false = user-asked s n a h

users-same : (s : Conference) (e : Event) → keeps_config e ≡ true → list_all (is_member_known s.config) (change s e).members ≡ true → list_all (is_member_known (change s e).config) (change s e).members ≡ true
users-same s e keeps h = let P : Configuration → Type 0 = λ config. list_all (is_member_known config) (change s e).members ≡ true in subst P (sym (config-change s e keeps)) h

users-change : (s : Conference) (e : Event) → IsLawful s e → list_all (is_member_known s.config) s.members ≡ true → list_all (is_member_known (change s e).config) (change s e).members ≡ true
unfolding change
users-change s (Join user) lawful h = all-push (is_member_known s.config) s.members (joining (length s.members + 1) user) h lawful.1
users-change s (Message n bytes) lawful h = users-same s (Message n bytes) refl (user-message s (Some n) (user_of s n) (ask bytes (binding s n)) h)
users-change s (Took n k) lawful h = all-map (is_member_known s.config) (is_member_known s.config) (acknowledging n k) (λ m. by m (m.n == n)) s.members ∙ h
  where
    by : (m : Member) (b : Bool) → is_member_known s.config (cond b (record m { backlog = m.backlog - k }) m) ≡ is_member_known s.config m
    by m true = refl
    by m false = refl
users-change s (Leave n) lawful h = all-map (is_member_known s.config) (is_member_known s.config) (leaving n) (λ m. by m (m.n == n)) s.members ∙ h
  where
    by : (m : Member) (b : Bool) → is_member_known s.config (cond b (record m { is_live = false }) m) ≡ is_member_known s.config m
    by m true = refl
    by m false = refl
users-change s (Revoke request) lawful h = h
users-change s Close lawful h = h
users-change s (AddUser user) lawful h =
    list_all_mono (is_member_known s.config) (is_member_known (with_user s.config user)) (λ m k. is_user-more s.config user m.user k) s.members h
users-change s (AddFloor floor) lawful h = h
users-change s (SetChair floor chair) lawful h = h
users-change s (Say user bytes) lawful h = users-same s (Say user bytes) refl (user-message s None user (said bytes (binding_for s user)) h)

-- each member's user is a user after the event
pub users-next : (s : Conference) (e : Event) → IsLawful s e → list_all (λ m. is_user s.config m.user) s.members ≡ true → list_all (λ m. is_user (next s e).config m.user) (next s e).members ≡ true
unfolding next settled
users-next s e lawful h =
    all-map (is_member_known (change s e).config) (is_member_known (change s e).config) (counted s e) (λ m. refl) (change s e).members ∙ users-change s e lawful h

-- the requests' users ---------------------------------------------------------------------------

known-entries : (config : Configuration) (es : List Entry) (rs : List Request) → ongoing_of es ≡ rs → list_all (are_known config) rs ≡ true → list_all (are_known config) (ongoing_of es) ≡ true
known-entries config es rs same h = ap (λ (xs : List Request). list_all (are_known config) xs) same ∙ h

-- the beneficiary that a request names is a user, where no check refuses it
beneficiary-known : (a u : Bool) (k l : ErrorCode) (rest : List Check) → first_of (when a k ∷ when (not u) l ∷ rest) ≡ None → u ≡ true
beneficiary-known true u k l rest h = cc
beneficiary-known false true k l rest h = refl
beneficiary-known false false k l rest h = cc

known-reasoned : (config : Configuration) (request : ℕ) (reason : Option (List ℕ)) (rs : List Request) → list_all (are_known config) rs ≡ true → list_all (are_known config) (reasoned_among request reason rs) ≡ true
known-reasoned config request None rs h = h
known-reasoned config request (Some reason) rs h = all-map (are_known config) (are_known config) (with_reason request reason) (λ r. by r (r.number == request)) rs ∙ h
  where
    by : (r : Request) (b : Bool) → are_known config (cond b (record r { reason = Some reason }) r) ≡ are_known config r
    by r true = refl
    by r false = refl

known-decided : (config : Configuration) (request : ℕ) (verdicts : List (ℕ × Verdict)) (rs : List Request) → list_all (are_known config) rs ≡ true → list_all (are_known config) (map (decided_at request verdicts) rs) ≡ true
known-decided config request verdicts rs h = all-map (are_known config) (are_known config) (decided_at request verdicts) (λ r. by r (r.number == request)) rs ∙ h
  where
    by : (r : Request) (b : Bool) → are_known config (cond b (record r { floors = map (decided verdicts) r.floors }) r) ≡ are_known config r
    by r true = refl
    by r false = refl

known-asked : (s : Conference) (user : ℕ) (a : Ask) → None ≡ refusal s user a → is_user s.config user ≡ true → list_all (are_known s.config) s.ongoing ≡ true →
    list_all (are_known s.config) (ongoing_of (entries_after s user a)) ≡ true
unfolding refusal
known-asked s user (FloorRequest beneficiary floors priority info) free mine h =
    let r : Request = first_request s.config.floors (s.given + 1) record { requester = user; beneficiary = beneficiary_of user beneficiary; floors = floors; priority = priority; info = info } in
    let theirs : is_user s.config (beneficiary_of user beneficiary) ≡ true = beneficiary-known _ (is_user s.config (beneficiary_of user beneficiary)) _ _ (drop 2 (request_checks s user (beneficiary_of user beneficiary) floors)) (sym free) in
    known-entries s.config (entries_after s user (FloorRequest beneficiary floors priority info)) (s.ongoing ++ r ∷ []) (entries-added s.ongoing r)
    (all-push (are_known s.config) s.ongoing r h (rw (mine, theirs) refl))
known-asked s user (FloorRelease request) free mine h =
    known-entries s.config (ending s (ends_at request released)) (without request s.ongoing) (ongoing_of-ending request released s.ongoing) (all-filter (are_known s.config) (λ r. not (r.number == request)) s.ongoing h)
known-asked s user (FloorRequestQuery request) free mine h = known-entries s.config (map entry_of s.ongoing) s.ongoing (ongoing_of-entries s.ongoing) h
known-asked s user (UserQuery beneficiary) free mine h = known-entries s.config (map entry_of s.ongoing) s.ongoing (ongoing_of-entries s.ongoing) h
known-asked s user (FloorQuery floors) free mine h = known-entries s.config (map entry_of s.ongoing) s.ongoing (ongoing_of-entries s.ongoing) h
known-asked s user (ChairAction request verdicts reason) free mine h = by (list_any (λ v. is_final v.1) verdicts)
  where
    t : Conference
    t = reasoned s request reason

    stays : list_all (are_known s.config) t.ongoing ≡ true
    stays = known-reasoned s.config request reason s.ongoing h

    by : (b : Bool) → list_all (are_known s.config) (ongoing_of (cond b (ending t (ends_at request dismissed)) (map (λ r. entry_of (decided_at request verdicts r)) t.ongoing))) ≡ true
    by true =
        known-entries s.config (ending t (ends_at request dismissed)) (without request t.ongoing) (ongoing_of-ending request dismissed t.ongoing) (all-filter (are_known s.config) (λ r. not (r.number == request)) t.ongoing stays)
    by false =
        known-entries s.config (map (λ r. entry_of (decided_at request verdicts r)) t.ongoing) (map (decided_at request verdicts) t.ongoing) (ongoing_of-decided request verdicts t.ongoing)
        (known-decided s.config request verdicts t.ongoing stays)
known-asked s user Hello free mine h = known-entries s.config (map entry_of s.ongoing) s.ongoing (ongoing_of-entries s.ongoing) h

known-message : (s : Conference) (n : Option ℕ) (user : ℕ) (a : Answer) → is_user s.config user ≡ true → list_all (are_known s.config) s.ongoing ≡ true →
    list_all (are_known s.config) (ongoing_of (message_change s n user a).entries) ≡ true
known-message s n user unanswered mine h = known-entries s.config (map entry_of s.ongoing) s.ongoing (ongoing_of-entries s.ongoing) h
known-message s n user (refused code details) mine h = known-entries s.config (map entry_of s.ongoing) s.ongoing (ongoing_of-entries s.ongoing) h
known-message s n user (asks a) mine h = by (refusal s user a) refl
  where
    by : (o : Option ErrorCode) → o ≡ refusal s user a → list_all (are_known s.config) (ongoing_of (cond (is_some o) (no_change s) (asked_change s n user a)).entries) ≡ true
    by None is = known-asked s user a is mine h
    by (Some code) is = known-entries s.config (map entry_of s.ongoing) s.ongoing (ongoing_of-entries s.ongoing) h

-- the sender of a message is a user
sender-known : (s : Conference) (n : ℕ) → is_live s n ≡ true → list_all (is_member_known s.config) s.members ≡ true → is_user s.config (user_of s n) ≡ true
sender-known s n live h = by (member_with s.members n) refl live
  where
    by : (o : Option Member) → member_with s.members n ≡ o → is_some o ≡ true → is_user s.config (option_map_or (λ m. m.user) o 0) ≡ true
    by None is k = cc
    by (Some m) is k = found-passes (λ m. m.n == n && m.is_live) (is_member_known s.config) s.members m h is

known-same : (s : Conference) (e : Event) → keeps_config e ≡ true → list_all (are_known s.config) (ongoing_of (change s e).entries) ≡ true → list_all (are_known (change s e).config) (ongoing_of (change s e).entries) ≡ true
known-same s e keeps h = let P : Configuration → Type 0 = λ config. list_all (are_known config) (ongoing_of (change s e).entries) ≡ true in subst P (sym (config-change s e keeps)) h

known-chair : (config : Configuration) (floor : ℕ) (b : Bool) (rs : List Request) → list_all (are_known config) rs ≡ true → list_all (are_known config) (cond b (map (without_chair floor) rs) rs) ≡ true
known-chair config floor true rs h = all-map (are_known config) (are_known config) (without_chair floor) (λ r. refl) rs ∙ h
known-chair config floor false rs h = h

known-change : (s : Conference) (e : Event) → IsLawful s e → list_all (is_member_known s.config) s.members ≡ true → list_all (are_known s.config) s.ongoing ≡ true →
    list_all (are_known (change s e).config) (ongoing_of (change s e).entries) ≡ true
unfolding change
known-change s (Join user) lawful users h = known-entries s.config (map entry_of s.ongoing) s.ongoing (ongoing_of-entries s.ongoing) h
known-change s (Message n bytes) lawful users h = known-same s (Message n bytes) refl (known-message s (Some n) (user_of s n) (ask bytes (binding s n)) (sender-known s n lawful.1 users) h)
known-change s (Say user bytes) lawful users h = known-same s (Say user bytes) refl (known-message s None user (said bytes (binding_for s user)) lawful.1 h)
known-change s (Took n k) lawful users h = known-entries s.config (map entry_of s.ongoing) s.ongoing (ongoing_of-entries s.ongoing) h
known-change s (Leave n) lawful users h =
    let members : List Member = map (leaving n) s.members in
    known-entries s.config (ending s (ends_without members (user_of s n))) _ (ongoing_of-ends (ends members) released s.ongoing) (all-filter (are_known s.config) (λ r. not (ends members r)) s.ongoing h)
  where
    ends : List Member → Request → Bool
    ends members r = r.beneficiary == user_of s n && not (is_present members (user_of s n))
known-change s (Revoke request) lawful users h =
    known-entries s.config (ending s (ends_at request dismissed)) (without request s.ongoing) (ongoing_of-ending request dismissed s.ongoing) (all-filter (are_known s.config) (λ r. not (r.number == request)) s.ongoing h)
known-change s Close lawful users h = refl
known-change s (AddUser user) lawful users h =
    known-entries (with_user s.config user) (map entry_of s.ongoing) s.ongoing (ongoing_of-entries s.ongoing)
    (list_all_mono (are_known s.config) (are_known (with_user s.config user)) (are_known-more s.config user) s.ongoing h)
known-change s (AddFloor floor) lawful users h = known-entries s.config (map entry_of s.ongoing) s.ongoing (ongoing_of-entries s.ongoing) h
known-change s (SetChair floor chair) lawful users h =
    known-entries s.config (map entry_of (after_set_chair (queue_of s) floor chair).ongoing) (after_set_chair (queue_of s) floor chair).ongoing (ongoing_of-entries (after_set_chair (queue_of s) floor chair).ongoing)
    (known-chair s.config floor (loses_chair s.config.floors floor chair) s.ongoing h)

-- each request's users are users after the event
pub known-next : (s : Conference) (e : Event) → IsLawful s e → list_all (λ m. is_user s.config m.user) s.members ≡ true → list_all (are_known s.config) s.ongoing ≡ true →
    list_all (are_known (next s e).config) (next s e).ongoing ≡ true
unfolding next settled shown
known-next s e lawful users h =
    let config : Configuration = (change s e).config in
    let rs : List Request = ongoing_of (change s e).entries in
    ap (λ (xs : List Request). list_all (are_known config) xs) (ongoing_of-settled config.floors (change s e).entries)
    ∙ all-map (are_known config) (are_known config) (λ r. granted_if (is_due config.floors rs r) r) (λ r. by r (is_due config.floors rs r)) rs
    ∙ known-change s e lawful users h
  where
    by : (r : Request) (b : Bool) → are_known (change s e).config (granted_if b r) ≡ are_known (change s e).config r
    by r true = refl
    by r false = refl
