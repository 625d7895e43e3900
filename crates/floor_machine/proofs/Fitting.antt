-- What the machine tells shows no more than a conference has.
use Rattle.std.proofs.Common.{◌≡◌, ℕ, zero, suc, ◌^◌, ◌<◌, ◌≤◌, Bool, true, false, cond, List, [], ◌∷◌, ◌++◌, length, get_or, take, map, Option, Some, None, refl, sym, ap, subst, arith}
use Rattle.std.specs.Prelude.{◌==◌, ◌||◌, All, filter, find, IfOk, IfSome, OnOk, IsTrue, Result, Ok, Err, option_and_then}
use Rattle.std.specs.List.{list_any}
use Rattle.std.proofs.lemmas.Bool.{eqb-true}
use Rattle.std.proofs.lemmas.List.{length-map}
use Rattle.std.proofs.lemmas.List.Elements.{All-nil, All-cons, All-append, All-filter, All-map}
use Rattle.floor_config.specs.Configuration.{Configuration, IsConfiguration, IsUser, IsFloor}
use Rattle.floor_config.specs.declared.floors.Floor.{Floor}
use Rattle.floor_config.specs.declared.users.User.{User}
use Rattle.floor_config.specs.Lookup.{is_floor, user_with}
use Rattle.floor_queue.specs.declared.request.Request.{Request}
use Rattle.floor_queue.specs.declared.requested_floor.RequestedFloor.{RequestedFloor}
use Rattle.floor_queue.specs.Queue.{Queue, IsQueue, IsReason, request_at}
use Rattle.floor_message.specs.Shown.{AreShown, IsDescribed, IsNamed, IsShown, IsShownInfo}
use Rattle.floor_message.specs.declared.information.Info.{Info}
use Rattle.floor_machine.specs.Shown.{Entry, info, info_of, named, described, floor_shown}
use Rattle.floor_machine.specs.Reply.{infos_on}
use Rattle.floor_machine.specs.steps.Telling.{AreInfos, floor_update}
use Rattle.floor_machine.specs.steps.Fitting.{AreFloorsShown, HasNumbers, IsFit}

-- what holds of all holds of the one that is found
pub find_all : {A : Type 0} (P : A → Type 0) (p : A → Bool) (xs : List A) → All P xs → IfSome (find p xs) P
find_all P p [] h = tt
find_all P p (x ∷ xs) h = here (p x) (h 0 x (omega arith)) (find_all P p xs (λ k d l. h (suc k) d (omega arith)))
  where
    here : (b : Bool) → P x → IfSome (find p xs) P → IfSome (cond b (Some x) (find p xs)) P
    here true own rest = own
    here false own rest = rest

pub found_all : {A : Type 0} (P : A → Type 0) (p : A → Bool) (xs : List A) (x : A) → All P xs → find p xs ≡ Some x → P x
found_all {A = A} P p xs x h e = let Q : Option A → Type 0 = λ o. IfSome o P in subst Q e (find_all P p xs h)

name_fits : (o : Option User) → IfSome o IsUser → IfSome (option_and_then (λ user. user.name) o) (λ name. length name ≤ 30)
name_fits None h = tt
name_fits (Some user) h = text user.name h.name
  where
    text : (o : Option (List ℕ)) → IfSome o (λ t. (1 ≤ length t) × (length t ≤ 30)) → IfSome o (λ t. length t ≤ 30)
    text None h = tt
    text (Some t) h = h.1

uri_fits : (o : Option User) → IfSome o IsUser → IfSome (option_and_then (λ user. user.uri) o) (λ uri. length uri ≤ 62)
uri_fits None h = tt
uri_fits (Some user) h = text user.uri h.uri
  where
    text : (o : Option (List ℕ)) → IfSome o (λ t. (1 ≤ length t) × (length t ≤ 62)) → IfSome o (λ t. length t ≤ 62)
    text None h = tt
    text (Some t) h = h.1

-- a user is shown by a name that fits
pub named_fits : (config : Configuration) (id : ℕ) → IsConfiguration config → id < 2 ^ 16 → IsNamed (named config id)
named_fits config id h range = record {
  user = range;
  name = name_fits (user_with config id) (find_all IsUser (λ user. user.id == id) config.users h.users);
  no_uri = refl;
}

pub described_fits : (config : Configuration) (id : ℕ) → IsConfiguration config → id < 2 ^ 16 → IsDescribed (described config id)
described_fits config id h range = record {
  user = range;
  name = name_fits (user_with config id) (find_all IsUser (λ user. user.id == id) config.users h.users);
  uri = uri_fits (user_with config id) (find_all IsUser (λ user. user.id == id) config.users h.users);
}

-- a floor of the conference has a number of 16 bits
floor_range : (floors : List Floor) (floor : ℕ) → All IsFloor floors → IsTrue (is_floor floors floor) → floor < 2 ^ 16
floor_range [] floor h known = absurd (let no : ⊥ = cc in no)
floor_range (f ∷ floors) floor h known = here (f.id == floor) refl (floor_range floors floor (λ k d l. h (suc k) d (omega arith))) known
  where
    here : (b : Bool) → b ≡ (f.id == floor) → (IsTrue (is_floor floors floor) → floor < 2 ^ 16) → IsTrue (b || is_floor floors floor) → floor < 2 ^ 16
    here true e rest known =
        let own : f.id ≤ 65535 = (h 0 f (omega arith)).id in
        let same : f.id ≡ floor = eqb-true f.id floor (sym e) in
        omega (arith, own, same)
    here false e rest known = rest known

floors_range : (floors : List Floor) (config : Configuration) (ongoing : List Request) (e : Entry) (fs : List RequestedFloor) → All IsFloor floors →
    All (λ floor. IsTrue (is_floor floors floor)) (map (λ f. f.floor) fs) → All (λ f. f.0 < 2 ^ 16) (map (floor_shown config.floors ongoing e) fs)
floors_range floors config ongoing e [] h known = All-nil (λ f. f.0 < 2 ^ 16)
floors_range floors config ongoing e (f ∷ fs) h known =
    All-cons (λ f. f.0 < 2 ^ 16) (floor_shown config.floors ongoing e f) (map (floor_shown config.floors ongoing e) fs)
    (floor_range floors f.floor h (known 0 f.floor (omega arith)))
    (floors_range floors config ongoing e fs h (λ k d l. known (suc k) d (omega arith)))

requester_fits : (config : Configuration) (b : Bool) (id : ℕ) → IsConfiguration config → id < 2 ^ 16 → IfSome (cond b None (Some (named config id))) IsNamed
requester_fits config true id h range = tt
requester_fits config false id h range = named_fits config id h range

text_fits : (o : Option (List ℕ)) → IfSome o (λ t. (1 ≤ length t) × (length t ≤ 62)) → IfSome o (λ t. length t ≤ 62)
text_fits None h = tt
text_fits (Some t) h = h.1

reason_fits : (o : Option (List ℕ)) → IfSome o IsReason → IfSome o (λ t. length t ≤ 30)
reason_fits None h = tt
reason_fits (Some t) h = h.short

-- what is shown of a request that is fit is no more than a conference has
pub info_fits : (config : Configuration) (ongoing : List Request) (e : Entry) → IsConfiguration config → HasNumbers e.request → IsFit config.floors e.request →
    IsShownInfo (info_of config ongoing e)
unfolding info_of
info_fits config ongoing e h numbers fit = record {
  request = numbers.number;
  reason = reason_fits e.request.reason fit.reason;
  floors = floors_range config.floors config ongoing e e.request.floors h.floors fit.addable.floors_known;
  few = omega (arith, fit.addable.floors_most, length-map e.request.floors (λ (f : RequestedFloor). f.floor), length-map e.request.floors (floor_shown config.floors ongoing e));
  beneficiary = named_fits config e.request.beneficiary h numbers.beneficiary;
  requester = requester_fits config (e.request.requester == e.request.beneficiary) e.request.requester h numbers.requester;
  priority = fit.addable.priority;
  text = text_fits e.request.info fit.addable.info;
}

-- a call that gives what is shown of such a request gives what fits
pub info_given : {E : Type 0} (r : Result Info E) (config : Configuration) (ongoing : List Request) (e : Entry) → IfOk r (λ i. i ≡ info_of config ongoing e) →
    OnOk r (IsConfiguration config) → OnOk r (HasNumbers e.request) → IsFit config.floors e.request → IfOk r IsShownInfo
info_given (Ok i) config ongoing e same h numbers addable = subst IsShownInfo (sym same) (info_fits config ongoing e h numbers addable)
info_given (Err x) config ongoing e same h numbers addable = tt

-- an ongoing request is fit
pub ongoing_addable : (q : Queue) (floors : List Floor) (k : ℕ) (r : Request) → IsQueue q → q.floors ≡ floors → request_at q.ongoing k ≡ Some r → IsFit floors r
ongoing_addable q floors k r h same found =
    let P : List Floor → Type 0 = λ fs. IsFit fs r in
    subst P same
    (found_all (λ r. IsFit q.floors r) (λ r. r.number == k) q.ongoing r (λ i d within. record { addable = h.addable i d within; reason = h.reasons i d within }) found)

length-filter_le : {A : Type 0} (p : A → Bool) (xs : List A) → length (filter p xs) ≤ length xs
length-filter_le p [] = omega arith
length-filter_le p (x ∷ xs) = here (p x) (length-filter_le p xs)
  where
    here : (b : Bool) → length (filter p xs) ≤ length xs → length (cond b (x ∷ filter p xs) (filter p xs)) ≤ suc (length xs)
    here true h = omega (arith, h)
    here false h = omega (arith, h)

length-take_le : {A : Type 0} (i : ℕ) (xs : List A) → length (take i xs) ≤ length xs
length-take_le zero xs = omega arith
length-take_le (suc i) [] = omega arith
length-take_le (suc i) (x ∷ xs) = let rest = length-take_le i xs in omega (arith, rest)

-- some of the infos that a conference has are no more than it has
pub some_fit : (p : Info → Bool) (infos : List Info) → AreShown infos → AreShown (filter p infos)
some_fit p infos h = record {
  each = All-filter p IsShownInfo infos h.each;
  few = omega (arith, h.few, length-filter_le p infos);
}

-- what is shown of the ongoing requests is no more than a conference has
pub infos_shown : (config : Configuration) (ongoing : List Request) (shown : List Info) → AreInfos config ongoing shown → length ongoing ≤ 256 → AreShown shown
infos_shown config ongoing shown h few = record {
  each = h.fit;
  few = omega (arith, ap length h.infos, length-map ongoing (info config ongoing), few);
}

pub infos_on_fit : (floor : ℕ) (infos : List Info) → AreShown infos → AreShown (infos_on floor infos)
infos_on_fit floor infos h = some_fit (λ i. list_any (λ f. f.0 == floor) i.floors) infos h

-- the statuses of floors of the conference
pub floors_fit : (now : List Info) (floors : List Floor) → All IsFloor floors → AreShown now → AreFloorsShown (map (floor_update now) floors)
floors_fit now floors h shown =
    All-map (λ u. IsShown u.tell) (floor_update now) floors
    (λ k d l. let own = h k d l in (omega (arith, own.id), infos_on_fit (get_or floors k d).id now shown))

-- what holds of all and of one more holds of all and it
pub all_more : {A : Type 0} (P : A → Type 0) (xs : List A) (x : A) → All P xs → P x → All P (xs ++ x ∷ [])
all_more P xs x h own = All-append P xs (x ∷ []) h (All-cons P x [] own (All-nil P))
