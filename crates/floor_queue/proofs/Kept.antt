-- What each change of the queue keeps.
use Rattle.std.proofs.Common.{◌≡◌, ℕ, ◌+◌, ◌<◌, ◌≤◌, Bool, true, false, cond, List, [], ◌∷◌, ◌++◌, length, refl, sym, ◌∙◌, ap, subst, add-zero, arith, length-append, map}
use Rattle.std.specs.Prelude.{not, ◌&&◌, nat_lt, ◌==◌, filter, if◌then◌else◌, Option, Some, None, IfSome, IsSomeAnd, IsTrue, All}
use Rattle.std.specs.List.{list_any, list_all}
use Rattle.std.specs.Option.{option_map}
use Rattle.std.proofs.lemmas.Bool.{lt-ltb}
use Rattle.std.proofs.lemmas.List.{length-map}
use Rattle.std.proofs.lemmas.List.Folds.{list_all-append}
use Rattle.std.proofs.lemmas.List.Elements.{All-map, All-filter, All-push, All-weaker, All-nil}
use Rattle.std.proofs.lemmas.List.Sums.{sum_by_push, list_all-from_AllPass, length-filter, count_by-le-length}
use Rattle.floor_config.specs.declared.floors.Floor.{Floor}
use Rattle.floor_queue.specs.declared.request.New.{New}
use Rattle.floor_queue.specs.declared.request.Request.{Request}
use Rattle.floor_queue.specs.declared.requested_floor.FloorStatus.TheVariants.{Accepted}
use Rattle.floor_queue.specs.declared.requested_floor.RequestedFloor.{RequestedFloor}
use Rattle.floor_queue.specs.declared.requested_floor.Word.{Word}
use Rattle.floor_queue.specs.Requested.{floor_with_word}
use Rattle.floor_queue.specs.Order.{room_of, names, holders, is_due, granted_if}
use Rattle.floor_queue.specs.Queue.{Queue, IsQueue, IsAddable, IsReason, MaySetFloor, is_ascending, new_of, first_floor, first_request, request_at, with_word, after_add, after_set_floor, after_settle, after_end, after_clear, empty_queue, involves}
use Rattle.floor_queue.proofs.Counts.{and_left, and_right, and_both, count_by-map, count_by-filter}
use Rattle.floor_queue.proofs.Settling.{room-settle}

-- a change of a request that keeps its number and what it was added with, and leaves it with a reason or none
pub record KeepsRequest (f : Request → Request) : Type 0 where
  pub number : (r : Request) → (f r).number ≡ r.number
  pub new : (r : Request) → new_of (f r) ≡ new_of r
  pub reason : (r : Request) → IfSome r.reason IsReason → IfSome (f r).reason IsReason

list_all-map_number : (p : ℕ → Bool) (f : Request → Request) → ((r : Request) → (f r).number ≡ r.number) → (rs : List Request) →
    list_all (λ (r : Request). p r.number) (map f rs) ≡ list_all (λ (r : Request). p r.number) rs
list_all-map_number p f h [] = refl
list_all-map_number p f h (r ∷ rs) = rw (h r, list_all-map_number p f h rs) refl

pub is_ascending-map : (f : Request → Request) → ((r : Request) → (f r).number ≡ r.number) → (rs : List Request) → is_ascending (map f rs) ≡ is_ascending rs
is_ascending-map f h [] = refl
is_ascending-map f h (r ∷ rs) = rw (h r, list_all-map_number (nat_lt r.number) f h rs, is_ascending-map f h rs) refl

pub IsQueue-map : (q : Queue) (f : Request → Request) → KeepsRequest f → ((floor : ℕ) → holders (map f q.ongoing) floor ≤ room_of q.floors floor) → IsQueue q →
    IsQueue (record q { ongoing = map f q.ongoing })
IsQueue-map q f keeps fits h =
    record {
      rooms = h.rooms;
      ascending = is_ascending-map f keeps.number q.ongoing ∙ h.ascending;
      numbers = All-map (λ (r : Request). (1 ≤ r.number) × (r.number ≤ q.given)) f q.ongoing
          (All-weaker (λ (r : Request). (1 ≤ r.number) × (r.number ≤ q.given)) (λ (r : Request). (1 ≤ (f r).number) × ((f r).number ≤ q.given))
          (λ r k. rw (keeps.number r) k) q.ongoing h.numbers);
      few = rw (length-map q.ongoing f) h.few;
      addable = All-map (λ (r : Request). IsAddable q.floors (new_of r)) f q.ongoing
          (All-weaker (λ (r : Request). IsAddable q.floors (new_of r)) (λ (r : Request). IsAddable q.floors (new_of (f r)))
          (λ r k. subst (IsAddable q.floors) (sym (keeps.new r)) k) q.ongoing h.addable);
      reasons = All-map (λ (r : Request). IfSome r.reason IsReason) f q.ongoing
          (All-weaker (λ (r : Request). IfSome r.reason IsReason) (λ (r : Request). IfSome (f r).reason IsReason) keeps.reason q.ongoing h.reasons);
      holders_fit = fits;
    }

-- settling ------------------------------------------------------------------------------------

pub keeps_granted_if : (b : Request → Bool) → KeepsRequest (λ r. granted_if (b r) r)
keeps_granted_if b = record { number = λ r. number (b r) r; new = λ r. new (b r) r; reason = λ r. reason (b r) r }
  where
    number : (b : Bool) (r : Request) → (granted_if b r).number ≡ r.number
    number true r = refl
    number false r = refl

    new : (b : Bool) (r : Request) → new_of (granted_if b r) ≡ new_of r
    new true r = refl
    new false r = refl

    reason : (b : Bool) (r : Request) → IfSome r.reason IsReason → IfSome (granted_if b r).reason IsReason
    reason true r h = h
    reason false r h = h

pub IsQueue-settle : (q : Queue) → IsQueue q → IsQueue (after_settle q)
IsQueue-settle q h =
    IsQueue-map q (λ r. granted_if (is_due q.floors q.ongoing r) r) (keeps_granted_if (is_due q.floors q.ongoing))
    (λ floor. room-settle q.floors q.ongoing floor h.ascending (h.holders_fit floor)) h

-- a chair's word ------------------------------------------------------------------------------

pub floor-floor_with_word : (floor : ℕ) (word : Word) (f : RequestedFloor) → (floor_with_word floor word f).floor ≡ f.floor
floor-floor_with_word floor word f = by (f.floor == floor)
  where
    by : (b : Bool) → (if b then record { floor = f.floor; status = Accepted; word = Some word } else f).floor ≡ f.floor
    by true = refl
    by false = refl

pub list_any-map_same : {X Y : Type 0} (key : X → Y) (p : Y → Bool) (g : X → X) → ((x : X) → key (g x) ≡ key x) → (xs : List X) → list_any (λ x. p (key x)) (map g xs) ≡ list_any (λ x. p (key x)) xs
list_any-map_same key p g h [] = refl
list_any-map_same key p g h (x ∷ xs) = rw (h x, list_any-map_same key p g h xs) refl

pub map-map_key : {X Y : Type 0} (key : X → Y) (g : X → X) → ((x : X) → key (g x) ≡ key x) → (xs : List X) → map key (map g xs) ≡ map key xs
map-map_key key g h [] = refl
map-map_key key g h (x ∷ xs) = rw (h x, map-map_key key g h xs) refl

pub number-with_word : (request floor : ℕ) (word : Word) (r : Request) → (with_word request floor word r).number ≡ r.number
number-with_word request floor word r = by (r.number == request)
  where
    by : (b : Bool) → (if b then record r { floors = map (floor_with_word floor word) r.floors } else r).number ≡ r.number
    by true = refl
    by false = refl

new_of-with_word : (request floor : ℕ) (word : Word) (r : Request) → new_of (with_word request floor word r) ≡ new_of r
new_of-with_word request floor word r = by (r.number == request)
  where
    by : (b : Bool) → new_of (if b then record r { floors = map (floor_with_word floor word) r.floors } else r) ≡ new_of r
    by true = rw (map-map_key (λ (f : RequestedFloor). f.floor) (floor_with_word floor word) (floor-floor_with_word floor word) r.floors) refl
    by false = refl

reason-with_word : (request floor : ℕ) (word : Word) (r : Request) → IfSome r.reason IsReason → IfSome (with_word request floor word r).reason IsReason
reason-with_word request floor word r h = by (r.number == request)
  where
    by : (b : Bool) → IfSome (if b then record r { floors = map (floor_with_word floor word) r.floors } else r).reason IsReason
    by true = h
    by false = h

pub names-with_word : (request floor : ℕ) (word : Word) (id : ℕ) (r : Request) → names (with_word request floor word r) id ≡ names r id
names-with_word request floor word id r = by (r.number == request)
  where
    by : (b : Bool) → names (if b then record r { floors = map (floor_with_word floor word) r.floors } else r) id ≡ names r id
    by true = list_any-map_same (λ (f : RequestedFloor). f.floor) (λ n. n == id) (floor_with_word floor word) (floor-floor_with_word floor word) r.floors
    by false = refl

pub is_granted-with_word : (request floor : ℕ) (word : Word) (r : Request) → (with_word request floor word r).is_granted ≡ r.is_granted
is_granted-with_word request floor word r = by (r.number == request)
  where
    by : (b : Bool) → (if b then record r { floors = map (floor_with_word floor word) r.floors } else r).is_granted ≡ r.is_granted
    by true = refl
    by false = refl

holders-with_word : (request floor : ℕ) (word : Word) (rs : List Request) (id : ℕ) → holders (map (with_word request floor word) rs) id ≡ holders rs id
holders-with_word request floor word rs id =
    count_by-map (λ (q : Request). q.is_granted && names q id) (λ (q : Request). q.is_granted && names q id) (with_word request floor word)
    (λ q. rw (is_granted-with_word request floor word q, names-with_word request floor word id q) refl) rs

pub IsQueue-set_floor : (q : Queue) (request floor : ℕ) (word : Word) → IsQueue q → IsQueue (after_set_floor q request floor word)
IsQueue-set_floor q request floor word h =
    IsQueue-map q (with_word request floor word)
    (record { number = number-with_word request floor word; new = new_of-with_word request floor word; reason = reason-with_word request floor word })
    (λ id. rw (holders-with_word request floor word q.ongoing id) (h.holders_fit id)) h

pub request_at-map : (g : Request → Request) → ((r : Request) → (g r).number ≡ r.number) → (rs : List Request) (k : ℕ) → request_at (map g rs) k ≡ option_map g (request_at rs k)
request_at-map g h [] k = refl
request_at-map g h (r ∷ rs) k =
    let P : ℕ → Type 0 = λ n. cond (n == k) (Some (g r)) (request_at (map g rs) k) ≡ option_map g (cond (r.number == k) (Some r) (request_at rs k)) in
    subst P (sym (h r)) (by (r.number == k) (request_at-map g h rs k))
  where
    by : (b : Bool) → request_at (map g rs) k ≡ option_map g (request_at rs k) → cond b (Some (g r)) (request_at (map g rs) k) ≡ option_map g (cond b (Some r) (request_at rs k))
    by true e = refl
    by false e = e

pub IsSomeAnd-map : {X : Type 0} (P : X → Type 0) (g : X → X) → ((x : X) → P x → P (g x)) → (o : Option X) → IsSomeAnd o P → IsSomeAnd (option_map g o) P
IsSomeAnd-map P g h None k = k
IsSomeAnd-map P g h (Some x) k = h x k

-- where a chair might say a word before another, it still may
pub MaySetFloor-set_floor : (q : Queue) (request floor : ℕ) (word : Word) (other id : ℕ) → MaySetFloor q other id → MaySetFloor (after_set_floor q request floor word) other id
MaySetFloor-set_floor q request floor word other id h =
    let P : Request → Type 0 = λ r. IsTrue (names r id) × IsTrue (not r.is_granted) in
    subst (λ (o : Option Request). IsSomeAnd o P) (sym (request_at-map (with_word request floor word) (number-with_word request floor word) q.ongoing other))
    (IsSomeAnd-map P (with_word request floor word) (λ r k. (names-with_word request floor word id r ∙ k.0, ap not (is_granted-with_word request floor word r) ∙ k.1)) (request_at q.ongoing other) h)

-- a new request -------------------------------------------------------------------------------

pub is_ascending-push : (rs : List Request) (x : Request) → is_ascending rs ≡ true → list_all (λ r. nat_lt r.number x.number) rs ≡ true → is_ascending (rs ++ x ∷ []) ≡ true
is_ascending-push [] x h a = refl
is_ascending-push (r ∷ rs) x h a =
    and_both _ _ (list_all-append (λ (q : Request). nat_lt r.number q.number) rs (x ∷ []) ∙ and_both _ _ (and_left _ _ h) (and_both _ _ (and_left _ _ a) refl))
    (is_ascending-push rs x (and_right _ _ h) (and_right _ _ a))

map-first_floor : (floors : List Floor) (ids : List ℕ) → map (λ (f : RequestedFloor). f.floor) (map (first_floor floors) ids) ≡ ids
map-first_floor floors [] = refl
map-first_floor floors (id ∷ ids) = ap (λ (xs : List ℕ). id ∷ xs) (map-first_floor floors ids)

new_of-first_request : (floors : List Floor) (number : ℕ) (new : New) → new_of (first_request floors number new) ≡ new
new_of-first_request floors number new = ap (λ (ids : List ℕ). record new { floors = ids }) (map-first_floor floors new.floors)

-- all numbers are below the next one
pub all_below : (q : Queue) → IsQueue q → list_all (λ r. nat_lt r.number (q.given + 1)) q.ongoing ≡ true
all_below q h =
    list_all-from_AllPass (λ (r : Request). nat_lt r.number (q.given + 1)) q.ongoing
    (All-weaker (λ (r : Request). (1 ≤ r.number) × (r.number ≤ q.given)) (λ (r : Request). nat_lt r.number (q.given + 1) ≡ true) (λ r k. lt-ltb r.number (q.given + 1) (omega (arith, k.1))) q.ongoing h.numbers)

pub IsQueue-add : (q : Queue) (new : New) → IsQueue q → length q.ongoing < 256 → IsAddable q.floors new → IsQueue (after_add q new)
IsQueue-add q new h few addable =
    record {
      rooms = h.rooms;
      ascending = is_ascending-push q.ongoing (first_request q.floors (q.given + 1) new) h.ascending (all_below q h);
      numbers = All-push (λ (r : Request). (1 ≤ r.number) × (r.number ≤ q.given + 1)) q.ongoing (first_request q.floors (q.given + 1) new)
          (All-weaker (λ (r : Request). (1 ≤ r.number) × (r.number ≤ q.given)) (λ (r : Request). (1 ≤ r.number) × (r.number ≤ q.given + 1)) (λ r k. (k.0, omega (arith, k.1))) q.ongoing h.numbers)
          (omega arith, omega arith);
      few = omega (arith, length-append q.ongoing (first_request q.floors (q.given + 1) new ∷ []));
      addable = All-push (λ (r : Request). IsAddable q.floors (new_of r)) q.ongoing (first_request q.floors (q.given + 1) new) h.addable
          (subst (IsAddable q.floors) (sym (new_of-first_request q.floors (q.given + 1) new)) addable);
      reasons = All-push (λ (r : Request). IfSome r.reason IsReason) q.ongoing (first_request q.floors (q.given + 1) new) h.reasons tt;
      holders_fit = λ id. rw (sum_by_push (λ (r : Request). cond (r.is_granted && names r id) 1 0) q.ongoing (first_request q.floors (q.given + 1) new), add-zero (holders q.ongoing id)) (h.holders_fit id);
    }

-- an ended request ----------------------------------------------------------------------------

list_all-filter : {X : Type 0} (p t : X → Bool) (xs : List X) → list_all p xs ≡ true → list_all p (filter t xs) ≡ true
list_all-filter p t [] h = refl
list_all-filter p t (x ∷ xs) h = by (t x) (list_all-filter p t xs (and_right _ _ h))
  where
    by : (b : Bool) → list_all p (filter t xs) ≡ true → list_all p (cond b (x ∷ filter t xs) (filter t xs)) ≡ true
    by true rest = and_both _ _ (and_left _ _ h) rest
    by false rest = rest

pub is_ascending-filter : (t : Request → Bool) (rs : List Request) → is_ascending rs ≡ true → is_ascending (filter t rs) ≡ true
is_ascending-filter t [] h = refl
is_ascending-filter t (r ∷ rs) h = by (t r) (is_ascending-filter t rs (and_right _ _ h))
  where
    by : (b : Bool) → is_ascending (filter t rs) ≡ true → is_ascending (cond b (r ∷ filter t rs) (filter t rs)) ≡ true
    by true rest = and_both _ _ (list_all-filter (λ (q : Request). nat_lt r.number q.number) t rs (and_left _ _ h)) rest
    by false rest = rest

-- of the requests those that pass a test are left
pub IsQueue-filter : (q : Queue) (t : Request → Bool) → IsQueue q → IsQueue (record q { ongoing = filter t q.ongoing })
IsQueue-filter q t h =
    record {
      rooms = h.rooms;
      ascending = is_ascending-filter t q.ongoing h.ascending;
      numbers = All-filter t (λ (r : Request). (1 ≤ r.number) × (r.number ≤ q.given)) q.ongoing h.numbers;
      few = omega (arith, length-filter t q.ongoing, count_by-le-length t q.ongoing, h.few);
      addable = All-filter t (λ (r : Request). IsAddable q.floors (new_of r)) q.ongoing h.addable;
      reasons = All-filter t (λ (r : Request). IfSome r.reason IsReason) q.ongoing h.reasons;
      holders_fit = λ id. omega (arith, count_by-filter (λ (r : Request). r.is_granted && names r id) t q.ongoing, h.holders_fit id);
    }

pub IsQueue-end : (q : Queue) (request : ℕ) → IsQueue q → IsQueue (after_end q request)
IsQueue-end q request h = IsQueue-filter q (λ r. not (r.number == request)) h

-- no request -----------------------------------------------------------------------------------

pub IsQueue-clear : (q : Queue) → IsQueue q → IsQueue (after_clear q)
IsQueue-clear q h =
    record {
      rooms = h.rooms;
      ascending = refl;
      numbers = All-nil (λ (r : Request). (1 ≤ r.number) × (r.number ≤ q.given));
      few = omega arith;
      addable = All-nil (λ (r : Request). IsAddable q.floors (new_of r));
      reasons = All-nil (λ (r : Request). IfSome r.reason IsReason);
      holders_fit = λ id. omega arith;
    }

pub IsQueue-empty : (floors : List Floor) → All (λ f. 1 ≤ f.room) floors → IsQueue (empty_queue floors)
IsQueue-empty floors rooms =
    record {
      rooms = rooms;
      ascending = refl;
      numbers = All-nil (λ (r : Request). (1 ≤ r.number) × (r.number ≤ 0));
      few = omega arith;
      addable = All-nil (λ (r : Request). IsAddable floors (new_of r));
      reasons = All-nil (λ (r : Request). IfSome r.reason IsReason);
      holders_fit = λ id. omega arith;
    }

-- the users of a request stay ------------------------------------------------------------------

pub involves-with_word : (request floor : ℕ) (word : Word) (r : Request) (user : ℕ) → involves (with_word request floor word r) user ≡ involves r user
involves-with_word request floor word r user = by (r.number == request)
  where
    by : (b : Bool) → involves (if b then record r { floors = map (floor_with_word floor word) r.floors } else r) user ≡ involves r user
    by true = refl
    by false = refl

pub involves-granted_if : (b : Bool) (r : Request) (user : ℕ) → involves (granted_if b r) user ≡ involves r user
involves-granted_if true r user = refl
involves-granted_if false r user = refl
