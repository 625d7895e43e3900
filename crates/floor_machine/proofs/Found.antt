-- Requests and floors that are found by their numbers.
use Rattle.std.proofs.Common.{◌≡◌, ℕ, zero, suc, ◌<◌, Bool, true, false, cond, eqb, List, [], ◌∷◌, length, get_or, Some, refl, sym, ap, subst, ◌∙◌, arith}
use Rattle.std.specs.Prelude.{◌==◌, ◌||◌, ◌&&◌, nat_lt}
use Rattle.std.specs.List.{list_any, list_all}
use Rattle.std.proofs.lemmas.Bool.Decides.{nat_tests}
use Rattle.floor_queue.specs.declared.request.Request.{Request}
use Rattle.floor_queue.specs.declared.requested_floor.RequestedFloor.{RequestedFloor}
use Rattle.floor_queue.specs.Queue.{request_at, is_ascending}

pub and_left : (a b : Bool) → (a && b) ≡ true → a ≡ true
and_left true b h = refl
and_left false b h = h

pub and_right : (a b : Bool) → (a && b) ≡ true → b ≡ true
and_right true b h = h
and_right false b h = cc

pub or_right : (a b : Bool) → b ≡ true → (a || b) ≡ true
or_right true b h = refl
or_right false b h = h

pub same_number : (n : ℕ) → eqb n n ≡ true
same_number n = grind (arith, nat_tests)

above_differs : (a b : ℕ) → nat_lt a b ≡ true → eqb a b ≡ false
above_differs a b h = grind (arith, nat_tests)

-- what holds of each holds at each place
pub list_all_at : {X : Type 0} (p : X → Bool) (xs : List X) (i : ℕ) (d : X) → list_all p xs ≡ true → i < length xs → p (get_or xs i d) ≡ true
list_all_at p [] i d h within = absurd (omega arith)
list_all_at p (x ∷ xs) zero d h within = and_left (p x) (list_all p xs) h
list_all_at p (x ∷ xs) (suc i) d h within = list_all_at p xs i d (and_right (p x) (list_all p xs) h) (omega arith)

-- each request is found by its number
pub request_at_place : (rs : List Request) (i : ℕ) (d : Request) → is_ascending rs ≡ true → i < length rs → request_at rs (get_or rs i d).number ≡ Some (get_or rs i d)
request_at_place [] i d h within = absurd (omega arith)
request_at_place (r ∷ rs) zero d h within = rw (same_number r.number) refl
request_at_place (r ∷ rs) (suc i) d h within =
    let above : nat_lt r.number (get_or rs i d).number ≡ true =
    list_all_at (λ (q : Request). nat_lt r.number q.number) rs i d (and_left (list_all (λ (q : Request). nat_lt r.number q.number) rs) (is_ascending rs) h) (omega arith) in
    rw (above_differs r.number (get_or rs i d).number above)
    (request_at_place rs i d (and_right (list_all (λ (q : Request). nat_lt r.number q.number) rs) (is_ascending rs) h) (omega arith))

equal : (a b : ℕ) → true ≡ (a == b) → a ≡ b
equal a b e = grind (arith, nat_tests)

number_at : (rs : List Request) (k : ℕ) (r : Request) → request_at rs k ≡ Some r → r.number ≡ k
number_at [] k r h = cc
number_at (x ∷ xs) k r h = step (x.number == k) refl h (number_at xs k r)
  where
    step : (b : Bool) → b ≡ (x.number == k) → cond b (Some x) (request_at xs k) ≡ Some r → (request_at xs k ≡ Some r → r.number ≡ k) → r.number ≡ k
    step true e f rest = let same : x ≡ r = cc in ap (λ (y : Request). y.number) (sym same) ∙ equal x.number k e
    step false e f rest = rest f

-- a request that is found by a number is found by its own
pub request_at_own : (rs : List Request) (k : ℕ) (r : Request) → request_at rs k ≡ Some r → request_at rs r.number ≡ Some r
request_at_own [] k r h = cc
request_at_own (q ∷ rs) k r h = by (q.number == k) refl h (request_at_own rs k r)
  where
    own : (b : Bool) → b ≡ (q.number == r.number) → request_at rs r.number ≡ Some r → (b ≡ true → q ≡ r) → cond b (Some q) (request_at rs r.number) ≡ Some r
    own true e rest same = ap (λ (x : Request). Some x) (same refl)
    own false e rest same = rest

    by : (b : Bool) → b ≡ (q.number == k) → cond b (Some q) (request_at rs k) ≡ Some r → (request_at rs k ≡ Some r → request_at rs r.number ≡ Some r) → cond (q.number == r.number) (Some q) (request_at rs r.number) ≡ Some r
    by true e found rest =
        let same : q ≡ r = cc in
        ap (λ (b : Bool). cond b (Some q) (request_at rs r.number)) (ap (λ (x : Request). q.number == x.number) (sym same) ∙ same_number q.number) ∙ found
    by false e found rest = own (q.number == r.number) refl (rest found) (λ same. absurd (other same e (number_at rs k r found)))
      where
        other : (q.number == r.number) ≡ true → false ≡ (q.number == k) → r.number ≡ k → ⊥
        other a b c = grind (arith, nat_tests)

-- a request names each of its floors
pub names_place : (fs : List RequestedFloor) (i : ℕ) (d : RequestedFloor) → i < length fs → list_any (λ f. f.floor == (get_or fs i d).floor) fs ≡ true
names_place [] i d within = absurd (omega arith)
names_place (f ∷ fs) zero d within = rw (same_number f.floor) refl
names_place (f ∷ fs) (suc i) d within = or_right (f.floor == (get_or fs i d).floor) _ (names_place fs i d (omega arith))

-- the request at a place of the ongoing ones is found by its number
pub found_in : (rs xs : List Request) (i : ℕ) (r : Request) → xs ≡ rs → is_ascending rs ≡ true → i < length xs → r ≡ get_or xs i r → request_at rs r.number ≡ Some r
found_in rs xs i r same h within is =
    let P : Request → Type 0 = λ q. request_at rs q.number ≡ Some q in
    let Q : List Request → Type 0 = λ ys. P (get_or ys i r) in
    let W : List Request → Type 0 = λ ys. i < length ys in
    subst P (sym is) (subst Q (sym same) (request_at_place rs i r h (subst W same within)))

-- the request names the floor at a place of its floors
pub names_in : (fs xs : List RequestedFloor) (i : ℕ) (d : RequestedFloor) → xs ≡ fs → i < length xs → list_any (λ f. f.floor == (get_or xs i d).floor) fs ≡ true
names_in fs xs i d same within =
    let Q : List RequestedFloor → Type 0 = λ ys. list_any (λ f. f.floor == (get_or ys i d).floor) fs ≡ true in
    let W : List RequestedFloor → Type 0 = λ ys. i < length ys in
    subst Q (sym same) (names_place fs i d (subst W same within))
