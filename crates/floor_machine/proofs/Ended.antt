-- Of ascending requests, those that pass a test end one after another.
use Rattle.std.proofs.Common.{◌≡◌, ℕ, ◌<◌, Bool, true, false, cond, List, [], ◌∷◌, length, map, Some, None, refl, sym, ap, ◌∙◌, arith}
use Rattle.std.specs.Prelude.{◌==◌, not, nat_lt, filter, find, option_map}
use Rattle.std.specs.List.{list_all}
use Rattle.std.proofs.lemmas.Bool.Decides.{nat_tests}
use Rattle.floor_queue.specs.declared.request.Request.{Request}
use Rattle.floor_queue.specs.Queue.{request_at, numbers_of, is_ascending, without}
use Rattle.floor_message.specs.declared.status.RequestStatus.{RequestStatus}
use Rattle.floor_machine.specs.Shown.{Entry, ongoing_of}
use Rattle.floor_machine.specs.steps.Serving.{ended_of, numbers_in}
use Rattle.floor_machine.proofs.Found.{and_left, and_right}

-- the first request that passes, of which k is the number, and what is left without it
pub record IsFirst (p : Request → Bool) (rs : List Request) (k : ℕ) : Type 0 where
  pub request : Request
  pub found : request_at rs k ≡ Some request
  pub passing : filter p rs ≡ request ∷ filter p (without k rs)
  pub others : filter (λ r. not (p r)) rs ≡ filter (λ r. not (p r)) (without k rs)
  pub fewer : length (without k rs) < length rs

-- a number above all is above that of the first request that passes
first-above : (p : Request → Bool) (n k : ℕ) (rs : List Request) → list_all (λ q. nat_lt n q.number) rs ≡ true → Some k ≡ option_map (λ r. r.number) (find p rs) → nat_lt n k ≡ true
first-above p n k [] h e = cc
first-above p n k (r ∷ rs) h e = by (p r) e (first-above p n k rs (and_right _ _ h))
  where
    by : (b : Bool) → Some k ≡ option_map (λ q. q.number) (cond b (Some r) (find p rs)) → (Some k ≡ option_map (λ q. q.number) (find p rs) → nat_lt n k ≡ true) → nat_lt n k ≡ true
    by true e rest = let same : k ≡ r.number = cc in ap (nat_lt n) same ∙ and_left _ _ h
    by false e rest = rest e

other_number : (k n : ℕ) → nat_lt k n ≡ true → (n == k) ≡ false
other_number k n h = grind (arith, nat_tests)

-- where all have higher numbers, none is left out
without-higher : (k : ℕ) (rs : List Request) → list_all (λ q. nat_lt k q.number) rs ≡ true → without k rs ≡ rs
without-higher k [] h = refl
without-higher k (r ∷ rs) h = rw (other_number k r.number (and_left _ _ h)) (ap (λ (qs : List Request). r ∷ qs) (without-higher k rs (and_right _ _ h)))

-- the first request that passes is found by its number
pub first-passing : (p : Request → Bool) (rs : List Request) (k : ℕ) → is_ascending rs ≡ true → Some k ≡ option_map (λ r. r.number) (find p rs) → IsFirst p rs k
first-passing p [] k h e = cc
first-passing p (r ∷ rs) k h e = by (p r) refl e (first-passing p rs k (and_right _ _ h))
  where
    equal : (a b : ℕ) → a ≡ b → (b == a) ≡ true
    equal a b e = grind (arith, nat_tests)

    lower : (a b : ℕ) → nat_lt a b ≡ true → (a == b) ≡ false
    lower a b e = grind (arith, nat_tests)

    own : p r ≡ true → k ≡ r.number → IsFirst p (r ∷ rs) k
    own passes same =
        let here : (r.number == k) ≡ true = equal k r.number same in
        let left : without k rs ≡ rs = without-higher k rs (ap (λ (n : ℕ). list_all (λ q. nat_lt n q.number) rs) same ∙ and_left _ _ h) in
        record {
          request = r;
          found = rw here refl;
          passing = rw (here, passes, left) refl;
          others = rw (here, passes, left) refl;
          fewer = rw (here, left) (omega arith);
        }

    later : p r ≡ false → (r.number == k) ≡ false → IsFirst p rs k → IsFirst p (r ∷ rs) k
    later fails there rest = record {
      request = rest.request;
      found = rw there rest.found;
      passing = rw (there, fails) rest.passing;
      others = rw (there, fails) (ap (λ (qs : List Request). r ∷ qs) rest.others);
      fewer = rw there (omega (arith, rest.fewer));
    }

    by : (b : Bool) → b ≡ p r → Some k ≡ option_map (λ q. q.number) (cond b (Some r) (find p rs)) → (Some k ≡ option_map (λ q. q.number) (find p rs) → IsFirst p rs k) → IsFirst p (r ∷ rs) k
    by true passes e rest = own (sym passes) cc
    by false fails e rest = later (sym fails) (lower r.number k (first-above p r.number k rs (and_left _ _ h) e)) (rest e)

-- where none is found, none passes
pub none-passing : (p : Request → Bool) (rs : List Request) → None ≡ option_map (λ r. r.number) (find p rs) → filter p rs ≡ []
none-passing p [] e = refl
none-passing p (r ∷ rs) e = by (p r) e (none-passing p rs)
  where
    by : (b : Bool) → None ≡ option_map (λ q. q.number) (cond b (Some r) (find p rs)) → (None ≡ option_map (λ q. q.number) (find p rs) → filter p rs ≡ []) → cond b (r ∷ filter p rs) (filter p rs) ≡ []
    by true e rest = cc
    by false e rest = rest e

-- where none is found, all are left
pub all-left : (p : Request → Bool) (rs : List Request) → None ≡ option_map (λ r. r.number) (find p rs) → filter (λ r. not (p r)) rs ≡ rs
all-left p [] e = refl
all-left p (r ∷ rs) e = by (p r) e (all-left p rs)
  where
    by : (b : Bool) → None ≡ option_map (λ q. q.number) (cond b (Some r) (find p rs)) → (None ≡ option_map (λ q. q.number) (find p rs) → filter (λ q. not (p q)) rs ≡ rs) →
        cond (not b) (r ∷ filter (λ q. not (p q)) rs) (filter (λ q. not (p q)) rs) ≡ r ∷ rs
    by true e rest = cc
    by false e rest = ap (λ (qs : List Request). r ∷ qs) (rest e)

-- a request, which ends where it passes
abbrev pub ending_if : (Request → Bool) → (Request → RequestStatus) → Request → Entry
ending_if p how r = record { request = r; ending = cond (p r) (Some (how r)) None }

-- a request that ended, as an entry
abbrev pub ended_entry : (Request → RequestStatus) → Request → Entry
ended_entry how r = record { request = r; ending = Some (how r) }

-- those that don't pass are ongoing
pub ongoing_of-ends : (p : Request → Bool) (how : Request → RequestStatus) (rs : List Request) → ongoing_of (map (ending_if p how) rs) ≡ filter (λ r. not (p r)) rs
ongoing_of-ends p how [] = refl
ongoing_of-ends p how (r ∷ rs) = by (p r) (ongoing_of-ends p how rs)
  where
    by : (b : Bool) → ongoing_of (map (ending_if p how) rs) ≡ filter (λ q. not (p q)) rs →
        ongoing_of (record { request = r; ending = cond b (Some (how r)) None } ∷ map (ending_if p how) rs) ≡ cond (not b) (r ∷ filter (λ q. not (p q)) rs) (filter (λ q. not (p q)) rs)
    by true h = h
    by false h = ap (λ (qs : List Request). r ∷ qs) h

-- those that pass have ended
pub ended_of-ends : (p : Request → Bool) (how : Request → RequestStatus) (rs : List Request) → ended_of (map (ending_if p how) rs) ≡ map (ended_entry how) (filter p rs)
ended_of-ends p how [] = refl
ended_of-ends p how (r ∷ rs) = by (p r) (ended_of-ends p how rs)
  where
    by : (b : Bool) → ended_of (map (ending_if p how) rs) ≡ map (ended_entry how) (filter p rs) →
        ended_of (record { request = r; ending = cond b (Some (how r)) None } ∷ map (ending_if p how) rs) ≡ map (ended_entry how) (cond b (r ∷ filter p rs) (filter p rs))
    by true h = ap (λ (es : List Entry). ended_entry how r ∷ es) h
    by false h = h

-- all keep their numbers
pub numbers_in-ends : (p : Request → Bool) (how : Request → RequestStatus) (rs : List Request) → numbers_in (map (ending_if p how) rs) ≡ numbers_of rs
numbers_in-ends p how [] = refl
numbers_in-ends p how (r ∷ rs) = ap (λ (ns : List ℕ). r.number ∷ ns) (numbers_in-ends p how rs)
