-- The requests that name a floor are those in its line.
use Rattle.std.proofs.Common.{◌≡◌, ℕ, ◌+◌, Bool, true, false, List, [], ◌∷◌, length, refl, sym, ◌∙◌, ap, arith}
use Rattle.std.specs.Prelude.{◌&&◌, ◌||◌, ◌==◌, if◌then◌else◌, not, nat_lt, count_by, find, is_some, Option, Some, None}
use Rattle.std.specs.List.{list_any, list_all}
use Rattle.std.specs.Option.{option_map_or}
use Rattle.std.proofs.lemmas.Bool.Decides.{nat_tests}
use Rattle.floor_config.specs.declared.floors.Floor.{Floor}
use Rattle.floor_queue.specs.declared.request.Request.{Request}
use Rattle.floor_queue.specs.Order.{names}
use Rattle.floor_queue.specs.Queue.{IsQueue, Queue, are_ascending}
use Rattle.floor_queue.specs.steps.Lines.{AreLines, FloorLine, IsLine, is_lined, rank_of}
use Rattle.floor_queue.specs.steps.Numbers.{ascend}
use Rattle.floor_queue.proofs.Counts.{and_left, and_right, count-cons, count_none}
use Rattle.floor_queue.proofs.Earlier.{IsAmong}
use Rattle.floor_queue.proofs.Lining.{found_line, has_line}
use Rattle.floor_queue.proofs.Places.{none_any}

-- some element passes exactly where the count of those that do isn't 0
any-count : {A : Type 0} (p : A → Bool) (xs : List A) → list_any p xs ≡ nat_lt 0 (count_by p xs)
any-count p [] = refl
any-count p (x ∷ xs) = by (p x) (any-count p xs) ∙ ap (nat_lt 0) (sym (count-cons p x xs))
  where
    some : (n : ℕ) → true ≡ nat_lt 0 (1 + n)
    some n = grind (arith, nat_tests)

    same : (n : ℕ) → n ≡ 0 + n
    same n = omega arith

    by : (b : Bool) → list_any p xs ≡ nat_lt 0 (count_by p xs) → (b || list_any p xs) ≡ nat_lt 0 ((if b then 1 else 0) + count_by p xs)
    by true rest = some (count_by p xs)
    by false rest = rest ∙ ap (nat_lt 0) (same (count_by p xs))

-- so as many that pass are some where others are
any-counted : {A B : Type 0} (p : A → Bool) (q : B → Bool) (xs : List A) (ys : List B) → count_by p xs ≡ count_by q ys → list_any p xs ≡ list_any q ys
any-counted p q xs ys h = any-count p xs ∙ ap (nat_lt 0) h ∙ sym (any-count q ys)

any-alike : {A : Type 0} (p q : A → Bool) → ((x : A) → p x ≡ q x) → (xs : List A) → list_any p xs ≡ list_any q xs
any-alike p q same xs = (λ i. list_any (λ x. same x i) xs)

-- no request passes of which none that is among them does
nowhere : (p : Request → Bool) (rs : List Request) → ((r : Request) → IsAmong rs r → p r ≡ true → true ≡ false) → list_any p rs ≡ false
nowhere p [] none = refl
nowhere p (x ∷ xs) none = by (p x) refl (nowhere p xs (λ r among e. none r (λ t all. among t (and_right _ _ all)) e))
  where
    by : (b : Bool) → p x ≡ b → list_any p xs ≡ false → (b || list_any p xs) ≡ false
    by true e rest = none x (λ t all. and_left _ _ all) e
    by false e rest = rest

rank-number : (floors : List Floor) (r : Request) → (rank_of floors r).number ≡ r.number
unfolding rank_of
rank-number floors r = refl

line-numbers : (floors : List Floor) (rs : List Request) (l : FloorLine) (k : ℕ) → IsLine floors rs l →
    list_any (λ x. x.number == k) l.ranks ≡ list_any (λ r. r.number == k && names r l.floor) rs
line-numbers floors rs l k h =
    any-counted (λ x. x.number == k) (λ r. names r l.floor && (rank_of floors r).number == k) l.ranks rs (h.counts (λ x. x.number == k))
    ∙ any-alike (λ r. names r l.floor && (rank_of floors r).number == k) (λ r. r.number == k && names r l.floor)
    (λ r. ap (λ (n : ℕ). names r l.floor && n == k) (rank-number floors r) ∙ turned (names r l.floor) (r.number == k)) rs
  where
    turned : (a b : Bool) → (a && b) ≡ (b && a)
    turned true true = refl
    turned true false = refl
    turned false true = refl
    turned false false = refl

-- no request names a floor without a line
unlined : (q : Queue) (lines : List FloorLine) (p : Request → Bool) (floor : ℕ) → IsQueue q → AreLines q.floors q.ongoing lines → find (λ l. l.floor == floor) lines ≡ None →
    list_any (λ r. p r && names r floor) q.ongoing ≡ false
unlined q lines p floor h l e =
    nowhere (λ r. p r && names r floor) q.ongoing
    (λ r among passes. sym (has_line q lines r floor h l among (and_right (p r) (names r floor) passes)) ∙ ap (λ (o : Option FloorLine). is_some o) e)

-- the number of a request that names the floor is one of those in its line
floor-numbers : (q : Queue) (lines : List FloorLine) (k floor : ℕ) → IsQueue q → AreLines q.floors q.ongoing lines → is_lined lines k floor ≡ list_any (λ r. r.number == k && names r floor) q.ongoing
floor-numbers q lines k floor h l = by (find (λ l. l.floor == floor) lines) refl
  where
    by : (o : Option FloorLine) → find (λ l. l.floor == floor) lines ≡ o →
        option_map_or (λ x. list_any (λ y. y.number == k) x.ranks) o false ≡ list_any (λ r. r.number == k && names r floor) q.ongoing
    by None e = sym (unlined q lines (λ r. r.number == k) floor h l e)
    by (Some x) e =
        let found : IsLine q.floors q.ongoing x × (x.floor ≡ floor) = found_line floor (IsLine q.floors q.ongoing) lines x l.each e in
        line-numbers q.floors q.ongoing x k found.0 ∙ ap (λ (id : ℕ). list_any (λ r. r.number == k && names r id) q.ongoing) found.1

any-either : (p a b : Request → Bool) (rs : List Request) → (list_any (λ r. p r && a r) rs || list_any (λ r. p r && b r) rs) ≡ list_any (λ r. p r && (a r || b r)) rs
any-either p a b [] = refl
any-either p a b (r ∷ rs) = by (p r) (a r) (b r) (any-either p a b rs)
  where
    whatever : (x : Bool) → (x || true) ≡ true
    whatever true = refl
    whatever false = refl

    by : (c d e : Bool) → (list_any (λ r. p r && a r) rs || list_any (λ r. p r && b r) rs) ≡ list_any (λ r. p r && (a r || b r)) rs →
        ((c && d || list_any (λ r. p r && a r) rs) || (c && e || list_any (λ r. p r && b r) rs)) ≡ (c && (d || e) || list_any (λ r. p r && (a r || b r)) rs)
    by true true e rest = refl
    by true false true rest = whatever (list_any (λ r. p r && a r) rs)
    by true false false rest = rest
    by false d e rest = rest

any-none : (p : Request → Bool) (rs : List Request) → list_any (λ r. p r && false) rs ≡ false
any-none p [] = refl
any-none p (r ∷ rs) = by (p r) (any-none p rs)
  where
    by : (b : Bool) → list_any (λ r. p r && false) rs ≡ false → (b && false || list_any (λ r. p r && false) rs) ≡ false
    by true rest = rest
    by false rest = rest

-- the numbers in the lines of some floors are those of the requests that name one of them
pub floors-numbers : (q : Queue) (lines : List FloorLine) (k : ℕ) (floors : List ℕ) → IsQueue q → AreLines q.floors q.ongoing lines →
    list_any (is_lined lines k) floors ≡ list_any (λ r. r.number == k && list_any (names r) floors) q.ongoing
floors-numbers q lines k [] h l = sym (any-none (λ r. r.number == k) q.ongoing)
floors-numbers q lines k (f ∷ fs) h l =
    ap (λ (b : Bool). b || list_any (is_lined lines k) fs) (floor-numbers q lines k f h l)
    ∙ ap (λ (b : Bool). list_any (λ r. r.number == k && names r f) q.ongoing || b) (floors-numbers q lines k fs h l)
    ∙ any-either (λ r. r.number == k) (λ r. names r f) (λ r. list_any (names r) fs) q.ongoing

length-count : {A : Type 0} (xs : List A) → length xs ≡ count_by (λ x. true) xs
length-count [] = refl
length-count (x ∷ xs) = omega (arith, length-count xs, count-cons (λ x. true) x xs)

count-alike : {A : Type 0} (p q : A → Bool) → ((x : A) → p x ≡ q x) → (xs : List A) → count_by p xs ≡ count_by q xs
count-alike p q same xs = (λ i. count_by (λ x. same x i) xs)

-- a line has a rank for each request that names its floor
pub line-count : (q : Queue) (lines : List FloorLine) (floor : ℕ) (x : FloorLine) → AreLines q.floors q.ongoing lines → find (λ l. l.floor == floor) lines ≡ Some x →
    length x.ranks ≡ count_by (λ r. names r floor) q.ongoing
line-count q lines floor x l e =
    let found : IsLine q.floors q.ongoing x × (x.floor ≡ floor) = found_line floor (IsLine q.floors q.ongoing) lines x l.each e in
    length-count x.ranks
    ∙ found.0.counts (λ k. true)
    ∙ count-alike (λ r. names r x.floor && true) (λ r. names r x.floor) (λ r. both (names r x.floor)) q.ongoing
    ∙ ap (λ (id : ℕ). count_by (λ r. names r id) q.ongoing) found.1
  where
    both : (b : Bool) → (b && true) ≡ b
    both true = refl
    both false = refl

-- and none names a floor without one
pub none-count : (q : Queue) (lines : List FloorLine) (floor : ℕ) → IsQueue q → AreLines q.floors q.ongoing lines → find (λ l. l.floor == floor) lines ≡ None →
    count_by (λ r. names r floor) q.ongoing ≡ 0
none-count q lines floor h l e =
    count_none (λ r. names r floor) q.ongoing (sym (none_any (λ r. names r floor) q.ongoing) ∙ ap not (unlined q lines (λ r. true) floor h l e))

pub ascending-numbers : (ns : List ℕ) → are_ascending ns ≡ ascend ns
ascending-numbers [] = refl
ascending-numbers (n ∷ ns) = ap (λ (b : Bool). list_all (nat_lt n) ns && b) (ascending-numbers ns)
