-- Adding what is new leaves each once, in order of first appearance.
use Rattle.std.proofs.Common.{◌≡◌, ℕ, Bool, true, false, not, cond, ◌&&◌, ◌||◌, List, [], ◌∷◌, ◌++◌, filter, refl, sym, ◌∙◌, ap, append_assoc}
use Rattle.std.specs.Prelude.{◌==◌}
use Rattle.std.specs.List.{list_any}
use Rattle.std.proofs.lemmas.List.{append-nil}
use Rattle.floor_message.specs.Picked.{once_by, IsOnceBy, KeepsFirst}
use Rattle.floor_message.specs.steps.Adding.{add_new, add_all}
use Rattle.std.proofs.lemmas.Bool.{eqb-true, false≢true}
use Rattle.std.proofs.Common.{true≢false}

-- none of the items has this number
abbrev pub is_new : {A : Type 0} → (A → ℕ) → List A → ℕ → Bool
is_new key seen n = not (list_any (λ z. n == key z) seen)

filter_step : {A : Type 0} (p q : A → Bool) (x : A) (xs : List A) (b c : Bool) → q x ≡ b → p x ≡ c → filter p (filter q xs) ≡ filter (λ y. q y && p y) xs
    → filter p (filter q (x ∷ xs)) ≡ filter (λ y. q y && p y) (x ∷ xs)
filter_step p q x xs true true e f h = rw e (rw f (ap (λ l. x ∷ l) h))
filter_step p q x xs true false e f h = rw e (rw f h)
filter_step p q x xs false c e f h = rw e h

pub filter_both : {A : Type 0} (p q : A → Bool) (xs : List A) → filter p (filter q xs) ≡ filter (λ y. q y && p y) xs
filter_both p q [] = refl
filter_both p q (x ∷ xs) = filter_step p q x xs (q x) (p x) refl refl (filter_both p q xs)

pub filter_same : {A : Type 0} (p q : A → Bool) → ((y : A) → p y ≡ q y) → (xs : List A) → filter p xs ≡ filter q xs
filter_same p q h [] = refl
filter_same p q h (x ∷ xs) = rw (h x) (ap (λ l. cond (q x) (x ∷ l) l) (filter_same p q h xs))

pub any_more : {A : Type 0} (p : A → Bool) (xs : List A) (x : A) → list_any p (xs ++ x ∷ []) ≡ (list_any p xs || p x)
any_more p [] x = or_false (p x) where
  or_false : (b : Bool) → (b || false) ≡ b
  or_false true = refl
  or_false false = refl
any_more p (y ∷ xs) x = rw (any_more p xs x) (or_assoc (p y) (list_any p xs) (p x)) where
  or_assoc : (a b c : Bool) → (a || (b || c)) ≡ ((a || b) || c)
  or_assoc true b c = refl
  or_assoc false b c = refl

pub flip : (b c : Bool) → (not b && not c) ≡ not (c || b)
flip true true = refl
flip true false = refl
flip false true = refl
flip false false = refl

new_more : {A : Type 0} (key : A → ℕ) (seen : List A) (x y : A) → (not (key y == key x) && is_new key seen (key y)) ≡ is_new key (seen ++ x ∷ []) (key y)
new_more key seen x y = rw (any_more (λ z. key y == key z) seen x) (flip (key y == key x) (list_any (λ z. key y == key z) seen))

old_kept : (b : Bool) (n : Bool) → (b ≡ true → n ≡ false) → (not b && n) ≡ n
old_kept true n h = sym (h refl)
old_kept false n h = refl

old_same : {A : Type 0} (key : A → ℕ) (seen : List A) (m n : ℕ) → list_any (λ z. m == key z) seen ≡ true → (n == m) ≡ true → is_new key seen n ≡ false
old_same key seen m n h e =
    let same : n ≡ m = eqb-true n m e in
    ap (λ k. not (list_any (λ z. k == key z) seen)) same ∙ ap not h

step_old : {A : Type 0} (key : A → ℕ) (seen : List A) (x : A) (xs : List A) → list_any (λ z. key x == key z) seen ≡ true
    → filter (λ y. is_new key seen (key y)) (once_by key (x ∷ xs)) ≡ filter (λ y. is_new key seen (key y)) (once_by key xs)
step_old key seen x xs h =
    let new = λ (y : _). is_new key seen (key y) in
    ap (λ b. cond (not b) (x ∷ filter new (filter (λ y. not (key y == key x)) (once_by key xs))) (filter new (filter (λ y. not (key y == key x)) (once_by key xs)))) h
    ∙ filter_both new (λ y. not (key y == key x)) (once_by key xs)
    ∙ filter_same (λ y. not (key y == key x) && new y) new (λ y. old_kept (key y == key x) (new y) (λ e. old_same key seen (key x) (key y) h e)) (once_by key xs)

step_new : {A : Type 0} (key : A → ℕ) (seen : List A) (x : A) (xs : List A) → list_any (λ z. key x == key z) seen ≡ false
    → filter (λ y. is_new key seen (key y)) (once_by key (x ∷ xs)) ≡ x ∷ filter (λ y. is_new key (seen ++ x ∷ []) (key y)) (once_by key xs)
step_new key seen x xs h =
    let new = λ (y : _). is_new key seen (key y) in
    ap (λ b. cond (not b) (x ∷ filter new (filter (λ y. not (key y == key x)) (once_by key xs))) (filter new (filter (λ y. not (key y == key x)) (once_by key xs)))) h
    ∙ ap (λ l. x ∷ l) (filter_both new (λ y. not (key y == key x)) (once_by key xs)
    ∙ filter_same (λ y. not (key y == key x) && new y) (λ y. is_new key (seen ++ x ∷ []) (key y)) (λ y. new_more key seen x y) (once_by key xs))

add_case : {A : Type 0} (key : A → ℕ) (seen : List A) (x : A) (xs : List A) (b : Bool) → list_any (λ z. key x == key z) seen ≡ b
    → ((seen : List A) → add_all key seen xs ≡ seen ++ filter (λ y. is_new key seen (key y)) (once_by key xs))
    → add_all key (cond b seen (seen ++ x ∷ [])) xs ≡ seen ++ filter (λ y. is_new key seen (key y)) (once_by key (x ∷ xs))
add_case key seen x xs true e h = h seen ∙ ap (λ l. seen ++ l) (sym (step_old key seen x xs e))
add_case key seen x xs false e h = h (seen ++ x ∷ []) ∙ append_assoc seen (x ∷ []) (filter (λ y. is_new key (seen ++ x ∷ []) (key y)) (once_by key xs)) ∙ ap (λ l. seen ++ l) (sym (step_new key seen x xs e))

-- the items, and then those that are new, each once
pub add_all-is : {A : Type 0} (key : A → ℕ) (xs : List A) (seen : List A) → add_all key seen xs ≡ seen ++ filter (λ y. is_new key seen (key y)) (once_by key xs)
add_all-is key [] seen = sym (append-nil seen)
add_all-is key (x ∷ xs) seen =
    ap (λ b. add_all key (cond b seen (seen ++ x ∷ [])) xs) (let r : list_any (λ z. key x == key z) seen ≡ list_any (λ z. key x == key z) seen = refl in r)
    ∙ add_case key seen x xs (list_any (λ z. key x == key z) seen) refl (λ s. add_all-is key xs s)

all_kept : {A : Type 0} (xs : List A) → filter (λ y. true) xs ≡ xs
all_kept [] = refl
all_kept (x ∷ xs) = ap (λ l. x ∷ l) (all_kept xs)

pub once_by_added : {A : Type 0} (key : A → ℕ) (xs : List A) → add_all key [] xs ≡ once_by key xs
once_by_added key xs = add_all-is key xs [] ∙ all_kept (once_by key xs)

pub add_all_append : {A : Type 0} (key : A → ℕ) (seen xs ys : List A) → add_all key seen (xs ++ ys) ≡ add_all key (add_all key seen xs) ys
add_all_append key seen [] ys = refl
add_all_append key seen (x ∷ xs) ys = add_all_append key (add_new key seen x) xs ys

-- nothing that passes p is there
kept_step : {A : Type 0} (p : A → Bool) (x : A) (xs : List A) (b : Bool) → p x ≡ b → (b || list_any p xs) ≡ false → (list_any p xs ≡ false → filter (λ y. not (p y)) xs ≡ xs)
    → cond (not b) (x ∷ filter (λ y. not (p y)) xs) (filter (λ y. not (p y)) xs) ≡ x ∷ xs
kept_step p x xs true e h rest = absurd (true≢false h)
kept_step p x xs false e h rest = ap (λ l. x ∷ l) (rest h)

kept_all : {A : Type 0} (p : A → Bool) (xs : List A) → list_any p xs ≡ false → filter (λ y. not (p y)) xs ≡ xs
kept_all p [] h = refl
kept_all p (x ∷ xs) h = kept_step p x xs (p x) refl h (kept_all p xs)

-- what stands once each is each once
pub once_by_once : {A : Type 0} (key : A → ℕ) (xs : List A) → IsOnceBy key xs → once_by key xs ≡ xs
once_by_once key [] h = refl
once_by_once key (x ∷ xs) h = ap (λ l. x ∷ filter (λ y. not (key y == key x)) l) (once_by_once key xs h.1) ∙ ap (λ l. x ∷ l) (kept_all (λ y. key y == key x) xs h.0)

none_kept_step : {A : Type 0} (p q : A → Bool) (x : A) (xs : List A) (b c : Bool) → p x ≡ b → (b || list_any p xs) ≡ false → (list_any p xs ≡ false → list_any p (filter q xs) ≡ false)
    → list_any p (cond c (x ∷ filter q xs) (filter q xs)) ≡ false
none_kept_step p q x xs true c e h rest = absurd (true≢false h)
none_kept_step p q x xs false true e h rest = ap (λ b. b || list_any p (filter q xs)) e ∙ rest h
none_kept_step p q x xs false false e h rest = rest h

none_kept : {A : Type 0} (p q : A → Bool) (xs : List A) → list_any p xs ≡ false → list_any p (filter q xs) ≡ false
none_kept p q [] h = refl
none_kept p q (x ∷ xs) h = none_kept_step p q x xs (p x) (q x) refl h (none_kept p q xs)

none_left_step : {A : Type 0} (p : A → Bool) (x : A) (xs : List A) (b : Bool) → p x ≡ b → list_any p (filter (λ y. not (p y)) xs) ≡ false
    → list_any p (cond (not b) (x ∷ filter (λ y. not (p y)) xs) (filter (λ y. not (p y)) xs)) ≡ false
none_left_step p x xs true e rest = rest
none_left_step p x xs false e rest = ap (λ b. b || list_any p (filter (λ y. not (p y)) xs)) e ∙ rest

none_left : {A : Type 0} (p : A → Bool) (xs : List A) → list_any p (filter (λ y. not (p y)) xs) ≡ false
none_left p [] = refl
none_left p (x ∷ xs) = none_left_step p x xs (p x) refl (none_left p xs)

once_kept : {A : Type 0} (key : A → ℕ) (q : A → Bool) (xs : List A) → IsOnceBy key xs → IsOnceBy key (filter q xs)
once_kept key q [] h = tt
once_kept key q (x ∷ xs) h = elim (q x) as (λ c. IsOnceBy key (cond c (x ∷ filter q xs) (filter q xs))) [
  | true ↦ (none_kept (λ y. key y == key x) q xs h.0, once_kept key q xs h.1)
  | false ↦ once_kept key q xs h.1
]

-- each once stands once each
pub once_by-once : {A : Type 0} (key : A → ℕ) (xs : List A) → IsOnceBy key (once_by key xs)
once_by-once key [] = tt
once_by-once key (x ∷ xs) = (none_left (λ y. key y == key x) (once_by key xs), once_kept key (λ y. not (key y == key x)) (once_by key xs) (once_by-once key xs))

any_step : {A : Type 0} (p q : A → Bool) (y : A) (ys : List A) (b c : Bool) → p y ≡ b → (b ≡ true → c ≡ true)
    → list_any p (filter q ys) ≡ list_any p ys → list_any p (cond c (y ∷ filter q ys) (filter q ys)) ≡ (b || list_any p ys)
any_step p q y ys b true e h rest = ap (λ x. x || list_any p (filter q ys)) e ∙ ap (λ x. b || x) rest
any_step p q y ys true false e h rest = absurd (false≢true (h refl))
any_step p q y ys false false e h rest = rest

-- what a test passes isn't filtered out
any_kept : {A : Type 0} (p q : A → Bool) → ((y : A) → p y ≡ true → q y ≡ true) → (ys : List A) → list_any p (filter q ys) ≡ list_any p ys
any_kept p q h [] = refl
any_kept p q h (y ∷ ys) = any_step p q y ys (p y) (q y) refl (h y) (any_kept p q h ys)

other_kept : {A : Type 0} (key : A → ℕ) (n : ℕ) (x y : A) → (n == key x) ≡ false → (n == key y) ≡ true → not (key y == key x) ≡ true
other_kept key n x y h e = ap (λ k. not (k == key x)) (sym (eqb-true n (key y) e)) ∙ ap not h

any_case : {A : Type 0} (key : A → ℕ) (n : ℕ) (x : A) (xs : List A) (b : Bool) → (n == key x) ≡ b
    → list_any (λ y. n == key y) (once_by key xs) ≡ list_any (λ y. n == key y) xs
    → (b || list_any (λ y. n == key y) (filter (λ y. not (key y == key x)) (once_by key xs))) ≡ (b || list_any (λ y. n == key y) xs)
any_case key n x xs true e rest = refl
any_case key n x xs false e rest =
    any_kept (λ y. n == key y) (λ y. not (key y == key x)) (λ y f. other_kept key n x y e f) (once_by key xs) ∙ rest

-- a number stands in what is kept where it stands in the list
any_once : {A : Type 0} (key : A → ℕ) (n : ℕ) (xs : List A) → list_any (λ y. n == key y) (once_by key xs) ≡ list_any (λ y. n == key y) xs
any_once key n [] = refl
any_once key n (x ∷ xs) = any_case key n x xs (n == key x) refl (any_once key n xs)

one_or_none : {A : Type 0} (ys : List A) (x : A) (b : Bool) → cond b ys (ys ++ x ∷ []) ≡ ys ++ cond b [] (x ∷ [])
one_or_none ys x true = sym (append-nil ys)
one_or_none ys x false = refl

once_by-more : {A : Type 0} (key : A → ℕ) (before : List A) (x : A)
    → once_by key (before ++ x ∷ []) ≡ once_by key before ++ cond (list_any (λ y. key x == key y) before) [] (x ∷ [])
once_by-more key before x =
    sym (once_by_added key (before ++ x ∷ [])) ∙ add_all_append key [] before (x ∷ [])
    ∙ ap (λ l. add_new key l x) (once_by_added key before)
    ∙ ap (λ b. cond b (once_by key before) (once_by key before ++ x ∷ [])) (any_once key (key x) before)
    ∙ one_or_none (once_by key before) x (list_any (λ y. key x == key y) before)

-- the first of each number is kept
pub keeps_first : (A : Type 0) (key : A → ℕ) → KeepsFirst A key
keeps_first A key = record { none = refl; more = once_by-more key }
