-- An item at its place in a list: it is taken out, another is put in its stead, or one is put in between.
use Rattle.std.proofs.Common.{◌≡◌, ℕ, ◌+◌, ◌<◌, Bool, true, false, cond, List, [], ◌∷◌, ◌++◌, length, set, take, drop, Option, Some, None, refl, sym, ap, ◌∙◌, arith}
use Rattle.std.specs.Prelude.{◌==◌, nat_lt, option_and_then}
use Rattle.std.specs.List.{flat_map, list_all, slice_get}
use Rattle.std.proofs.lemmas.List.{take-append-drop, take-set, drop-set, drop_more}
use Rattle.std.proofs.lemmas.Option.{slice_get_within, get_or_from_slice_get}
use Rattle.std.proofs.lemmas.Bool.Decides.{nat_tests}
use Rattle.std.proofs.Math.Seq.{drop-append_seam, drop-append-add, take-append_seam}
use Rattle.floor_machine.specs.steps.Renewing.{here}
use Rattle.floor_machine.specs.steps.Telling.{listed}
use Rattle.floor_machine.proofs.Found.{and_left, and_right, same_number}

-- what passes at a place stands there
pub here_there : {A : Type 0} (p : A → Bool) (xs : List A) (place : ℕ) (y : A) → here p xs place ≡ Some y → slice_get xs place ≡ Some y
here_there {A = A} p xs place y h = by (slice_get xs place) h
  where
    kept : (x : A) (b : Bool) → cond b (Some x) None ≡ Some y → Some x ≡ Some y
    kept x true h = h
    kept x false h = cc

    by : (o : Option A) → option_and_then (λ x. cond (p x) (Some x) None) o ≡ Some y → o ≡ Some y
    by None h = h
    by (Some x) h = kept x (p x) h

pub here_within : {A : Type 0} (p : A → Bool) (xs : List A) (place : ℕ) (y : A) → here p xs place ≡ Some y → place < length xs
here_within p xs place y h = slice_get_within xs place y (here_there p xs place y h)

-- another item is put in the stead of one
pub put-stead : {A : Type 0} (p : A → Bool) (xs : List A) (place : ℕ) (x y : A) → here p xs place ≡ Some y →
    set xs place x ≡ take place xs ++ x ∷ drop (place + length (listed (here p xs place))) xs
put-stead {A = A} p xs place x y h =
    let within : place < length xs = here_within p xs place y h in
    sym (take-append-drop place (set xs place x))
    ∙ ap (λ (ys : List A). ys ++ drop place (set xs place x)) (take-set xs place x)
    ∙ ap (λ (ys : List A). take place xs ++ ys) (drop-set xs place x within)
    ∙ ap (λ (o : Option A). take place xs ++ x ∷ drop (place + length (listed o)) xs) (sym h)

drop-here : {A : Type 0} (xs : List A) (place : ℕ) (y : A) → slice_get xs place ≡ Some y → drop place xs ≡ y ∷ drop (place + 1) xs
drop-here {A = A} xs place y h =
    drop_more xs place y (slice_get_within xs place y h) ∙ ap (λ (x : A). x ∷ drop (place + 1) xs) (get_or_from_slice_get xs place y y h)

-- an item stands between those before it and those behind
pub at-place : {A : Type 0} (p : A → Bool) (xs : List A) (place : ℕ) (y : A) → here p xs place ≡ Some y →
    xs ≡ take place xs ++ y ∷ drop (place + length (listed (here p xs place))) xs
at-place {A = A} p xs place y h =
    sym (take-append-drop place xs)
    ∙ ap (λ (ys : List A). take place xs ++ ys) (drop-here xs place y (here_there p xs place y h))
    ∙ ap (λ (o : Option A). take place xs ++ y ∷ drop (place + length (listed o)) xs) (sym h)

-- behind those before it stands the first of the rest
seam : {A : Type 0} (xs ys : List A) → slice_get (xs ++ ys) (length xs) ≡ slice_get ys 0
seam [] ys = refl
seam (x ∷ xs) ys = seam xs ys

-- each number gives no item, or one that has it
abbrev pub IsKeyed : {A : Type 0} → (A → ℕ) → (ℕ → Option A) → Type 0
IsKeyed {A = A} key at = (n : ℕ) (x : A) → at n ≡ Some x → key x ≡ n

-- of the items of higher numbers, the first hasn't this one
none-higher : {A : Type 0} (key : A → ℕ) (at : ℕ → Option A) (n : ℕ) (ns : List ℕ) → IsKeyed key at → list_all (nat_lt n) ns ≡ true →
    here (λ x. key x == n) (flat_map (λ m. listed (at m)) ns) 0 ≡ None
none-higher key at n [] keyed h = refl
none-higher {A = A} key at n (m ∷ ns) keyed h = by (at m) refl (none-higher key at n ns keyed (and_right _ _ h))
  where
    other : (a : ℕ) → a ≡ m → nat_lt n m ≡ true → (a == n) ≡ false
    other a e l = grind (arith, nat_tests)

    by : (o : Option A) → at m ≡ o → here (λ x. key x == n) (flat_map (λ m. listed (at m)) ns) 0 ≡ None →
        here (λ x. key x == n) (listed o ++ flat_map (λ m. listed (at m)) ns) 0 ≡ None
    by None e rest = rest
    by (Some x) e rest = rw (other (key x) (keyed m x e) (and_left _ _ h)) refl

-- behind the items of lower numbers stands the item of this number, if it has one
pub here-number : {A : Type 0} (key : A → ℕ) (at : ℕ → Option A) (done xs : List A) (n : ℕ) (ns : List ℕ) → IsKeyed key at → list_all (nat_lt n) ns ≡ true →
    xs ≡ done ++ flat_map (λ m. listed (at m)) (n ∷ ns) → here (λ x. key x == n) xs (length done) ≡ at n
here-number {A = A} key at done xs n ns keyed h all =
    ap (λ (ys : List A). here (λ x. key x == n) ys (length done)) all
    ∙ ap (λ (o : Option A). option_and_then (λ x. cond (key x == n) (Some x) None) o) (seam done (flat_map (λ m. listed (at m)) (n ∷ ns)))
    ∙ by (at n) refl
  where
    by : (o : Option A) → at n ≡ o → here (λ x. key x == n) (listed o ++ flat_map (λ m. listed (at m)) ns) 0 ≡ o
    by None e = none-higher key at n ns keyed h
    by (Some x) e = rw (keyed n x e, same_number n) refl

-- the item of this number is put in the stead of another, taken out, or left out
pub renewed-number : {A : Type 0} (done xs ys rest : List A) (old now : Option A) → xs ≡ done ++ (listed old ++ rest) →
    ys ≡ take (length done) xs ++ listed now ++ drop (length done + length (listed old)) xs → ys ≡ (done ++ listed now) ++ rest
renewed-number {A = A} done xs ys rest old now all changed =
    changed
    ∙ ap (λ (zs : List A). (take (length done) zs ++ listed now) ++ drop (length done + length (listed old)) zs) all
    ∙ ap (λ (zs : List A). (zs ++ listed now) ++ drop (length done + length (listed old)) (done ++ (listed old ++ rest))) (take-append_seam done (listed old ++ rest))
    ∙ ap (λ (zs : List A). (done ++ listed now) ++ zs) (drop-append-add done (listed old ++ rest) (length (listed old)) ∙ drop-append_seam (listed old) rest)
