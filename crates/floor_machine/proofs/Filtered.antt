-- The steps of a loop that appends what passes a test.
use Rattle.std.proofs.Common.{◌≡◌, ℕ, ◌+◌, ◌<◌, Bool, true, false, List, [], ◌∷◌, ◌++◌, length, get_or, set, take, drop, map, append_assoc, append-nil, refl, sym, ap, ◌∙◌}
use Rattle.std.specs.Prelude.{filter}
use Rattle.std.proofs.lemmas.List.{map-append, get_or_default}
use Rattle.std.proofs.lemmas.List.Edits.{map_over_more}
use Rattle.std.proofs.lemmas.List.Elements.{filter_more}

pub take_yes : {X Y : Type 0} (p : X → Bool) (f : X → Y) (xs : List X) (i : ℕ) (x : X) → i < length xs → x ≡ get_or xs i x → p x ≡ true →
    map f (filter p (take (i + 1) xs)) ≡ map f (filter p (take i xs)) ++ f x ∷ []
take_yes p f xs i x h e k = rw (filter_more p xs i x h, ← e, k, map-append) refl

pub take_no : {X Y : Type 0} (p : X → Bool) (f : X → Y) (xs : List X) (i : ℕ) (x : X) → i < length xs → x ≡ get_or xs i x → p x ≡ false →
    map f (filter p (take (i + 1) xs)) ≡ map f (filter p (take i xs))
take_no p f xs i x h e k = rw (filter_more p xs i x h, ← e, k, append-nil) refl

-- the element passes, and is appended
pub step_yes : {X Y : Type 0} (p : X → Bool) (f : X → Y) (out : List Y) (xs : List X) (i : ℕ) (x : X) → i < length xs → x ≡ get_or xs i x → p x ≡ true →
    (out ++ map f (filter p (take i xs))) ++ f x ∷ [] ≡ out ++ map f (filter p (take (i + 1) xs))
step_yes {Y = Y} p f out xs i x h e k =
    append_assoc out (map f (filter p (take i xs))) (f x ∷ []) ∙ ap (λ (ys : List Y). out ++ ys) (sym (take_yes p f xs i x h e k))

-- the element doesn't pass
pub step_no : {X Y : Type 0} (p : X → Bool) (f : X → Y) (out : List Y) (xs : List X) (i : ℕ) (x : X) → i < length xs → x ≡ get_or xs i x → p x ≡ false →
    out ++ map f (filter p (take i xs)) ≡ out ++ map f (filter p (take (i + 1) xs))
step_no {Y = Y} p f out xs i x h e k = ap (λ (ys : List Y). out ++ ys) (sym (take_no p f xs i x h e k))

-- the element passes, and is kept
pub kept_yes : {X : Type 0} (p : X → Bool) (xs : List X) (i : ℕ) (x : X) → i < length xs → x ≡ get_or xs i x → p x ≡ true → filter p (take (i + 1) xs) ≡ filter p (take i xs) ++ x ∷ []
kept_yes p xs i x h e k = rw (filter_more p xs i x h, ← e, k) refl

-- the element doesn't pass
pub kept_no : {X : Type 0} (p : X → Bool) (xs : List X) (i : ℕ) (x : X) → i < length xs → x ≡ get_or xs i x → p x ≡ false → filter p (take (i + 1) xs) ≡ filter p (take i xs)
kept_no p xs i x h e k = rw (filter_more p xs i x h, ← e, k, append-nil) refl

-- z is f of the element at i, and is written there
pub set-map_front : {X : Type 0} (f : X → X) (xs ys : List X) (i : ℕ) (d z : X) → i < length xs → i < length ys → z ≡ f (get_or ys i d) →
    ys ≡ map f (take i xs) ++ drop i xs → set ys i z ≡ map f (take (i + 1) xs) ++ drop (i + 1) xs
set-map_front f xs ys i d z within within' e h =
    ap (λ x. set ys i x) e ∙ map_over_more f xs ys i (get_or ys i d) within h (get_or_default ys i d (get_or ys i d) within')
