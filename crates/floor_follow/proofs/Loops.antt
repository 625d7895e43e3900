-- A loop that changes each item of a list in its turn.
use Rattle.std.proofs.Common.{◌≡◌, ℕ, ◌+◌, ◌<◌, ◌∙◌, List, ◌++◌, length, get_or, set, take, drop, map, ap}
use Rattle.std.proofs.lemmas.List.{get_or_default}
use Rattle.std.proofs.lemmas.List.Edits.{map_over_more}

-- z is f of the element at i, and is written there
pub set-map_front : {X : Type 0} (f : X → X) (xs ys : List X) (i : ℕ) (d z : X) → i < length xs → i < length ys → z ≡ f (get_or ys i d) →
    ys ≡ map f (take i xs) ++ drop i xs → set ys i z ≡ map f (take (i + 1) xs) ++ drop (i + 1) xs
set-map_front f xs ys i d z within within_now e h =
    ap (λ x. set ys i x) e ∙ map_over_more f xs ys i (get_or ys i d) within h (get_or_default ys i d (get_or ys i d) within_now)
