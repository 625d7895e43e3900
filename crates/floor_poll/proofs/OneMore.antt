-- The lines of one element more.
use Rattle.std.proofs.Common.{◌≡◌, ℕ, ◌+◌, ◌<◌, List, ◌++◌, length, take, get_or, flat_map, arith}
use Rattle.std.proofs.lemmas.Grind.{common_steps, flat_map-append}

-- behind the lines of so many stands that of the next
pub one-more : {X : Type 0} (f : X → List ℕ) (xs : List X) (i : ℕ) (d : X) (old mid new line : List ℕ)
    → i < length xs → mid ≡ old ++ flat_map f (take i xs) → new ≡ mid ++ line → line ≡ f (get_or xs i d) → new ≡ old ++ flat_map f (take (i + 1) xs)
one-more f xs i d old mid new line lt before after at = grind (arith, common_steps, flat_map-append)
