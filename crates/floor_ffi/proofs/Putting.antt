-- What is written behind the front of a room.
use Rattle.std.proofs.Common.{◌≡◌, ◌+◌, ◌++◌, ℕ, List, length, take, ap, ap₂, sym, ◌∙◌}
use Rattle.std.proofs.Math.Seq.{take-append-add}

-- what stands at the front stays there, and more comes behind it
pub put-behind : (front rest bytes more : List ℕ) (len n : ℕ) → length front ≡ len → front ≡ bytes → take n rest ≡ more → take (len + n) (front ++ rest) ≡ bytes ++ more
put-behind front rest bytes more len n is-len is-bytes is-more =
    ap (λ (k : ℕ). take (k + n) (front ++ rest)) (sym is-len) ∙ (take-append-add front rest n ∙ ap₂ (λ (xs ys : List ℕ). xs ++ ys) is-bytes is-more)
