-- A text that isn't empty.
use Rattle.std.proofs.Common.{◌≡◌, ◌==◌, ◌<◌, ℕ, Bool, false, arith, sym, ◌∙◌}
use Rattle.std.proofs.lemmas.Bool.{eqb-false}

-- a length that was tested isn't zero
pub some_of : (n : ℕ) (b : Bool) → b ≡ (n == 0) → b ≡ false → 0 < n
some_of n b tested e = omega (arith, eqb-false n 0 (sym tested ∙ e))
