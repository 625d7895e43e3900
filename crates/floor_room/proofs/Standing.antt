-- What is told of a ledger that isn't broken off.
use Rattle.std.proofs.Common.{◌≡◌, Bool, true, false, true≢false, cond, refl}

-- the second of two, where the first is for what doesn't hold
pub unbroken : {A : Type 0} → (b : Bool) (x y : A) → b ≡ false → y ≡ cond b x y
unbroken true x y h = absurd (true≢false h)
unbroken false x y h = refl
