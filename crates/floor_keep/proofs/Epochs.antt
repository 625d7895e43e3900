-- The number of an epoch.
use Rattle.std.proofs.Common.{◌≡◌, ◌==◌, ℕ, Bool, false, cond, List, ap, slice_index, drop}
use Rattle.std.specs.Str.Parse.{without_leading_plus}

-- a word that begins with no plus has none in front of its digits
pub bare : (word : List ℕ) → (slice_index word 0 == 43) ≡ false → without_leading_plus word ≡ word
bare word e = ap (λ (b : Bool). drop (cond b 1 0) word) e
