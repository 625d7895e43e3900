-- What stands before the first byte that passes a test.
use Rattle.std.proofs.Common.{◌≡◌, ℕ, Bool, true, false, List, length, take, Some, None, refl, sym, ap}
use Rattle.std.specs.Prelude.{nat_lt, position, cond}
use Rattle.std.specs.List.{position_or_len, before_first}
use Rattle.std.proofs.lemmas.Bool.{ltb-false}
use Rattle.std.proofs.lemmas.List.{take_all}

some_at : (k n : ℕ) (xs : List ℕ) (b : Bool) → nat_lt k (length xs) ≡ b → cond b (Some k) None ≡ Some n → take n xs ≡ take k xs
some_at k n xs true test is = let same : k ≡ n = cc is in ap (λ (i : ℕ). take i xs) (sym same)
some_at k n xs false test is = absurd (cc is)

none_at : (k : ℕ) (xs : List ℕ) (b : Bool) → nat_lt k (length xs) ≡ b → cond b (Some k) None ≡ None → xs ≡ take k xs
none_at k xs true test is = absurd (cc is)
none_at k xs false test is = sym (take_all k xs (ltb-false k (length xs) test))

pub before-some : (p : ℕ → Bool) (xs : List ℕ) (n : ℕ) → position p xs ≡ Some n → take n xs ≡ before_first p xs
before-some p xs n is = some_at (position_or_len p xs) n xs _ refl is

pub before-none : (p : ℕ → Bool) (xs : List ℕ) → position p xs ≡ None → xs ≡ before_first p xs
before-none p xs is = none_at (position_or_len p xs) xs _ refl is
