-- What is appended piece by piece.
use Rattle.std.proofs.Common.{◌≡◌, ℕ, List, ◌++◌, ap, ◌∙◌, append_assoc}
use Rattle.std.specs.Prelude.{Result, Ok, Err, OnOk, is_ok, if◌then◌else◌}

-- one piece behind another
pub appended : (old mid new first second : List ℕ) → mid ≡ old ++ first → new ≡ mid ++ second → new ≡ old ++ (first ++ second)
appended old mid new first second before after = after ∙ ap (λ (xs : List ℕ). xs ++ second) before ∙ append_assoc old first second

pub appended_on_ok : {T E : Type 0} (r : Result T E) (old mid new first second : List ℕ)
    → mid ≡ old ++ first → OnOk r (new ≡ mid ++ second) → OnOk r (new ≡ old ++ (first ++ second))
appended_on_ok (Ok x) old mid new first second before after = appended old mid new first second before after
appended_on_ok (Err e) old mid new first second before after = tt

-- what is so where the call succeeded, where it is said by a choice
pub on_ok : {T E : Type 0} (r : Result T E) (new more same : List ℕ) → new ≡ (if is_ok r then more else same) → OnOk r (new ≡ more)
on_ok (Ok x) new more same is = is
on_ok (Err e) new more same is = tt

-- pieces that are grouped from the end
pub four_on_ok : {T E : Type 0} (r : Result T E) (old one two three new a b c d : List ℕ) → one ≡ old ++ a → two ≡ one ++ b → three ≡ two ++ c → OnOk r (new ≡ three ++ d) → OnOk r (new ≡ old ++ (a ++ (b ++ (c ++ d))))
four_on_ok (Ok x) old one two three new a b c d first second third fourth =
    appended old one new a (b ++ (c ++ d)) first (appended one two new b (c ++ d) second (appended two three new c d third fourth))
four_on_ok (Err e) old one two three new a b c d first second third fourth = tt
