-- What is appended piece by piece.
use Rattle.std.proofs.Common.{◌≡◌, ℕ, List, ◌++◌, ap, ◌∙◌, append_assoc}
use Rattle.std.specs.Prelude.{Result, Ok, Err, OnOk}

-- one piece behind another
pub appended : (old mid new first second : List ℕ) → mid ≡ old ++ first → new ≡ mid ++ second → new ≡ old ++ (first ++ second)
appended old mid new first second before after = after ∙ ap (λ (xs : List ℕ). xs ++ second) before ∙ append_assoc old first second

-- one piece behind another, where the second was appended
pub appended_on_ok : {T E : Type 0} (r : Result T E) (old mid new first second : List ℕ)
    → mid ≡ old ++ first → OnOk r (new ≡ mid ++ second) → OnOk r (new ≡ old ++ (first ++ second))
appended_on_ok (Ok x) old mid new first second before after = appended old mid new first second before after
appended_on_ok (Err e) old mid new first second before after = tt
