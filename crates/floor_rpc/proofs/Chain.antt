-- What a writer gains by several writes.
use Rattle.std.proofs.Common.{◌≡◌, List, ◌++◌, ◌∙◌, ap}
use Rattle.std.specs.Prelude.{OnOk, Result, Ok, Err}
use Rattle.std.proofs.lemmas.List.{append_assoc}
use Rattle.json.specs.Token.{Token}

-- behind what one write appends stands what the later ones do
pub then_more : (before between after more rest : List Token) → between ≡ before ++ more → after ≡ between ++ rest → after ≡ before ++ (more ++ rest)
then_more before between after more rest e h = h ∙ ap (λ ts. ts ++ rest) e ∙ append_assoc before more rest

-- what follows where a write succeeded
pub on_ok : {E : Type 0} (P Q : Type 0) (r : Result (Unit {0}) E) → (P → Q) → OnOk r P → OnOk r Q
on_ok P Q (Ok x) f p = f p
on_ok P Q (Err e) f p = p
