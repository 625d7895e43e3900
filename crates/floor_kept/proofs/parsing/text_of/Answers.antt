use Rattle.std.proofs.Common.{◌==◌, ◌∙◌, sym, ap, List, ℕ, length}
use Rattle.std.specs.Prelude.{Some}
use Rattle.floor_kept.proofs.Texts.{no_text, text_found}
use Rattle.floor_kept.proofs.parsing.text_of.Goals as goal

pub returns-in_default-from_utf8 : goal.returns-in_default-from_utf8
returns-in_default-from_utf8 c =
    no_text c.as_slice.result.now _ (ap Some c.as_slice.ensures.value ∙ rw c.in-Some.is at c.in_ok-bytes.ensures) c.in_default-from_utf8.ensures.cases.0

pub returns : goal.returns
returns c =
    let text = c.from_string.ensures ∙ c.in_ok-from_str.ensures.ok in
    text_found c.as_slice.result.now c.from_string.result _ (ap Some c.as_slice.ensures.value ∙ rw c.in-Some.is at c.in_ok-bytes.ensures) c.in-Ok.ensures.cases.1
    (text ∙ c.in-Ok.ensures.cases.0) (ap (λ (l : List ℕ). length l == 0) text ∙ sym c.is_empty.ensures ∙ c.if-is_empty.false)
