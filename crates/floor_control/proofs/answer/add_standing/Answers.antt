use Rattle.std.proofs.Common.{◌≡◌, ◌++◌, ℕ, List, string_bytes, ap, subst, ◌∙◌}
use Rattle.std.specs.Prelude.{OnOk, codes}
use Rattle.floor_control.specs.Answer.{status_words}
use Rattle.floor_control.proofs.answer.add_standing.Goals as goal

pub returns : goal.returns
returns c =
    let words = status_words c.args.standing.conference c.args.standing.status in
    let mark = c.unkept_mark-unkept.result.now in
    subst (λ (text : List ℕ). OnOk c.add_both.result (string_bytes c.add_both.new.out ≡ string_bytes c.args.out.now ++ text))
    (ap (λ (w : List ℕ). w ++ (mark ++ codes "\n")) (c.as_str.ensures.value ∙ c.in_ok-words.ensures)
    ∙ ap (λ (m : List ℕ). words ++ (m ++ codes "\n")) c.unkept_mark-unkept.ensures)
    c.add_both.ensures
