use Rattle.std.proofs.Common.{◌++◌, ◌∙◌, List, ℕ, ap, sym, refl}
use Rattle.floor_config.specs.Reading.{reading}
use Rattle.floor_kept.specs.Head.{first_line}
use Rattle.floor_kept.proofs.Heads.{head_before, head_fault}
use Rattle.floor_kept.proofs.head.cut_head.Goals as goal

pub returns-in-Err-clause-refused : goal.returns-in-Err-clause-refused
returns-in-Err-clause-refused c =
    let cut = c.in-Some.ensures.cases in
    let table = rw c.in-Some-2.is at c.in_ok-cut.ensures in
    head_fault c.args.text.now c.in-Some.rest.now _ c.in-Some-2.cut.behind.now c.in-Some-2.cut.lines c.in-Err.fault
    (cut.1.1 ∙ ap (λ (l : List ℕ). first_line ++ l) (sym cut.2)) table (rw c.as_str.ensures.value at c.in-Err.ensures.refused)

pub returns-clause-value : goal.returns-clause-value
returns-clause-value c =
    let cut = c.in-Some.ensures.cases in
    let table = rw c.in-Some-2.is at c.in_ok-cut.ensures in
    head_before c.args.text.now c.in-Some.rest.now _ c.in-Some-2.cut.behind.now c.in-Some-2.cut.lines _ _ _
    (cut.1.1 ∙ ap (λ (l : List ℕ). first_line ++ l) (sym cut.2)) table (ap reading (sym c.as_str.ensures.value) ∙ c.in-Ok.ensures.value) refl refl
