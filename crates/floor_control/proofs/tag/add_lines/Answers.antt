use Rattle.std.proofs.Common.{◌≡◌, ◌++◌, List, ℕ, string_bytes, lit<, rules, ap, sym, subst, ◌∙◌}
use Rattle.std.specs.Prelude.{OnOk}
use Rattle.floor_control.proofs.Tagging.{line_step, one_part}
use Rattle.floor_control.specs.Tag.{lines_behind}
use Rattle.floor_control.proofs.tag.add_lines.Goals as goal

pub returns-in-None : goal.returns-in-None
returns-in-None c =
    let none = c.in-None.ensures.byte (lit< tt) (λ w o h. h) in
    let out = string_bytes c.lines.out in
    subst (λ (text : List ℕ). OnOk c.add_last.result (string_bytes c.add_last.new.out ≡ text))
    (ap (λ (l : List ℕ). out ++ l) (sym (one_part c.args.tag.now c.lines.rest.now none)) ∙ c.lines.invariant.1)
    c.add_last.ensures

pub lines-preserved : goal.lines-preserved
lines-preserved c =
    let h = c.in-Some.ensures.byte (lit< tt) (λ w o h. h) in (
      search rules,
      line_step c.args.tag.now c.lines.rest.now c.in-Some.line.now c.in-Some.behind.now (string_bytes c.lines.out) (string_bytes c.add_line.new.out)
          (string_bytes c.args.out.now ++ lines_behind c.args.tag.now c.args.text.now) h.2 h.0 h.1 c.in_ok-add_line-in-Some.ensures c.lines.invariant.1,
    )
