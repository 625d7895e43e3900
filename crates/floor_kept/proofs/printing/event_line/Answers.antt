use Rattle.std.proofs.Common.{◌∷◌, ◌∙◌, List, ℕ, ap, sym}
use Rattle.floor_kept.proofs.Texts.{begins, behind_place, first_line, placed}
use Rattle.floor_kept.proofs.printing.event_line.Goals as goal

pub unreachable-requires : goal.unreachable-requires
unreachable-requires c =
    let one = first_line c.args.event.now c.in_ok-add_lines.field-0 c.from_ref.result.now _ _ c.new-first.ensures.bytes c.from_ref.ensures.value
    c.in_ok-add_lines.ensures.one c.in_ok-add_lines.ensures.within c.in_ok-add_lines.ensures.lines in
    c.in-None.ensures.cases (behind_place c.args.event.now) (c.as_str.ensures.value ∙ one ∙ begins c.args.event.now)

pub returns : goal.returns
returns c =
    let one = first_line c.args.event.now c.in_ok-add_lines.field-0 c.from_ref.result.now _ _ c.new-first.ensures.bytes c.from_ref.ensures.value
    c.in_ok-add_lines.ensures.one c.in_ok-add_lines.ensures.within c.in_ok-add_lines.ensures.lines in
    let cut = c.in-Some.ensures.cases in
    placed c.args.place c.args.event.now c.as_str.result.now c.in-Some.rest.now _ _ (c.as_str.ensures.value ∙ one)
    (cut.1.1 ∙ ap (λ (l : List ℕ). 49 ∷ l) (sym cut.2))
    c.in_ok-text.ensures.ok c.in_ok-push_str-in-Some.ensures.bytes
