use Rattle.std.proofs.Common.{◌∙◌, ap, arith, get_or, length, sym, take, List}
use Rattle.std.specs.Prelude.{◌==◌, ◌||◌}
use Rattle.std.specs.List.{list_any}
use Rattle.std.proofs.lemmas.List.{take_all}
use Rattle.floor_queue.specs.steps.Lines.{FloorLine, line_shows}
use Rattle.floor_queue.specs.steps.Numbers.{is_in}
use Rattle.floor_queue.proofs.Firsts.{due_shown}
use Rattle.floor_queue.proofs.Loops.{any_more}
use Rattle.floor_queue.proofs.due.due_numbers.Goals as goal

pub loop-line-preserved : goal.loop-line-preserved
loop-line-preserved c = λ k.
    c.in_ok-add_due_of_line.ensures k
    ∙ ap (λ b. b || line_shows c.args.floors.now c.args.lines.now c.args.requests.now (λ n. n == k) c.line-item.result) (c.loop-line.invariant k)
    ∙ sym (any_more (line_shows c.args.floors.now c.args.lines.now c.args.requests.now (λ n. n == k)) c.args.lines.now c.loop-line.line-index c.line-item.result (omega (arith, c.loop-line-test.true, ap length c.as_slice-line-items.ensures))
    ∙ ap (λ (l : FloorLine). list_any (line_shows c.args.floors.now c.args.lines.now c.args.requests.now (λ n. n == k)) (take c.loop-line.line-index c.args.lines.now) || line_shows c.args.floors.now c.args.lines.now c.args.requests.now (λ n. n == k) l) (sym (c.line-item.is ∙ ap (λ (ls : List FloorLine). get_or ls c.loop-line.line-index c.line-item.result) c.as_slice-line-items.ensures)))

pub returns : goal.returns
returns c =
    due_shown c.args.floors.now c.args.requests.now c.args.lines.now c.into_vec.result.items c.requires c.into_vec.ensures.kept
    (λ k. ap (is_in k) c.into_vec.ensures.value ∙ c.loop-line.invariant k ∙ ap (λ (ls : List FloorLine). list_any (line_shows c.args.floors.now c.args.lines.now c.args.requests.now (λ n. n == k)) ls) (take_all c.loop-line.line-index c.args.lines.now (omega (arith, c.loop-line-test.false, ap length c.as_slice-line-items.ensures))))
