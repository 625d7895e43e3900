use Rattle.std.proofs.Common.{◌∙◌, ap}
use Rattle.std.specs.Prelude.{◌==◌}
use Rattle.floor_queue.specs.steps.Numbers.{is_in}
use Rattle.floor_queue.proofs.Loops.{any_more, more_members}
use Rattle.floor_queue.proofs.Numbering.{is_in-with_number}
use Rattle.floor_queue.proofs.naming.add_numbers.Goals as goal

pub loop-number-preserved : goal.loop-number-preserved
loop-number-preserved c = λ k.
    more_members _ _ _ _ _ _ (ap (is_in k) c.in_ok-add.ensures.next ∙ is_in-with_number _ k _) (c.loop-number.invariant k)
    (any_more (λ n. n == k) c.args.others.now c.loop-number.number-index _ c.loop-number-test.true)
