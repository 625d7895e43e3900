use Rattle.std.proofs.Common.{◌∙◌, ap}
use Rattle.std.specs.Prelude.{◌==◌}
use Rattle.floor_queue.specs.steps.Numbers.{is_in}
use Rattle.floor_queue.proofs.Loops.{any_more, more_members}
use Rattle.floor_queue.proofs.Numbering.{is_in-with_number}
use Rattle.floor_queue.proofs.naming.add_ranks.Goals as goal

pub loop-rank-preserved : goal.loop-rank-preserved
loop-rank-preserved c = λ k.
    more_members _ _ _ _ _ _ (ap (is_in k) c.in_ok-add.ensures.next ∙ is_in-with_number _ k _) (c.loop-rank.invariant k)
    (any_more (λ x. x.number == k) c.args.ranks.now c.loop-rank.rank-index _ c.loop-rank-test.true)
