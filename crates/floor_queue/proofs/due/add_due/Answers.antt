use Rattle.std.specs.Prelude.{◌==◌}
use Rattle.floor_queue.specs.steps.Lines.{rank_shows}
use Rattle.floor_queue.proofs.Loops.{any_more, more_members}
use Rattle.floor_queue.proofs.due.add_due.Goals as goal

pub loop-rank-preserved : goal.loop-rank-preserved
loop-rank-preserved c = λ k.
    more_members _ _ _ _ _ _ (c.in_ok-add_if_due.ensures k) (c.loop-rank.invariant k)
    (any_more (rank_shows c.args.floors.now c.args.lines.now c.args.requests.now (λ n. n == k)) c.args.ranks.now c.loop-rank.rank-index _ c.loop-rank-test.true)
