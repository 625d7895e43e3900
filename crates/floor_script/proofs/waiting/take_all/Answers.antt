use Rattle.floor_script.proofs.Emptying.{empties_at, empties_end, empties_none}
use Rattle.floor_script.proofs.waiting.take_all.Goals as goal

pub loop-live-init : goal.loop-live-init
loop-live-init c = empties_none c.args.conference _ _ _

pub loop-live-preserved : goal.loop-live-preserved
loop-live-preserved c = empties_at c.args.conference c.args.lives.now c.loop-live.live-index _ _ _ _ _ _ _ _ _ _ c.loop-live-test.true c.loop-live.invariant c.in_ok-take_live.ensures.took

pub returns : goal.returns
returns c = record { took = empties_end c.args.conference c.args.lives.now c.loop-live.live-index _ _ _ _ _ _ c.loop-live-test.false c.loop-live.invariant }
