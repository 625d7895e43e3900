use Rattle.floor_script.proofs.Holding.{acknowledges_at, acknowledges_end, acknowledges_none}
use Rattle.floor_script.proofs.conferences.acknowledge_in.Goals as goal

pub loop-one-init : goal.loop-one-init
loop-one-init c = acknowledges_none _

pub loop-one-preserved : goal.loop-one-preserved
loop-one-preserved c = acknowledges_at c.args.taken.now c.loop-one.one-index _ _ _ _ c.loop-one-test.true c.loop-one.invariant c.in_ok-acknowledge_one.ensures.took

pub returns : goal.returns
returns c = record { took = acknowledges_end c.args.taken.now c.loop-one.one-index _ _ c.loop-one-test.false c.loop-one.invariant }
