use Rattle.floor_kept.proofs.Leading.{ran}
use Rattle.floor_kept.proofs.opening.run.Goals as goal

pub returns-clause-took : goal.returns-clause-took
returns-clause-took c = ran c.args.room.now c.add.new.room c.loop-n.room c.args.event c.in_ok-add.ensures.took c.loop-n.invariant
