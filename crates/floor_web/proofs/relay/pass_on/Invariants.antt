use Rattle.std.proofs.Common.{length}
use Rattle.floor_web.proofs.Telling.{Passing}
use Rattle.floor_web.proofs.relay.pass_on.Given as goal

abbrev pub invariant-loop-message : goal.invariant-loop-message
invariant-loop-message l = Passing l.context l.initial.held l.held l.initial.down.items l.down.items

abbrev pub decreases-loop-message : goal.decreases-loop-message
decreases-loop-message l = length l.held
