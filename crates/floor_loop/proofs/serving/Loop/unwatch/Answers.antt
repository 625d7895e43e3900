use Rattle.std.proofs.Common.{subst, sym}
use Rattle.floor_hub.specs.Hub.{Hub}
use Rattle.floor_loop.specs.steps.Moved.{IsLoop, loop_of}
use Rattle.floor_loop.proofs.Watching.{loop-gathers}
use Rattle.floor_loop.proofs.serving.Loop.unwatch.Goals as goal

pub invariant_of-self : goal.invariant_of-self
invariant_of-self c =
    subst (λ (h : Hub). IsLoop (loop_of h c.self.inside.attended)) (sym c.unwatch.ensures.next) (loop-gathers c.self.inside.hub (record c.self.inside.hub.gathered { watched = c.unwatch.new.self.gathered.watched }) c.self.inside.attended c.self.invariant)
