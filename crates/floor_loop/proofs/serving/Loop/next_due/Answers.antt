use Rattle.std.proofs.Common.{ap, refl}
use Rattle.floor_loop.specs.Done.{NoSteps}
use Rattle.floor_loop.specs.Loop.{Attended}
use Rattle.floor_loop.specs.steps.Moved.{loop_of}
use Rattle.floor_loop.proofs.Calls.{moved-kept}
use Rattle.floor_loop.proofs.Moving.{fewer, loop-moves}
use Rattle.floor_loop.proofs.Stepping.{keeps-passed}
use Rattle.floor_loop.proofs.serving.Loop.next_due.Goals as goal

pub invariant_of-self : goal.invariant_of-self
invariant_of-self c =
    let old = loop_of c.self.inside.hub c.self.inside.attended in
    let new = loop_of c.self.inside.hub c.next_over.new.self in
    loop-moves NoSteps old new (moved-kept old new refl (keeps-passed c.self.inside.attended c.next_over.new.self (ap (λ (z : Attended). z.outgoing) c.next_over.ensures.next)) (fewer c.self.inside.attended c.next_over.new.self (ap (λ (z : Attended). z.away) c.next_over.ensures.next))) c.self.invariant
