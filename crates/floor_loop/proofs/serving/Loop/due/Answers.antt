use Rattle.std.proofs.Common.{◌≡◌, ◌<◌, ℕ, Some, ap, refl, subst, ◌∙◌}
use Rattle.std.specs.Prelude.{IfNone, max}
use Rattle.floor_loop.specs.Done.{NoSteps}
use Rattle.floor_loop.specs.Loop.{Attended, Loop, over_at, over_in}
use Rattle.floor_loop.specs.steps.Moved.{loop_of}
use Rattle.floor_loop.proofs.Calls.{moved-kept}
use Rattle.floor_loop.proofs.Moving.{fewer, loop-moves}
use Rattle.floor_loop.proofs.Stepping.{keeps-passed}
use Rattle.floor_loop.proofs.serving.Loop.due.Goals as goal

pub invariant_of-self : goal.invariant_of-self
invariant_of-self c =
    let old = loop_of c.self.inside.hub c.self.inside.attended in
    let new = loop_of c.self.inside.hub c.over.new.self in
    loop-moves NoSteps old new (moved-kept old new refl (keeps-passed c.self.inside.attended c.over.new.self (ap (λ (z : Attended). z.outgoing) (c.over.ensures.next ∙ c.pass.ensures.next))) (fewer c.self.inside.attended c.over.new.self (ap (λ (z : Attended). z.away) (c.over.ensures.next ∙ c.pass.ensures.next)))) c.self.invariant

pub returns-clause-none : goal.returns-clause-none
returns-clause-none c =
    subst (λ (l : Loop). IfNone c.over.result ((number until : ℕ) → over_at l number ≡ Some until → max l.attended.time c.args.now < until)) c.self.view_is
    (subst (λ (a : Attended). IfNone c.over.result ((number until : ℕ) → over_in a number ≡ Some until → a.time < until)) c.pass.ensures.next c.over.ensures.none)
