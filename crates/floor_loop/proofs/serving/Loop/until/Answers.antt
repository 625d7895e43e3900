use Rattle.std.proofs.Common.{ap, subst, sym, ◌∙◌}
use Rattle.std.specs.Prelude.{IsSome}
use Rattle.std.proofs.lemmas.Option.{none-some}
use Rattle.floor_loop.specs.Loop.{Loop, outgoing_at}
use Rattle.floor_loop.specs.steps.Moved.{IsLoop}
use Rattle.floor_loop.proofs.serving.Loop.until.Goals as goal

pub returns-in-Some-clause-over : goal.returns-in-Some-clause-over
returns-in-Some-clause-over c = λ x r is_x is_r over.
    let l = subst IsLoop c.self.view_is c.self.invariant in
    let found = ap (λ (z : Loop). outgoing_at z c.args.number) (sym c.self.view_is) ∙ sym c.in-Some.ensures.value in
    subst IsSome (sym c.until.ensures.value) (l.timed c.args.number x r c.in-Some.one.now is_x is_r found over)

pub returns-in-None-clause-over : goal.returns-in-None-clause-over
returns-in-None-clause-over c = λ x r is_x is_r over.
    let l = subst IsLoop c.self.view_is c.self.invariant in
    let a = l.serving c.args.number x is_x in
    absurd (none-some a.outgoing (c.in-None.ensures.value ∙ ap (λ (z : Loop). outgoing_at z c.args.number) c.self.view_is ∙ a.found))

pub returns-in-Some-clause-serving : goal.returns-in-Some-clause-serving
returns-in-Some-clause-serving c = (subst IsLoop c.self.view_is c.self.invariant).serving

pub returns-in-None-clause-serving : goal.returns-in-None-clause-serving
returns-in-None-clause-serving c = (subst IsLoop c.self.view_is c.self.invariant).serving
