use Rattle.std.proofs.Common.{ℕ, subst, sym, ◌∙◌}
use Rattle.floor_keeping.specs.steps.Listed.{IsWoken}
use Rattle.floor_keeping.proofs.Listing.{time-same, wake-ascends, wake-here, wake-others}
use Rattle.floor_keeping.proofs.turn.wake_later.Goals as goal

pub returns-in-None-Some-clause-here : goal.returns-in-None-Some-clause-here
returns-in-None-Some-clause-here c = λ t whole before after late.
    subst (λ (n : ℕ). IsWoken c.put_at.new.self.wakings c.args.conference n) (time-same c.in-None-Some.at t (sym c.in-None-Some.is-1 ∙ after))
    (wake-here c.args.conference c.in-None-Some.at c.args.line.now c.put_at.new.self c.put_at.ensures.next whole)

pub returns-in-None-Some-clause-others : goal.returns-in-None-Some-clause-others
returns-in-None-Some-clause-others c = λ k t stood. wake-others c.args.conference c.in-None-Some.at k t c.args.line.now c.put_at.new.self c.put_at.ensures.next stood

pub returns-in-None-Some-clause-ascending : goal.returns-in-None-Some-clause-ascending
returns-in-None-Some-clause-ascending c = λ first last a w h.
    let both = h c.in-None-Some.at c.in-None-Some.is-0 c.in-None-Some.is-1 c.if-now-at.true in
    wake-ascends c.args.conference c.in-None-Some.at first last c.args.line.now c.put_at.new.self c.put_at.ensures.next a w both.0 both.1
