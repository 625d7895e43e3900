use Rattle.std.proofs.Common.{ℕ, List, refl, sym, ap, subst, ◌∙◌, inl}
use Rattle.floor_web.specs.declared.end.End.TheVariants as Why
use Rattle.floor_web.specs.Relay.{Relay, Finishes}
use Rattle.floor_web.proofs.Calls.{ping_sent}
use Rattle.floor_web.proofs.Carried.{silent_keeps, finish_keeps, ping_keeps}
use Rattle.floor_web.proofs.Ends.{none_of}
use Rattle.floor_web.proofs.relay.Relay.ping.Goals as goal

pub returns-then-is_over-clause-carried : goal.returns-then-is_over-clause-carried
returns-then-is_over-clause-carried c =
    silent_keeps _ _ c.args.self.now c.args.self.now _ _ _ _ (sym c.is_over.ensures ∙ c.if-is_over.true) (refl, refl, refl)

pub returns-in-Ok-clause-carried : goal.returns-in-Ok-clause-carried
returns-in-Ok-clause-carried c =
    let is_open = none_of c.args.self.now.end (sym c.is_over.ensures ∙ c.if-is_over.false) in
    let sent = ping_sent c.self.inside.context c.write.new.self c.args.down.now.items c.write.new.output.items (c.self.invariant (ap (λ (r : Relay). r.end) c.self.view_is ∙ is_open)) c.in-Ok.ensures.ok in
    ping_keeps c.args.self.now _ c.args.down.now.items c.write.new.output.items is_open (inl (c.self.view_is, sent.1))

pub returns-in-Err-clause-carried : goal.returns-in-Err-clause-carried
returns-in-Err-clause-carried c =
    finish_keeps Why.Memory c.args.self.now c.finish.new.self c.args.down.now.items c.finish.new.down.items (none_of c.args.self.now.end (sym c.is_over.ensures ∙ c.if-is_over.false))
    (subst (λ (l : List ℕ). Finishes Why.Memory c.finish.new.self l c.finish.new.down.items) c.in-Err.ensures.err_output c.finish.ensures)
