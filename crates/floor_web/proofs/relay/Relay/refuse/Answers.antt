use Rattle.std.proofs.Common.{sym, ◌∙◌, refl}
use Rattle.floor_web.specs.declared.end.End.TheVariants as Why
use Rattle.floor_web.proofs.Carried.{silent_keeps, finish_keeps}
use Rattle.floor_web.proofs.Ends.{none_of}
use Rattle.floor_web.proofs.relay.Relay.refuse.Goals as goal

pub returns-then-is_over-clause-carried : goal.returns-then-is_over-clause-carried
returns-then-is_over-clause-carried c =
    silent_keeps _ _ c.args.self.now c.args.self.now _ _ _ _ (sym c.is_over.ensures ∙ c.if-is_over.true) (refl, refl, refl)

pub returns-clause-carried : goal.returns-clause-carried
returns-clause-carried c =
    finish_keeps Why.Refused c.args.self.now c.finish.new.self _ _ (none_of _ (sym c.is_over.ensures ∙ c.if-is_over.false)) c.finish.ensures
