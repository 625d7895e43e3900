use Rattle.std.proofs.Common.{Option, Err, List, ℕ, subst, refl}
use Rattle.floor_machine.specs.declared.event.Event.TheVariants.{Say}
use Rattle.floor_machine.specs.declared.machine.Refusal.{Refusal}
use Rattle.floor_machine.specs.Machine.{IsRefusedBy}
use Rattle.floor_machine.proofs.Done.{err-done, ok-done, refused-done, why-done}
use Rattle.floor_machine.proofs.Tried.{tried-refused}
use Rattle.floor_machine.proofs.machine.Machine.say.Goals as goal

pub returns-in-Some-clause-took : goal.returns-in-Some-clause-took
returns-in-Some-clause-took c = (tried-refused c.args.self.now (Say c.args.user c.args.frame.now) c.args.out.now.items c.clear.new.self.items c.in-Some.refusal c.clear.ensures.items c.in-Some.ensures).took

pub returns-in-Some-clause-refused : goal.returns-in-Some-clause-refused
returns-in-Some-clause-refused c =
    let R : Option Refusal → Type 0 = λ o. IsRefusedBy {T = Option (List ℕ)} o (Err c.in-Some.refusal) in
    subst R c.in-Some.ensures refl

pub returns-in-Some-clause-left : goal.returns-in-Some-clause-left
returns-in-Some-clause-left c = (tried-refused c.args.self.now (Say c.args.user c.args.frame.now) c.args.out.now.items c.clear.new.self.items c.in-Some.refusal c.clear.ensures.items c.in-Some.ensures).left

pub returns-in-Some-clause-changed : goal.returns-in-Some-clause-changed
returns-in-Some-clause-changed c = (tried-refused c.args.self.now (Say c.args.user c.args.frame.now) c.args.out.now.items c.clear.new.self.items c.in-Some.refusal c.clear.ensures.items c.in-Some.ensures).changed

pub returns-in-Some-clause-unchanged : goal.returns-in-Some-clause-unchanged
returns-in-Some-clause-unchanged c = (tried-refused c.args.self.now (Say c.args.user c.args.frame.now) c.args.out.now.items c.clear.new.self.items c.in-Some.refusal c.clear.ensures.items c.in-Some.ensures).unchanged

pub returns-in-None-clause-took : goal.returns-in-None-clause-took
returns-in-None-clause-took c = ok-done _ c.take_said.result c.take_said.ensures.tried.took

pub returns-in-None-clause-refused : goal.returns-in-None-clause-refused
returns-in-None-clause-refused c = refused-done _ c.take_said.result c.take_said.ensures.tried.refused

pub returns-in-None-clause-left : goal.returns-in-None-clause-left
returns-in-None-clause-left c = why-done _ c.take_said.result c.take_said.ensures.tried.left

pub returns-in-None-clause-changed : goal.returns-in-None-clause-changed
returns-in-None-clause-changed c = ok-done _ c.take_said.result c.take_said.ensures.tried.changed

pub returns-in-None-clause-unchanged : goal.returns-in-None-clause-unchanged
returns-in-None-clause-unchanged c = err-done _ c.take_said.result c.take_said.ensures.tried.unchanged
