use Rattle.std.proofs.Common.{refl}
use Rattle.floor_machine.specs.declared.event.Event.TheVariants.{Leave}
use Rattle.floor_machine.proofs.Tried.{tried-refused, whole_of-free}
use Rattle.floor_machine.proofs.machine.Machine.leave.Goals as goal

pub take-requires-clause-whole : goal.take-requires-clause-whole
take-requires-clause-whole c = whole_of-free c.args.self.now (Leave c.args.n) c.in-None.ensures

pub returns-in-Some-clause-took : goal.returns-in-Some-clause-took
returns-in-Some-clause-took c = (tried-refused c.args.self.now (Leave c.args.n) c.args.out.now.items c.clear.new.self.items c.in-Some.refusal c.clear.ensures.items c.in-Some.ensures).took

pub returns-in-Some-clause-refused : goal.returns-in-Some-clause-refused
returns-in-Some-clause-refused c = (tried-refused c.args.self.now (Leave c.args.n) c.args.out.now.items c.clear.new.self.items c.in-Some.refusal c.clear.ensures.items c.in-Some.ensures).refused

pub returns-in-Some-clause-left : goal.returns-in-Some-clause-left
returns-in-Some-clause-left c = (tried-refused c.args.self.now (Leave c.args.n) c.args.out.now.items c.clear.new.self.items c.in-Some.refusal c.clear.ensures.items c.in-Some.ensures).left

pub returns-in-None-clause-took : goal.returns-in-None-clause-took
returns-in-None-clause-took c = (c.take.ensures.tried (Leave c.args.n) (refl, c.to.ensures) tt c.in-None.ensures).took

pub returns-in-None-clause-refused : goal.returns-in-None-clause-refused
returns-in-None-clause-refused c = (c.take.ensures.tried (Leave c.args.n) (refl, c.to.ensures) tt c.in-None.ensures).refused

pub returns-in-None-clause-left : goal.returns-in-None-clause-left
returns-in-None-clause-left c = (c.take.ensures.tried (Leave c.args.n) (refl, c.to.ensures) tt c.in-None.ensures).left

pub returns-in-Some-clause-changed : goal.returns-in-Some-clause-changed
returns-in-Some-clause-changed c = (tried-refused c.args.self.now (Leave c.args.n) c.args.out.now.items c.clear.new.self.items c.in-Some.refusal c.clear.ensures.items c.in-Some.ensures).changed

pub returns-in-Some-clause-unchanged : goal.returns-in-Some-clause-unchanged
returns-in-Some-clause-unchanged c = (tried-refused c.args.self.now (Leave c.args.n) c.args.out.now.items c.clear.new.self.items c.in-Some.refusal c.clear.ensures.items c.in-Some.ensures).unchanged

pub returns-in-None-clause-changed : goal.returns-in-None-clause-changed
returns-in-None-clause-changed c = (c.take.ensures.tried (Leave c.args.n) (refl, c.to.ensures) tt c.in-None.ensures).changed

pub returns-in-None-clause-unchanged : goal.returns-in-None-clause-unchanged
returns-in-None-clause-unchanged c = (c.take.ensures.tried (Leave c.args.n) (refl, c.to.ensures) tt c.in-None.ensures).unchanged
