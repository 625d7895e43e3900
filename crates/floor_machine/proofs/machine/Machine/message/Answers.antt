use Rattle.floor_machine.specs.declared.event.Event.TheVariants.{Message}
use Rattle.floor_machine.proofs.Tried.{tried-refused}
use Rattle.floor_machine.proofs.machine.Machine.message.Goals as goal

pub returns-in-Some-clause-took : goal.returns-in-Some-clause-took
returns-in-Some-clause-took c = (tried-refused c.args.self.now (Message c.args.n c.args.frame.now) c.args.out.now.items c.clear.new.self.items c.in-Some.refusal c.clear.ensures.items c.in-Some.ensures).took

pub returns-in-Some-clause-refused : goal.returns-in-Some-clause-refused
returns-in-Some-clause-refused c = (tried-refused c.args.self.now (Message c.args.n c.args.frame.now) c.args.out.now.items c.clear.new.self.items c.in-Some.refusal c.clear.ensures.items c.in-Some.ensures).refused

pub returns-in-Some-clause-left : goal.returns-in-Some-clause-left
returns-in-Some-clause-left c = (tried-refused c.args.self.now (Message c.args.n c.args.frame.now) c.args.out.now.items c.clear.new.self.items c.in-Some.refusal c.clear.ensures.items c.in-Some.ensures).left

pub returns-in-None-clause-took : goal.returns-in-None-clause-took
returns-in-None-clause-took c = (c.take_message.ensures.tried).took

pub returns-in-None-clause-refused : goal.returns-in-None-clause-refused
returns-in-None-clause-refused c = (c.take_message.ensures.tried).refused

pub returns-in-None-clause-left : goal.returns-in-None-clause-left
returns-in-None-clause-left c = (c.take_message.ensures.tried).left

pub returns-in-Some-clause-changed : goal.returns-in-Some-clause-changed
returns-in-Some-clause-changed c = (tried-refused c.args.self.now (Message c.args.n c.args.frame.now) c.args.out.now.items c.clear.new.self.items c.in-Some.refusal c.clear.ensures.items c.in-Some.ensures).changed

pub returns-in-Some-clause-unchanged : goal.returns-in-Some-clause-unchanged
returns-in-Some-clause-unchanged c = (tried-refused c.args.self.now (Message c.args.n c.args.frame.now) c.args.out.now.items c.clear.new.self.items c.in-Some.refusal c.clear.ensures.items c.in-Some.ensures).unchanged

pub returns-in-None-clause-changed : goal.returns-in-None-clause-changed
returns-in-None-clause-changed c = (c.take_message.ensures.tried).changed

pub returns-in-None-clause-unchanged : goal.returns-in-None-clause-unchanged
returns-in-None-clause-unchanged c = (c.take_message.ensures.tried).unchanged
