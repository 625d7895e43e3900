use Rattle.std.proofs.Common.{refl}
use Rattle.floor_sockets.specs.Runs.{Fail, Open, Refused}
use Rattle.floor_connections.proofs.Steps.{steps_by, steps_more}
use Rattle.floor_connections.proofs.connections.Connections.open.Goals as goal

pub returns-in-Err-clause-steps : goal.returns-in-Err-clause-steps
returns-in-Err-clause-steps c = steps_by Refused c.args.self.now.sockets c.open.new.self (λ slot. refl) c.in-Err.ensures.left

pub returns-in-Ok-put-clause-steps : goal.returns-in-Ok-put-clause-steps
returns-in-Ok-put-clause-steps c = steps_by (Open c.args.role c.args.group c.in-Ok.slot) c.args.self.now.sockets c.open.new.self (λ slot. refl) c.in-Ok.ensures.took

pub returns-in-Err-put-clause-steps : goal.returns-in-Err-put-clause-steps
returns-in-Err-put-clause-steps c = steps_more (Fail c.in-Ok.slot) c.args.self.now.sockets c.open.new.self c.fail.new.self (λ slot. refl) (steps_by (Open c.args.role c.args.group c.in-Ok.slot) c.args.self.now.sockets c.open.new.self (λ slot. refl) c.in-Ok.ensures.took) c.fail.ensures.took
