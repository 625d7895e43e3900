use Rattle.std.proofs.Common.{refl}
use Rattle.floor_sockets.specs.declared.role.Role.TheVariants.{Listener}
use Rattle.floor_sockets.specs.Runs.{Fail, Open, Refused}
use Rattle.floor_connections.proofs.Steps.{steps_by, steps_more}
use Rattle.floor_connections.proofs.connections.Connections.listen.Goals as goal

pub returns-in_err-slot-clause-steps : goal.returns-in_err-slot-clause-steps
returns-in_err-slot-clause-steps c = steps_by Refused c.args.self.now.sockets c.open.new.self (λ slot. refl) c.in_err-slot.ensures.left

pub returns-in-Ok-clause-steps : goal.returns-in-Ok-clause-steps
returns-in-Ok-clause-steps c = steps_by (Open Listener c.args.group c.in_ok-slot.slot) c.args.self.now.sockets c.open.new.self (λ slot. refl) c.in_ok-slot.ensures.took

pub returns-in-Err-clause-steps : goal.returns-in-Err-clause-steps
returns-in-Err-clause-steps c = steps_more (Fail c.in_ok-slot.slot) c.args.self.now.sockets c.open.new.self c.fail.new.self (λ slot. refl) (steps_by (Open Listener c.args.group c.in_ok-slot.slot) c.args.self.now.sockets c.open.new.self (λ slot. refl) c.in_ok-slot.ensures.took) c.fail.ensures.took
