use Rattle.std.proofs.Common.{refl}
use Rattle.floor_sockets.specs.Runs.{Hold, Lend}
use Rattle.floor_connections.proofs.Steps.{steps_by, steps_more, steps_then}
use Rattle.floor_connections.proofs.connections.Connections.lend_client.Goals as goal

pub returns-then-goes_on-clause-steps : goal.returns-then-goes_on-clause-steps
returns-then-goes_on-clause-steps c = steps_more (Hold c.args.slot c.args.is_held) c.args.self.now.sockets c.lend.new.self c.hold.new.self (λ slot. refl) (steps_by (Lend c.args.slot c.args.has_bytes) c.args.self.now.sockets c.lend.new.self (λ slot. refl) c.lend.ensures.took) c.hold.ensures.took

pub returns-clause-steps : goal.returns-clause-steps
returns-clause-steps c = steps_then c.args.self.now.sockets c.hold.new.self c.end_client.new.self.sockets (steps_more (Hold c.args.slot c.args.is_held) c.args.self.now.sockets c.lend.new.self c.hold.new.self (λ slot. refl) (steps_by (Lend c.args.slot c.args.has_bytes) c.args.self.now.sockets c.lend.new.self (λ slot. refl) c.lend.ensures.took) c.hold.ensures.took) c.end_client.ensures.steps
