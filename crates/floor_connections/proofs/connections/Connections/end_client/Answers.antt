use Rattle.std.proofs.Common.{refl}
use Rattle.floor_sockets.specs.Sockets.{life_at}
use Rattle.floor_sockets.specs.Runs.{End, Fail}
use Rattle.floor_connections.proofs.Ending.{ends_by}
use Rattle.floor_connections.proofs.Steps.{steps_by, steps_more}
use Rattle.floor_connections.proofs.connections.Connections.end_client.Goals as goal

pub returns-then-has_bytes-clause-ends : goal.returns-then-has_bytes-clause-ends
returns-then-has_bytes-clause-ends c = ends_by (life_at c.args.self.now.sockets c.args.slot) (life_at c.end.new.self c.args.slot) c.end.ensures.took.here

pub returns-then-has_bytes-clause-steps : goal.returns-then-has_bytes-clause-steps
returns-then-has_bytes-clause-steps c = steps_by (End c.args.slot) c.args.self.now.sockets c.end.new.self (λ slot. refl) c.end.ensures.took

pub returns-clause-ends : goal.returns-clause-ends
returns-clause-ends c = ends_by (life_at c.end.new.self c.args.slot) (life_at c.fail.new.self c.args.slot) c.fail.ensures.took.here

pub returns-clause-steps : goal.returns-clause-steps
returns-clause-steps c = steps_more (Fail c.args.slot) c.args.self.now.sockets c.end.new.self c.fail.new.self (λ slot. refl) (steps_by (End c.args.slot) c.args.self.now.sockets c.end.new.self (λ slot. refl) c.end.ensures.took) c.fail.ensures.took
