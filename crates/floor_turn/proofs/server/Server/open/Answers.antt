use Rattle.std.proofs.Common.{refl}
use Rattle.floor_hub.specs.declared.step.Step.TheVariants as step
use Rattle.floor_meetings.specs.Runs.{Open}
use Rattle.floor_connections.proofs.Steps.{steps_same, steps_then}
use Rattle.floor_turn.proofs.Handing.{quiet_none}
use Rattle.floor_turn.proofs.Moving.{moves_one, moves_same}
use Rattle.floor_turn.proofs.server.Server.open.Goals as goal

pub returns-then-has-clause-quiet : goal.returns-then-has-clause-quiet
returns-then-has-clause-quiet c = quiet_none (step.Open c.args.config) c.args.self.now.meetings.hub

pub returns-then-has-clause-moves : goal.returns-then-has-clause-moves
returns-then-has-clause-moves c = moves_same c.args.self.now.meetings c.args.self.now.meetings refl

pub returns-in-Err-clause-quiet : goal.returns-in-Err-clause-quiet
returns-in-Err-clause-quiet c = quiet_none (step.Open c.args.config) c.args.self.now.meetings.hub

pub returns-in-Err-clause-moves : goal.returns-in-Err-clause-moves
returns-in-Err-clause-moves c = moves_same c.args.self.now.meetings c.args.self.now.meetings refl

pub returns-in-Ok-open-clause-moves : goal.returns-in-Ok-open-clause-moves
returns-in-Ok-open-clause-moves c = moves_one (Open c.args.config) c.args.self.now.meetings c.open.new.self (c.open.ensures.members, c.open.ensures.quiet) (λ slot. refl)

pub returns-in-Err-open-clause-moves : goal.returns-in-Err-open-clause-moves
returns-in-Err-open-clause-moves c = moves_one (Open c.args.config) c.args.self.now.meetings c.open.new.self (c.open.ensures.members, c.open.ensures.quiet) (λ slot. refl)

pub returns-in-Ok-open-clause-steps : goal.returns-in-Ok-open-clause-steps
returns-in-Ok-open-clause-steps c = steps_then c.args.self.now.connections.sockets c.listen_all.new.self.sockets c.tell.new.self.sockets c.listen_all.ensures.steps (steps_same c.listen_all.new.self.sockets c.tell.new.self.sockets c.tell.ensures.sockets)

pub returns-in-Err-open-clause-steps : goal.returns-in-Err-open-clause-steps
returns-in-Err-open-clause-steps c = steps_then c.args.self.now.connections.sockets c.listen_all.new.self.sockets c.forget.new.self.sockets c.listen_all.ensures.steps c.forget.ensures.steps
