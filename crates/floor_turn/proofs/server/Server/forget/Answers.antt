use Rattle.std.proofs.Common.{refl}
use Rattle.floor_meetings.specs.Runs.{Forget}
use Rattle.floor_connections.proofs.Steps.{steps_same, steps_then}
use Rattle.floor_turn.proofs.Moving.{moves_one}
use Rattle.floor_turn.proofs.server.Server.forget.Goals as goal

pub returns-in_err-forget-clause-moves : goal.returns-in_err-forget-clause-moves
returns-in_err-forget-clause-moves c = moves_one Forget c.args.self.now.meetings c.forget.new.self (c.forget.ensures.members, c.forget.ensures.still) (λ slot. refl)

pub returns-clause-moves : goal.returns-clause-moves
returns-clause-moves c = moves_one Forget c.args.self.now.meetings c.forget.new.self (c.forget.ensures.members, c.forget.ensures.still) (λ slot. refl)

pub returns-clause-steps : goal.returns-clause-steps
returns-clause-steps c = steps_then c.args.self.now.connections.sockets c.forget-2.new.self.sockets c.tell.new.self.sockets c.forget-2.ensures.steps (steps_same c.forget-2.new.self.sockets c.tell.new.self.sockets c.tell.ensures.sockets)
