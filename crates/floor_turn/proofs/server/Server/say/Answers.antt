use Rattle.std.proofs.Common.{refl}
use Rattle.floor_meetings.specs.Runs.{Says}
use Rattle.floor_connections.proofs.Steps.{steps_then}
use Rattle.floor_turn.proofs.Moving.{moves_one}
use Rattle.floor_turn.proofs.server.Server.say.Goals as goal

pub returns-clause-moves : goal.returns-clause-moves
returns-clause-moves c = moves_one (Says c.args.conference c.args.user c.args.message.now) c.args.self.now.meetings c.say-said.new.self (c.say-said.ensures.members, c.say-said.ensures.quiet) (λ slot. refl)

pub returns-clause-steps : goal.returns-clause-steps
returns-clause-steps c = steps_then c.args.self.now.connections.sockets c.pass.new.self.sockets c.see_to_phase.new.connections.sockets c.pass.ensures.steps c.see_to_phase.ensures.steps
