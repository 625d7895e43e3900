use Rattle.std.proofs.Common.{refl, ap, ◌∙◌}
use Rattle.floor_meetings.specs.Runs.{Keep}
use Rattle.floor_connections.specs.Conferences.{is_held}
use Rattle.floor_connections.specs.declared.conferences.Conferences.{Conferences}
use Rattle.floor_connections.proofs.Steps.{steps_then}
use Rattle.floor_turn.proofs.Moving.{moves_one, moves_then}
use Rattle.floor_turn.proofs.Sparing.{on_ok}
use Rattle.floor_turn.proofs.server.Server.let_go.Goals as goal

pub returns-clause-kept : goal.returns-clause-kept
returns-clause-kept c = on_ok c.keep-kept.result _ _ (λ kept. (c.keep-kept.new.self, kept, c.part_gone.ensures.moves)) c.keep-kept.ensures.kept

pub returns-clause-moves : goal.returns-clause-moves
returns-clause-moves c =
    moves_then c.args.self.now.meetings c.keep-kept.new.self c.part_gone.new.self.meetings
    (moves_one Keep c.args.self.now.meetings c.keep-kept.new.self (c.keep-kept.ensures.members, c.keep-kept.ensures.quiet) (λ slot. refl)) c.part_gone.ensures.moves

pub returns-clause-free : goal.returns-clause-free
returns-clause-free c = ap (λ (cs : Conferences). is_held cs c.args.conference) c.part_gone.ensures.conferences ∙ c.let_go.ensures.took

pub returns-clause-steps : goal.returns-clause-steps
returns-clause-steps c =
    steps_then c.args.self.now.connections.sockets c.resume_members.new.connections.sockets c.part_gone.new.self.connections.sockets
    (steps_then c.args.self.now.connections.sockets c.resume_listeners.new.self.sockets c.resume_members.new.connections.sockets c.resume_listeners.ensures.steps c.resume_members.ensures.steps) c.part_gone.ensures.steps
