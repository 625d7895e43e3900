use Rattle.std.proofs.Common.{refl, ◌∙◌}
use Rattle.floor_meetings.specs.Runs.{Due, LeaveAway}
use Rattle.floor_sockets.specs.Runs.{Fail}
use Rattle.floor_connections.proofs.Steps.{steps_by, steps_same}
use Rattle.floor_turn.proofs.Moving.{moves_one, moves_then}
use Rattle.floor_turn.proofs.Sparing.{free_one, free_then}
use Rattle.floor_turn.proofs.server.Server.see_to_due.Goals as goal

pub returns-in-Some-Member-clause-moves : goal.returns-in-Some-Member-clause-moves
returns-in-Some-Member-clause-moves c = moves_one (Due c.millis-now.result) c.args.self.now.meetings c.due.new.self (c.due.ensures.members, c.due.ensures.hub, c.due.ensures.attended) (λ slot. refl)

pub returns-in-None-clause-moves : goal.returns-in-None-clause-moves
returns-in-None-clause-moves c = moves_one (Due c.millis-now.result) c.args.self.now.meetings c.due.new.self (c.due.ensures.members, c.due.ensures.hub, c.due.ensures.attended) (λ slot. refl)

pub returns-else-is_held_by-clause-moves : goal.returns-else-is_held_by-clause-moves
returns-else-is_held_by-clause-moves c =
    moves_then c.args.self.now.meetings c.due.new.self c.leave_away-left.new.self
    (moves_one (Due c.millis-now.result) c.args.self.now.meetings c.due.new.self (c.due.ensures.members, c.due.ensures.hub, c.due.ensures.attended) (λ slot. refl))
    (moves_one (LeaveAway c.in-Some-Away.number) c.due.new.self c.leave_away-left.new.self (c.leave_away-left.ensures.members, c.leave_away-left.ensures.took) (λ slot. refl))

pub returns-in-Some-Member-clause-steps : goal.returns-in-Some-Member-clause-steps
returns-in-Some-Member-clause-steps c = steps_by (Fail c.in-Some-Member.socket) c.args.self.now.connections.sockets c.fail.new.self (λ slot. refl) c.fail.ensures.took

pub returns-else-is_held_by-clause-steps : goal.returns-else-is_held_by-clause-steps
returns-else-is_held_by-clause-steps c = steps_same c.args.self.now.connections.sockets c.tell_left.new.connections.sockets (c.tell_left.ensures.sockets ∙ c.forget_away-who.ensures.sockets)

pub returns-then-is_held_by-clause-moves : goal.returns-then-is_held_by-clause-moves
returns-then-is_held_by-clause-moves c = moves_one (Due c.millis-now.result) c.args.self.now.meetings c.due.new.self (c.due.ensures.members, c.due.ensures.hub, c.due.ensures.attended) (λ slot. refl)

pub returns-in-Some-Member-clause-spares : goal.returns-in-Some-Member-clause-spares
returns-in-Some-Member-clause-spares c = free_one c.args.self.now.connections.conferences (Due c.millis-now.result) c.args.self.now.meetings c.due.new.self (c.due.ensures.members, c.due.ensures.hub, c.due.ensures.attended) (λ slot. refl) tt

pub returns-in-None-clause-spares : goal.returns-in-None-clause-spares
returns-in-None-clause-spares c = free_one c.args.self.now.connections.conferences (Due c.millis-now.result) c.args.self.now.meetings c.due.new.self (c.due.ensures.members, c.due.ensures.hub, c.due.ensures.attended) (λ slot. refl) tt

pub returns-then-is_held_by-clause-spares : goal.returns-then-is_held_by-clause-spares
returns-then-is_held_by-clause-spares c = free_one c.args.self.now.connections.conferences (Due c.millis-now.result) c.args.self.now.meetings c.due.new.self (c.due.ensures.members, c.due.ensures.hub, c.due.ensures.attended) (λ slot. refl) tt

pub returns-else-is_held_by-clause-spares : goal.returns-else-is_held_by-clause-spares
returns-else-is_held_by-clause-spares c =
    let cs = c.args.self.now.connections.conferences in
    free_then cs c.args.self.now.meetings c.due.new.self c.leave_away-left.new.self
    (free_one cs (Due c.millis-now.result) c.args.self.now.meetings c.due.new.self (c.due.ensures.members, c.due.ensures.hub, c.due.ensures.attended) (λ slot. refl) tt)
    (free_one cs (LeaveAway c.in-Some-Away.number) c.due.new.self c.leave_away-left.new.self (c.leave_away-left.ensures.members, c.leave_away-left.ensures.took) (λ slot. refl) (c.is_held_by.ensures.free c.if-is_held_by.false))
