use Rattle.std.proofs.Common.{refl}
use Rattle.floor_meetings.specs.Runs.{LeaveAway}
use Rattle.floor_turn.proofs.Moving.{moves_one}
use Rattle.floor_turn.proofs.server.Server.remove_away.Goals as goal

pub returns-clause-moves : goal.returns-clause-moves
returns-clause-moves c = moves_one (LeaveAway c.args.number) c.args.self.now.meetings c.leave_away-left.new.self (c.leave_away-left.ensures.members, c.leave_away-left.ensures.took) (λ slot. refl)
