use Rattle.std.proofs.Common.{refl}
use Rattle.floor_meetings.specs.Runs.{Keep}
use Rattle.floor_turn.proofs.Moving.{moves_one}
use Rattle.floor_turn.proofs.server.Server.begin_keeping.Goals as goal

pub returns-clause-moves : goal.returns-clause-moves
returns-clause-moves c = moves_one Keep c.args.self.now.meetings c.begin_keeping.new.self (c.begin_keeping.ensures.members, c.begin_keeping.ensures.quiet) (λ slot. refl)
