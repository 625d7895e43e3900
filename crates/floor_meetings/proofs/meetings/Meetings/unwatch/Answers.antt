use Rattle.std.proofs.Common.{refl}
use Rattle.floor_meetings.proofs.Gathering.{quiet_gathered, regathers}
use Rattle.floor_meetings.proofs.meetings.Meetings.unwatch.Goals as goal

pub returns-clause-quiet : goal.returns-clause-quiet
returns-clause-quiet c = quiet_gathered c.args.self.now.hub c.unwatch.new.self (record c.args.self.now.hub.hub.gathered { watched = c.unwatch.new.self.hub.gathered.watched }) c.unwatch.ensures.next

pub returns-clause-only : goal.returns-clause-only
returns-clause-only c = regathers c.args.self.now (record c.args.self.now { hub = c.unwatch.new.self }) (record c.args.self.now.hub.hub.gathered { watched = c.unwatch.new.self.hub.gathered.watched }) c.unwatch.ensures.next refl refl
