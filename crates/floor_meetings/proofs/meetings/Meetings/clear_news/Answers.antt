use Rattle.std.proofs.Common.{[], false, refl}
use Rattle.floor_meetings.proofs.Gathering.{quiet_gathered, regathers}
use Rattle.floor_meetings.proofs.meetings.Meetings.clear_news.Goals as goal

pub returns-clause-quiet : goal.returns-clause-quiet
returns-clause-quiet c = quiet_gathered c.args.self.now.hub c.clear_news.new.self (record c.args.self.now.hub.hub.gathered { news = []; missed = false }) c.clear_news.ensures.next

pub returns-clause-only : goal.returns-clause-only
returns-clause-only c = regathers c.args.self.now (record c.args.self.now { hub = c.clear_news.new.self }) (record c.args.self.now.hub.hub.gathered { news = []; missed = false }) c.clear_news.ensures.next refl refl
