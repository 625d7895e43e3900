use Rattle.floor_meetings.proofs.Numbers.{joins-apart, others-stay}
use Rattle.floor_meetings.proofs.laws.joins_are_their_own.Goals as goal

pub returns-clause-others : goal.returns-clause-others
returns-clause-others c = others-stay

pub returns-clause-apart : goal.returns-clause-apart
returns-clause-apart c = joins-apart
