use Rattle.floor_desk.proofs.Attended.{answered_beside}
use Rattle.floor_desk.specs.declared.caller.Task.TheVariants as task
use Rattle.floor_desk.proofs.callers.Callers.answer.Goals as goal

pub returns-clause-attends : goal.returns-clause-attends
returns-clause-attends c = answered_beside c.args.outcome task.Nothing c.args.slot c.args.self.now c.answer_at.new.self c.answer_at.ensures.here c.answer_at.ensures.others
