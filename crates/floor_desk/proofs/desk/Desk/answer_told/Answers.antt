use Rattle.std.proofs.Common.{rules}
use Rattle.floor_desk.specs.Callers.{caller_at}
use Rattle.floor_desk.proofs.Told.{ends_where_told}
use Rattle.floor_desk.proofs.desk.Desk.answer_told.Goals as goal

pub returns-in-Told-clause-here : goal.returns-in-Told-clause-here
returns-in-Told-clause-here c =
    ends_where_told (caller_at c.args.self.now.callers c.args.socket) (caller_at c.take_task.new.self c.args.socket) (caller_at c.answer.new.self.callers c.args.socket) c.in-Some.told c.in-Told.told c.in-Told.answer
    (search rules) (search rules) (search rules) c.take_task.ensures.here c.answer.ensures.here
