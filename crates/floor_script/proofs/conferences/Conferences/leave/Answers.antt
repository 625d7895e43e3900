use Rattle.std.proofs.Common.{refl}
use Rattle.floor_script.proofs.Standing.{answers_as, carries_leave, carries_stay}
use Rattle.floor_script.proofs.conferences.Conferences.leave.Goals as goal

pub returns-in-Done : goal.returns-in-Done
returns-in-Done c = record { took = carries_leave c.args.connection _ _ (answers_as _ _ _ _ _ c.in-Done.is c.in_ok-answer.ensures.took) c.forget.ensures }

pub returns-in_default : goal.returns-in_default
returns-in_default c = record { took = carries_stay c.args.connection c.in_ok-answer.answer _ _ c.in_default.not-Done c.in_ok-answer.ensures.took refl }
