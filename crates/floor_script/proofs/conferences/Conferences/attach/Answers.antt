use Rattle.std.proofs.Common.{refl}
use Rattle.floor_script.proofs.Places.{other_answer}
use Rattle.floor_script.proofs.Standing.{answers_as, carries_attach, carries_unattached}
use Rattle.floor_script.proofs.conferences.Conferences.attach.Goals as goal

pub returns-in_ok-add-in-Attached : goal.returns-in_ok-add-in-Attached
returns-in_ok-add-in-Attached c =
    record { took = carries_attach c.args.conference c.args.user c.in-Attached.connection _ _ (answers_as _ _ _ _ _ c.in-Attached.is c.in_ok-answer.ensures.took) c.in_ok-add-in-Attached.ensures.took }

pub returns-in_default : goal.returns-in_default
returns-in_default c =
    record { took = carries_unattached c.args.conference c.args.user c.in_ok-answer.answer _ _ (other_answer c.in_ok-answer.answer c.in_default.not-Attached) c.in_ok-answer.ensures.took refl }
