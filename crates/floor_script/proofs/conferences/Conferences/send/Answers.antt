use Rattle.std.proofs.Common.{refl}
use Rattle.floor_script.proofs.Holding.{ok_as}
use Rattle.floor_script.proofs.Standing.{answers_as, carries_send, sends_nothing, sends_on}
use Rattle.floor_script.proofs.conferences.Conferences.send.Goals as goal

pub returns-in-Done : goal.returns-in-Done
returns-in-Done c = record {
  took = ok_as c.serve_all.result _ _ c.serve_all.ensures.took
      (λ answer a. carries_send c.args.connection c.args.bytes.now answer _ _ (sends_on c.args.connection c.args.bytes.now answer _ _ _ (answers_as _ _ _ _ _ c.in-Done.is c.in_ok-answer.ensures.took) a) refl);
}

pub returns-in_default : goal.returns-in_default
returns-in_default c = record {
  took = carries_send c.args.connection c.args.bytes.now c.in_ok-answer.answer _ _
      (sends_nothing c.args.connection c.args.bytes.now c.in_ok-answer.answer _ _ c.in_default.not-Done c.in_ok-answer.ensures.took) refl;
}
