use Rattle.floor_hub.specs.declared.step.Answer.TheVariants.{Said}
use Rattle.floor_hub.specs.declared.step.Step.TheVariants.{Say}
use Rattle.floor_script.proofs.Holding.{did_one, refused_as, refused_one}
use Rattle.floor_script.proofs.conferences.say_in.Goals as goal

pub returns-in-Ok : goal.returns-in-Ok
returns-in-Ok c = record { took = did_one (Say c.args.conference c.args.user c.args.message.now) (Said c.in-Ok.said) _ _ _ _ _ c.in-Ok.ensures.room c.in-Ok.ensures.next }

pub returns-in-Err : goal.returns-in-Err
returns-in-Err c = record {
  took = refused_as c.refused.result c.in-Err.refusal _ c.refused.ensures.took
      (λ calm. refused_one (Say c.args.conference c.args.user c.args.message.now) c.in-Err.refusal _ _ _ _ _ c.in-Err.ensures.room c.in-Err.ensures.next calm);
}
