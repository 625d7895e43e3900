use Rattle.floor_hub.specs.declared.step.Answer.TheVariants.{Done}
use Rattle.floor_hub.specs.declared.step.Step.TheVariants.{Piece}
use Rattle.floor_script.proofs.Holding.{did_same, refused_as, refused_same}
use Rattle.floor_script.proofs.conferences.piece_in.Goals as goal

pub returns-in-Ok : goal.returns-in-Ok
returns-in-Ok c = record { took = did_same (Piece c.args.connection c.args.bytes.now) Done _ _ c.in-Ok.ensures.rooms c.in-Ok.ensures.next }

pub returns-in-Err : goal.returns-in-Err
returns-in-Err c = record {
  took = refused_as c.refused.result c.in-Err.refusal _ c.refused.ensures.took
      (λ calm. refused_same (Piece c.args.connection c.args.bytes.now) c.in-Err.refusal _ _ c.in-Err.ensures.rooms c.in-Err.ensures.next calm);
}
