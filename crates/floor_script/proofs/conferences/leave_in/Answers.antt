use Rattle.std.proofs.Common.{None}
use Rattle.floor_hub.specs.Connections.{connection_at}
use Rattle.floor_hub.specs.Rooms.{leave_event}
use Rattle.floor_hub.specs.declared.step.Answer.TheVariants.{Done}
use Rattle.floor_hub.specs.declared.step.Step.TheVariants.{Leave}
use Rattle.floor_script.proofs.Holding.{did_of, refused_as, refused_gone}
use Rattle.floor_script.proofs.conferences.leave_in.Goals as goal

pub returns-in-Ok : goal.returns-in-Ok
returns-in-Ok c = record { took = did_of (Leave c.args.connection) Done None leave_event (connection_at c.args.hub.now.connections c.args.connection) _ _ c.in-Ok.ensures.room c.in-Ok.ensures.next }

pub returns-in-Err : goal.returns-in-Err
returns-in-Err c = record {
  took = refused_as c.refused.result c.in-Err.refusal _ c.refused.ensures.took
      (λ calm. refused_gone (Leave c.args.connection) c.in-Err.refusal None leave_event (connection_at c.args.hub.now.connections c.args.connection) _ _ c.in-Err.ensures.room c.in-Err.ensures.next calm);
}
