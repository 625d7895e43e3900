use Rattle.floor_hub.specs.Connections.{connection_at}
use Rattle.floor_hub.specs.Rooms.{by_broken, took_event}
use Rattle.floor_hub.specs.declared.step.Answer.TheVariants.{Done}
use Rattle.floor_hub.specs.declared.step.Step.TheVariants.{Took}
use Rattle.floor_script.proofs.Holding.{did_of, refused_as, refused_of}
use Rattle.floor_script.proofs.conferences.acknowledge_one.Goals as goal

pub returns-in-Ok : goal.returns-in-Ok
returns-in-Ok c =
    let told = did_of (Took c.args.taken.connection c.args.taken.parcels) Done by_broken (took_event c.args.taken.parcels) (connection_at c.args.hub.now.connections c.args.taken.connection) _ _ c.in-Ok.ensures.room c.in-Ok.ensures.next in
    record { took = record { next = told.next } }

pub returns-in-Err : goal.returns-in-Err
returns-in-Err c = record {
  took = refused_as c.refused.result c.in-Err.refusal _ c.refused.ensures.took
      (λ calm.
      let told = refused_of (Took c.args.taken.connection c.args.taken.parcels) c.in-Err.refusal by_broken (took_event c.args.taken.parcels) (connection_at c.args.hub.now.connections c.args.taken.connection) _ _ c.in-Err.ensures.room c.in-Err.ensures.next calm in
      record { next = told.next });
}
