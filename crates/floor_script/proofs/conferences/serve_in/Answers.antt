use Rattle.std.proofs.Common.{subst}
use Rattle.floor_hub.specs.Calls.{Turns, answer_of}
use Rattle.floor_hub.specs.StandsFor.{StandsFor}
use Rattle.floor_hub.specs.World.{World}
use Rattle.floor_hub.specs.declared.step.Served.{Served as Found}
use Rattle.floor_hub.specs.Connections.{connection_at}
use Rattle.floor_hub.specs.Rooms.{by_broken, serve_event}
use Rattle.floor_hub.specs.declared.step.Answer.TheVariants.{Nothing, Served}
use Rattle.floor_hub.specs.declared.step.Step.TheVariants.{Serve}
use Rattle.floor_script.proofs.Holding.{did_of, refused_as, refused_of}
use Rattle.floor_script.proofs.conferences.serve_in.Goals as goal

pub returns-in-Ok-Message : goal.returns-in-Ok-Message
returns-in-Ok-Message c = record {
  took = did_of (Serve c.args.connection) Served by_broken serve_event (connection_at c.args.hub.now.connections c.args.connection) _ _ c.in-Ok-Message.ensures.room
      (subst (λ (found : Found). (w : World) → StandsFor c.args.hub.now w → Turns c.serve.new.self w (Serve c.args.connection) (answer_of found)) c.in-Ok-Message.field-0-is c.in-Ok-Message.ensures.next);
}

pub returns-in-Ok-Nothing : goal.returns-in-Ok-Nothing
returns-in-Ok-Nothing c = record {
  took = did_of (Serve c.args.connection) Nothing by_broken serve_event (connection_at c.args.hub.now.connections c.args.connection) _ _ c.in-Ok-Nothing.ensures.room
      (subst (λ (found : Found). (w : World) → StandsFor c.args.hub.now w → Turns c.serve.new.self w (Serve c.args.connection) (answer_of found)) c.in-Ok-Nothing.field-0-is c.in-Ok-Nothing.ensures.next);
}

pub returns-in-Err : goal.returns-in-Err
returns-in-Err c = record {
  took = refused_as c.refused.result c.in-Err.refusal _ c.refused.ensures.took
      (λ calm. refused_of (Serve c.args.connection) c.in-Err.refusal by_broken serve_event (connection_at c.args.hub.now.connections c.args.connection) _ _ c.in-Err.ensures.room c.in-Err.ensures.next calm);
}
