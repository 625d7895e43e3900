use Rattle.std.proofs.Common.{refl, subst}
use Rattle.floor_hub.specs.steps.Serving.{IsServable}
use Rattle.floor_hub.proofs.Handing.{hands-same}
use Rattle.floor_hub.proofs.Telling.{untold}
use Rattle.floor_hub.proofs.rooms.serve_in.Goals as goal

pub returns-then-not-ready : goal.returns-then-not-ready
returns-then-not-ready c = record {
  served = record {
    served = (subst IsServable c.closed-closed.ensures.value (c.shut.ensures.servable c.in-None.is), c.ready.ensures.0 c.if-not-ready.true, refl, refl);
    failed = tt;
  };
  told = untold c.args.room.now c.clear.new.self.told.items c.clear.ensures.told;
  changed = hands-same c.args.room.now c.args.room.now c.clear.new.self.changed.items refl c.clear.ensures.changed;
}
