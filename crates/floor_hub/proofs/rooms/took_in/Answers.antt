use Rattle.floor_machine.specs.declared.event.Event.TheVariants.{Took}
use Rattle.floor_hub.proofs.Handing.{hands-applied, hands-left}
use Rattle.floor_hub.proofs.rooms.took_in.Goals as goal

pub returns-in-Ok-clause-changed : goal.returns-in-Ok-clause-changed
returns-in-Ok-clause-changed c = hands-applied c.args.room.now c.took.new.self (Took c.args.n c.args.k) c.took.new.effects.changed.items c.in-Ok.ensures.took c.in-Ok.ensures.changed

pub returns-in-Err-clause-changed : goal.returns-in-Err-clause-changed
returns-in-Err-clause-changed c = hands-left c.args.room.now c.took.new.self (Took c.args.n c.args.k) c.in-Err.why c.took.new.effects.changed.items c.in-Err.ensures.left c.in-Err.ensures.unchanged
