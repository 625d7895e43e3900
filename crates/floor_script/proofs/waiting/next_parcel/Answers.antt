use Rattle.floor_script.proofs.Taking.{taken_none, taken_one}
use Rattle.floor_script.proofs.waiting.next_parcel.Goals as goal

pub returns-in-Ok : goal.returns-in-Ok
returns-in-Ok c = record { took = taken_one c.args.connection c.in-Ok.parcel c.args.hub.now c.take.new.self c.in-Ok.ensures.given c.in-Ok.ensures.stands }

pub returns-in-Err : goal.returns-in-Err
returns-in-Err c = record { took = taken_none c.args.connection c.in-Err.field-0 c.args.hub.now c.take.new.self c.in-Err.ensures.given c.in-Err.ensures.stands }
