use Rattle.std.proofs.Common.{refl}
use Rattle.std.specs.Prelude.{Ok, Err}
use Rattle.floor_ffi.specs.Called.{Saying}
use Rattle.floor_ffi.proofs.acting.say.Goals as goal

pub returns-in-Ok : goal.returns-in-Ok
returns-in-Ok c =
    let saying : Saying c.args.conference c.args.user c.args.message.now c.args.hub.now c.say.new.self (Ok c.in-Ok.said) = record {
      next = c.in-Ok.ensures.next;
      said = c.in-Ok.ensures.said;
      room = c.in-Ok.ensures.room;
      connections = c.in-Ok.ensures.connections;
      left = c.in-Ok.ensures.left;
      concerned = c.in-Ok.ensures.concerned;
      forgotten = c.in-Ok.ensures.forgotten;
    } in
    record { gives = (Ok c.in-Ok.said, c.number.ensures.value, (refl, c.put_reply-len.ensures.puts), saying) }

pub returns-in-Err : goal.returns-in-Err
returns-in-Err c =
    let saying : Saying c.args.conference c.args.user c.args.message.now c.args.hub.now c.say.new.self (Err c.in-Err.refusal) = record {
      next = c.in-Err.ensures.next;
      said = c.in-Err.ensures.said;
      room = c.in-Err.ensures.room;
      connections = c.in-Err.ensures.connections;
      left = c.in-Err.ensures.left;
      concerned = c.in-Err.ensures.concerned;
      forgotten = c.in-Err.ensures.forgotten;
    } in
    record { gives = (Err c.in-Err.refusal, c.number-in-Err.ensures.value, (refl, refl, refl), saying) }
