use Rattle.std.proofs.Common.{Option, refl, subst, ℕ}
use Rattle.std.specs.Prelude.{IfSome}
use Rattle.floor_loop.specs.Loop.{outgoing_in}
use Rattle.floor_loop.specs.Returned.{IsOldestOf}
use Rattle.floor_loop.specs.steps.Moved.{loop_of}
use Rattle.floor_loop.proofs.Calls.{moved-kept}
use Rattle.floor_loop.proofs.Entering.{still-spares, still-wakes}
use Rattle.floor_loop.proofs.Stepping.{keeps-refl}
use Rattle.floor_loop.proofs.coming.make_room.Goals as goal

pub returns-then-not-are_live : goal.returns-then-not-are_live
returns-then-not-are_live c =
    let hub = c.args.hub.now in
    let a = c.args.attended.now in
    record {
      moved = moved-kept (loop_of hub a) (loop_of hub a) refl (keeps-refl (outgoing_in a)) (λ k s is. is);
      woke = λ l. still-wakes hub a a refl;
      spares = λ l. still-spares hub a a refl;
      found = λ l. tt;
    }

pub returns-in-Some : goal.returns-in-Some
returns-in-Some c = record {
  moved = c.send_off.ensures.moved;
  woke = c.send_off.ensures.woke;
  spares = c.send_off.ensures.spares;
  found = λ l. subst (λ (r : Option ℕ). IfSome r (λ number. IsOldestOf c.args.hub.now c.args.attended.now.away c.args.conference c.args.user number)) c.in-Some.is (c.oldest_of.ensures.found l);
}

pub returns-in-None : goal.returns-in-None
returns-in-None c =
    let hub = c.args.hub.now in
    let a = c.args.attended.now in
    record {
      moved = moved-kept (loop_of hub a) (loop_of hub a) refl (keeps-refl (outgoing_in a)) (λ k s is. is);
      woke = λ l. still-wakes hub a a refl;
      spares = λ l. still-spares hub a a refl;
      found = λ l. tt;
    }
