use Rattle.std.proofs.Common.{◌∙◌}
use Rattle.floor_loop.specs.Loop.{outgoing_in}
use Rattle.floor_loop.specs.steps.Moved.{AreWoken, loop_of}
use Rattle.floor_loop.proofs.Calls.{moved-serve}
use Rattle.floor_loop.proofs.Found.{finds}
use Rattle.floor_loop.proofs.Sparing.{spared-before, spared-one, spares-by, stay-in}
use Rattle.floor_loop.proofs.Stepping.{keeps-both, stays-kept, wakes-on, woken-on}
use Rattle.floor_loop.proofs.Moving.{fewer}
use Rattle.floor_loop.proofs.turn.serve_one.Goals as goal

pub returns-in-Ok : goal.returns-in-Ok
returns-in-Ok c =
    let old = loop_of c.args.hub.now c.args.attended.now in
    let new = loop_of c.serve-served.new.self c.wake.new.attended in
    let moved = moved-serve c.args.number old new c.serve-served.result c.serve-served.ensures.next c.serve-served.ensures.room c.serve-served.ensures.connections c.serve-served.ensures.concerned c.serve-served.ensures.gathered c.wake.ensures.kept (fewer c.args.attended.now c.wake.new.attended c.wake.ensures.away) c.wake.ensures.woken in
    record {
      moved = moved;
      woke = λ l. wakes-on old new c.serve-served.ensures.concerned (stays-kept (outgoing_in c.args.attended.now) (outgoing_in c.wake.new.attended) c.wake.ensures.kept) c.wake.ensures.woken;
      refused = tt;
      spares = λ l. spares-by old new l.serving (stay-in c.args.hub.now c.serve-served.new.self moved.live) (λ k x y is_x is_y. c.wake.ensures.spared k);
      others = λ l k ne. spared-one old new k l.serving (stay-in c.args.hub.now c.serve-served.new.self moved.live) (λ x y is_x is_y. c.wake.ensures.spared k);
      found = λ l. finds c.args.number c.args.hub.now c.serve-served.new.self l.world l.stands c.in-Ok.found (c.in-Ok.ensures.next l.world l.stands) c.in-Ok.ensures.room c.serve-served.ensures.connections;
    }

pub returns-in-Err : goal.returns-in-Err
returns-in-Err c =
    let old = loop_of c.args.hub.now c.args.attended.now in
    let new = loop_of c.serve-served.new.self c.end.new.attended in
    let keeps = keeps-both (outgoing_in c.args.attended.now) (outgoing_in c.wake.new.attended) (outgoing_in c.end.new.attended) c.wake.ensures.kept c.end.ensures.kept in
    let woken : AreWoken c.serve-served.new.self c.end.new.attended = λ k named. woken-on c.serve-served.new.self c.wake.new.attended c.end.new.attended k c.end.ensures.kept (c.wake.ensures.woken k named) in
    let moved = moved-serve c.args.number old new c.serve-served.result c.serve-served.ensures.next c.serve-served.ensures.room c.serve-served.ensures.connections c.serve-served.ensures.concerned c.serve-served.ensures.gathered keeps (fewer c.args.attended.now c.end.new.attended (c.end.ensures.away ∙ c.wake.ensures.away)) woken in
    record {
      moved = moved;
      woke = λ l. wakes-on old new c.serve-served.ensures.concerned (stays-kept (outgoing_in c.args.attended.now) (outgoing_in c.end.new.attended) keeps) woken;
      refused = c.end.ensures.ended;
      spares = λ l. tt;
      others = λ l k ne.
          spared-one old new k l.serving (stay-in c.args.hub.now c.serve-served.new.self moved.live)
          (λ x y is_x is_y. spared-before c.serve-served.new.self c.args.attended.now c.wake.new.attended c.end.new.attended k (c.end.ensures.others k ne) (c.wake.ensures.spared k));
      found = λ l. tt;
    }
