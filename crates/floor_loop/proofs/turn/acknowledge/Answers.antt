use Rattle.std.proofs.Common.{inl, refl, sym}
use Rattle.floor_hub.specs.declared.step.Step.TheVariants.{Took}
use Rattle.floor_loop.specs.Done.{AtMost}
use Rattle.floor_loop.specs.Loop.{Loop}
use Rattle.floor_loop.specs.steps.Moved.{Moved, loop_of}
use Rattle.floor_loop.proofs.Calls.{moved-took}
use Rattle.floor_loop.proofs.Moving.{fewer, moved-before}
use Rattle.floor_loop.proofs.Sparing.{acknowledged-by, ledgers-same, spares-by, spares-then, stay-in}
use Rattle.floor_loop.proofs.turn.acknowledge.Goals as goal

abbrev old : goal.After-fill → Loop
old c = loop_of c.args.hub.now c.args.attended.now

abbrev mid : goal.After-fill → Loop
mid c = loop_of c.took-acknowledged.new.self c.wake.new.attended

abbrev new : goal.After-fill → Loop
new c = loop_of c.fill.new.hub c.fill.new.attended

asked : (c : goal.After-fill) → Moved (AtMost 1 (Took c.args.number c.args.parcels)) (old c) (mid c)
asked c =
    moved-took c.args.number c.args.parcels (old c) (mid c) c.took-acknowledged.result c.took-acknowledged.ensures.next c.took-acknowledged.ensures.room c.took-acknowledged.ensures.connections c.took-acknowledged.ensures.concerned c.took-acknowledged.ensures.gathered c.wake.ensures.kept (fewer c.args.attended.now c.wake.new.attended c.wake.ensures.away) c.wake.ensures.woken

pub returns-in-Some : goal.returns-in-Some
returns-in-Some c = record {
  moved = moved-before (AtMost 1 (Took c.args.number c.args.parcels)) (old c) (mid c) (new c) (asked c) c.fill.ensures.moved;
  acknowledged =
      acknowledged-by c.args.number c.args.parcels c.args.hub.now c.took-acknowledged.new.self c.fill.new.hub c.took-acknowledged.result c.took-acknowledged.ensures.room c.took-acknowledged.ensures.refused c.fill.ensures.ledgers;
  spares = λ l.
      spares-then (old c) (mid c) (new c)
      (spares-by (old c) (mid c) l.serving (stay-in c.args.hub.now c.took-acknowledged.new.self (asked c).live) (λ k x y is_x is_y. c.wake.ensures.spared k)) ((asked c).serving l) c.fill.ensures.moved.live
      c.fill.ensures.ledgers c.fill.ensures.ends;
  filled = c.fill.ensures.filled;
}

-- where nothing waits

abbrev before : goal.In-None → Loop
before c = loop_of c.args.hub.now c.args.attended.now

abbrev behind : goal.In-None → Loop
behind c = loop_of c.took-acknowledged.new.self c.wake.new.attended

told : (c : goal.In-None) → Moved (AtMost 1 (Took c.args.number c.args.parcels)) (before c) (behind c)
told c =
    moved-took c.args.number c.args.parcels (before c) (behind c) c.took-acknowledged.result c.took-acknowledged.ensures.next c.took-acknowledged.ensures.room c.took-acknowledged.ensures.connections c.took-acknowledged.ensures.concerned c.took-acknowledged.ensures.gathered c.wake.ensures.kept (fewer c.args.attended.now c.wake.new.attended c.wake.ensures.away) c.wake.ensures.woken

pub returns-in-None : goal.returns-in-None
returns-in-None c = record {
  moved = told c;
  acknowledged =
      acknowledged-by c.args.number c.args.parcels c.args.hub.now c.took-acknowledged.new.self c.took-acknowledged.new.self c.took-acknowledged.result c.took-acknowledged.ensures.room c.took-acknowledged.ensures.refused
      (ledgers-same c.took-acknowledged.new.self c.took-acknowledged.new.self (λ d. refl));
  filled = λ o is. inl (sym c.in-None.ensures.value);
  spares = λ l. spares-by (before c) (behind c) l.serving (stay-in c.args.hub.now c.took-acknowledged.new.self (told c).live) (λ k x y is_x is_y. c.wake.ensures.spared k);
}
