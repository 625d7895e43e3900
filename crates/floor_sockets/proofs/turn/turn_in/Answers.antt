use Rattle.std.proofs.Common.{[], ◌∷◌, ◌++◌, ◌∙◌}
use Rattle.slab.specs.Slab.{get}
use Rattle.floor_sockets.proofs.Listing.{nobody_waits, passed_listed, passes_more}
use Rattle.floor_sockets.proofs.turn.turn_in.Goals as goal

pub loop-slot-preserved : goal.loop-slot-preserved
loop-slot-preserved c =
    let before = c.loop-slot.invariant in (
      c.ask_in.ensures.len ∙ before.0,
      λ k. c.in-None.ensures.none k ∙ before.1 k,
      λ listed. passed_listed c.loop-slot.lives c.ask_in.new.lives c.loop-slot.line c.next.new.self c.in-Some.slot c.in-None.ensures.none c.in-Some.ensures.others c.in-None.ensures.nothing (before.2 listed),
      λ once. c.next.ensures.once,
      before.4 ++ c.in-Some.slot ∷ [],
      passes_more (get c.args.lives.now) before.4 c.in-Some.slot c.args.line.now c.loop-slot.line c.next.new.self before.5 c.in-Some.ensures.turn (λ l e. c.in-None.ensures.nothing l (before.1 c.in-Some.slot ∙ e)),
    )

pub returns-clause-nothing : goal.returns-clause-nothing
returns-clause-nothing c = λ listed k l is.
    nobody_waits c.loop-slot.lives c.loop-slot.line c.in_default.ensures.none (c.loop-slot.invariant.2 listed) k l (c.loop-slot.invariant.1 k ∙ is)
