use Rattle.std.proofs.Common.{◌≡◌, refl, arith, ◌+◌, ◌≤◌, ℕ, true, false, subst, sym, Some}
use Rattle.floor_room.specs.Room.{Room}
use Rattle.floor_hub.specs.Hub.{room_at}
use Rattle.floor_hub.specs.declared.step.Served.{Served}
use Rattle.floor_hub.specs.declared.step.Step.TheVariants.{Serve}
use Rattle.floor_loop.specs.Done.{AtMost, NoSteps, Then}
use Rattle.floor_loop.specs.Loop.{Loop, outgoing_in}
use Rattle.floor_loop.specs.Written.{IsSparedOrOver, Wakes}
use Rattle.floor_loop.specs.steps.Found.{Finds}
use Rattle.floor_loop.specs.steps.Moved.{IsLoop, Moved, OverStays, loop_of}
use Rattle.floor_loop.proofs.Calls.{moved-kept}
use Rattle.floor_loop.proofs.Found.{adds-both, adds-none}
use Rattle.floor_loop.proofs.Moving.{at-most-both, at-most-more, loop-moves, moved-both, moved-of, none-at-most}
use Rattle.floor_loop.proofs.Sparing.{spared-through, spares-same}
use Rattle.floor_loop.proofs.Stepping.{keeps-refl, stays-kept, wakes-both, wakes-same}
use Rattle.floor_loop.proofs.turn.serve_turn.Goals as goal

-- so many messages, and one more
more : (number j : ℕ) (a b c : Loop) → Moved (AtMost j (Serve number)) a b → Moved (AtMost 1 (Serve number)) b c → Moved (AtMost (j + 1) (Serve number)) a c
more number j a b c f g = moved-of (Then (AtMost j (Serve number)) (AtMost 1 (Serve number))) (AtMost (j + 1) (Serve number)) a c (at-most-both j 1 (Serve number)) (moved-both (AtMost j (Serve number)) (AtMost 1 (Serve number)) a b c f g)

within : (number j k : ℕ) (a b : Loop) → j ≤ k → Moved (AtMost j (Serve number)) a b → Moved (AtMost k (Serve number)) a b
within number j k a b le = moved-of (AtMost j (Serve number)) (AtMost k (Serve number)) a b (λ steps. at-most-more j k (Serve number) steps le)

woken : (number j : ℕ) (a b c : Loop) → Moved (AtMost j (Serve number)) a b → Moved (AtMost 1 (Serve number)) b c → (IsLoop a → Wakes a b) → (IsLoop b → Wakes b c) → IsLoop a → Wakes a c
woken number j a b c f g wf wg l =
    let m = loop-moves (AtMost j (Serve number)) a b f l in
    wakes-both (AtMost j (Serve number)) (AtMost 1 (Serve number)) a b c f g m.serving (wf l) (wg m)

spared : (number j : ℕ) (a b c : Loop) (k : ℕ) → Moved (AtMost j (Serve number)) a b → Moved (AtMost 1 (Serve number)) b c → IsLoop a → IsSparedOrOver a b k → (IsLoop b → IsSparedOrOver b c k) → IsSparedOrOver a c k
spared number j a b c k f g l before after = let m = loop-moves (AtMost j (Serve number)) a b f l in spared-through a b c k m.serving g.live g.over before (after m)

not_both : false ≡ true → ⊥
not_both e = cc

-- there is each room still
still : (a b : Loop) → OverStays a.hub b.hub → (d : ℕ) (r : Room) → room_at a.hub d ≡ Some r → (s : Room) × (room_at b.hub d ≡ Some s)
still a b stays d r is = let t = stays d r is in (t.0, t.1)

pub loop-turn-init : goal.loop-turn-init
loop-turn-init c =
    let old = loop_of c.args.hub.now c.args.attended.now in
    let keeps = keeps-refl (outgoing_in c.args.attended.now) in (
      moved-of NoSteps (AtMost 0 (Serve c.args.number)) old old (none-at-most 0 (Serve c.args.number)) (moved-kept old old refl keeps (λ k s is. is)),
      λ l. wakes-same old old (λ d. refl) (stays-kept (outgoing_in c.args.attended.now) (outgoing_in c.args.attended.now) keeps),
      λ l. spares-same old old (λ k. refl),
      λ l. adds-none c.args.number c.args.hub.now c.args.hub.now (λ d. refl),
    )

pub loop-turn-preserved : goal.loop-turn-preserved
loop-turn-preserved c =
    let old = loop_of c.args.hub.now c.args.attended.now in
    let mid = loop_of c.loop-turn.hub c.loop-turn.attended in
    let new = loop_of c.serve_one.new.hub c.serve_one.new.attended in (
      more c.args.number c.loop-turn._turn old mid new c.loop-turn.invariant.0 c.serve_one.ensures.moved,
      woken c.args.number c.loop-turn._turn old mid new c.loop-turn.invariant.0 c.serve_one.ensures.moved c.loop-turn.invariant.1 c.serve_one.ensures.woke,
      λ l k. spared c.args.number c.loop-turn._turn old mid new k c.loop-turn.invariant.0 c.serve_one.ensures.moved l (c.loop-turn.invariant.2 l k) (λ m. c.in-Ok-Message.ensures.spares m k),
      λ l.
          let m = loop-moves (AtMost c.loop-turn._turn (Serve c.args.number)) old mid c.loop-turn.invariant.0 l in
          let found = subst (λ (f : Served). Finds c.args.number f mid.hub new.hub) c.in-Ok-Message.field-0-is (c.in-Ok-Message.ensures.found m) in
          adds-both c.args.number c.loop-turn._turn 1 old.hub mid.hub new.hub (c.serve_one.ensures.moved.live c.args.number) (still old mid c.loop-turn.invariant.0.over) (c.loop-turn.invariant.3 l) found,
    )

pub returns-in-Ok-Nothing : goal.returns-in-Ok-Nothing
returns-in-Ok-Nothing c =
    let old = loop_of c.args.hub.now c.args.attended.now in
    let mid = loop_of c.loop-turn.hub c.loop-turn.attended in
    let new = loop_of c.serve_one.new.hub c.serve_one.new.attended in
    record {
      moved = within c.args.number (c.loop-turn._turn + 1) c.args.turns old new (omega arith) (more c.args.number c.loop-turn._turn old mid new c.loop-turn.invariant.0 c.serve_one.ensures.moved);
      woke = woken c.args.number c.loop-turn._turn old mid new c.loop-turn.invariant.0 c.serve_one.ensures.moved c.loop-turn.invariant.1 c.serve_one.ensures.woke;
      refused = tt;
      spares = λ l k. spared c.args.number c.loop-turn._turn old mid new k c.loop-turn.invariant.0 c.serve_one.ensures.moved l (c.loop-turn.invariant.2 l k) (λ m. c.in-Ok-Nothing.ensures.spares m k);
      others = λ l k ne. spared c.args.number c.loop-turn._turn old mid new k c.loop-turn.invariant.0 c.serve_one.ensures.moved l (c.loop-turn.invariant.2 l k) (λ m. c.serve_one.ensures.others m k ne);
      served = λ l.
          let m = loop-moves (AtMost c.loop-turn._turn (Serve c.args.number)) old mid c.loop-turn.invariant.0 l in
          let found = subst (λ (f : Served). Finds c.args.number f mid.hub new.hub) c.in-Ok-Nothing.field-0-is (c.in-Ok-Nothing.ensures.found m) in
          record {
            count = c.loop-turn._turn + 0;
            added = adds-both c.args.number c.loop-turn._turn 0 old.hub mid.hub new.hub (c.serve_one.ensures.moved.live c.args.number) (still old mid c.loop-turn.invariant.0.over) (c.loop-turn.invariant.3 l) found.0;
            all = λ e. absurd (not_both e);
            none = λ e. (omega arith, found.1);
          };
    }

pub returns-in-Err : goal.returns-in-Err
returns-in-Err c =
    let old = loop_of c.args.hub.now c.args.attended.now in
    let mid = loop_of c.loop-turn.hub c.loop-turn.attended in
    let new = loop_of c.serve_one.new.hub c.serve_one.new.attended in
    record {
      moved = within c.args.number (c.loop-turn._turn + 1) c.args.turns old new (omega arith) (more c.args.number c.loop-turn._turn old mid new c.loop-turn.invariant.0 c.serve_one.ensures.moved);
      woke = woken c.args.number c.loop-turn._turn old mid new c.loop-turn.invariant.0 c.serve_one.ensures.moved c.loop-turn.invariant.1 c.serve_one.ensures.woke;
      refused = c.in-Err.ensures.refused;
      spares = λ l. tt;
      served = λ l. tt;
      others = λ l k ne. spared c.args.number c.loop-turn._turn old mid new k c.loop-turn.invariant.0 c.serve_one.ensures.moved l (c.loop-turn.invariant.2 l k) (λ m. c.serve_one.ensures.others m k ne);
    }

pub returns : goal.returns
returns c =
    record {
      moved = within c.args.number c.loop-turn._turn c.args.turns (loop_of c.args.hub.now c.args.attended.now) (loop_of c.loop-turn.hub c.loop-turn.attended) (omega arith) c.loop-turn.invariant.0;
      woke = c.loop-turn.invariant.1;
      refused = tt;
      spares = c.loop-turn.invariant.2;
      others = λ l k ne. c.loop-turn.invariant.2 l k;
      served = λ l. record { count = c.loop-turn._turn; added = c.loop-turn.invariant.3 l; all = λ e. omega arith; none = λ e. absurd (not_both (sym e)) };
    }
