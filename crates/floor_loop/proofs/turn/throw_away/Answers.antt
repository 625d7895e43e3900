use Rattle.std.proofs.Common.{refl, ◌∙◌}
use Rattle.floor_loop.specs.steps.Moved.{loop_of}
use Rattle.floor_loop.proofs.Throwing.{thrown-both, thrown-none}
use Rattle.floor_loop.proofs.turn.throw_away.Goals as goal

pub loop-time-init : goal.loop-time-init
loop-time-init c = (thrown-none c.args.number c.args.hub.now c.args.attended.now, refl)

pub loop-time-preserved : goal.loop-time-preserved
loop-time-preserved c = (
  thrown-both c.args.number (loop_of c.args.hub.now c.args.attended.now) (loop_of c.loop-time.hub c.loop-time.attended) (loop_of c.throw_next.new.hub c.throw_next.new.attended) c.loop-time.invariant.0 c.throw_next.ensures.thrown,
  c.throw_next.ensures.away ∙ c.loop-time.invariant.1,
)

pub returns-then-not-throw_next : goal.returns-then-not-throw_next
returns-then-not-throw_next c = record {
  thrown = thrown-both c.args.number (loop_of c.args.hub.now c.args.attended.now) (loop_of c.loop-time.hub c.loop-time.attended) (loop_of c.throw_next.new.hub c.throw_next.new.attended) c.loop-time.invariant.0 c.throw_next.ensures.thrown;
  away = c.throw_next.ensures.away ∙ c.loop-time.invariant.1;
}

pub returns : goal.returns
returns c = record { thrown = c.loop-time.invariant.0; away = c.loop-time.invariant.1 }
