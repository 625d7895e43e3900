use Rattle.std.proofs.Common.{◌≡◌}
use Rattle.floor_loop.specs.steps.Moved.{loop_of}
use Rattle.floor_loop.specs.steps.Thrown.{Thrown}
use Rattle.floor_loop.proofs.turn.throw_away.Given as goal

-- some was thrown away
abbrev pub invariant-loop-time : goal.invariant-loop-time
invariant-loop-time l = Thrown l.number (loop_of l.fn.hub l.fn.attended) (loop_of l.hub l.attended) × (l.attended.away ≡ l.fn.attended.away)
