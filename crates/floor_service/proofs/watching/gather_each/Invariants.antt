use Rattle.std.specs.Prelude.{◌≡◌}
use Rattle.floor_turn.specs.Moves.{Moves, nothing_taken}
use Rattle.floor_service.proofs.watching.gather_each.Given as goal

-- no socket has taken anything, and no client went on
abbrev pub invariant-loop-one : goal.invariant-loop-one
invariant-loop-one l = Moves nothing_taken l.fn.server.meetings l.server.meetings × (l.desk.callers ≡ l.fn.desk.callers)
