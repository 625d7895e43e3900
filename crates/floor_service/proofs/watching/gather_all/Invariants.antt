use Rattle.std.specs.Prelude.{◌≡◌}
use Rattle.floor_turn.specs.Moves.{Moves, nothing_taken}
use Rattle.floor_service.proofs.watching.gather_all.Given as goal

-- no socket has taken anything, and no client went on
abbrev pub invariant-loop-turn : goal.invariant-loop-turn
invariant-loop-turn l = Moves nothing_taken l.fn.server.meetings l.server.meetings × (l.desk.callers ≡ l.fn.desk.callers)
