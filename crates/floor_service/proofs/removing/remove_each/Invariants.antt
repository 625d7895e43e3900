use Rattle.floor_turn.specs.Moves.{Moves, nothing_taken}
use Rattle.floor_service.proofs.removing.remove_each.Given as goal

-- no socket has taken anything
abbrev pub invariant-loop-number : goal.invariant-loop-number
invariant-loop-number l = Moves nothing_taken l.fn.server.meetings l.server.meetings
