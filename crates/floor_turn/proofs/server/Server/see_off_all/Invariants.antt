use Rattle.std.proofs.Common.{◌≡◌}
use Rattle.floor_connections.specs.Steps.{Steps}
use Rattle.floor_turn.specs.Moves.{Moves, nothing_taken}
use Rattle.floor_turn.proofs.server.Server.see_off_all.Given as goal

-- some of them have left so far
abbrev pub invariant-loop-member : goal.invariant-loop-member
invariant-loop-member l = record {
  moves : Moves nothing_taken l.fn.self.meetings l.self.meetings;
  conferences : l.self.connections.conferences ≡ l.fn.self.connections.conferences;
  steps : Steps l.fn.self.connections.sockets l.self.connections.sockets;
}
