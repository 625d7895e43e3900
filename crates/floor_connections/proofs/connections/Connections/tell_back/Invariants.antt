use Rattle.std.proofs.Common.{◌≡◌}
use Rattle.floor_connections.proofs.connections.Connections.tell_back.Given as goal

-- no socket and nobody has changed
abbrev pub invariant-loop-number : goal.invariant-loop-number
invariant-loop-number l = record {
  sockets : l.self.sockets ≡ l.fn.self.sockets;
  table : l.self.table ≡ l.fn.self.table;
}
