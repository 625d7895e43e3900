use Rattle.std.proofs.Common.{◌≡◌}
use Rattle.floor_connections.proofs.connections.Connections.next_waiting.Given as goal

-- nothing but who waits has changed
abbrev pub invariant-loop-look : goal.invariant-loop-look
invariant-loop-look l = record {
  sockets : l.self.sockets ≡ l.fn.self.sockets;
  table : l.self.table ≡ l.fn.self.table;
  conferences : l.self.conferences ≡ l.fn.self.conferences;
}
