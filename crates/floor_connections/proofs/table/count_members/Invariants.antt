use Rattle.std.proofs.Common.{◌≡◌, ◌≤◌, take}
use Rattle.std.specs.Prelude.{count_by}
use Rattle.floor_connections.specs.Table.{is_member}
use Rattle.floor_connections.proofs.table.count_members.Given as goal

-- those of the sockets so far
abbrev pub invariant-loop-socket : goal.invariant-loop-socket
invariant-loop-socket l = record {
  value : l.count ≡ count_by is_member (take l.socket-index l.slots);
  bound : l.count ≤ l.socket-index;
}
