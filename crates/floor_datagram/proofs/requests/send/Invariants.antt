use Rattle.std.proofs.Common.{◌≡◌, ◌++◌, take}
use Rattle.floor_datagram.proofs.requests.send.Given as goal

abbrev pub invariant-loop-datagram : goal.invariant-loop-datagram
invariant-loop-datagram l = l.down.items ≡ l.initial.down.items ++ take l.datagram-index l.datagrams.items
