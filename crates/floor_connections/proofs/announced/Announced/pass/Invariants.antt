use Rattle.std.proofs.Common.{◌≡◌, ◌+◌, drop}
use Rattle.floor_connections.specs.Announced.{behind, served_len}
use Rattle.floor_connections.proofs.announced.Announced.pass.Given as goal

-- what is left is as if it had come next
abbrev pub invariant-loop-byte : goal.invariant-loop-byte
invariant-loop-byte l = record {
  count : l.count ≡ l.byte-index;
  value : served_len l.longest l.fn.self l.bytes ≡ l.byte-index + served_len l.longest l.self (drop l.byte-index l.bytes);
  next : behind l.longest l.fn.self l.bytes ≡ behind l.longest l.self (drop l.byte-index l.bytes);
}
