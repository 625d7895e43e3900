use Rattle.std.proofs.Common.{◌≡◌, ◌+◌, ◌≤◌, length}
use Rattle.floor_wire.specs.Views.{attrs_in, IsSpelled}
use Rattle.floor_wire.proofs.view.count.Given as goal

abbrev pub invariant-loop-rest : goal.invariant-loop-rest
invariant-loop-rest l = record {
  spelled : IsSpelled l.rest;
  sum : l.count + length (attrs_in l.rest) ≡ length (attrs_in l.bytes);
  few : l.count + length l.rest ≤ length l.bytes;
}

abbrev pub decreases-loop-rest : goal.decreases-loop-rest
decreases-loop-rest l = length l.rest
