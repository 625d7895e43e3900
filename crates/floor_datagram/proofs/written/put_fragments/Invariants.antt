use Rattle.std.proofs.Common.{◌≡◌, ℕ, ◌*◌, ◌++◌, map}
use Rattle.std.specs.List.{range_with_len}
use Rattle.floor_datagram.specs.Written.{fragment_from}
use Rattle.floor_datagram.proofs.written.put_fragments.Given as goal

abbrev pub invariant-loop-place : goal.invariant-loop-place
invariant-loop-place l = l.pieces.items ≡ l.initial.pieces.items ++ map (λ (k : ℕ). fragment_from l.units (l.units * k) l.message) (range_with_len 0 l.place)
