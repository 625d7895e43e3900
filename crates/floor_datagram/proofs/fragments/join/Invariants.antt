use Rattle.std.proofs.Common.{◌≡◌, ℕ, List, ◌∷◌, ◌++◌, drop, option_map}
use Rattle.floor_datagram.specs.Fragments.{joined, payload_of, head_of}
use Rattle.floor_datagram.proofs.fragments.join.Given as goal

abbrev pub invariant-loop-range : goal.invariant-loop-range
invariant-loop-range l = (p : List ℕ)
    × (l.message.items ≡ 0x40 ∷ (head_of l.fragment ++ p))
    × (joined 0 (payload_of l.fragment) l.ranges.items ≡ option_map (λ rest. p ++ rest) (joined l.at (payload_of l.fragment) (drop l.range-index l.ranges.items)))
