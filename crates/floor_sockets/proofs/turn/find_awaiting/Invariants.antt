use Rattle.std.proofs.Common.{◌≡◌, ℕ, true, Some, Contains}
use Rattle.slab.specs.Slab.{get}
use Rattle.floor_sockets.specs.declared.life.Life.{Life}
use Rattle.floor_sockets.specs.Life.{is_awaiting}
use Rattle.floor_sockets.proofs.turn.find_awaiting.Given as goal

-- each socket of which anything is to be asked is among those that are left, and each that is left is a socket
abbrev pub invariant-loop-slot : goal.invariant-loop-slot
invariant-loop-slot l =
    (goal.iterator-loop-slot).can_next l.slot-iterator ×
    (goal.iterator-loop-slot).is_finite l.slot-iterator ×
    ((key : ℕ) (life : Life) → get l.lives key ≡ Some life → is_awaiting life ≡ true → Contains l.slot-iterator (key, life)) ×
    ((key : ℕ) (life : Life) → Contains l.slot-iterator (key, life) → get l.lives key ≡ Some life)
