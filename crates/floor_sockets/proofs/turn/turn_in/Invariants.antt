use Rattle.std.proofs.Common.{◌≡◌, ℕ, List}
use Rattle.slab.specs.Slab.{get, slab_len}
use Rattle.floor_sockets.specs.Rounds.{total}
use Rattle.floor_sockets.specs.Sockets.{Passes}
use Rattle.floor_sockets.specs.steps.Listed.{IsListed, IsOnce}
use Rattle.floor_sockets.proofs.turn.turn_in.Given as goal

-- nothing was asked, whoever is waited for stands in the line still, and turns went by in which nothing was to be asked
abbrev pub invariant-loop-slot : goal.invariant-loop-slot
invariant-loop-slot l = (slab_len l.lives ≡ slab_len l.fn.lives) × ((k : ℕ) → get l.lives k ≡ get l.fn.lives k) × (IsListed l.fn.lives l.fn.line → IsListed l.lives l.line) × (IsOnce l.fn.line → IsOnce l.line) × (passed : List ℕ) × Passes (get l.fn.lives) passed l.fn.line l.line

abbrev pub decreases-loop-slot : goal.decreases-loop-slot
decreases-loop-slot l = total l.line
