use Rattle.std.proofs.Common.{◌≡◌, ℕ, ◌+◌, ◌-◌, vec_len}
use Rattle.floor_sockets.specs.steps.Rounds.{stands_in}
use Rattle.floor_sockets.proofs.rounds.grow_standing.Given as goal

-- the same have their marks
abbrev pub invariant-loop-standing : goal.invariant-loop-standing
invariant-loop-standing l = (k : ℕ) → stands_in l.standing.items k ≡ stands_in l.fn.standing.items k

abbrev pub decreases-loop-standing : goal.decreases-loop-standing
decreases-loop-standing l = l.slot + 1 - vec_len l.standing
