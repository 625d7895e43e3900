use Rattle.std.proofs.Common.{◌≡◌, ℕ, ◌+◌, ◌-◌, vec_len}
use Rattle.floor_sockets.specs.Rounds.{queue_in, times_in}
use Rattle.floor_sockets.proofs.rounds.grow_waiting.Given as goal

-- the same wait
abbrev pub invariant-loop-alloc : goal.invariant-loop-alloc
invariant-loop-alloc l = ((g : ℕ) → queue_in l.waiting.items g ≡ queue_in l.fn.waiting.items g) × ((k : ℕ) → times_in l.waiting.items k ≡ times_in l.fn.waiting.items k)

abbrev pub decreases-loop-alloc : goal.decreases-loop-alloc
decreases-loop-alloc l = l.group + 1 - vec_len l.waiting
