use Rattle.std.proofs.Common.{◌≡◌, ℕ, ◌+◌, ◌-◌, None, vec_len}
use Rattle.std.specs.Prelude.{slice_index_or}
use Rattle.floor_desk.proofs.callers.grow.Given as goal

-- the same are there
abbrev pub invariant-loop-slots : goal.invariant-loop-slots
invariant-loop-slots l = (k : ℕ) → slice_index_or l.slots.items k None ≡ slice_index_or l.fn.slots.items k None

abbrev pub decreases-loop-slots : goal.decreases-loop-slots
decreases-loop-slots l = l.slot + 1 - vec_len l.slots
