use Rattle.std.proofs.Common.{◌≡◌, ◌≤◌, take, vec_capacity}
use Rattle.floor_hub.specs.steps.Attached.{numbers_of}
use Rattle.floor_hub.proofs.attached.name_each.Given as goal

-- so many are named, and there is as much room
abbrev pub invariant-loop-one : goal.invariant-loop-one
invariant-loop-one l = (l.numbers.items ≡ numbers_of (take l.one-index l.live)) × (vec_capacity l.fn.numbers ≤ vec_capacity l.numbers)
