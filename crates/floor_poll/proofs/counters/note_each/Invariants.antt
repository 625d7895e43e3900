use Rattle.std.proofs.Common.{◌≡◌}
use Rattle.floor_poll.specs.Counters.{noted_each}
use Rattle.floor_poll.proofs.counters.note_each.Given as goal

-- so many are counted
abbrev pub invariant-loop-noted : goal.invariant-loop-noted
invariant-loop-noted l = l.times ≡ noted_each l.noted l.nanoseconds l.fn.times
