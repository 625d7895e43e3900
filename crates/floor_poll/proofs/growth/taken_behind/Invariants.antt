use Rattle.std.proofs.Common.{◌≡◌, take}
use Rattle.floor_poll.specs.Pieces.{taken}
use Rattle.floor_poll.proofs.growth.taken_behind.Given as goal

-- what was taken whole by so many events is counted
abbrev pub invariant-loop-event : goal.invariant-loop-event
invariant-loop-event l = l.count ≡ taken (take l.event-index l.event-items)
