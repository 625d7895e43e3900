use Rattle.std.proofs.Common.{All, take}
use Rattle.floor_loop.specs.Resumed.{IsLeave}
use Rattle.floor_loop.proofs.same.are_leaves.Given as goal

-- by each of those before this place a member leaves
abbrev pub invariant-loop-event : goal.invariant-loop-event
invariant-loop-event l = All IsLeave (take l.event-index l.events)
