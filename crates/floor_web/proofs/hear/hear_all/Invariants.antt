use Rattle.std.proofs.Common.{length}
use Rattle.floor_web.proofs.Turns.{Taking}
use Rattle.floor_web.proofs.hear.hear_all.Given as goal

abbrev pub invariant-loop-end : goal.invariant-loop-end
invariant-loop-end l = Taking l.context l.initial.unread.items l.unread.items l.initial.up.items l.up.items l.initial.down.items l.down.items

abbrev pub decreases-loop-end : goal.decreases-loop-end
decreases-loop-end l = length l.unread.items
