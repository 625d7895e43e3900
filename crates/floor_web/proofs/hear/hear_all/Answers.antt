use Rattle.floor_web.proofs.Turns.{taking-more, taken_shrinks, all_end}
use Rattle.floor_web.proofs.hear.hear_all.Goals as goal

pub loop-end-smaller : goal.loop-end-smaller
loop-end-smaller c = taken_shrinks c.hear.new.context c.loop-end.unread.items c.hear.new.unread.items _ _ _ _ c.in-Taken.ensures

pub loop-end-preserved : goal.loop-end-preserved
loop-end-preserved c = taking-more _ _ _ _ _ _ _ _ _ _ _ c.loop-end.invariant c.in-Taken.ensures

pub returns-in-Ends : goal.returns-in-Ends
returns-in-Ends c = all_end c.loop-end.context c.hear.new.context _ c.loop-end.unread.items c.hear.new.unread.items _ _ _ _ _ _ _ c.loop-end.invariant c.in-Ends.ensures
