use Rattle.floor_keeping.proofs.Listing.{put-here, put-others}
use Rattle.floor_keeping.proofs.turn.stand_in.Goals as goal

pub returns-then-is_waiting-clause-here : goal.returns-then-is_waiting-clause-here
returns-then-is_waiting-clause-here c = λ whole f at asks. put-here c.args.conference c.args.line.now c.put.new.self c.put.ensures.next whole

pub returns-then-is_waiting-clause-others : goal.returns-then-is_waiting-clause-others
returns-then-is_waiting-clause-others c = λ k stood. put-others c.args.conference k c.args.line.now c.put.new.self c.put.ensures.next stood
