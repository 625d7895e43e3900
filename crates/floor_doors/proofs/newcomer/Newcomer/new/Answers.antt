use Rattle.floor_doors.proofs.Coming.{nothing_waits}
use Rattle.floor_doors.proofs.newcomer.Newcomer.new.Goals as goal

pub invariant_of-result : goal.invariant_of-result
invariant_of-result c = nothing_waits c.args.named_by c.new.result.items c.new.ensures.items
