use Rattle.floor_control.proofs.Counting.{counted_end}
use Rattle.floor_control.proofs.outgoing.Outgoing.end_answer.Goals as goal

pub invariant_of-self-2 : goal.invariant_of-self-2
invariant_of-self-2 c =
    counted_end c.self.inside.pieces.items c.put.new.pieces.items c.self.inside.answers c.self.inside.live c.self.inside.held_back.items
    c.as_slice-bytes.result.now c.clear.new.self.items c.self.invariant c.as_slice-bytes.ensures.value c.in_ok-put.ensures.took c.clear.ensures.items
