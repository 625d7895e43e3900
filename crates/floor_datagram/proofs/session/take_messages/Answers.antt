use Rattle.std.proofs.Common.{sym, ◌∙◌}
use Rattle.floor_wire.proofs.Messages.{rest-whole}
use Rattle.floor_datagram.proofs.session.take_messages.Goals as goal

pub returns-in-None-clause-next : goal.returns-in-None-clause-next
returns-in-None-clause-next c =
    let found = rw c.in-None.is at c.in_ok-message.ensures.found in
    found.1 ∙ sym (rest-whole c.loop-taken.stream found.0) ∙ c.loop-taken.invariant.left
