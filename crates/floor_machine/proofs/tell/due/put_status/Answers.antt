use Rattle.std.proofs.Common.{refl}
use Rattle.floor_machine.specs.Outgoing.{outgoing_bytes}
use Rattle.floor_machine.proofs.tell.due.put_status.Goals as goal

pub returns : goal.returns
unfolding outgoing_bytes
returns c = rw (c.in_ok-push.ensures.items, c.of.ensures.value, c.in_ok-message.ensures) refl
