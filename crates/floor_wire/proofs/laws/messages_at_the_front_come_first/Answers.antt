use Rattle.floor_wire.proofs.Messages.{messages-concat, rest-concat}
use Rattle.floor_wire.proofs.laws.messages_at_the_front_come_first.Goals as goal

pub returns : goal.returns
returns c = record { messages = messages-concat; rest = rest-concat }
