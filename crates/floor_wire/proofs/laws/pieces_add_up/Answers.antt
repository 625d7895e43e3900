use Rattle.floor_wire.proofs.Messages.{messages-append, rest-append}
use Rattle.floor_wire.proofs.laws.pieces_add_up.Goals as goal

pub returns : goal.returns
returns c = record { messages = messages-append; rest = rest-append }
