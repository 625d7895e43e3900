use Rattle.floor_wire.proofs.Messages.{messages-rest, rest-whole}
use Rattle.floor_wire.proofs.laws.a_rest_holds_no_message.Goals as goal

pub returns : goal.returns
returns c = record { none = messages-rest; whole = rest-whole }
