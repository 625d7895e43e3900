use Rattle.floor_message.proofs.Picking.{found_of, kinds_of}
use Rattle.floor_message.proofs.format.attributes.payload_attrs.Goals as goal

pub returns-clause-found : goal.returns-clause-found
returns-clause-found c = found_of c.of.result _ c.of.ensures.value

pub returns-clause-kinds : goal.returns-clause-kinds
returns-clause-kinds c = kinds_of c.of.result c.of.ensures.writable
