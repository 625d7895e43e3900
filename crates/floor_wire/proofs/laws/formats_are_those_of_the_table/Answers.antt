use Rattle.floor_wire.proofs.Typed.{formats_are_of_table}
use Rattle.floor_wire.proofs.laws.formats_are_those_of_the_table.Goals as goal

pub returns : goal.returns
returns c = formats_are_of_table
