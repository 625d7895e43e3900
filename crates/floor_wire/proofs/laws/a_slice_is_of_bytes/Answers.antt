use Rattle.std.proofs.Common.{arith}
use Rattle.floor_wire.proofs.laws.a_slice_is_of_bytes.Goals as goal

pub returns : goal.returns
returns c i = omega (arith, c.type_inv.slice i)
