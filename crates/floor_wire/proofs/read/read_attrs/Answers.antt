use Rattle.std.proofs.Common.{arith}
use Rattle.floor_wire.proofs.Exact.{only_of, told_of, value_of, writable_of}
use Rattle.floor_wire.proofs.read.read_attrs.Goals as goal

pub returns-clause-only : goal.returns-clause-only
returns-clause-only c = only_of c.part_of.result c.args.bytes.now c.part_of.ensures.found c.part_of.ensures.fault

pub returns-clause-told : goal.returns-clause-told
returns-clause-told c = told_of c.part_of.result c.args.bytes.now c.part_of.ensures.found c.part_of.ensures.fault

pub returns-clause-value : goal.returns-clause-value
returns-clause-value c = value_of c.part_of.result c.args.bytes.now (λ i. omega (arith, c.type_inv.bytes i)) c.part_of.ensures.found c.part_of.ensures.fault

pub returns-clause-writable : goal.returns-clause-writable
returns-clause-writable c = writable_of c.part_of.result c.args.bytes.now (λ i. omega (arith, c.type_inv.bytes i)) c.part_of.ensures.found
