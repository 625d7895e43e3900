use Rattle.std.proofs.Common.{take}
use Rattle.floor_wire.specs.Bytes.{IsOfBytes}
use Rattle.floor_wire.specs.Spelling.{IsWritable}
use Rattle.floor_wire.specs.View.{attributes_of}
use Rattle.floor_wire.proofs.fits.writable.Given as goal

abbrev pub invariant-loop-attr : goal.invariant-loop-attr
invariant-loop-attr l = IsWritable (attributes_of (take l.attr-index l.attrs)) × IsOfBytes (attributes_of (take l.attr-index l.attrs))
