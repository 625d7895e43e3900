-- What the steps of writing make of the bytes that are there.
use Rattle.std.specs.Prelude.{ℕ, List, ◌++◌}
use Rattle.floor_wire.specs.Spelling.{canon}
use Rattle.floor_wire.specs.View.{attributes_of}
use Rattle.floor_wire.specs.declared.attribute.Attr.{Attr}

-- the bytes, and behind them the attributes as they are written
abbrev pub with_attrs : List ℕ → List Attr → List ℕ
with_attrs bytes attrs = bytes ++ canon (attributes_of attrs)
