-- The slots of a table.
use Rattle.std.specs.Prelude.{ℕ, List, map}
use Rattle.floor_serve.specs.declared.table.Slot.{Slot}

-- the numbers of the conferences, in the order of opening
abbrev pub numbers : List Slot → List ℕ
numbers slots = map (λ s. s.conference) slots
