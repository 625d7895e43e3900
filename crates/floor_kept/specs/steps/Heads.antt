-- The heads of the values of an array, each a conference's table.
use Rattle.std.specs.Prelude.{◌≡◌, List, map}
use Rattle.toml.specs.Data.{Members, table}
use Rattle.toml.specs.View.{view}
use Rattle.toml.specs.declared.value.Value.{Value}
use Rattle.floor_kept.specs.NewHeads.{AreHeadsOf, IsNewHeadOf}
use Rattle.floor_kept.specs.declared.head.NewHead.{NewHead}

-- the value is a conference's table, and the head is its
abbrev pub IsHeadOfValue : Value → NewHead → Type 0
IsHeadOfValue value head = (conference : Members) × (view value ≡ table conference) × IsNewHeadOf conference head

-- the values are tables all, and the heads are theirs
abbrev pub AreHeadsOfValues : List Value → List NewHead → Type 0
AreHeadsOfValues values heads =
    (conferences : List Members) × (map view values ≡ map table conferences) × AreHeadsOf conferences heads
