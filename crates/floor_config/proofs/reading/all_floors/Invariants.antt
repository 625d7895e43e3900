use Rattle.std.proofs.Common.{◌≡◌, drop, length, ◌≤◌, All}
use Rattle.toml.specs.View.{items_view}
use Rattle.floor_config.specs.Configuration.{IsFloor}
use Rattle.floor_config.specs.Values.{tables}
use Rattle.floor_config.specs.Reading.{floor_of, all_of}
use Rattle.floor_config.proofs.Tables.{with_front}
use Rattle.floor_config.proofs.reading.all_floors.Given as goal

abbrev pub invariant-loop-value : goal.invariant-loop-value
invariant-loop-value l = record {
  told : with_front l.floors.items (all_of floor_of (tables (items_view (drop l.value-index l.values)))) ≡ all_of floor_of (tables (items_view l.fn.values));
  fits : All IsFloor l.floors.items;
  few : length l.floors.items ≤ l.value-index;
  within : l.value-index ≤ length l.values;
}
