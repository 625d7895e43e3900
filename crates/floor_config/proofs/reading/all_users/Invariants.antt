use Rattle.std.proofs.Common.{◌≡◌, drop, length, ◌≤◌, All}
use Rattle.toml.specs.View.{items_view}
use Rattle.floor_config.specs.Configuration.{IsUser}
use Rattle.floor_config.specs.Values.{tables}
use Rattle.floor_config.specs.Reading.{user_of, all_of}
use Rattle.floor_config.proofs.Tables.{with_front}
use Rattle.floor_config.proofs.reading.all_users.Given as goal

abbrev pub invariant-loop-value : goal.invariant-loop-value
invariant-loop-value l = record {
  told : with_front l.users.items (all_of user_of (tables (items_view (drop l.value-index l.values)))) ≡ all_of user_of (tables (items_view l.fn.values));
  fits : All IsUser l.users.items;
  few : length l.users.items ≤ l.value-index;
  within : l.value-index ≤ length l.values;
}
