use Rattle.std.proofs.Common.{◌≡◌, drop}
use Rattle.toml.specs.View.{items_view}
use Rattle.floor_config.specs.Values.{tables}
use Rattle.floor_config.specs.Reading.{conference_of, all_of}
use Rattle.floor_config.proofs.Tables.{with_front}
use Rattle.floor_config.proofs.reading.all_conferences.Given as goal

abbrev pub invariant-loop-value : goal.invariant-loop-value
invariant-loop-value l = with_front l.configs.items (all_of conference_of (tables (items_view (drop l.value-index l.values)))) ≡ all_of conference_of (tables (items_view l.fn.values))
