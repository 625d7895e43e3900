use Rattle.std.proofs.Common.{sym}
use Rattle.std.proofs.lemmas.Result.{err_from_is_err_and}
use Rattle.toml.specs.View.{items_view, table_view}
use Rattle.floor_config.specs.Values.{tables}
use Rattle.floor_config.specs.Reading.{conference_of, all_of}
use Rattle.floor_config.proofs.Tables.{goes_on, passes_over, stops, is_done}
use Rattle.floor_config.proofs.reading.all_conferences.Goals as goal
use Rattle.floor_config.proofs.reading.all_conferences.Goals.{in-Some+in_ok-conference+in_ok-push, in_default}

pub returns-in_err-conference : goal.returns-in_err-conference
returns-in_err-conference c =
    let p = err_from_is_err_and c.from_residual.result c.from_residual.ensures.1 in
    rw (p.1, p.2) record { value = stops conference_of c.in_err-conference.field-0.0 c.loop-value.configs.items c.args.values.now c.loop-value.value-index c.value-item.result (table_view c.in-Some.table.now) (all_of conference_of (tables (items_view c.args.values.now))) c.loop-value-test.true c.value-item.is (sym c.in-Some.ensures) c.in_err-conference.ensures.value c.loop-value.invariant }

pub loop-value-preserved : goal.loop-value-preserved
loop-value-preserved c =
    elim c.match-as_table.branch [
      | in-Some+in_ok-conference+in_ok-push w ↦ rw (w.configs-is, w.in_ok-push.ensures.items) (goes_on conference_of c.loop-value.configs.items c.args.values.now c.loop-value.value-index c.value-item.result (table_view w.in-Some.table.now) w.in_ok-conference.field-0 (all_of conference_of (tables (items_view c.args.values.now))) c.loop-value-test.true c.value-item.is (sym w.in-Some.ensures) w.in_ok-conference.ensures.value c.loop-value.invariant)
      | in_default w ↦ rw w.configs-is (passes_over conference_of c.loop-value.configs.items c.args.values.now c.loop-value.value-index c.value-item.result (all_of conference_of (tables (items_view c.args.values.now))) c.loop-value-test.true c.value-item.is (sym w.in_default.ensures) c.loop-value.invariant)
    ]

pub returns : goal.returns
returns c = record { value = is_done conference_of c.loop-value.configs.items c.args.values.now c.loop-value.value-index (all_of conference_of (tables (items_view c.args.values.now))) c.loop-value-test.false c.loop-value.invariant }
