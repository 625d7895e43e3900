use Rattle.std.proofs.Common.{sym, arith, ◌∷◌, []}
use Rattle.std.proofs.lemmas.List.{length-append}
use Rattle.std.proofs.lemmas.List.Elements.{All-push}
use Rattle.floor_config.specs.Configuration.{IsFloor}
use Rattle.std.proofs.lemmas.Result.{err_from_is_err_and}
use Rattle.toml.specs.View.{items_view, table_view}
use Rattle.floor_config.specs.Values.{tables}
use Rattle.floor_config.specs.Reading.{floor_of, all_of}
use Rattle.floor_config.proofs.Tables.{Fails-found, goes_on, passes_over, stops, is_done}
use Rattle.floor_config.proofs.reading.all_floors.Goals as goal
use Rattle.floor_config.proofs.reading.all_floors.Goals.{in-Some+in_ok-floor+in_ok-push, in_default}

pub returns-in_err-floor-clause-value : goal.returns-in_err-floor-clause-value
returns-in_err-floor-clause-value c =
    let p = err_from_is_err_and c.from_residual.result c.from_residual.ensures.1 in
    rw (p.1, p.2) (stops floor_of c.in_err-floor.field-0.0 c.loop-value.floors.items c.args.values.now c.loop-value.value-index c.value-item.result (table_view c.in-Some.table.now) (all_of floor_of (tables (items_view c.args.values.now))) c.loop-value-test.true c.value-item.is (sym c.in-Some.ensures) (Fails-found c.in_err-floor.field-0.0 (floor_of (table_view c.in-Some.table.now)) (sym c.in_err-floor.ensures.value)) c.loop-value.invariant.told)

pub loop-value-preserved : goal.loop-value-preserved
loop-value-preserved c =
    elim c.match-as_table.branch [
      | in-Some+in_ok-floor+in_ok-push w ↦ rw (w.floors-is, w.in_ok-push.ensures.items) record {
        told = goes_on floor_of c.loop-value.floors.items c.args.values.now c.loop-value.value-index c.value-item.result (table_view w.in-Some.table.now) w.in_ok-floor.field-0 (all_of floor_of (tables (items_view c.args.values.now))) c.loop-value-test.true c.value-item.is (sym w.in-Some.ensures) (sym w.in_ok-floor.ensures.value) c.loop-value.invariant.told;
        fits = All-push IsFloor c.loop-value.floors.items w.in_ok-floor.field-0 c.loop-value.invariant.fits w.in_ok-floor.ensures.fits;
        few = omega (arith, length-append c.loop-value.floors.items (w.in_ok-floor.field-0 ∷ []), c.loop-value.invariant.few);
        within = omega (arith, c.loop-value-test.true);
      }
      | in_default w ↦ rw w.floors-is record {
        told = passes_over floor_of c.loop-value.floors.items c.args.values.now c.loop-value.value-index c.value-item.result (all_of floor_of (tables (items_view c.args.values.now))) c.loop-value-test.true c.value-item.is (sym w.in_default.ensures) c.loop-value.invariant.told;
        fits = c.loop-value.invariant.fits;
        few = omega (arith, c.loop-value.invariant.few);
        within = omega (arith, c.loop-value-test.true);
      }
    ]

pub returns-clause-value : goal.returns-clause-value
returns-clause-value c = is_done floor_of c.loop-value.floors.items c.args.values.now c.loop-value.value-index (all_of floor_of (tables (items_view c.args.values.now))) c.loop-value-test.false c.loop-value.invariant.told
