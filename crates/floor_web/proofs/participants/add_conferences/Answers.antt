use Rattle.std.proofs.Common.{List, drop, sym, ap, ◌∙◌, subst}
use Rattle.std.proofs.lemmas.Result.{err_from_is_err_and}
use Rattle.toml.specs.View.{items_view}
use Rattle.floor_config.specs.Configuration.{Configuration}
use Rattle.floor_web.specs.Participants.{bearers, behind_found, each, of_conference}
use Rattle.floor_web.proofs.Found.{goes_on, stops, is_done, is_over, nil_of_none}
use Rattle.floor_web.proofs.participants.add_conferences.Goals as goal

pub returns-in-None : goal.returns-in-None
returns-in-None c =
    let old = bearers c.args.participants.now.items in
    let found = bearers c.loop-table.participants.items in
    let left = items_view (drop c.loop-table.table-index c.args.tables.now) in
    let so_far = ap (λ (xs : List Configuration). behind_found found (each of_conference xs left)) (sym (nil_of_none c.in-None.ensures.cases)) ∙ c.loop-table.invariant in
    record { value = is_over of_conference found c.args.tables.now c.loop-table.table-index _ so_far }

pub returns-in_err-add_conference-in-Some : goal.returns-in_err-add_conference-in-Some
returns-in_err-add_conference-in-Some c =
    let p = err_from_is_err_and c.from_residual.result c.from_residual.ensures.1 in
    let found = bearers c.loop-table.participants.items in
    let left = items_view (drop c.loop-table.table-index c.args.tables.now) in
    let so_far = ap (λ (xs : List Configuration). behind_found found (each of_conference xs left)) (sym c.in-Some.ensures.cases.0) ∙ c.loop-table.invariant in
    rw (p.1, p.2) record { value = stops of_conference c.in_err-add_conference-in-Some.field-0.0 found (bearers c.args.participants.now.items) c.in-Some.config.now c.in-Some.others.now c.args.tables.now c.loop-table.table-index c.table-item.result _ c.loop-table-test.true c.table-item.is c.in_err-add_conference-in-Some.ensures.value so_far }

pub loop-table-preserved : goal.loop-table-preserved
loop-table-preserved c =
    let found = bearers c.loop-table.participants.items in
    let left = items_view (drop c.loop-table.table-index c.args.tables.now) in
    let so_far = ap (λ (xs : List Configuration). behind_found found (each of_conference xs left)) (sym c.in-Some.ensures.cases.0) ∙ c.loop-table.invariant in
    goes_on of_conference found (bearers c.add_conference.new.participants.items) c.in-Some.config.now c.in-Some.others.now c.args.tables.now c.loop-table.table-index c.table-item.result _ c.loop-table-test.true c.table-item.is c.in_ok-add_conference-in-Some.ensures.value so_far

pub returns : goal.returns
returns c = record { value = is_done of_conference (bearers c.loop-table.participants.items) c.loop-table.rest.now c.args.tables.now c.loop-table.table-index _ c.loop-table-test.false c.loop-table.invariant }
