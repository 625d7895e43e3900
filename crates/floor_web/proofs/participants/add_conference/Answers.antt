use Rattle.std.proofs.Common.{List, drop, sym, ap, ◌∙◌, subst}
use Rattle.std.proofs.lemmas.Result.{err_from_is_err_and}
use Rattle.toml.specs.View.{items_view}
use Rattle.toml.specs.Data.{Items}
use Rattle.floor_config.specs.declared.users.User.{User}
use Rattle.floor_web.specs.Participants.{bearers, behind_found, each, of_user, items_of}
use Rattle.floor_web.proofs.Found.{goes_on, stops, is_done, is_over, nil_of_none}
use Rattle.floor_web.proofs.participants.add_conference.Goals as goal

pub returns-in-None : goal.returns-in-None
returns-in-None c =
    let read = of_user c.args.config.now.conference in
    let old = bearers c.args.participants.now.items in
    let found = bearers c.loop-table.participants.items in
    let tables = c.items_of-tables.result.now in
    let left = items_view (drop c.loop-table.table-index tables) in
    let all = c.items_of-tables.ensures.value ∙ ap items_of c.get.ensures in
    let so_far = ap (λ (xs : List User). behind_found found (each read xs left)) (sym (nil_of_none c.in-None.ensures.cases)) ∙ c.loop-table.invariant in
    record { value = is_over read found tables c.loop-table.table-index _ (so_far ∙ ap (λ (vs : Items). behind_found old (each read c.args.config.now.users vs)) all) }

pub returns-in_err-add_user-in-Some : goal.returns-in_err-add_user-in-Some
returns-in_err-add_user-in-Some c =
    let p = err_from_is_err_and c.from_residual.result c.from_residual.ensures.1 in
    let read = of_user c.args.config.now.conference in
    let old = bearers c.args.participants.now.items in
    let found = bearers c.loop-table.participants.items in
    let tables = c.items_of-tables.result.now in
    let left = items_view (drop c.loop-table.table-index tables) in
    let all = c.items_of-tables.ensures.value ∙ ap items_of c.get.ensures in
    let so_far = ap (λ (xs : List User). behind_found found (each read xs left)) (sym c.in-Some.ensures.cases.0) ∙ c.loop-table.invariant in
    rw (p.1, p.2) record { value = stops read c.in_err-add_user-in-Some.field-0.0 found old c.in-Some.user.now c.in-Some.others.now tables c.loop-table.table-index c.table-item.result _ c.loop-table-test.true c.table-item.is c.in_err-add_user-in-Some.ensures.value (so_far ∙ ap (λ (vs : Items). behind_found old (each read c.args.config.now.users vs)) all) }

pub loop-table-preserved : goal.loop-table-preserved
loop-table-preserved c =
    let read = of_user c.args.config.now.conference in
    let found = bearers c.loop-table.participants.items in
    let tables = c.items_of-tables.result.now in
    let left = items_view (drop c.loop-table.table-index tables) in
    let so_far = ap (λ (xs : List User). behind_found found (each read xs left)) (sym c.in-Some.ensures.cases.0) ∙ c.loop-table.invariant in
    goes_on read found (bearers c.add_user.new.participants.items) c.in-Some.user.now c.in-Some.others.now tables c.loop-table.table-index c.table-item.result _ c.loop-table-test.true c.table-item.is c.in_ok-add_user-in-Some.ensures.value so_far

pub returns : goal.returns
returns c =
    let read = of_user c.args.config.now.conference in
    let old = bearers c.args.participants.now.items in
    let all = c.items_of-tables.ensures.value ∙ ap items_of c.get.ensures in
    record {
      value = is_done read (bearers c.loop-table.participants.items) c.loop-table.rest.now c.items_of-tables.result.now c.loop-table.table-index _ c.loop-table-test.false
          (c.loop-table.invariant ∙ ap (λ (vs : Items). behind_found old (each read c.args.config.now.users vs)) all);
    }
