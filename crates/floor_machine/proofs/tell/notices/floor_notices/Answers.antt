use Rattle.std.proofs.Common.{◌<◌, ◌∙◌, List, [], ◌∷◌, ◌++◌, sym, ap, length, get_or, None, arith}
use Rattle.std.proofs.lemmas.List.{map_more}
use Rattle.floor_config.specs.declared.floors.Floor.{Floor}
use Rattle.floor_machine.specs.declared.tell.notices.FloorNotice.{FloorNotice}
use Rattle.floor_machine.specs.steps.Telling.{floor_notice, floor_update}
use Rattle.floor_machine.proofs.Fitting.{floors_fit}
use Rattle.floor_machine.proofs.tell.notices.floor_notices.Goals as goal

pub loop-floor-preserved : goal.loop-floor-preserved
loop-floor-preserved c =
    let noticed : Floor → FloorNotice = λ f. floor_notice c.args.conference (floor_update c.args.now.now f) in
    let floors : List Floor = c.args.floors.now in
    let none : Floor = record { id = 0; room = 0; chair = None } in
    let i = c.loop-floor.floor-index in
    let within : i < length floors = omega arith in
    c.in_ok-write_floor_notice.ensures
    ∙ ap (λ (ns : List FloorNotice). ns ++ noticed (get_or floors i none) ∷ []) c.loop-floor.invariant
    ∙ sym (map_more noticed floors i none within)

pub returns-clause-shown : goal.returns-clause-shown
returns-clause-shown c = floors_fit c.args.now.now c.args.floors.now c.requires.floors c.requires.shown
