use Rattle.std.proofs.Common.{◌∙◌, ap, sym, Option, Some}
use Rattle.std.specs.Prelude.{◌==◌, option_map}
use Rattle.std.specs.Option.{option_map_or}
use Rattle.floor_queue.specs.Queue.{request_at}
use Rattle.floor_machine.specs.declared.course.Ended.{Ended}
use Rattle.floor_machine.specs.declared.information.shown.Shown.{Shown}
use Rattle.floor_machine.specs.Shown.{entry_of}
use Rattle.floor_machine.specs.steps.Telling.{entry_of_ended, shown_of}
use Rattle.floor_machine.specs.steps.Fitting.{IsFit}
use Rattle.floor_machine.proofs.Fitting.{found_all}
use Rattle.floor_machine.proofs.Shows.{shown_of-ended}
use Rattle.floor_machine.proofs.information.settled.Settled.shown_at.Goals as goal

pub returns-in_ok-shown_ended-in-Some-clause-value : goal.returns-in_ok-shown_ended-in-Some-clause-value
returns-in_ok-shown_ended-in-Some-clause-value c =
    let config = c.args.self.now.config.now in
    let ongoing = c.args.self.now.requests.now.ongoing in
    let some : Shown → Option Shown = λ s. Some s in
    ap some (c.in_ok-shown_ended-in-Some.ensures.value ∙ shown_of-ended config ongoing c.in-Some.found.now)
    ∙ ap (λ (o : Option Ended). option_map (shown_of config ongoing) (option_map_or (λ d. Some (entry_of_ended d)) o (option_map entry_of (request_at ongoing c.args.number)))) c.in-Some.ensures

pub shown_ended-requires : goal.shown_ended-requires
shown_ended-requires c =
    found_all (λ (d : Ended). IsFit c.args.self.now.config.now.floors d.request) (λ d. d.request.number == c.args.number) c.args.ended.now c.in-Some.found.now c.requires (sym c.in-Some.ensures)
