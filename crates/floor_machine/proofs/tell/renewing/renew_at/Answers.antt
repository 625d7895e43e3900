use Rattle.std.proofs.Common.{◌+◌, List, length, sym, ap, ◌∙◌}
use Rattle.std.specs.Prelude.{◌==◌, find}
use Rattle.floor_machine.specs.declared.course.Ended.{Ended}
use Rattle.floor_machine.specs.steps.Renewing.{info_here}
use Rattle.floor_machine.specs.steps.Telling.{listed}
use Rattle.floor_machine.specs.steps.Fitting.{IsFit}
use Rattle.floor_machine.proofs.Fitting.{found_all}
use Rattle.floor_machine.proofs.Renewed.{fit-taken, renewed-ended}
use Rattle.floor_machine.proofs.tell.renewing.renew_at.Goals as goal

pub renew_ended-requires : goal.renew_ended-requires
renew_ended-requires c =
    let ended = c.args.course.now.ended.items in
    found_all (λ (d : Ended). IsFit c.args.settled.now.config.now.floors d.request) (λ d. d.request.number == c.args.number) ended c.in-Some.ended.now c.requires.ended
    (ap (λ (ds : List Ended). find (λ d. d.request.number == c.args.number) ds) (sym c.deref.ensures.value) ∙ sym c.in-Some.ensures)

pub returns-in_ok-renew_ended-in-Some-clause-renewed : goal.returns-in_ok-renew_ended-in-Some-clause-renewed
returns-in_ok-renew_ended-in-Some-clause-renewed c =
    let ended = c.args.course.now.ended.items in
    renewed-ended c.args.settled.now.config.now c.args.settled.now.requests.now.ongoing ended c.in-Some.ended.now c.args.number c.args.place c.args.infos.now.items c.renew_ended.new.infos.items c.args.changes.now c.renew_ended.new.changes
    (ap (λ (ds : List Ended). find (λ d. d.request.number == c.args.number) ds) (sym c.deref.ensures.value) ∙ sym c.in-Some.ensures)
    c.in_ok-renew_ended-in-Some.ensures.renewed

pub returns-in_ok-forget-in-None-request_at-clause-fit : goal.returns-in_ok-forget-in-None-request_at-clause-fit
returns-in_ok-forget-in-None-request_at-clause-fit c =
    let before = c.args.infos.now.items in
    let place = c.args.place in
    fit-taken place (place + length (listed (info_here before place c.args.number))) before c.forget.new.infos.items c.in_ok-forget-in-None-request_at.ensures.infos
