use Rattle.std.proofs.Common.{sym, ◌∙◌}
use Rattle.floor_machine.specs.Shown.{info}
use Rattle.floor_machine.proofs.Asked.{on_ok_all}
use Rattle.floor_machine.proofs.Renewed.{fit-put, renewed-standing}
use Rattle.floor_machine.proofs.tell.renewing.renew_ongoing.Goals as goal

pub returns-then-not-is_marked-clause-renewed : goal.returns-then-not-is_marked-clause-renewed
returns-then-not-is_marked-clause-renewed c =
    renewed-standing c.args.ongoing.now.settled.config.now c.args.ongoing.now.settled.requests.now.ongoing c.args.ongoing.now.request.now c.args.place c.args.infos.now.items c.args.changes.now
    (c.requires.unmarked (sym c.is_marked.ensures ∙ c.if-not-is_marked.true))

pub returns-in_ok-note_floors-in-Some-clause-fit : goal.returns-in_ok-note_floors-in-Some-clause-fit
returns-in_ok-note_floors-in-Some-clause-fit c =
    let now = info c.args.ongoing.now.settled.config.now c.args.ongoing.now.settled.requests.now.ongoing c.args.ongoing.now.request.now in
    on_ok_all c.push.result (fit-put c.args.place c.args.ongoing.now.request.now.number c.args.infos.now.items c.show_at.new.infos.items now c.fits.ensures c.in_ok-info.ensures.infos)

pub returns-in-None-clause-fit : goal.returns-in-None-clause-fit
returns-in-None-clause-fit c =
    let now = info c.args.ongoing.now.settled.config.now c.args.ongoing.now.settled.requests.now.ongoing c.args.ongoing.now.request.now in
    fit-put c.args.place c.args.ongoing.now.request.now.number c.args.infos.now.items c.show_at.new.infos.items now c.fits.ensures c.in_ok-info.ensures.infos
