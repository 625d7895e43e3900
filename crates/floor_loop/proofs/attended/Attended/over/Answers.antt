use Rattle.std.proofs.Common.{ap, sym, ◌∙◌}
use Rattle.floor_loop.specs.Away.{Away, ends_of}
use Rattle.floor_loop.specs.Loop.{Attended}
use Rattle.floor_loop.proofs.Ending.{if-found, over-due, over-stay}
use Rattle.floor_loop.proofs.attended.Attended.over.Goals as goal

pub returns-in-Some-clause-found : goal.returns-in-Some-clause-found
returns-in-Some-clause-found c = over-due c.args.self.now c.in-Some.number c.in-Some.ensures.found

pub returns-clause-found : goal.returns-clause-found
returns-clause-found c =
    let a = c.args.self.now in
    let same = c.self.view_is ∙ c.due.ensures.next in
    if-found c.stay_over.result (λ number d. over-stay a number c.self.inside.time (ap (λ (z : Attended). z.time) same)
    (d.0, ap (λ (z : Away). ends_of z number) (sym (ap (λ (z : Attended). z.away) same)) ∙ d.1, d.2)) c.stay_over.ensures.found
