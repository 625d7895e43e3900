use Rattle.std.proofs.Common.{◌≡◌, ◌∙◌, subst}
use Rattle.std.specs.Prelude.{Option, Some, Result, Ok, Err}
use Rattle.floor_http.specs.declared.head.Asked.{Asked}
use Rattle.floor_http.specs.declared.head.Unasked.{Unasked}
use Rattle.floor_http.specs.Heads.{Reads}
use Rattle.floor_http.specs.contracts.page.Page.{the_view}
use Rattle.floor_http.proofs.Hearing.{came_asked, came_more, came_refused}
use Rattle.floor_http.proofs.page.Page.came.Goals as goal

pub returns-in-None-clause-took : goal.returns-in-None-clause-took
returns-in-None-clause-took c =
    rw (← c.self.view_is)
    (came_more c.self.inside.head.items c.args.bytes.now c.extend_from_slice.new.self.items c.deref.result.now c.self.inside.answer.items c.self.inside.is_asked c.self.inside.taken
    c.if-self.false c.in_ok-extend_from_slice.ensures.items c.deref.ensures.value c.in-None.ensures.value)

pub returns-in-Some-Ok-clause-took : goal.returns-in-Some-Ok-clause-took
returns-in-Some-Ok-clause-took c =
    let is : Some c.in-Some-Ok.field-0 ≡ Some (Ok c.in-Some-Ok.asked) = cc in
    rw (← c.self.view_is)
    (came_asked c.self.inside.head.items c.args.bytes.now c.extend_from_slice.new.self.items c.deref.result.now c.self.inside.answer.items c.self.inside.is_asked c.self.inside.taken c.in-Some-Ok.asked
    c.if-self.false c.in_ok-extend_from_slice.ensures.items c.deref.ensures.value
    (subst (λ (r : Option (Result Asked Unasked)). Reads c.deref.result.now r) is c.in-Some-Ok.ensures.value))

pub returns-in_ok-answer-in-Some-Err-clause-took : goal.returns-in_ok-answer-in-Some-Err-clause-took
returns-in_ok-answer-in-Some-Err-clause-took c =
    let is : Some c.in-Some-Err.field-0 ≡ Some (Err c.in-Some-Err.why) = cc in
    rw (← c.self.view_is)
    (came_refused c.self.inside.head.items c.args.bytes.now c.extend_from_slice.new.self.items c.deref.result.now c.self.inside.answer.items c.status_of.result.now c.self.inside.is_asked c.self.inside.taken c.in-Some-Err.why
    (the_view c.self-in-Some-Err.inside)
    c.if-self.false c.in_ok-extend_from_slice.ensures.items c.deref.ensures.value
    (subst (λ (r : Option (Result Asked Unasked)). Reads c.deref.result.now r) is c.in-Some-Err.ensures.value)
    c.status_of.ensures.value (c.self-in-Some-Err.view_is ∙ c.in_ok-answer-in-Some-Err.ensures.told))
