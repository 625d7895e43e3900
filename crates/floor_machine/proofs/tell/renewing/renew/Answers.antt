use Rattle.std.proofs.Common.{ℕ, List, Option, ap, sym, subst, ◌∙◌}
use Rattle.std.specs.Prelude.{IfSome}
use Rattle.floor_queue.specs.Queue.{are_ascending}
use Rattle.floor_machine.specs.steps.Renewing.{AreMoved, AreSome}
use Rattle.floor_machine.proofs.Marked.{all-some, are-some}
use Rattle.floor_machine.proofs.Skipped.{ascending-rising}
use Rattle.floor_machine.proofs.tell.renewing.renew.Goals as goal

pub renew_some-requires-clause-moved : goal.renew_some-requires-clause-moved
renew_some-requires-clause-moved c =
    let ongoing = c.args.settled.now.requests.now.ongoing in
    let course = c.args.course.now in
    let S : Option (List ℕ) → Type 0 = λ few. IfSome few (AreMoved ongoing course) in
    let M : List ℕ → Type 0 = λ some. AreSome ongoing course some in
    let moved : AreMoved ongoing course c.in-Some.few = subst S c.in-Some.is c.in_ok-few.ensures.moved in
    subst M (sym c.as_slice.ensures) (are-some ongoing course c.in-Some.few moved c.requires.course.whole)

pub renew_some-requires-in-None-clause-ascending : goal.renew_some-requires-in-None-clause-ascending
renew_some-requires-in-None-clause-ascending c =
    ap are_ascending c.deref.ensures.value ∙ ascending-rising c.args.course.now.numbers.items ∙ c.requires.course.rising

pub renew_some-requires-in-None-clause-moved : goal.renew_some-requires-in-None-clause-moved
renew_some-requires-in-None-clause-moved c =
    let M : List ℕ → Type 0 = λ some. AreSome c.args.settled.now.requests.now.ongoing c.args.course.now some in
    subst M (sym c.deref.ensures.value) (all-some c.args.settled.now.requests.now.ongoing c.args.course.now)
