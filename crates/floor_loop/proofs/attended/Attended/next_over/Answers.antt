use Rattle.std.proofs.Common.{◌≡◌, ◌≤◌, ℕ, Some, None, ap, subst, sym, ◌∙◌}
use Rattle.std.specs.Prelude.{IfNone, IfSome, Option}
use Rattle.floor_loop.specs.Away.{Away, ends_of}
use Rattle.floor_loop.specs.Loop.{Attended, over_in}
use Rattle.floor_loop.proofs.Ending.{first-over, if-none-entry, if-none-is}
use Rattle.floor_loop.proofs.attended.Attended.next_over.Goals as goal

pub returns-clause-found : goal.returns-clause-found
returns-clause-found c =
    let a = c.args.self.now in
    let same = ap (λ (z : Attended). z.away) (c.self.view_is ∙ c.next_due-due.ensures.next) in
    subst (λ (r : Option ℕ). IfSome r (λ until. (number : ℕ) × (over_in a number ≡ Some until))) (sym c.soonest.ensures.value)
    (first-over a c.next_due-due.result c.first.result c.next_due-due.ensures.found c.next_due-due.ensures.first (if-none-is c.next_due-due.result c.next_due-due.ensures.none)
    (subst (λ (w : Away). IfSome c.first.result (λ e. ends_of w e.number ≡ Some e.time)) same c.first.ensures.found)
    (subst (λ (w : Away). IfSome c.first.result (λ e. (number t : ℕ) → ends_of w number ≡ Some t → e.time ≤ t)) same c.first.ensures.first)
    (if-none-entry c.first.result (subst (λ (w : Away). IfNone c.first.result ((number : ℕ) → ends_of w number ≡ None)) same c.first.ensures.none)))
