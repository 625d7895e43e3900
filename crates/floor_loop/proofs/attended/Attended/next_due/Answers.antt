use Rattle.std.proofs.Common.{◌≡◌, ◌≤◌, ℕ, subst, sym, Some, None}
use Rattle.std.specs.Prelude.{Option, IfNone, IfSome}
use Rattle.floor_loop.specs.Loop.{Attended, until_in}
use Rattle.floor_loop.specs.steps.Listed.{deadline}
use Rattle.floor_loop.proofs.Due.{Least, Nobody, first-found, first-least, first-none, if-none, if-some}
use Rattle.floor_loop.proofs.attended.Attended.next_due.Goals as goal

pub invariant_of-self : goal.invariant_of-self
invariant_of-self c = record {
  ready = c.self.invariant.ready;
  ending = c.first_of-ending.ensures.listed (deadline c.self.inside.time) c.self.invariant.ending;
  failed = c.first_of-failed.ensures.listed c.self.inside.time c.self.invariant.failed;
}

abbrev inside : goal.After-earliest → Attended
inside c = record { outgoing = c.self.inside.outgoing.entries; time = c.self.inside.time; away = c.self.inside.away }

least-failed : (c : goal.After-earliest) → Least (λ o. o.fails) (inside c) c.first_of-failed.result
least-failed c = if-some c.first_of-failed.result (λ e f. (f c.self.inside.time c.self.invariant.failed).1) c.first_of-failed.ensures.first

none-failed : (c : goal.After-earliest) → Nobody (λ o. o.fails) (inside c) c.first_of-failed.result
none-failed c = if-none c.first_of-failed.result (λ f. f c.self.inside.time c.self.invariant.failed) c.first_of-failed.ensures.none

least-ending : (c : goal.After-earliest) → Least (λ o. o.ends) (inside c) c.first_of-ending.result
least-ending c = if-some c.first_of-ending.result (λ e f. (f (deadline c.self.inside.time) c.self.invariant.ending).1) c.first_of-ending.ensures.first

none-ending : (c : goal.After-earliest) → Nobody (λ o. o.ends) (inside c) c.first_of-ending.result
none-ending c = if-none c.first_of-ending.result (λ f. f (deadline c.self.inside.time) c.self.invariant.ending) c.first_of-ending.ensures.none

pub returns : goal.returns
returns c =
    let failed = c.first_of-failed.result in
    let ending = c.first_of-ending.result in
    record {
      next = c.self.view_is;
      found = subst (λ (z : Attended). IfSome c.earliest.result (λ until. (number : ℕ) × (until_in z number ≡ Some until))) c.self.view_is
          (subst (λ (r : Option ℕ). IfSome r (λ until. (number : ℕ) × (until_in (inside c) number ≡ Some until))) (sym c.earliest.ensures)
          (first-found (inside c) failed ending c.first_of-failed.ensures.found (least-failed c) (none-failed c) c.first_of-ending.ensures.found (least-ending c) (none-ending c)));
      first = subst (λ (z : Attended). IfSome c.earliest.result (λ first. (number until : ℕ) → until_in z number ≡ Some until → first ≤ until)) c.self.view_is
          (subst (λ (r : Option ℕ). IfSome r (λ first. (number until : ℕ) → until_in (inside c) number ≡ Some until → first ≤ until)) (sym c.earliest.ensures)
          (first-least (inside c) failed ending (least-failed c) (none-failed c) (least-ending c) (none-ending c)));
      none = subst (λ (z : Attended). IfNone c.earliest.result ((number : ℕ) → until_in z number ≡ None)) c.self.view_is
          (subst (λ (r : Option ℕ). IfNone r ((number : ℕ) → until_in (inside c) number ≡ None)) (sym c.earliest.ensures) (first-none (inside c) failed ending (none-failed c) (none-ending c)));
    }
