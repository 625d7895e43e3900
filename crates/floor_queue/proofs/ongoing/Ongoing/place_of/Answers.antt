use Rattle.std.proofs.Common.{◌≡◌, ◌∙◌, ℕ, Some, None, true, false, ap, arith, sym, length, List}
use Rattle.std.specs.Prelude.{◌==◌, not, nat_lt, ◌≢◌}
use Rattle.std.specs.List.{position_or_len, slice_get}
use Rattle.std.proofs.lemmas.Bool.Decides.{nat_tests}
use Rattle.floor_queue.specs.declared.request.Request.{Request}
use Rattle.floor_queue.specs.Queue.{is_ascending}
use Rattle.floor_queue.proofs.Searching.{number-found, number-absent, number-beyond}
use Rattle.floor_queue.proofs.ongoing.Ongoing.place_of.Goals as goal

tests_same : (a b : ℕ) → a ≡ b → (a == b) ≡ true
tests_same a b h = grind (arith, nat_tests)

tests_other : (a b : ℕ) → a ≢ b → (a == b) ≡ false
tests_other a b h = grind (arith, nat_tests)

pub returns-then-found-number : goal.returns-then-found-number
returns-then-found-number c =
    let found : slice_get c.args.self.now (position_or_len (λ (r : Request). not (nat_lt r.number c.args.number)) c.args.self.now) ≡ Some c.in-Some.found.now =
    sym (c.in-Some.ensures ∙ ap (λ (rs : List Request). slice_get rs c.first_from-place.result) (c.deref.ensures.value ∙ c.self.view_is) ∙ ap (slice_get c.args.self.now) c.first_from-place.ensures) in
    c.first_from-place.ensures
    ∙ sym (number-found c.args.number c.args.self.now c.in-Some.found.now (ap is_ascending (sym c.self.view_is) ∙ c.self.invariant) found (tests_same c.in-Some.found.now.number c.args.number c.if-found-number.true))

pub returns-else-found-number : goal.returns-else-found-number
returns-else-found-number c =
    let found : slice_get c.args.self.now (position_or_len (λ (r : Request). not (nat_lt r.number c.args.number)) c.args.self.now) ≡ Some c.in-Some.found.now =
    sym (c.in-Some.ensures ∙ ap (λ (rs : List Request). slice_get rs c.first_from-place.result) (c.deref.ensures.value ∙ c.self.view_is) ∙ ap (slice_get c.args.self.now) c.first_from-place.ensures) in
    omega (arith, number-absent c.args.number c.args.self.now c.in-Some.found.now (ap is_ascending (sym c.self.view_is) ∙ c.self.invariant) found (tests_other c.in-Some.found.now.number c.args.number c.if-found-number.false), ap length c.self.view_is)

pub returns-in-None : goal.returns-in-None
returns-in-None c =
    let none : slice_get c.args.self.now (position_or_len (λ (r : Request). not (nat_lt r.number c.args.number)) c.args.self.now) ≡ None =
    sym (c.in-None.ensures ∙ ap (λ (rs : List Request). slice_get rs c.first_from-place.result) (c.deref.ensures.value ∙ c.self.view_is) ∙ ap (slice_get c.args.self.now) c.first_from-place.ensures) in
    omega (arith, number-beyond c.args.number c.args.self.now none, ap length c.self.view_is)
