use Rattle.std.proofs.Common.{◌≡◌, ℕ, true, false, List, sym, ap, ◌∙◌, subst, bytes_eq, string_bytes}
use Rattle.std.specs.List.{list_any}
use Rattle.floor_web.specs.declared.participants.Participant.{Participant}
use Rattle.floor_web.specs.Participants.{bearers, first_double}
use Rattle.floor_web.proofs.Found.{nil_of_none}
use Rattle.floor_web.proofs.Doubles.{taken_one, passed_one, none_of_none}
use Rattle.floor_web.proofs.participants.first_double.Goals as goal

pub returns-then-is_taken : goal.returns-then-is_taken
returns-then-is_taken c =
    let taken = subst (λ (t : List ℕ). list_any (λ (q : Participant). bytes_eq (string_bytes q.token) t) c.in-Some.others.now ≡ true) c.as_bytes.ensures.value (sym c.is_taken.ensures.value ∙ c.if-is_taken.true) in
    record { found = sym (taken_one c.in-Some.first.now c.in-Some.others.now taken) ∙ ap (λ (l : List Participant). first_double (bearers l)) (sym c.in-Some.ensures.cases.0) ∙ c.loop-first.invariant }

pub loop-first-preserved : goal.loop-first-preserved
loop-first-preserved c =
    let free = subst (λ (t : List ℕ). list_any (λ (q : Participant). bytes_eq (string_bytes q.token) t) c.in-Some.others.now ≡ false) c.as_bytes.ensures.value (sym c.is_taken.ensures.value ∙ c.if-is_taken.false) in
    sym (passed_one c.in-Some.first.now c.in-Some.others.now free) ∙ ap (λ (l : List Participant). first_double (bearers l)) (sym c.in-Some.ensures.cases.0) ∙ c.loop-first.invariant

pub returns : goal.returns
returns c = record { found = sym none_of_none ∙ ap (λ (l : List Participant). first_double (bearers l)) (sym (nil_of_none c.in_default.ensures.cases)) ∙ c.loop-first.invariant }
