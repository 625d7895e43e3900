use Rattle.std.proofs.Common.{◌≡◌, ◌⊎◌, inl, inr, ℕ, ◌<◌, ◌≤◌, List, [], ap, arith, length, take, subst, sym, ◌∙◌}
use Rattle.std.specs.Prelude.{Option, min}
use Rattle.std.specs.Option.{option_map_or}
use Rattle.std.proofs.lemmas.Bool.{cases_lt}
use Rattle.std.proofs.lemmas.List.{take_all}
use Rattle.std.proofs.lemmas.Option.{none-some}
use Rattle.floor_loop.specs.Loop.{Loop, Outgoing, outgoing_at, rest_at}
use Rattle.floor_loop.specs.Written.{Follow}
use Rattle.floor_loop.specs.steps.Moved.{IsLoop}
use Rattle.floor_loop.proofs.Moving.{way-of}
use Rattle.floor_loop.proofs.Taking.{follows}
use Rattle.floor_loop.proofs.serving.Loop.writing.Goals as goal

pub returns-in-Some-clause-called : goal.returns-in-Some-clause-called
returns-in-Some-clause-called c = λ x r is_x is_r.
    let l = subst IsLoop c.self.view_is c.self.invariant in
    let o = c.in-Some.one.now in
    let found = ap (λ (z : Loop). outgoing_at z c.args.number) (sym c.self.view_is) ∙ sym c.in-Some.ensures.value in
    let rest = ap (λ (z : Option Outgoing). option_map_or (λ i. i.rest) z []) (sym found) in
    let f = follows r x.n o.rest o.parcels c.min.result (way-of c.args.self.now c.args.number x r o (l.serving c.args.number x is_x) is_r found) in
    subst (λ (z : List ℕ). Follow r x.n z (take c.min.result c.rest-rest.result.now)) rest (subst (λ (z : List ℕ). Follow r x.n o.rest (take c.min.result z)) (sym c.rest-rest.ensures.value) f)

pub returns-in-None-clause-called : goal.returns-in-None-clause-called
returns-in-None-clause-called c = λ x r is_x is_r.
    let l = subst IsLoop c.self.view_is c.self.invariant in
    let a = l.serving c.args.number x is_x in
    absurd (none-some a.outgoing (c.in-None.ensures.value ∙ ap (λ (z : Loop). outgoing_at z c.args.number) c.self.view_is ∙ a.found))

-- the first of a list, and no more than there are
short : (rest : List ℕ) (k m : ℕ) → k ≡ min (length rest) m → take k rest ≡ take m rest
short rest k m e = by (cases_lt m (length rest))
  where
    by : (m < length rest) ⊎ (length rest ≤ m) → take k rest ≡ take m rest
    by (inl less) = ap (λ (i : ℕ). take i rest) (omega (arith, e, less))
    by (inr le) = take_all k rest (omega (arith, e, le)) ∙ sym (take_all m rest le)

pub returns-in-Some-clause-value : goal.returns-in-Some-clause-value
returns-in-Some-clause-value c =
    let rest = c.rest-rest.ensures.value ∙ ap (λ (z : Option Outgoing). option_map_or (λ i. i.rest) z []) c.in-Some.ensures.value ∙ ap (λ (l : Loop). rest_at l c.args.number) c.self.view_is in
    short c.rest-rest.result.now c.min.result 65536 (omega arith) ∙ ap (λ (z : List ℕ). take 65536 z) rest
