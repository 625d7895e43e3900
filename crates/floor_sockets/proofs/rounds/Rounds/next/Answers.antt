use Rattle.std.proofs.Common.{◌≡◌, ℕ, List, [], ◌∷◌, length, drop, refl, sym, ap, ◌∙◌, arith, subst}
use Rattle.std.specs.Prelude.{Option, Some, None, IfNone}
use Rattle.floor_sockets.specs.Rounds.{IsTurn, Rounds, times}
use Rattle.floor_sockets.specs.steps.Rounds.{IsInTurn}
use Rattle.floor_sockets.proofs.Turning.{next_none, next_sound, next_turn, nobody, turn_was}
use Rattle.floor_sockets.proofs.rounds.Rounds.next.Goals as goal

if_none : (r : Option ℕ) (P : Type 0) → P → IfNone r P
if_none None P p = p
if_none (Some x) P p = tt

none_left : (xs : List ℕ) → xs ≡ drop 1 xs → xs ≡ []
none_left [] e = refl
none_left (x ∷ xs) e = absurd (omega (arith, ap (λ (l : List ℕ). length l) e))

pub returns-in_err-group-clause-none : goal.returns-in_err-group-clause-none
returns-in_err-group-clause-none c =
    let none = none_left c.self.inside.groups.items (c.in_err-group.ensures.items ∙ c.in_err-group.ensures.rest) in
    if_none c.from_residual.result ((k : ℕ) → times c.args.self.now k ≡ 0)
    (λ k. ap (λ (r : Rounds). times r k) (sym c.self.view_is)
    ∙ nobody c.self.inside.waiting.items c.self.inside.standing.items (subst (λ (z : List ℕ). IsInTurn z c.self.inside.waiting.items c.self.inside.standing.items) none c.self.invariant) k)

pub invariant_of-self-2 : goal.invariant_of-self-2
invariant_of-self-2 c =
    let t = c.in_ok-slot.ensures.took in
    next_sound c.self.inside.groups.items c.pop_front.new.self.items c.add_in.new.groups.items c.self.inside.waiting.items c.pop_in.new.waiting.items c.self.inside.standing.items c.set_in.new.standing.items
    c.in_ok-group.group c.in_ok-slot.slot t.0 c.in_ok-slot.has_more c.self.invariant c.in_ok-group.ensures.items t.1 t.2 t.3 c.set_in.ensures.next c.add_in.ensures.next

pub returns-clause-turn : goal.returns-clause-turn
returns-clause-turn c =
    let t = c.in_ok-slot.ensures.took in
    subst (λ (r : Rounds). IsTurn r (record { groups = c.add_in.new.groups.items; waiting = c.pop_in.new.waiting.items }) c.in_ok-slot.slot) c.self.view_is
    (next_turn c.self.inside.groups.items c.pop_front.new.self.items c.add_in.new.groups.items c.self.inside.waiting.items c.pop_in.new.waiting.items
    c.in_ok-group.group c.in_ok-slot.slot t.0 c.in_ok-slot.has_more c.in_ok-group.ensures.items t.1 t.2 t.3 c.add_in.ensures.next)

pub returns-clause-found : goal.returns-clause-found
returns-clause-found c =
    let t = c.in_ok-slot.ensures.took in (
      ap (λ (r : Rounds). times r c.in_ok-slot.slot) (sym c.self.view_is) ∙ turn_was c.self.inside.groups.items c.self.inside.waiting.items c.self.inside.standing.items c.in_ok-group.group c.in_ok-slot.slot t.0 c.self.invariant t.1,
      next_none c.self.inside.groups.items c.self.inside.waiting.items c.pop_in.new.waiting.items c.self.inside.standing.items c.in_ok-group.group c.in_ok-slot.slot t.0 c.self.invariant t.1 t.2,
    )
