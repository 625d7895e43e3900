use Rattle.std.proofs.Common.{◌≡◌, true, false, ap, arith, inl, inr, refl, sym, ◌∙◌}
use Rattle.slab.proofs.SlabLemmas.{Contains-cons, Contains-cons_cases, Contains-entries}
use Rattle.floor_sockets.specs.Life.{is_awaiting}
use Rattle.floor_sockets.proofs.Turning.{not_both}
use Rattle.floor_sockets.proofs.turn.find_awaiting.Goals as goal

pub loop-slot-init : goal.loop-slot-init
loop-slot-init c =
    let left = c.into_iter-slot-iterator.ensures.into_iter_gives ∙ c.iter-slot-items.ensures.rest in (
      tt,
      tt,
      λ key life found waits. rw left ((Contains-entries c.args.lives.now key life).1 found),
      λ key life there. (Contains-entries c.args.lives.now key life).0 (rw left at there),
    )

pub returns-then-is_awaiting-clause-found : goal.returns-then-is_awaiting-clause-found
returns-then-is_awaiting-clause-found c =
    let at = c.in-Some.ensures.steps in
    let awaits : is_awaiting c.in-Some.known.now ≡ true = (let value = c.if-is_awaiting.ensures.value in let so = c.if-is_awaiting.true in cc) in
    (c.in-Some.known.now, c.loop-slot.invariant.3 c.in-Some.slot c.in-Some.known.now (rw at (0, omega arith, refl)), awaits)

pub loop-slot-preserved : goal.loop-slot-preserved
loop-slot-preserved c =
    let at = c.in-Some.ensures.steps in
    let idle : is_awaiting c.in-Some.known.now ≡ false = (let value = c.if-is_awaiting.ensures.value in let unlike = c.if-is_awaiting.false in cc) in (
      tt,
      tt,
      λ key life found waits. elim (Contains-cons_cases _ _ _ (rw at at (c.loop-slot.invariant.2 key life found waits))) [
        | inl same ↦ not_both (sym (ap (λ e. is_awaiting e.1) same ∙ waits) ∙ idle)
        | inr rest ↦ rest
      ],
      λ key life there. c.loop-slot.invariant.3 key life (rw at (Contains-cons _ _ _ there)),
    )
