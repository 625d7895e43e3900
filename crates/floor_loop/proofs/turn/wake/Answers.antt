use Rattle.std.proofs.Common.{◌≡◌, inl, inr, ℕ, List, ◌+◌, ◌<◌, ◌≤◌, ap, arith, length, refl, subst, sym, ◌∙◌}
use Rattle.std.specs.Prelude.{slice_index_or}
use Rattle.std.specs.List.{Contains}
use Rattle.std.proofs.lemmas.Bool.{cases_lt}
use Rattle.std.proofs.lemmas.List.{get_or_default}
use Rattle.floor_loop.specs.Loop.{outgoing_in}
use Rattle.floor_loop.specs.steps.Moved.{IsWoken}
use Rattle.floor_loop.proofs.Stepping.{keeps-both, keeps-refl, woken-on}
use Rattle.floor_loop.proofs.Waking.{spared-both, spared-refl}
use Rattle.floor_loop.proofs.turn.wake.Goals as goal

pub loop-number-init : goal.loop-number-init
loop-number-init c = record {
  kept = keeps-refl (outgoing_in c.args.attended.now);
  woken = λ k n less. absurd (omega (arith, less));
  spared = λ k. spared-refl c.args.hub.now c.args.attended.now k;
  away = refl;
}

-- the number at this place
here : (xs : List ℕ) (i k n : ℕ) → i < length xs → k < i + 1 → i ≤ k → slice_index_or xs k n ≡ n → slice_index_or xs i 0 ≡ n
here xs i k n within less at e = let same : i ≡ k = omega arith in get_or_default xs i 0 n within ∙ ap (λ (j : ℕ). slice_index_or xs j n) same ∙ e

pub loop-number-preserved : goal.loop-number-preserved
loop-number-preserved c =
    let first = c.args.attended.now in
    let a = c.loop-number.attended in
    let b = c.wake_one.new.attended in
    record {
      kept = keeps-both (outgoing_in first) (outgoing_in a) (outgoing_in b) c.loop-number.invariant.kept c.wake_one.ensures.kept;
      woken = λ k n less e. elim (cases_lt k c.loop-number.number-index) [
        | inl before ↦ woken-on c.args.hub.now a b n c.wake_one.ensures.kept (c.loop-number.invariant.woken k n before e)
        | inr at ↦ subst (IsWoken c.args.hub.now b) (here c.concerned-number-items.result.now c.loop-number.number-index k n c.loop-number-test.true less at e) c.wake_one.ensures.woken
      ];
      spared = λ k. spared-both c.args.hub.now first a b k c.loop-number.invariant.kept (c.loop-number.invariant.spared k) (c.wake_one.ensures.spared k);
      away = c.wake_one.ensures.away ∙ c.loop-number.invariant.away;
    }

pub returns : goal.returns
returns c = record {
  kept = c.loop-number.invariant.kept;
  woken = λ n named.
      let there = subst (λ (xs : List ℕ). Contains xs n) (sym c.concerned-number-items.ensures.value) named in
      c.loop-number.invariant.woken there.0 n (omega (arith, there.1, c.loop-number-test.false)) there.2;
  spared = c.loop-number.invariant.spared;
  away = c.loop-number.invariant.away;
}
