use Rattle.std.proofs.Common.{◌≡◌, inl, inr, false, ℕ, suc, ◌+◌, ◌<◌, ◌++◌, ◌∷◌, [], List, ap, arith, length, refl, subst, sym, take, take_all, ◌∙◌}
use Rattle.std.specs.Prelude.{slice_index_or}
use Rattle.std.proofs.Math.Seq.{take-suc}
use Rattle.floor_hub.specs.declared.attached.Live.{Live}
use Rattle.floor_hub.specs.Members.{Stands}
use Rattle.floor_loop.specs.Loop.{IsHandedOut, outgoing_in}
use Rattle.floor_loop.proofs.Released.{handed-on, stands-split}
use Rattle.floor_loop.proofs.Stepping.{keeps-both, keeps-refl}
use Rattle.floor_loop.proofs.turn.wake_each.Goals as goal

abbrev nobody : Live
nobody = record { number = 0; n = 0; is_cut = false }

pub loop-one-init : goal.loop-one-init
loop-one-init c = record {
  kept = keeps-refl (outgoing_in c.args.attended.now);
  woken = λ number n s. absurd s;
  ends = λ k. refl;
  away = refl;
}

one-more : (xs : List Live) (i : ℕ) → i < length xs → take (i + 1) xs ≡ take i xs ++ slice_index_or xs i nobody ∷ []
one-more xs i less = let next : i + 1 ≡ suc i = omega arith in ap (λ (j : ℕ). take j xs) next ∙ take-suc xs i nobody less

pub loop-one-preserved : goal.loop-one-preserved
loop-one-preserved c =
    let xs = c.args.live.now in
    let i = c.loop-one.one-index in
    let first = c.args.attended.now in
    let a = c.loop-one.attended in
    let b = c.wake_first.new.attended in
    record {
      kept = keeps-both (outgoing_in first) (outgoing_in a) (outgoing_in b) c.loop-one.invariant.kept c.wake_first.ensures.kept;
      woken = λ number n s. elim (stands-split (take i xs) (slice_index_or xs i nobody) number n (subst (λ (ls : List Live). Stands ls number n) (one-more xs i c.loop-one-test.true) s)) [
        | inl t ↦ handed-on c.args.hub.now a b number c.wake_first.ensures.kept (c.loop-one.invariant.woken number n t)
        | inr e ↦ subst (IsHandedOut c.args.hub.now b) e c.wake_first.ensures.woken
      ];
      ends = λ k. c.wake_first.ensures.ends k ∙ c.loop-one.invariant.ends k;
      away = c.wake_first.ensures.away ∙ c.loop-one.invariant.away;
    }

pub returns : goal.returns
returns c =
    let xs = c.args.live.now in
    let all : take c.loop-one.one-index xs ≡ xs = take_all c.loop-one.one-index xs (omega (arith, c.loop-one-test.false)) in
    record {
      kept = c.loop-one.invariant.kept;
      woken = λ number n s. c.loop-one.invariant.woken number n (subst (λ (ls : List Live). Stands ls number n) (sym all) s);
      ends = c.loop-one.invariant.ends;
      away = c.loop-one.invariant.away;
    }
