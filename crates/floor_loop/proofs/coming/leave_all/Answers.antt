use Rattle.std.proofs.Common.{◌≡◌, ◌≢◌, ◌⊎◌, inl, inr, ℕ, zero, suc, ◌+◌, ◌<◌, ◌≤◌, true, false, List, [], ◌∷◌, ◌++◌, None, ap, arith, length, refl, subst, sym, take, ◌∙◌}
use Rattle.std.specs.Prelude.{nat_eq, slice_index_or}
use Rattle.std.proofs.Math.Seq.{take-suc}
use Rattle.std.proofs.lemmas.Bool.{cases_lt}
use Rattle.std.proofs.lemmas.Bool.Decides.{eqb_tells}
use Rattle.std.proofs.lemmas.List.{get_or_default}
use Rattle.floor_hub.specs.declared.step.Step.TheVariants.{Leave}
use Rattle.floor_hub.specs.Connections.{connection_at}
use Rattle.floor_loop.specs.Done.{AtMost, Leaves, Then}
use Rattle.floor_loop.specs.Loop.{outgoing_in}
use Rattle.floor_loop.specs.steps.Moved.{loop_of}
use Rattle.floor_loop.proofs.Calls.{moved-kept}
use Rattle.floor_loop.proofs.Entering.{leaves-more, none-stays}
use Rattle.floor_loop.proofs.Moving.{loop-moves, moved-both, moved-of}
use Rattle.floor_loop.proofs.Sparing.{spared-through, spares-same}
use Rattle.floor_loop.proofs.Stepping.{keeps-refl, stays-kept, wakes-both, wakes-same}
use Rattle.floor_loop.proofs.coming.leave_all.Goals as goal

pub loop-number-init : goal.loop-number-init
loop-number-init c =
    let old = loop_of c.args.hub.now c.args.attended.now in
    let keeps = keeps-refl (outgoing_in c.args.attended.now) in
    record {
      moved = moved-kept old old refl keeps (λ k s is. is);
      woke = λ l. wakes-same old old (λ d. refl) (stays-kept (outgoing_in c.args.attended.now) (outgoing_in c.args.attended.now) keeps);
      spares = λ l. spares-same old old (λ k. refl);
      left = λ j k less. absurd (omega (arith, less));
      others = λ k never. refl;
    }

-- the number at this place
here : (xs : List ℕ) (i j k : ℕ) → i < length xs → j < i + 1 → i ≤ j → slice_index_or xs j k ≡ k → slice_index_or xs i 0 ≡ k
here xs i j k within less at e = let same : i ≡ j = omega arith in get_or_default xs i 0 k within ∙ ap (λ (p : ℕ). slice_index_or xs p k) same ∙ e

one-more : (xs : List ℕ) (i : ℕ) → i < length xs → take (i + 1) xs ≡ take i xs ++ slice_index_or xs i 0 ∷ []
one-more xs i less = let next : i + 1 ≡ suc i = omega arith in ap (λ (j : ℕ). take j xs) next ∙ take-suc xs i 0 less

pub loop-number-preserved : goal.loop-number-preserved
loop-number-preserved c =
    let xs = c.args.numbers.now in
    let i = c.loop-number.number-index in
    let n = slice_index_or xs i 0 in
    let within = c.loop-number-test.true in
    let a = loop_of c.args.hub.now c.args.attended.now in
    let b = loop_of c.loop-number.hub c.loop-number.attended in
    let d = loop_of c.send_off.new.hub c.send_off.new.attended in
    let before = c.loop-number.invariant in
    let first = Leaves (take i xs) in
    let one = AtMost 1 (Leave n) in
    record {
      moved = moved-of (Then first one) (Leaves (take (i + 1) xs)) a d (λ steps t. subst (λ (ks : List ℕ). Leaves ks steps) (sym (one-more xs i within)) (leaves-more (take i xs) n steps t))
          (moved-both first one a b d before.moved c.send_off.ensures.moved);
      woke = λ l. let m = loop-moves first a b before.moved l in wakes-both first one a b d before.moved c.send_off.ensures.moved m.serving (before.woke l) (c.send_off.ensures.woke m);
      spares = λ l k. let m = loop-moves first a b before.moved l in
          spared-through a b d k m.serving c.send_off.ensures.moved.live c.send_off.ensures.moved.over (before.spares l k) (c.send_off.ensures.spares m k);
      left = λ j k less e. elim (cases_lt j i) [
        | inl earlier ↦ none-stays b.hub d.hub k (c.send_off.ensures.moved.live k) (before.left j k earlier e)
        | inr at ↦ subst (λ (p : ℕ). connection_at d.hub.connections p ≡ None) (here xs i j k within less at e) c.send_off.ensures.left
      ];
      others = λ k never. c.send_off.ensures.others k (apart xs i k within never (eqb_tells n k)) ∙ before.others k (λ j less. never j (omega (arith, less)));
    }
  where
    apart : (xs : List ℕ) (i k : ℕ) → i < length xs → ((j : ℕ) → j < i + 1 → slice_index_or xs j k ≡ k → ⊥) →
        (((nat_eq (slice_index_or xs i 0) k ≡ true) × (slice_index_or xs i 0 ≡ k)) ⊎ ((nat_eq (slice_index_or xs i 0) k ≡ false) × (slice_index_or xs i 0 ≢ k))) → nat_eq (slice_index_or xs i 0) k ≡ false
    apart xs i k within never (inr t) = t.0
    apart xs i k within never (inl t) = absurd (never i (omega arith) (sym (get_or_default xs i 0 k within) ∙ t.1))

all : (xs : List ℕ) (i : ℕ) → length xs ≤ i → take i xs ≡ xs
all [] zero le = refl
all [] (suc i) le = refl
all (x ∷ xs) zero le = absurd (omega (arith, le))
all (x ∷ xs) (suc i) le = ap (λ (ys : List ℕ). x ∷ ys) (all xs i (omega (arith, le)))

pub returns : goal.returns
returns c =
    let xs = c.args.numbers.now in
    let i = c.loop-number.number-index in
    let done = c.loop-number.invariant in
    let a = loop_of c.args.hub.now c.args.attended.now in
    let d = loop_of c.loop-number.hub c.loop-number.attended in
    record {
      moved = moved-of (Leaves (take i xs)) (Leaves xs) a d (λ steps l. subst (λ (ks : List ℕ). Leaves ks steps) (all xs i (omega (arith, c.loop-number-test.false))) l) done.moved;
      woke = done.woke;
      spares = done.spares;
      left = λ k named. done.left named.0 k (omega (arith, named.1, c.loop-number-test.false)) named.2;
      others = λ k never. done.others k (λ j less e. never (j, omega (arith, less), e));
    }
