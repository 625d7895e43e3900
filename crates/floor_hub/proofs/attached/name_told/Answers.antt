use Rattle.std.proofs.Common.{◌≡◌, ◌+◌, ◌<◌, ◌||◌, ℕ, Bool, List, ap, arith, length, get_or, refl, subst, take, take_all}
use Rattle.std.specs.Prelude.{◌==◌, filter}
use Rattle.std.specs.List.{list_any}
use Rattle.std.proofs.lemmas.List.Folds.{list_any_more}
use Rattle.floor_hub.specs.declared.attached.Live.{Live}
use Rattle.floor_hub.specs.steps.Attached.{AddsNames, numbers_of}
use Rattle.floor_hub.proofs.Putting.{adds-both, adds-none, either-from, either-to, filter-none}
use Rattle.floor_hub.proofs.attached.name_told.Goals as goal

pub loop-n-init : goal.loop-n-init
loop-n-init c = record {
  naming = c.requires;
  named = adds-none c.args.numbers.now.items _ (ap numbers_of (filter-none (λ l. list_any (λ k. k == l.n) (take 0 c.args.told.now)) c.args.live.now (λ l. refl)));
  capacity = omega arith;
}

pub loop-n-preserved : goal.loop-n-preserved
loop-n-preserved c =
    let i : ℕ = c.loop-n.n-index in
    let told : List ℕ = c.args.told.now in
    let within : i < length told = omega arith in
    let p : Live → Bool = λ l. list_any (λ k. k == l.n) (take i told) in
    let q : Live → Bool = λ l. get_or told i 0 == l.n in
    let r : Live → Bool = λ l. list_any (λ k. k == l.n) (take (i + 1) told) in
    let is : (l : Live) → r l ≡ (p l || q l) = λ l. list_any_more (λ k. k == l.n) told i 0 within in
    record {
      naming = c.name_one.ensures.naming;
      named = adds-both c.args.numbers.now.items c.loop-n.numbers.items c.name_one.new.numbers.items (numbers_of (filter p c.args.live.now)) (numbers_of (filter q c.args.live.now)) (numbers_of (filter r c.args.live.now))
          c.loop-n.invariant.named c.name_one.ensures.named (λ k h. either-to p q r is c.args.live.now k h) (λ k h. either-from p q r is c.args.live.now k h);
      capacity = omega (arith, c.loop-n.invariant.capacity, c.name_one.ensures.capacity);
    }

pub returns-clause-named : goal.returns-clause-named
returns-clause-named c =
    let all : take c.loop-n.n-index c.args.told.now ≡ c.args.told.now = take_all c.loop-n.n-index c.args.told.now (omega arith) in
    subst (λ (z : List ℕ). AddsNames c.args.numbers.now.items c.loop-n.numbers.items (numbers_of (filter (λ l. list_any (λ k. k == l.n) z) c.args.live.now))) all c.loop-n.invariant.named
