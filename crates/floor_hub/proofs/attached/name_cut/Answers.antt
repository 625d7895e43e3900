use Rattle.std.proofs.Common.{◌≡◌, ◌+◌, ◌<◌, ◌++◌, ◌∷◌, ◌||◌, ◌&&◌, ◌∙◌, ℕ, Bool, List, [], ap, arith, length, get_or, map, refl, subst, take, take_all}
use Rattle.std.specs.Prelude.{◌==◌, filter, not}
use Rattle.std.specs.List.{list_any}
use Rattle.std.proofs.lemmas.List.{take_more}
use Rattle.floor_hub.specs.declared.attached.Live.{Live}
use Rattle.floor_hub.specs.steps.Attached.{AddsNames, cut_at, marked, numbers_of}
use Rattle.floor_hub.proofs.Putting.{adds-both, adds-none, cut-of-more, either-from, either-to, filter-changed, filter-none, marked-more, marked-none}
use Rattle.floor_hub.proofs.attached.name_cut.Goals as goal

pub loop-n-init : goal.loop-n-init
loop-n-init c = record {
  naming = c.requires;
  marked = marked-none c.args.live.now.items;
  named = adds-none c.args.numbers.now.items _ (ap numbers_of (filter-none (λ l. list_any (λ k. k == l.n) (take 0 c.args.cut.now) && not l.is_cut) c.args.live.now.items (λ l. refl)));
  capacity = omega arith;
}

pub loop-n-preserved : goal.loop-n-preserved
loop-n-preserved c =
    let i : ℕ = c.loop-n.n-index in
    let cut : List ℕ = c.args.cut.now in
    let within : i < length cut = omega arith in
    let n : ℕ = get_or cut i 0 in
    let before : List ℕ = take i cut in
    let more : take (i + 1) cut ≡ before ++ n ∷ [] = take_more cut i 0 within in
    let start : List Live = c.args.live.now.items in
    let p : Live → Bool = λ l. list_any (λ k. k == l.n) before && not l.is_cut in
    let q : Live → Bool = λ l. n == l.n && not (l.is_cut || list_any (λ k. k == l.n) before) in
    let r : Live → Bool = λ l. list_any (λ k. k == l.n) (take (i + 1) cut) && not l.is_cut in
    let is : (l : Live) → r l ≡ (p l || q l) = λ l. cut-of-more before (take (i + 1) cut) n l more in
    let newly : numbers_of (filter (λ l. n == l.n && not l.is_cut) c.loop-n.live.items) ≡ numbers_of (filter q start) =
    ap (λ (z : List Live). numbers_of (filter (λ l. n == l.n && not l.is_cut) z)) c.loop-n.invariant.marked
    ∙ filter-changed (λ l. n == l.n && not l.is_cut) q (marked before) start (λ l. refl) (λ l. refl) in
    record {
      naming = c.name_cut_one.ensures.naming;
      marked = c.name_cut_one.ensures.marked ∙ ap (λ (z : List Live). map (cut_at n) z) c.loop-n.invariant.marked ∙ marked-more before (take (i + 1) cut) n start more;
      named = adds-both c.args.numbers.now.items c.loop-n.numbers.items c.name_cut_one.new.numbers.items (numbers_of (filter p start)) (numbers_of (filter q start)) (numbers_of (filter r start))
          c.loop-n.invariant.named (subst (AddsNames c.loop-n.numbers.items c.name_cut_one.new.numbers.items) newly c.name_cut_one.ensures.named)
          (λ k h. either-to p q r is start k h) (λ k h. either-from p q r is start k h);
      capacity = omega (arith, c.loop-n.invariant.capacity, c.name_cut_one.ensures.capacity);
    }

pub returns-clause-named : goal.returns-clause-named
returns-clause-named c =
    let all : take c.loop-n.n-index c.args.cut.now ≡ c.args.cut.now = take_all c.loop-n.n-index c.args.cut.now (omega arith) in
    subst (λ (z : List ℕ). AddsNames c.args.numbers.now.items c.loop-n.numbers.items (numbers_of (filter (λ l. list_any (λ k. k == l.n) z && not l.is_cut) c.args.live.now.items))) all c.loop-n.invariant.named
