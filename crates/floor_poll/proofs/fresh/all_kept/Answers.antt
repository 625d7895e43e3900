use Rattle.std.proofs.Common.{◌≡◌, ◌∷◌, ◌++◌, [], List, refl, sym, ap, ◌∙◌, append_assoc, map}
use Rattle.std.proofs.lemmas.List.{map-append}
use Rattle.std.specs.Vec.Iter.{into_iter_items}
use Rattle.floor_kept.specs.declared.head.NewHead.{NewHead}
use Rattle.floor_poll.specs.declared.fresh.Fresh.{Fresh}
use Rattle.floor_poll.specs.declared.fresh.Fresh.TheVariants.{Kept}
use Rattle.floor_poll.proofs.fresh.all_kept.Goals as goal

pub loop-head-init : goal.loop-head-init
loop-head-init c = record {
  all = sym c.into_iter-head-iterator.ensures.into_iter_gives.0;
  there = c.in_ok-all.ensures.items;
}

pub loop-head-preserved : goal.loop-head-preserved
loop-head-preserved c =
    let before = c.loop-head.invariant in
    let steps = c.in-Some.ensures.steps in
    record {
      all = before.all
          ∙ ap (λ (xs : List NewHead). c.loop-head.yielded ++ xs) steps.0
          ∙ sym (append_assoc c.loop-head.yielded (c.in-Some.head ∷ []) (into_iter_items c.next.new.self));
      there = c.in_ok-push.ensures.items
          ∙ ap (λ (xs : List Fresh). xs ++ Kept c.in-Some.head ∷ []) before.there
          ∙ sym (map-append (λ (h : NewHead). Kept h) c.loop-head.yielded (c.in-Some.head ∷ []));
    }
