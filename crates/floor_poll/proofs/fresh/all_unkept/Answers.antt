use Rattle.std.proofs.Common.{◌≡◌, ◌∷◌, ◌++◌, [], List, refl, sym, ap, ◌∙◌, append_assoc, map}
use Rattle.std.proofs.lemmas.List.{map-append}
use Rattle.std.specs.Vec.Iter.{into_iter_items}
use Rattle.floor_config.specs.Configuration.{Configuration}
use Rattle.floor_poll.specs.declared.fresh.Fresh.{Fresh}
use Rattle.floor_poll.specs.declared.fresh.Fresh.TheVariants.{Unkept}
use Rattle.floor_poll.proofs.fresh.all_unkept.Goals as goal

pub loop-config-init : goal.loop-config-init
loop-config-init c = record {
  all = sym c.into_iter-config-iterator.ensures.into_iter_gives.0;
  there = c.in_ok-all.ensures.items;
}

pub loop-config-preserved : goal.loop-config-preserved
loop-config-preserved c =
    let before = c.loop-config.invariant in
    let steps = c.in-Some.ensures.steps in
    record {
      all = before.all
          ∙ ap (λ (xs : List Configuration). c.loop-config.yielded ++ xs) steps.0
          ∙ sym (append_assoc c.loop-config.yielded (c.in-Some.config ∷ []) (into_iter_items c.next.new.self));
      there = c.in_ok-push.ensures.items
          ∙ ap (λ (xs : List Fresh). xs ++ Unkept c.in-Some.config ∷ []) before.there
          ∙ sym (map-append (λ (c : Configuration). Unkept c) c.loop-config.yielded (c.in-Some.config ∷ []));
    }
