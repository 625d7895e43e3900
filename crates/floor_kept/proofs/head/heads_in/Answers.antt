use Rattle.std.proofs.Common.{◌≡◌, ◌∷◌, ◌++◌, [], List, refl, sym, ap, ◌∙◌, append_assoc, subst}
use Rattle.std.specs.Vec.Iter.{into_iter_items}
use Rattle.toml.specs.declared.value.Value.{Value}
use Rattle.floor_kept.specs.steps.Heads.{AreHeadsOfValues}
use Rattle.floor_kept.specs.declared.head.NewHead.{NewHead}
use Rattle.floor_kept.proofs.HeadsOfTables.{push_value}
use Rattle.floor_kept.proofs.head.heads_in.Goals as goal

pub loop-conference-init : goal.loop-conference-init
loop-conference-init c = record {
  all = sym c.into_iter-conference-iterator.ensures.into_iter_gives.0;
  there = ([], refl, c.new-heads.ensures.items);
}

pub loop-conference-preserved : goal.loop-conference-preserved
loop-conference-preserved c =
    let before = c.loop-conference.invariant in
    let steps = c.in-Some.ensures.steps in
    record {
      all = before.all
          ∙ ap (λ (xs : List Value). c.loop-conference.yielded ++ xs) steps.0
          ∙ sym (append_assoc c.loop-conference.yielded (c.in-Some.conference ∷ []) (into_iter_items c.next.new.self));
      there = subst (λ (hs : List NewHead). AreHeadsOfValues (c.loop-conference.yielded ++ c.in-Some.conference ∷ []) hs)
          (sym c.in_ok-push.ensures.items)
          (push_value c.loop-conference.yielded c.in-Some.conference c.loop-conference.heads.items c.in_ok-head_in.field-0
          before.there c.in_ok-head_in.ensures.value);
    }
