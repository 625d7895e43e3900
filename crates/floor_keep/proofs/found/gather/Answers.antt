use Rattle.std.proofs.Common.{◌≡◌, ◌∷◌, ◌++◌, [], List, refl, sym, ap, ◌∙◌, append_assoc}
use Rattle.std.specs.Vec.Iter.{into_iter_items}
use Rattle.floor_kept.specs.declared.entry.Entry.{Entry}
use Rattle.floor_keep.proofs.Gathered.{gathered_more, gathered_none}
use Rattle.floor_keep.proofs.found.gather.Goals as goal

pub loop-entry-init : goal.loop-entry-init
loop-entry-init c = record {
  all = sym c.into_iter-entry-iterator.ensures.into_iter_gives.0;
  parted = gathered_none _ _ _ c.new.ensures.items c.new-2.ensures.items refl;
}

pub loop-entry-preserved : goal.loop-entry-preserved
loop-entry-preserved c =
    let before = c.loop-entry.invariant in
    let steps = c.in-Some.ensures.steps in
    record {
      all = before.all
          ∙ ap (λ (es : List Entry). c.loop-entry.yielded ++ es) steps.0
          ∙ sym (append_assoc c.loop-entry.yielded (c.in-Some.entry ∷ []) (into_iter_items c.next.new.self));
      parted = gathered_more c.loop-entry.yielded _ _ _ _ _ _ c.in-Some.entry before.parted
          c.in_ok-add.ensures.events c.in_ok-add.ensures.notes c.in_ok-add.ensures.finish;
    }
