use Rattle.std.proofs.Common.{◌∷◌, ◌++◌, [], List, sym, ap, ◌∙◌, append_assoc, append-nil}
use Rattle.std.specs.Vec.Iter.{into_iter_items}
use Rattle.floor_machine.specs.Parcel.{Parcel}
use Rattle.floor_serve.specs.Senders.{fed}
use Rattle.floor_serve.proofs.Feeding.{fed-append, fed-none, told-more}
use Rattle.floor_serve.proofs.senders.deliver.Goals as goal

pub loop-parcel-init : goal.loop-parcel-init
loop-parcel-init g c = record {
  all = sym c.into_iter-parcel-iterator.ensures.into_iter_gives.0;
  put = sym (fed-none 1 c.args.senders.now.items);
  told = sym (append-nil c.args.wakers.now);
}

pub loop-parcel-preserved : goal.loop-parcel-preserved
loop-parcel-preserved g c =
    let before = c.loop-parcel.invariant in
    record {
      all = before.all
          ∙ ap (λ (ps : List Parcel). c.loop-parcel.yielded ++ ps) c.in-Some.ensures.steps.0
          ∙ sym (append_assoc c.loop-parcel.yielded (c.in-Some.parcel ∷ []) (into_iter_items c.next.new.self));
      put = c.in_ok-put.ensures.next
          ∙ ap (fed (c.in-Some.parcel ∷ []) 1) before.put
          ∙ fed-append c.loop-parcel.yielded (c.in-Some.parcel ∷ []) 1 c.args.senders.now.items;
      told = told-more c.args.senders.now.items c.loop-parcel.senders.items c.args.wakers.now c.loop-parcel.wakers c.put.new.wakers c.loop-parcel.yielded c.in-Some.parcel before.told before.put c.in_ok-put.ensures.told;
    }
