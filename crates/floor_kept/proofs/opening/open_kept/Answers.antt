use Rattle.std.specs.Prelude.{Err}
use Rattle.floor_machine.specs.declared.event.Event.{Event}
use Rattle.std.proofs.Common.{◌+◌, ◌∷◌, ◌++◌, [], List, length, refl, sym, ap, ◌∙◌, append_assoc, arith}
use Rattle.std.specs.Vec.Iter.{into_iter_items}
use Rattle.floor_room.specs.Room.{Room}
use Rattle.floor_kept.proofs.Leading.{led_none, led_step, refused_step}
use Rattle.floor_kept.specs.declared.entry.Entry.{Entry}
use Rattle.floor_kept.proofs.opening.open_kept.Goals as goal

pub loop-entry-init : goal.loop-entry-init
loop-entry-init c =
    let gives = c.into_iter-entry-iterator.ensures.into_iter_gives in
    record {
      all = sym gives.0;
      count = omega (arith, gives.1, ap length gives.0, c.args.entries.ok.0);
      led = led_none c.args.config _ _ (ap (λ (r : Room). r.ledger) c.in_ok-room.ensures.value) c.new-notes.ensures.items;
    }

pub loop-entry-preserved : goal.loop-entry-preserved
loop-entry-preserved c =
    let before = c.loop-entry.invariant in
    let steps = c.in-Some.ensures.steps in
    record {
      all = before.all
          ∙ ap (λ (es : List Entry). c.loop-entry.yielded ++ es) steps.0
          ∙ sym (append_assoc c.loop-entry.yielded (c.in-Some.entry ∷ []) (into_iter_items c.next.new.self));
      count = omega (arith, before.count, steps.1, ap length steps.0);
      led = led_step c.args.config c.loop-entry.yielded c.loop-entry.room c.step.new.room _ _ c.loop-entry.number _ c.in-Some.entry before.led c.in-Ok.ensures.took refl;
    }

pub returns-in-Err-Refused-clause-refused : goal.returns-in-Err-Refused-clause-refused
returns-in-Err-Refused-clause-refused c =
    let before = c.loop-entry.invariant in
    let steps = c.in-Some.ensures.steps in
    refused_step c.args.config c.args.entries.items c.loop-entry.yielded (into_iter_items c.next.new.self) c.in-Some.entry c.loop-entry.room _ c.loop-entry.number _ _ _
    before.led c.journal.ensures.kept (before.all ∙ ap (λ (es : List Entry). c.loop-entry.yielded ++ es) steps.0)
    (c.in-Err-Refused.ensures.refused (ap Err c.in-Err-Refused.field-0-is)) refl
    (ap (λ (js : List Event). length js + 1) c.journal.ensures.value) refl refl
