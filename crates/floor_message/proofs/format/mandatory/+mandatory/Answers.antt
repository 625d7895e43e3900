use Rattle.std.proofs.Common.{List, ℕ, ◌∙◌, ap, arith}
use Rattle.floor_wire.specs.Attributes.{attributes_size}
use Rattle.floor_wire.specs.Seen.{attr_seen, body_seen}
use Rattle.floor_wire.specs.View.{attributes_of, content_of}
use Rattle.floor_message.specs.steps.Adding.{add_all}
use Rattle.floor_message.specs.Picked.{mandatory_inside}
use Rattle.floor_message.proofs.Picking.{mandatory_step}
use Rattle.floor_message.proofs.format.mandatory.+mandatory.Goals as goal

pub add_mandatory-loop-attr-preserved : goal.add_mandatory-loop-attr-preserved
add_mandatory-loop-attr-preserved t c = record {
  added = mandatory_step c.loop-attr.rest c.next.new.self (attr_seen c.in-Some.attr) c.loop-attr.found.keys c.add_inside.new.found.keys c.in-Some.ensures
      (c.in_ok-add_inside.ensures ∙ ap (λ (l : List ℕ). add_all (λ n. n) l (mandatory_inside (content_of (body_seen c.in-Some.attr.body)))) c.in_ok-add_own.ensures)
      ∙ c.loop-attr.invariant.added;
  fewer = omega (arith, c.loop-attr.invariant.fewer, ap (λ l. attributes_size (attributes_of l)) c.in-Some.ensures);
}
