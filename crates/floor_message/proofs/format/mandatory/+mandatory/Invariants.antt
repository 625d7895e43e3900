use Rattle.std.proofs.Common.{◌≡◌, ◌≤◌, length}
use Rattle.floor_message.specs.steps.Adding.{add_all}
use Rattle.floor_message.specs.Picked.{mandatory}
use Rattle.floor_wire.specs.Attributes.{content_size, attributes_size}
use Rattle.floor_wire.specs.Seen.{body_seen}
use Rattle.floor_wire.specs.View.{attributes_of, content_of}
use Rattle.floor_message.proofs.format.mandatory.+mandatory.Given as goal

abbrev pub decreases-add_inside : goal.decreases-add_inside
decreases-add_inside l = content_size (content_of (body_seen l.body.now))

abbrev pub decreases-add_mandatory : goal.decreases-add_mandatory
decreases-add_mandatory l = attributes_size (attributes_of l.attrs.now)

abbrev pub invariant-add_mandatory-loop-attr : goal.invariant-add_mandatory-loop-attr
invariant-add_mandatory-loop-attr l = record {
  added : add_all (λ n. n) l.found.keys (mandatory (attributes_of l.rest)) ≡ add_all (λ n. n) l.initial.found.keys (mandatory (attributes_of l.attrs));
  fewer : attributes_size (attributes_of l.rest) ≤ attributes_size (attributes_of l.attrs);
}

abbrev pub decreases-add_mandatory-loop-attr : goal.decreases-add_mandatory-loop-attr
decreases-add_mandatory-loop-attr l = length l.rest
