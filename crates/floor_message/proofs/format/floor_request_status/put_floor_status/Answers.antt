use Rattle.std.proofs.Common.{◌∙◌, ap}
use Rattle.floor_wire.specs.View.{attributes_of}
use Rattle.floor_message.specs.Written.{optional, status_attr}
use Rattle.floor_message.specs.steps.Writing.{with_attrs}
use Rattle.floor_message.proofs.format.floor_request_status.put_floor_status.Goals as goal

pub returns : goal.returns
returns c =
    let inside = optional status_attr c.args.shown in
    c.end_group.ensures c.args.out.now 17 c.args.floor (attributes_of inside) c.in_ok-start.ensures.0
    (c.in_ok-put_status.ensures ∙ ap (λ b. with_attrs b inside) c.in_ok-start.ensures.1)
