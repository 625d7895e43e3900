use Rattle.std.proofs.Common.{◌∙◌, ap}
use Rattle.floor_wire.specs.View.{attributes_of}
use Rattle.floor_message.specs.Written.{info_attrs}
use Rattle.floor_message.specs.steps.Writing.{with_attrs}
use Rattle.floor_message.proofs.format.floor_request_information.put_info.Goals as goal

pub returns : goal.returns
returns c =
    let inside = info_attrs c.args.info.now in
    c.end_group.ensures c.args.out.now 15 c.args.info.now.request (attributes_of inside) c.in_ok-start.ensures.0
    (c.in_ok-put_info_parts.ensures ∙ ap (λ b. with_attrs b inside) c.in_ok-start.ensures.1)
