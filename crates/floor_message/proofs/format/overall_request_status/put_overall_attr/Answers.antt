use Rattle.std.proofs.Common.{◌∙◌, ap}
use Rattle.floor_wire.specs.View.{attributes_of}
use Rattle.floor_message.specs.Written.{optional, octets, status_attr, overall_inside}
use Rattle.floor_message.specs.steps.Writing.{with_attrs}
use Rattle.floor_message.proofs.Puts.{put_then}
use Rattle.floor_message.proofs.format.overall_request_status.put_overall_attr.Goals as goal

pub returns : goal.returns
returns c =
    let inside = overall_inside c.args.status c.args.reason.now in
    c.end_group.ensures c.args.out.now 18 c.args.request (attributes_of inside) c.in_ok-start.ensures.0
    (put_then c.begin_group.new.self _ _ (optional status_attr c.args.status) (optional (octets 9) c.args.reason.now) c.in_ok-put_status.ensures c.in_ok-put_octets.ensures
    ∙ ap (λ b. with_attrs b inside) c.in_ok-start.ensures.1)
