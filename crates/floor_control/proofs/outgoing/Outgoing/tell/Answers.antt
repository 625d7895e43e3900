use Rattle.std.proofs.Common.{◌≡◌, ◌<◌, ◌+◌, ◌^◌, length, ap, sym, ◌∙◌, arith}
use Rattle.floor_control.proofs.Counting.{counted_live, few_live}
use Rattle.floor_control.specs.Outgoing.{live_len}
use Rattle.floor_control.proofs.outgoing.Outgoing.tell.Goals as goal

pub invariant_of-self-2 : goal.invariant_of-self-2
invariant_of-self-2 c =
    let less =
    few_live c.args.self.now c.self.inside.live (c.self.invariant.live_count ∙ ap (λ o. live_len o.waiting) c.self.view_is)
    (sym c.is_over.ensures.value ∙ c.if-is_over.false) in
    let same : length c.self.inside.held_back.items ≡ length c.args.self.now.held_back = ap (λ o. length o.held_back) c.self.view_is in
    let few : c.self.inside.live + length c.self.inside.held_back.items < 1048576 = omega (arith, less, same) in
    let short : length c.as_bytes-bytes.result.now < 2 ^ 63 = omega arith in
    counted_live c.self.inside.pieces.items c.put.new.pieces.items c.self.inside.answers c.self.inside.live c.self.inside.held_back.items
    c.as_bytes-bytes.result.now c.self.invariant c.in_ok-put.ensures.took few short
