use Rattle.std.proofs.Common.{◌<◌, ◌^◌, length, ap, ◌∙◌, arith}
use Rattle.floor_control.proofs.Counting.{counted_answer, few_answers}
use Rattle.floor_control.specs.Outgoing.{answers_len}
use Rattle.floor_control.proofs.outgoing.Outgoing.answer.Goals as goal

pub invariant_of-self-2 : goal.invariant_of-self-2
invariant_of-self-2 c =
    let few : c.self.inside.answers < 262144 =
    few_answers c.args.self.now c.self.inside.answers (c.self.invariant.answers_count ∙ ap (λ o. answers_len o.waiting) c.self.view_is) c.requires in
    let short : length c.as_bytes-bytes.result.now < 2 ^ 63 = omega arith in
    counted_answer c.self.inside.pieces.items c.put.new.pieces.items c.self.inside.answers c.self.inside.live c.self.inside.held_back.items
    c.as_bytes-bytes.result.now c.self.invariant c.in_ok-put.ensures.took few short
