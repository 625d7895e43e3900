use Rattle.std.proofs.Common.{◌≡◌, ◌≤◌, length, ap, sym, ◌∙◌, arith}
use Rattle.floor_control.proofs.Counting.{counted_answers_written, counted_live_written}
use Rattle.floor_control.specs.Outgoing.{first_bytes}
use Rattle.floor_control.proofs.outgoing.Outgoing.wrote.Goals as goal

pub invariant_of-self : goal.invariant_of-self
invariant_of-self c =
    let same : length (first_bytes c.self.inside.pieces.items) ≡ length (first_bytes c.args.self.now.waiting) = ap (λ o. length (first_bytes o.waiting)) c.self.view_is in
    let few : c.args.count ≤ length (first_bytes c.self.inside.pieces.items) = omega (arith, c.requires, same) in
    counted_live_written c.self.inside.pieces.items c.drop_front.new.pieces.items c.self.inside.answers c.self.inside.live c.args.count
    c.self.inside.held_back.items c.self.invariant c.drop_front.ensures.value (sym c.is_live-is_live.ensures.value ∙ c.if-is_live.true) few

pub invariant_of-self-2 : goal.invariant_of-self-2
invariant_of-self-2 c =
    let same : length (first_bytes c.self.inside.pieces.items) ≡ length (first_bytes c.args.self.now.waiting) = ap (λ o. length (first_bytes o.waiting)) c.self.view_is in
    let few : c.args.count ≤ length (first_bytes c.self.inside.pieces.items) = omega (arith, c.requires, same) in
    counted_answers_written c.self.inside.pieces.items c.drop_front.new.pieces.items c.self.inside.answers c.self.inside.live c.args.count
    c.self.inside.held_back.items c.self.invariant c.drop_front.ensures.value (sym c.is_live-is_live.ensures.value ∙ c.if-is_live.false) few
