use Rattle.std.proofs.Common.{◌≡◌, ◌∙◌, ap, arith, length, sym}
use Rattle.floor_queue.specs.steps.Lines.{is_in_order, place_in, without_rank}
use Rattle.floor_queue.proofs.Ranking.{in_order-without_rank, removed-place, without-none}
use Rattle.floor_queue.proofs.index.ranks.Ranks.take.Goals as goal

pub invariant_of-self : goal.invariant_of-self
invariant_of-self c =
    let place : c.place_in-place.result ≡ place_in c.args.rank c.self.inside.ranks.items = c.place_in-place.ensures ∙ ap (place_in c.args.rank) c.deref.ensures.value in
    ap is_in_order (c.free_if_empty.ensures ∙ removed-place c.args.rank c.self.inside.ranks.items c.remove.new.self.items c.place_in-place.result c.remove.ensures.items place)
    ∙ in_order-without_rank c.args.rank c.self.inside.ranks.items c.self.invariant

pub returns-then-place-len : goal.returns-then-place-len
returns-then-place-len c =
    let place : c.place_in-place.result ≡ place_in c.args.rank c.self.inside.ranks.items = c.place_in-place.ensures ∙ ap (place_in c.args.rank) c.deref.ensures.value in
    c.free_if_empty.ensures ∙ removed-place c.args.rank c.self.inside.ranks.items c.remove.new.self.items c.place_in-place.result c.remove.ensures.items place
    ∙ ap (without_rank c.args.rank) c.self.view_is

pub returns-else-place-len : goal.returns-else-place-len
returns-else-place-len c =
    let place : c.place_in-place.result ≡ place_in c.args.rank c.self.inside.ranks.items = c.place_in-place.ensures ∙ ap (place_in c.args.rank) c.deref.ensures.value in
    sym (c.self.view_is) ∙ sym (without-none c.args.rank c.self.inside.ranks.items (omega (arith, place, c.deref.ensures.len, ap length c.deref.ensures.value))) ∙ ap (without_rank c.args.rank) c.self.view_is
