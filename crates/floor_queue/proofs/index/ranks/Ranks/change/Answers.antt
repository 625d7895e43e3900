use Rattle.std.proofs.Common.{◌≡◌, ◌<◌, ◌∙◌, ap, arith, length, refl}
use Rattle.std.proofs.lemmas.Bool.{lt-ltb}
use Rattle.floor_queue.specs.steps.Lines.{is_in_order, place_in, with_rank}
use Rattle.floor_queue.proofs.Ranking.{in_order-without_rank, removed-place}
use Rattle.floor_queue.proofs.index.ranks.Ranks.change.Goals as goal

pub put_rank-requires-clause-in_order : goal.put_rank-requires-clause-in_order
put_rank-requires-clause-in_order c =
    let place : c.place_in-place.result ≡ place_in c.args.old c.self.inside.ranks.items = c.place_in-place.ensures ∙ ap (place_in c.args.old) c.deref.ensures.value in
    ap is_in_order (removed-place c.args.old c.self.inside.ranks.items c.remove.new.self.items c.place_in-place.result c.remove.ensures.items place)
    ∙ in_order-without_rank c.args.old c.self.inside.ranks.items c.self.invariant

pub returns-then-place-len : goal.returns-then-place-len
returns-then-place-len c =
    let place : c.place_in-place.result ≡ place_in c.args.old c.self.inside.ranks.items = c.place_in-place.ensures ∙ ap (place_in c.args.old) c.deref.ensures.value in
    let within : place_in c.args.old c.self.inside.ranks.items < length c.self.inside.ranks.items = omega (arith, place, c.deref.ensures.len, ap length c.deref.ensures.value) in
    c.put_rank.ensures.items ∙ ap (with_rank c.args.new) (removed-place c.args.old c.self.inside.ranks.items c.remove.new.self.items c.place_in-place.result c.remove.ensures.items place)
    ∙ rw (← c.self.view_is, lt-ltb (place_in c.args.old c.self.inside.ranks.items) (length c.self.inside.ranks.items) within) refl
