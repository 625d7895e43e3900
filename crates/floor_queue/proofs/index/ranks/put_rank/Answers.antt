use Rattle.std.proofs.Common.{◌≡◌, ◌∙◌, ap, arith, true}
use Rattle.std.specs.Prelude.{not, insert, is_ok}
use Rattle.std.proofs.lemmas.List.Sums.{prefix_len-le-length}
use Rattle.floor_queue.specs.declared.index.rank.Rank.{Rank}
use Rattle.floor_queue.specs.steps.Lines.{before, is_in_order, place_in, with_rank}
use Rattle.floor_queue.proofs.Ranking.{insert-place, in_order-with_rank}
use Rattle.floor_queue.proofs.index.ranks.put_rank.Goals as goal

pub insert-room-requires : goal.insert-room-requires
insert-room-requires c =
    let place : c.place_in-place.result ≡ place_in c.args.rank c.deref.result.now = c.place_in-place.ensures in
    omega (arith, place, prefix_len-le-length (λ (k : Rank). not (not (before k c.args.rank))) c.deref.result.now, c.deref.ensures.len)

pub returns : goal.returns
returns c =
    let ok : is_ok c.insert-room.result ≡ true = c.insert-room.ensures.succeeds c.requires.room in
    let place : c.place_in-place.result ≡ place_in c.args.rank c.args.ranks.now.items = c.place_in-place.ensures ∙ ap (place_in c.args.rank) c.deref.ensures.value in
    let items : c.insert-room.new.self.items ≡ with_rank c.args.rank c.args.ranks.now.items =
    c.insert-room.ensures.items ∙ rw ok (ap (λ n. insert c.args.ranks.now.items n c.args.rank) place ∙ insert-place c.args.rank c.args.ranks.now.items) in
    record { in_order = ap is_in_order items ∙ in_order-with_rank c.args.rank c.args.ranks.now.items c.requires.in_order; items = items }
