use Rattle.std.proofs.Common.{◌≡◌, ◌+◌, ◌∷◌, ◌++◌, drop, map, sym, ap, ◌∙◌, arith}
use Rattle.std.proofs.lemmas.List.{drop_more, append_assoc}
use Rattle.json.specs.Tree.{json_tokens, items_tokens}
use Rattle.json.specs.Value.{items_of}
use Rattle.floor_rpc.proofs.value.write_items.Goals as goal

pub loop-item-preserved : goal.loop-item-preserved
loop-item-preserved g c =
    let l = c.loop-item in
    let xs = c.args.items.now in
    let x = c.item-item.result in
    let json = g.T.ToJson.json in
    let here : drop l.item-index xs ≡ x ∷ drop (l.item-index + 1) xs = drop_more xs l.item-index x (omega arith) ∙ ap (λ y. y ∷ drop (l.item-index + 1) xs) (sym c.item-item.is) in
    let left = ap (λ ys. items_tokens (items_of (map json ys))) here in
    let mine = json_tokens (json x) in
    let done = c.in_ok-write.ensures in (
      ap (λ ts. ts ++ items_tokens (items_of (map json (drop (l.item-index + 1) xs)))) done.took ∙ append_assoc l.writer.tokens mine _ ∙ ap (λ ts. l.writer.tokens ++ ts) (sym left) ∙ l.invariant.0,
      done.before ∙ l.invariant.1,
    )
