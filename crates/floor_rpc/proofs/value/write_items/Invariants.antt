use Rattle.std.proofs.Common.{◌≡◌, ◌++◌, drop, map}
use Rattle.json.specs.Tree.{items_tokens}
use Rattle.json.specs.Value.{items_of}
use Rattle.floor_rpc.proofs.value.write_items.Given as goal

abbrev pub invariant-loop-item : goal.invariant-loop-item
invariant-loop-item g l =
    (l.writer.tokens ++ items_tokens (items_of (map g.T.ToJson.json (drop l.item-index l.items))) ≡ l.initial.writer.tokens ++ items_tokens (items_of (map g.T.ToJson.json l.items)))
    × (l.writer.before ≡ l.initial.writer.before)
