use Rattle.std.proofs.Common.{◌≡◌, ◌*◌, map, take}
use Rattle.floor_message.proofs.format.attribute_types.doubled.Given as goal

abbrev pub invariant-loop-kind : goal.invariant-loop-kind
invariant-loop-kind l = l.bytes.items ≡ map (λ k. 2 * k) (take l.kind-index l.types)
