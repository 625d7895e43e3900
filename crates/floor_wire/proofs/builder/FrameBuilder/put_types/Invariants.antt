use Rattle.std.proofs.Common.{◌≡◌, ◌*◌, ◌++◌, map, take}
use Rattle.floor_wire.proofs.builder.FrameBuilder.put_types.Given as goal

abbrev pub invariant-loop-each : goal.invariant-loop-each
invariant-loop-each l = l.self-inside.bytes.items ≡ l.initial.self-inside.bytes.items ++ map (λ t. 2 * t) (take l.each-index l.types)
