use Rattle.std.proofs.Common.{◌≡◌, ◌++◌, take}
use Rattle.std.specs.List.{flat_map}
use Rattle.std.specs.String.{string_bytes}
use Rattle.floor_client.specs.Rendered as spec
use Rattle.floor_client.proofs.pieces.put_hex_digits.Given as goal

-- those that were gone over are appended
abbrev pub invariant-loop-byte : goal.invariant-loop-byte
invariant-loop-byte l = string_bytes l.out ≡ string_bytes l.initial.out ++ flat_map spec.hex_digits (take l.byte-index l.bytes)
