use Rattle.std.proofs.Common.{◌≡◌, ◌++◌, take}
use Rattle.std.specs.List.{flat_map}
use Rattle.std.specs.String.{string_bytes}
use Rattle.floor_client.specs.Rendered as spec
use Rattle.floor_client.proofs.rendering.put_infos.Given as goal

-- those that were gone over are appended
abbrev pub invariant-loop-info : goal.invariant-loop-info
invariant-loop-info l = string_bytes l.out ≡ string_bytes l.initial.out ++ flat_map spec.bracketed (take l.info-index l.infos)
