use Rattle.std.proofs.Common.{◌≡◌, ◌++◌, take}
use Rattle.std.specs.List.{flat_map}
use Rattle.std.specs.String.{string_bytes}
use Rattle.floor_control.specs.Watch.{request_line}
use Rattle.floor_control.proofs.watch.add_requests.Given as goal

-- those that were gone over have their lines
abbrev pub invariant-loop-info : goal.invariant-loop-info
invariant-loop-info l = string_bytes l.out ≡ string_bytes l.initial.out ++ flat_map (request_line l.at.conference l.at.place) (take l.info-index l.changed)
