use Rattle.std.proofs.Common.{◌≡◌, ◌++◌, take}
use Rattle.std.specs.List.{flat_map}
use Rattle.std.specs.String.{string_bytes}
use Rattle.floor_control.specs.Watch.{cut_line}
use Rattle.floor_control.proofs.watch.add_cut.Given as goal

-- those that were gone over have their lines
abbrev pub invariant-loop-n : goal.invariant-loop-n
invariant-loop-n l = string_bytes l.out ≡ string_bytes l.initial.out ++ flat_map (cut_line l.at.conference l.at.place l.machine.conference) (take l.n-index l.cut)
