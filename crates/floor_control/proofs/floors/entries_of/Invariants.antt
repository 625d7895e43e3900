use Rattle.std.proofs.Common.{◌≡◌, take}
use Rattle.floor_control.specs.Floors.{entries_of}
use Rattle.floor_control.proofs.floors.entries_of.Given as goal

-- of the first that are shown those that are for the floor stand there
abbrev pub invariant-loop-info : goal.invariant-loop-info
invariant-loop-info l = l.entries.items ≡ entries_of l.floor (take l.info-index l.shown)
