use Rattle.std.proofs.Common.{◌≡◌, ◌++◌, map, take, drop}
use Rattle.floor_script.specs.Attached.{paced}
use Rattle.floor_script.proofs.attached.set_pace_in.Given as goal

-- so many connections have the pace, if they have the number
abbrev pub invariant-loop-one : goal.invariant-loop-one
invariant-loop-one l = l.one-items ≡ map (paced l.connection l.pace) (take l.one-index l.fn.live.items) ++ drop l.one-index l.fn.live.items
