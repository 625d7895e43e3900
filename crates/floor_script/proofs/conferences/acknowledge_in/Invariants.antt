use Rattle.std.proofs.Common.{take}
use Rattle.floor_script.specs.steps.Holding.{Acknowledges}
use Rattle.floor_script.proofs.conferences.acknowledge_in.Given as goal

-- so many are acknowledged
abbrev pub invariant-loop-one : goal.invariant-loop-one
invariant-loop-one l = Acknowledges (take l.one-index l.taken) l.initial.hub l.hub
