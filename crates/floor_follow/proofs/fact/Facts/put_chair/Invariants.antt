use Rattle.std.proofs.Common.{◌≡◌, ◌++◌, map, take, drop}
use Rattle.floor_follow.specs.Facts.{with_chair}
use Rattle.floor_follow.proofs.fact.Facts.put_chair.Given as goal

-- so many facts have the chair
abbrev pub invariant-loop-fact : goal.invariant-loop-fact
invariant-loop-fact l = l.fact-items ≡ map (with_chair l.id l.chair) (take l.fact-index l.fn.self) ++ drop l.fact-index l.fn.self
