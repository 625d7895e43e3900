use Rattle.std.proofs.Common.{◌≡◌, nat_eq, take}
use Rattle.indexmap.specs.IndexMap.{get}
use Rattle.floor_loop.specs.steps.Soonest.{among_in}
use Rattle.floor_loop.proofs.away.among_in.Given as goal

-- those among the first so many stand there
abbrev pub invariant-loop-one : goal.invariant-loop-one
invariant-loop-one l = l.back.items ≡ among_in (get nat_eq l.stays) l.user (take l.one-index l.live)
