use Rattle.std.proofs.Common.{◌≡◌, nat_eq}
use Rattle.indexmap.specs.IndexMap.{get}
use Rattle.floor_loop.specs.steps.Soonest.{oldest_to}
use Rattle.floor_loop.proofs.away.oldest_in.Given as goal

-- who is away since longest of those before this place
abbrev pub invariant-loop-number : goal.invariant-loop-number
invariant-loop-number l = l.oldest ≡ oldest_to (get nat_eq l.stays) l.numbers l.number-index
