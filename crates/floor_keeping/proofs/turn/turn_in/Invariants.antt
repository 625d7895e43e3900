use Rattle.std.proofs.Common.{ℕ, length, nat_eq}
use Rattle.indexmap.specs.IndexMap.{get}
use Rattle.floor_keeping.specs.Table.{SameFiles}
use Rattle.floor_keeping.specs.steps.Listed.{IsListed}
use Rattle.floor_keeping.proofs.turn.turn_in.Given as goal

-- nothing was asked, and whoever is waited for stands in the line still
abbrev pub invariant-loop-conference : goal.invariant-loop-conference
invariant-loop-conference l =
    SameFiles (get nat_eq l.fn.files) (get nat_eq l.files) ×
    ((time : ℕ) → IsListed l.policy time l.now (get nat_eq l.fn.files) l.fn.line → IsListed l.policy time l.now (get nat_eq l.files) l.line)

abbrev pub decreases-loop-conference : goal.decreases-loop-conference
decreases-loop-conference l = length l.line.conferences
