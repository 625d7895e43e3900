use Rattle.std.proofs.Common.{◌≤◌, ℕ, length, nat_eq}
use Rattle.indexmap.specs.IndexMap.{get}
use Rattle.floor_keeping.specs.steps.Listed.{IsListed}
use Rattle.floor_keeping.proofs.Listing.{IsWaking}
use Rattle.floor_keeping.proofs.turn.wake_in.Given as goal

-- whose time has come stands in the line, or is still to be put there
abbrev pub invariant-loop-conference : goal.invariant-loop-conference
invariant-loop-conference l =
    (before time was : ℕ) → was ≤ l.now → before ≤ time → IsListed l.policy before was (get nat_eq l.files) l.fn.line → IsWaking l.policy time was l.now (get nat_eq l.files) l.line

abbrev pub decreases-loop-conference : goal.decreases-loop-conference
decreases-loop-conference l = length l.line.wakings
