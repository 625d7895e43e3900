use Rattle.std.proofs.Common.{◌≡◌, ℕ, true, Some, drop, nat_eq}
use Rattle.std.specs.Map.{lookup}
use Rattle.indexmap.specs.IndexMap.{get}
use Rattle.floor_keeping.specs.Kept.{KeptFile, asked_of}
use Rattle.floor_keeping.specs.State.{is_something}
use Rattle.floor_keeping.proofs.turn.find_waiting.Given as goal

-- each file of which anything is to be asked is among those that are left
abbrev pub invariant-loop-index : goal.invariant-loop-index
invariant-loop-index l =
    (c : ℕ) (f : KeptFile) → get nat_eq l.files c ≡ Some f → is_something (asked_of l.policy l.now f) ≡ true → lookup (nat_eq c) (drop l.index l.files.entries) ≡ Some f
