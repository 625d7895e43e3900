use Rattle.std.proofs.Common.{◌≡◌, ◌<◌, ℕ, Some, drop, nat_eq}
use Rattle.std.specs.Prelude.{◌⊎◌, IfSome}
use Rattle.std.specs.Map.{lookup}
use Rattle.indexmap.specs.IndexMap.{get}
use Rattle.floor_keeping.specs.Kept.{KeptFile}
use Rattle.floor_keeping.specs.Table.{IsBy}
use Rattle.floor_keeping.proofs.turn.soonest_in.Given as goal

-- a time that is later was taken into account, or its file is among those that are left
abbrev pub invariant-loop-index : goal.invariant-loop-index
invariant-loop-index l =
    IfSome l.soonest (λ at. l.now < at) ×
    ((c t : ℕ) (f : KeptFile) → get nat_eq l.files c ≡ Some f → f.state.sync_at ≡ Some t → l.now < t → IsBy t l.soonest ⊎ (lookup (nat_eq c) (drop l.index l.files.entries) ≡ Some f))
