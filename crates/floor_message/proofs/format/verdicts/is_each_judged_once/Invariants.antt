use Rattle.std.proofs.Common.{length}
use Rattle.floor_message.specs.Picked.{IsOnceBy}
use Rattle.floor_message.proofs.format.verdicts.is_each_judged_once.Given as goal

abbrev pub invariant-loop-rest : goal.invariant-loop-rest
invariant-loop-rest l = (IsOnceBy (λ v. v.0) l.rest → IsOnceBy (λ v. v.0) l.verdicts) × (IsOnceBy (λ v. v.0) l.verdicts → IsOnceBy (λ v. v.0) l.rest)

abbrev pub decreases-loop-rest : goal.decreases-loop-rest
decreases-loop-rest l = length l.rest
