use Rattle.std.proofs.Common.{length}
use Rattle.floor_message.specs.Picked.{IsOnceBy}
use Rattle.floor_message.proofs.format.floors.is_nowhere_again.Given as goal

abbrev pub invariant-loop-rest : goal.invariant-loop-rest
invariant-loop-rest l = (IsOnceBy (λ n. n) l.rest → IsOnceBy (λ n. n) l.numbers) × (IsOnceBy (λ n. n) l.numbers → IsOnceBy (λ n. n) l.rest)

abbrev pub decreases-loop-rest : goal.decreases-loop-rest
decreases-loop-rest l = length l.rest
