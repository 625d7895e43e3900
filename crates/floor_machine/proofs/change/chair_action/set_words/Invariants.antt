use Rattle.std.proofs.Common.{◌≡◌, ℕ, ◌+◌, length, drop, map}
use Rattle.std.specs.Prelude.{All}
use Rattle.floor_queue.specs.Queue.{MaySetFloor}
use Rattle.floor_machine.specs.Change.{decided_at}
use Rattle.floor_machine.proofs.change.chair_action.set_words.Given as goal

-- the verdicts from the k-th on are done, where k is how many are left
abbrev pub invariant-loop-place : goal.invariant-loop-place
invariant-loop-place l =
    All (λ v. MaySetFloor l.requests l.request v.0) l.verdicts
    × ((k : ℕ) → k + l.place ≡ length l.verdicts → l.requests ≡ record l.fn.requests { ongoing = map (decided_at l.request (drop k l.verdicts)) l.fn.requests.ongoing })
