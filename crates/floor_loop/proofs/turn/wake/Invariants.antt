use Rattle.std.proofs.Common.{◌≡◌, ℕ, ◌<◌}
use Rattle.std.specs.Prelude.{slice_index_or}
use Rattle.floor_loop.specs.Loop.{outgoing_in}
use Rattle.floor_loop.specs.steps.Moved.{IsSpared, IsWoken, KeepsAll}
use Rattle.floor_loop.proofs.turn.wake.Given as goal

-- so many were woken, and nothing else has changed
abbrev pub invariant-loop-number : goal.invariant-loop-number
invariant-loop-number l =
    record {
      kept : KeepsAll (outgoing_in l.fn.attended) (outgoing_in l.attended);
      woken : (k n : ℕ) → k < l.number-index → slice_index_or l.number-items k n ≡ n → IsWoken l.hub l.attended n;
      spared : (k : ℕ) → IsSpared l.hub l.fn.attended l.attended k;
      away : l.attended.away ≡ l.fn.attended.away;
    }
