use Rattle.std.proofs.Common.{◌≡◌, ℕ, take}
use Rattle.floor_hub.specs.Members.{Stands}
use Rattle.floor_loop.specs.Loop.{IsHandedOut, outgoing_in}
use Rattle.floor_loop.specs.steps.Moved.{KeepsAll, SameEnds}
use Rattle.floor_loop.proofs.turn.wake_each.Given as goal

-- of so many those were woken to whom something is handed out, and nothing else has changed
abbrev pub invariant-loop-one : goal.invariant-loop-one
invariant-loop-one l =
    record {
      kept : KeepsAll (outgoing_in l.fn.attended) (outgoing_in l.attended);
      woken : (number n : ℕ) → Stands (take l.one-index l.live) number n → IsHandedOut l.hub l.attended number;
      ends : SameEnds l.fn.attended l.attended;
      away : l.attended.away ≡ l.fn.attended.away;
    }
