use Rattle.std.proofs.Common.{◌≡◌, ℕ, ◌<◌, None, take}
use Rattle.std.specs.Prelude.{slice_index_or}
use Rattle.floor_hub.specs.Connections.{connection_at}
use Rattle.floor_loop.specs.Done.{Leaves}
use Rattle.floor_loop.specs.Written.{Spares, Wakes}
use Rattle.floor_loop.specs.steps.Moved.{IsLoop, Moved, loop_of}
use Rattle.floor_loop.proofs.coming.leave_all.Given as goal

-- so many have left, and to no other has anything been done
abbrev pub invariant-loop-number : goal.invariant-loop-number
invariant-loop-number l =
    record {
      moved : Moved (Leaves (take l.number-index l.numbers)) (loop_of l.fn.hub l.fn.attended) (loop_of l.hub l.attended);
      woke : IsLoop (loop_of l.fn.hub l.fn.attended) → Wakes (loop_of l.fn.hub l.fn.attended) (loop_of l.hub l.attended);
      spares : IsLoop (loop_of l.fn.hub l.fn.attended) → Spares (loop_of l.fn.hub l.fn.attended) (loop_of l.hub l.attended);
      left : (j k : ℕ) → j < l.number-index → slice_index_or l.numbers j k ≡ k → connection_at l.hub.connections k ≡ None;
      others : (k : ℕ) → ((j : ℕ) → j < l.number-index → slice_index_or l.numbers j k ≡ k → ⊥) → connection_at l.hub.connections k ≡ connection_at l.fn.hub.connections k;
    }
