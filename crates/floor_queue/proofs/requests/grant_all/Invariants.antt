use Rattle.std.proofs.Common.{◌≡◌, take, map}
use Rattle.std.specs.Prelude.{◌==◌}
use Rattle.std.specs.List.{list_any}
use Rattle.floor_queue.specs.Order.{granted_if}
use Rattle.floor_queue.specs.steps.Lines.{AreLines}
use Rattle.floor_queue.proofs.requests.grant_all.Given as goal

abbrev pub invariant-loop-number : goal.invariant-loop-number
invariant-loop-number l =
    record {
      next : l.requests ≡ map (λ r. granted_if (list_any (λ n. n == r.number) (take l.number-index l.numbers)) r) l.fn.requests;
      lines : AreLines l.floors l.requests l.lines;
    }
