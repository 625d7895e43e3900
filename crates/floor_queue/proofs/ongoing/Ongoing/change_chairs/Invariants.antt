use Rattle.std.proofs.Common.{◌≡◌, ◌++◌, take, drop, map}
use Rattle.floor_queue.specs.steps.Lines.{AreChangingLines, without_lost}
use Rattle.floor_queue.proofs.ongoing.Ongoing.change_chairs.Given as goal

abbrev pub invariant-loop-request : goal.invariant-loop-request
invariant-loop-request l =
    record {
      next : l.request-items ≡ map (without_lost l.lost) (take l.request-index l.fn.self) ++ drop l.request-index l.fn.self;
      lines : AreChangingLines l.before l.floors (map (without_lost l.lost) (take l.request-index l.fn.self)) (drop l.request-index l.fn.self) l.lines;
    }
