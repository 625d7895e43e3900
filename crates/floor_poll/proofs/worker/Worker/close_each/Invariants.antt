use Rattle.std.proofs.Common.{◌≡◌}
use Rattle.floor_poll.proofs.worker.Worker.close_each.Given as goal

-- no port is the hub's
abbrev pub invariant-loop-number : goal.invariant-loop-number
invariant-loop-number g l = l.self.hub ≡ l.fn.self.hub
