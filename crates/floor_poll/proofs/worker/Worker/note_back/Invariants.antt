use Rattle.std.proofs.Common.{◌≡◌}
use Rattle.floor_poll.proofs.worker.Worker.note_back.Given as goal

-- none of it is the hub's
abbrev pub invariant-loop-place : goal.invariant-loop-place
invariant-loop-place g l = l.self.hub ≡ l.fn.self.hub
