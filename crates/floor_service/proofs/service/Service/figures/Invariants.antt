use Rattle.std.specs.Prelude.{◌≡◌}
use Rattle.floor_desk.specs.Attending.{Attends, beside}
use Rattle.floor_service.proofs.service.Service.figures.Given as goal

-- of members nothing has changed, and each client went on as it may
abbrev pub invariant-loop-index : goal.invariant-loop-index
invariant-loop-index l = (l.self.server.meetings ≡ l.fn.self.server.meetings) × Attends beside l.fn.self.desk.callers l.self.desk.callers
