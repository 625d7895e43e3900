use Rattle.floor_connections.specs.Steps.{Steps}
use Rattle.floor_connections.proofs.holding.resume_each.Given as goal

-- calls so far
abbrev pub invariant-loop-slot : goal.invariant-loop-slot
invariant-loop-slot l = Steps l.fn.sockets l.sockets
