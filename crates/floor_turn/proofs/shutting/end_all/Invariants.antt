use Rattle.floor_connections.specs.Steps.{Steps}
use Rattle.floor_turn.proofs.shutting.end_all.Given as goal

-- calls so far
abbrev pub invariant-loop-socket : goal.invariant-loop-socket
invariant-loop-socket l = Steps l.fn.connections.sockets l.connections.sockets
