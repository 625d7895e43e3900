use Rattle.std.proofs.Common.{length}
use Rattle.std.specs.Fn.{CalledAt}
use Rattle.std.specs.List.{FoldsTo}
use Rattle.floor_listen.specs.Connections.{sockets_of}
use Rattle.floor_listen.proofs.connections.Connections.each_socket.Given as goal

-- what is done once the rest is visited is done with all
abbrev pub invariant-loop-open : goal.invariant-loop-open
invariant-loop-open g l =
    goal.F-IsAlwaysCallable g l.visit
    × ((last : _) → FoldsTo (λ p x q. CalledAt g.F.FnMut p x tt q) l.visit (sockets_of l.port l.rest) last
    → FoldsTo (λ p x q. CalledAt g.F.FnMut p x tt q) l.initial.visit (sockets_of l.port l.initial.rest) last)

abbrev pub decreases-loop-open : goal.decreases-loop-open
decreases-loop-open g l = length l.rest
