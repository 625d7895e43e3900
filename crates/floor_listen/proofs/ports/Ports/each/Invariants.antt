use Rattle.std.proofs.Common.{length, map}
use Rattle.std.specs.Fn.{CalledAt}
use Rattle.std.specs.List.{FoldsTo}
use Rattle.floor_listen.proofs.ports.Ports.each.Given as goal

-- what is done once the rest is visited is done with all
abbrev pub invariant-loop-first : goal.invariant-loop-first
invariant-loop-first g l =
    goal.F-IsAlwaysCallable g l.visit
    × ((last : _) → FoldsTo (λ p x q. CalledAt g.F.FnMut p x tt q) l.visit (map (λ o. o.listener) l.rest) last
    → FoldsTo (λ p x q. CalledAt g.F.FnMut p x tt q) l.initial.visit (map (λ o. o.listener) l.initial.rest) last)

abbrev pub decreases-loop-first : goal.decreases-loop-first
decreases-loop-first g l = length l.rest
