use Rattle.std.proofs.Common.{◌≡◌, ◌≤◌, ◌++◌, length, take, drop, reverse}
use denote.Param.Members.{Called}
use Rattle.std.specs.List.{FoldsTo}
use Rattle.floor_listen.specs.Ports.{given, kept}
use Rattle.floor_listen.proofs.ports.Ports.give_back.Given as goal

-- the ports from this place on are done with; what is done once the others are handed out is done with all
abbrev pub invariant-loop-before : goal.invariant-loop-before
invariant-loop-before g l =
    goal.F-IsAlwaysCallable g l.close
    × (l.place ≤ length l.fn.self.listening)
    × (l.self-inside.listening.items ≡ take l.place l.fn.self.listening ++ kept l.fn.chosen (drop l.place l.fn.self.listening))
    × ((last : _) → FoldsTo (λ p x q. Called g.F.FnMut p (x, tt) tt q) l.close (reverse (given l.fn.chosen (take l.place l.fn.self.listening))) last
    → FoldsTo (λ p x q. Called g.F.FnMut p (x, tt) tt q) l.fn.close (reverse (given l.fn.chosen l.fn.self.listening)) last)

abbrev pub decreases-loop-before : goal.decreases-loop-before
decreases-loop-before g l = l.place
