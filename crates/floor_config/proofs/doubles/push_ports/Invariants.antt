use Rattle.std.proofs.Common.{◌≡◌, ◌++◌, take, filter_map}
use Rattle.floor_config.proofs.doubles.push_ports.Given as goal

abbrev pub invariant-loop-user : goal.invariant-loop-user
invariant-loop-user l = l.found.items ≡ l.fn.found.items ++ filter_map (λ u. u.port) (take l.user-index l.users)
