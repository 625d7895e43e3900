use Rattle.std.proofs.Common.{◌≡◌, take}
use Rattle.floor_config.proofs.users.Users.copy.Given as goal

abbrev pub invariant-loop-user : goal.invariant-loop-user
invariant-loop-user l = l.items.items ≡ take l.user-index l.user-items
