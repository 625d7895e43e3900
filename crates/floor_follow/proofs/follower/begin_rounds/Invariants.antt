use Rattle.std.proofs.Common.{◌≡◌, ◌++◌, map, take, drop}
use Rattle.floor_follow.specs.Conference.{due}
use Rattle.floor_follow.proofs.follower.begin_rounds.Given as goal

abbrev pub invariant-loop-conference : goal.invariant-loop-conference
invariant-loop-conference l = l.conference-items ≡ map due (take l.conference-index l.fn.conferences.items) ++ drop l.conference-index l.fn.conferences.items
