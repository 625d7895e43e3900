use Rattle.std.proofs.Common.{All, take}
use Rattle.floor_serve.specs.Finish.{AreOneMember}
use Rattle.floor_serve.proofs.end.finish.has_member.Given as goal

abbrev pub invariant-loop-other : goal.invariant-loop-other
invariant-loop-other l = All (λ other. ¬ AreOneMember other l.seat) (take l.other-index l.seats)
