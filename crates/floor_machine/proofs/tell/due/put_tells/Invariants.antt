use Rattle.std.proofs.Common.{◌≡◌, ◌++◌, drop, map}
use Rattle.floor_machine.specs.Journal.{parcel}
use Rattle.floor_machine.specs.steps.Telling.{answered}
use Rattle.floor_machine.proofs.tell.due.put_tells.Given as goal

-- what is put and what is left are all the messages
abbrev pub invariant-loop-tell : goal.invariant-loop-tell
invariant-loop-tell l =
    l.out.items ++ map (parcel l.n) (answered l.head (drop l.tell-index l.tells))
    ≡ l.fn.out.items ++ map (parcel l.n) (answered l.fn.first l.tells)
