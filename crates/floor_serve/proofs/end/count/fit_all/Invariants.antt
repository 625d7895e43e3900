use Rattle.floor_serve.specs.steps.Parts.{IsCounted}
use Rattle.floor_serve.proofs.end.count.fit_all.Given as goal

abbrev pub invariant-loop-seat : goal.invariant-loop-seat
invariant-loop-seat l = IsCounted l.journal l.seats l.seat-index l.bound l.count
