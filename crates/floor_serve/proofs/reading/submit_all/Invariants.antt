use Rattle.std.proofs.Common.{◌≡◌, length}
use Rattle.floor_serve.proofs.Submitting.{IsServed}
use Rattle.floor_serve.proofs.reading.submit_all.Given as goal

abbrev pub invariant-loop-frame : goal.invariant-loop-frame
invariant-loop-frame g l = record {
  served : IsServed l.initial.seat l.seat l.initial.framer l.framer;
  conference : l.seat.conference ≡ l.desk.conference;
}

abbrev pub decreases-loop-frame : goal.decreases-loop-frame
decreases-loop-frame g l = length l.framer
