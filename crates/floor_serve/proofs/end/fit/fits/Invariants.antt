use Rattle.floor_serve.proofs.Matching.{IsAt}
use Rattle.floor_serve.proofs.end.fit.fits.Given as goal

abbrev pub invariant-loop-done : goal.invariant-loop-done
invariant-loop-done l = IsAt l.sent l.at l.journal l.done l.n
