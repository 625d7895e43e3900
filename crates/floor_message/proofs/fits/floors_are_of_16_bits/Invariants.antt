use Rattle.std.proofs.Common.{ℕ, ◌<◌, ◌^◌, get_or}
use Rattle.floor_message.specs.declared.verdicts.Verdict.TheVariants.{Accepted}
use Rattle.floor_message.proofs.fits.floors_are_of_16_bits.Given as goal

abbrev pub invariant-loop-floor : goal.invariant-loop-floor
invariant-loop-floor l = (k : ℕ) → k < l.floor-index → (get_or l.verdicts k (0, Accepted)).0 < 2 ^ 16
