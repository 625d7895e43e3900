use Rattle.std.proofs.Common.{arith, ℕ, ◌<◌, ◌^◌, get_or, below_more, subst}
use Rattle.std.proofs.lemmas.List.{get_or_default}
use Rattle.floor_message.specs.declared.verdicts.Verdict.{Verdict}
use Rattle.floor_message.specs.declared.verdicts.Verdict.TheVariants.{Accepted}
use Rattle.floor_message.proofs.fits.floors_are_of_16_bits.Goals as goal

pub loop-floor-preserved : goal.loop-floor-preserved
loop-floor-preserved c = below_more (λ k. (get_or c.args.verdicts.now k (0, Accepted)).0 < 2 ^ 16) c.loop-floor.floor-index c.loop-floor.invariant c.is_of_16_bits.ensures

pub returns : goal.returns
returns c = λ k d l.
    let P : ℕ × Verdict → Type 0 = λ v. v.0 < 2 ^ 16 in
    subst P (get_or_default c.args.verdicts.now k (0, Accepted) d l) (c.loop-floor.invariant k (omega arith))
