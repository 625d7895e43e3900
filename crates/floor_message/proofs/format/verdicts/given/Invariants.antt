use Rattle.std.proofs.Common.{◌≡◌, drop, ◌++◌}
use Rattle.std.specs.Prelude.{option_map}
use Rattle.floor_message.specs.Fields.{given}
use Rattle.floor_message.proofs.format.verdicts.given.Given as goal

abbrev pub invariant-loop-floor : goal.invariant-loop-floor
invariant-loop-floor l = option_map (λ vs. l.verdicts.items ++ vs) (given (drop l.floor-index l.judged)) ≡ given l.judged
