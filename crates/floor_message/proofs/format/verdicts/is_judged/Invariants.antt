use Rattle.std.proofs.Common.{◌≡◌, drop}
use Rattle.std.specs.Prelude.{◌==◌}
use Rattle.std.specs.List.{list_any}
use Rattle.floor_message.proofs.format.verdicts.is_judged.Given as goal

abbrev pub invariant-loop-judged : goal.invariant-loop-judged
invariant-loop-judged l = list_any (λ v. v.0 == l.floor) (drop l.judged-index l.verdicts) ≡ list_any (λ v. v.0 == l.floor) l.verdicts
