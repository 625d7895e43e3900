use Rattle.std.proofs.Common.{sym, ◌∙◌}
use Rattle.floor_ffi.proofs.Numbered.{has-number}
use Rattle.floor_ffi.proofs.outcome.name_of_number.Goals as goal

pub returns-in-Some-clause-unknown : goal.returns-in-Some-clause-unknown
returns-in-Some-clause-unknown c = λ never. absurd (never c.in-Some.outcome (has-number c.args.number c.in-Some.outcome (sym c.outcome_of.ensures.value ∙ c.in-Some.is)))
