use Rattle.std.proofs.Common.{ℕ, rules}
use Rattle.std.specs.Prelude.{◌==◌, not}
use Rattle.std.proofs.lemmas.Fn.{filter_same}
use Rattle.floor_machine.proofs.members.take_number.Goals as goal

pub returns : goal.returns
returns c = filter_same _ (λ (k : ℕ). not (k == c.args.n)) _ (λ x b q k. search rules) _ _ c.retain.ensures.filtered
