use Rattle.floor_message.proofs.Once.{keeps_first}
use Rattle.floor_message.proofs.laws.the_first_is_kept.Goals as goal

pub returns : goal.returns
returns c = record { floors = keeps_first _ _; verdicts = keeps_first _ _ }
