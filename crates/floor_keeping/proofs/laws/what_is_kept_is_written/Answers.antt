use Rattle.floor_keeping.proofs.Fronts as proved
use Rattle.floor_keeping.proofs.laws.what_is_kept_is_written.Goals as goal

pub returns : goal.returns
returns c = record { law = proved.law }
