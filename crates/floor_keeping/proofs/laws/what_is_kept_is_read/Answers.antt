use Rattle.floor_keeping.proofs.Readings as proved
use Rattle.floor_keeping.proofs.laws.what_is_kept_is_read.Goals as goal

pub returns : goal.returns
returns c = record { law = proved.law c.what_is_written_is_read.ensures }
