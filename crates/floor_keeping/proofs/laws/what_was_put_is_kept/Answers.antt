use Rattle.floor_keeping.proofs.Disk as proved
use Rattle.floor_keeping.proofs.laws.what_was_put_is_kept.Goals as goal

pub returns : goal.returns
returns c = record { law = proved.law }
