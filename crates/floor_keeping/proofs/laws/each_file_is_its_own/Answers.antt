use Rattle.floor_keeping.proofs.Owned as proved
use Rattle.floor_keeping.proofs.laws.each_file_is_its_own.Goals as goal

pub returns : goal.returns
returns c = record { law = proved.law }
