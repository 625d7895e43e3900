use Rattle.floor_keeping.proofs.Epochs as proved
use Rattle.floor_keeping.proofs.laws.no_turn_goes_before_its_epoch.Goals as goal

pub returns : goal.returns
returns c = record { law = proved.law }
