use Rattle.floor_machine.proofs.Together.{after_both, both_lawful, parcels_of_both, told_by_both}
use Rattle.floor_machine.proofs.laws.runs_add_up.Goals as goal

pub returns : goal.returns
returns c = record { after = after_both; parcels = parcels_of_both; told = told_by_both; lawful = both_lawful }
