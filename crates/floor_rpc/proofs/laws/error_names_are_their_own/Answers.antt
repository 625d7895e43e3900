use Rattle.floor_rpc.proofs.ErrorsApart.{names_are_their_own}
use Rattle.floor_rpc.proofs.laws.error_names_are_their_own.Goals as goal

pub returns : goal.returns
returns c = names_are_their_own
