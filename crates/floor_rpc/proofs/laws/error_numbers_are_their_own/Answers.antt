use Rattle.floor_rpc.proofs.ErrorsApart.{numbers_are_their_own}
use Rattle.floor_rpc.proofs.laws.error_numbers_are_their_own.Goals as goal

pub returns : goal.returns
returns c = numbers_are_their_own
