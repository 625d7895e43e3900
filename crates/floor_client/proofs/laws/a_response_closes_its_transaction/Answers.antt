use Rattle.floor_client.proofs.Responses.{response_is_heard, response_restores}
use Rattle.floor_client.proofs.laws.a_response_closes_its_transaction.Goals as goal

pub returns-clause-heard : goal.returns-clause-heard
returns-clause-heard c = response_is_heard c.a_written_tell_is_read.ensures

pub returns-clause-restored : goal.returns-clause-restored
returns-clause-restored c = response_restores c.a_written_tell_is_read.ensures
