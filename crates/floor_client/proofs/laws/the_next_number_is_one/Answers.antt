use Rattle.floor_client.proofs.Responses.{next_in_range, next_is_only, none_is_next}
use Rattle.floor_client.proofs.laws.the_next_number_is_one.Goals as goal

pub returns : goal.returns
returns c = record { range = next_in_range; only = next_is_only; none = none_is_next }
