use Rattle.floor_message.proofs.Cutting.{shortened_longest}
use Rattle.floor_message.proofs.laws.a_text_is_cut_at_its_longest.Goals as goal

pub returns : goal.returns
returns c = shortened_longest
