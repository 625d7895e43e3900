use Rattle.floor_words.proofs.Parting.{words_are_plain}
use Rattle.floor_words.proofs.laws.words_are_plain.Goals as goal

pub returns : goal.returns
returns c = words_are_plain
