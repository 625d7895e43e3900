use Rattle.floor_words.proofs.Cutting.{first_words_are_cut_off}
use Rattle.floor_words.proofs.laws.first_words_are_cut_off.Goals as goal

pub returns : goal.returns
returns c = first_words_are_cut_off
