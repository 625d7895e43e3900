use Rattle.floor_words.proofs.Cutting.{texts_begin_with_a_word}
use Rattle.floor_words.proofs.laws.texts_begin_with_a_word.Goals as goal

pub returns : goal.returns
returns c = texts_begin_with_a_word
