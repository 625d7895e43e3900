use Rattle.floor_acts.proofs.Printed.{acts_are_read_back}
use Rattle.floor_acts.proofs.laws.acts_are_read_back.Goals as goal

pub returns : goal.returns
returns c =
    acts_are_read_back c.first_words_are_cut_off.ensures c.numbers_are_read_back.ensures c.texts_begin_with_a_word.ensures
    c.words_are_read_back.ensures
