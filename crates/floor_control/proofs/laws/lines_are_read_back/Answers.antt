use Rattle.floor_control.proofs.ReadBack.{lines_read_back}
use Rattle.floor_control.proofs.laws.lines_are_read_back.Goals as goal

pub returns : goal.returns
returns c =
    lines_read_back c.a_printed_command_is_read_back.ensures c.first_words_are_cut_off.ensures c.numbers_are_read_back.ensures c.words_are_read_back.ensures
    c.words_are_plain.ensures
