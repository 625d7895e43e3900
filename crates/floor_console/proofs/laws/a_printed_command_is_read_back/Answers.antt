use Rattle.floor_console.proofs.Printed.{printed_is_read_back}
use Rattle.floor_console.proofs.laws.a_printed_command_is_read_back.Goals as goal

pub returns : goal.returns
returns c = printed_is_read_back c.words_are_read_back.ensures c.numbers_are_read_back.ensures c.acts_are_read_back.ensures c.words_are_plain.ensures
