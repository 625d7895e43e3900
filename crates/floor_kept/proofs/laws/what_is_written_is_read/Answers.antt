use Rattle.floor_kept.proofs.Turns.{written-is-file}
use Rattle.floor_kept.proofs.laws.what_is_written_is_read.Goals as goal

pub returns : goal.returns
returns c = written-is-file c.words_are_read_back.ensures c.numbers_are_read_back.ensures
