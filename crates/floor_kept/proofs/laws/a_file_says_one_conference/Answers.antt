use Rattle.floor_kept.proofs.Readings.{one-file}
use Rattle.floor_kept.proofs.laws.a_file_says_one_conference.Goals as goal

pub returns : goal.returns
returns c = one-file c.words_are_read_back.ensures c.numbers_are_read_back.ensures
