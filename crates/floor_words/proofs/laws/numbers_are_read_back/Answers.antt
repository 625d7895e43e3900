use Rattle.floor_words.proofs.Digits.{numbers_are_read_back}
use Rattle.floor_words.proofs.laws.numbers_are_read_back.Goals as goal

pub returns : goal.returns
returns c = numbers_are_read_back
