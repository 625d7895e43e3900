use Rattle.floor_words.proofs.Cutting.{from_trimmed}
use Rattle.floor_words.proofs.word.from_first_word.Goals as goal

pub returns : goal.returns
returns c = from_trimmed c.args.text.now c.trim_start_matches.result.now c.trim_start_matches.ensures.matches
