use Rattle.floor_script.proofs.Words.{read_in_parts}
use Rattle.floor_script.proofs.line.of_words.Goals as goal

-- src/line.rt:95:1
pub returns-in-len2-up : goal.returns-in-len2-up
returns-in-len2-up c = read_in_parts c.args.words.now _ c.of_three_or_more.result c.in-len2-up.len_at_least c.of_three_or_more.ensures
