use Rattle.std.proofs.Common.{◌≡◌, ◌++◌, drop}
use Rattle.json.specs.Tree.{members_tokens}
use Rattle.floor_rpc.specs.Words.{word_members}
use Rattle.floor_rpc.proofs.words.write_words.Given as goal

abbrev pub invariant-loop-word : goal.invariant-loop-word
invariant-loop-word l =
    (l.writer.tokens ++ members_tokens (word_members (drop l.word-index l.words)) ≡ l.initial.writer.tokens ++ members_tokens (word_members l.words))
    × (l.writer.before ≡ l.initial.writer.before)
