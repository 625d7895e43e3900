use Rattle.std.proofs.Common.{◌≡◌, map, take}
use Rattle.floor_words.specs.Words.{joined}
use Rattle.floor_words.proofs.hexadecimal.join.Given as goal

abbrev pub invariant-loop-word : goal.invariant-loop-word
invariant-loop-word l = l.text.items ≡ joined (map (λ w. w.now) (take l.word-index l.words))
