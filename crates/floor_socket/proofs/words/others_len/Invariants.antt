use Rattle.std.proofs.Common.{◌≡◌, ◌-◌, ◌^◌, min, sum_by, take}
use Rattle.floor_socket.specs.Words.{others, word_len}
use Rattle.floor_socket.proofs.words.others_len.Given as goal

abbrev pub invariant-loop-word : goal.invariant-loop-word
invariant-loop-word l = l.len ≡ min (sum_by word_len (others l.key (take l.word-index l.words))) (2 ^ 64 - 1)
