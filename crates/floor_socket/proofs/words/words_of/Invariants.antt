use Rattle.std.proofs.Common.{◌≡◌}
use Rattle.floor_socket.specs.Words.{words_of}
use Rattle.floor_socket.proofs.words.words_of.Given as goal

abbrev pub invariant-loop-note : goal.invariant-loop-note
invariant-loop-note l = l.words ≡ words_of l.yielded
