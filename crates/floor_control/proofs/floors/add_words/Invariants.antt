use Rattle.std.proofs.Common.{◌≡◌, ◌++◌, string_bytes, take}
use Rattle.floor_control.specs.Floors.{words_of}
use Rattle.floor_control.proofs.floors.add_words.Given as goal

-- of the first entries those with the part stand there
abbrev pub invariant-loop-entry : goal.invariant-loop-entry
invariant-loop-entry l = string_bytes l.words ≡ string_bytes l.fn.words ++ words_of l.part (take l.entry-index l.entries)
