-- The words of a line with three words or more.
use Rattle.std.proofs.Common.{ℕ, ◌≤◌, ◌-◌, List, [], ◌∷◌, map, length, take, drop, slice_index_or, arith, Bor, subst}
use Rattle.std.specs.Prelude.{Result}
use Rattle.std.proofs.lemmas.List.{take_all}
use Rattle.floor_script.specs.declared.line.Command.{Command}
use Rattle.floor_script.specs.declared.line.LineFault.{LineFault}
use Rattle.floor_script.specs.Line.{of_words, three_words_or_more, Reads}

-- a reading of the first two and of the others is one of all words
pub read_in_parts : (ws : List (Bor (List ℕ))) (d : Bor (List ℕ)) (result : Result Command LineFault) → 3 ≤ length ws
    → Reads (three_words_or_more (slice_index_or ws 0 d).now (slice_index_or ws 1 d).now (map (λ w. w.now) (take (length ws - 2) (drop 2 ws)))) result
    → Reads (of_words (map (λ w. w.now) ws)) result
read_in_parts [] d result long reads = absurd (omega (arith, long))
read_in_parts (a ∷ []) d result long reads = absurd (omega (arith, long))
read_in_parts (a ∷ b ∷ []) d result long reads = absurd (omega (arith, long))
read_in_parts (a ∷ b ∷ c ∷ more) d result long reads =
    subst (λ rest. Reads (three_words_or_more a.now b.now (map (λ w. w.now) rest)) result)
    (take_all (length (a ∷ b ∷ c ∷ more) - 2) (c ∷ more) (omega (arith))) reads
