-- A tag stands before each line of a text.
use Rattle.std.proofs.Common.{◌≡◌, ◌==◌, ◌<◌, ◌||◌, ℕ, Bool, true, false, List, [], ◌∷◌, ◌++◌, length, append_assoc, refl, sym, ◌∙◌, ap, arith}
use Rattle.std.specs.Prelude.{codes}
use Rattle.std.specs.List.{All, after_first, before_first, list_any, position_or_len, slice_split}
use Rattle.std.proofs.lemmas.List.Sums.{fails_before_first}
use Rattle.std.proofs.lemmas.List.Elements.{All-cons, All-nil}
use Rattle.std.proofs.lemmas.List.Splits.{length-slice_split, slice_split_at, slice_split_first, slice_split_none}
use Rattle.floor_control.specs.Laws.{TagsStandBeforeLines, lined}
use Rattle.floor_control.specs.Tag.{lines_behind, mark, parts_behind}

or_left : (a b : Bool) → (a || b) ≡ false → a ≡ false
or_left true b e = e
or_left false b e = refl

or_right : (a b : Bool) → (a || b) ≡ false → b ≡ false
or_right true b e = cc e
or_right false b e = e

-- the byte is a line feed
abbrev is_feed : ℕ → Bool
is_feed b = b == 10

no_feed : (line : List ℕ) → list_any is_feed line ≡ false → All (λ b. is_feed b ≡ false) line
no_feed [] e = All-nil (λ b. is_feed b ≡ false)
no_feed (b ∷ line) e = All-cons (λ b. is_feed b ≡ false) b line (or_left (is_feed b) _ e) (no_feed line (or_right (is_feed b) _ e))

-- a part that others follow is a whole line
pub whole_line : (tag part : List ℕ) (parts : List (List ℕ)) → 0 < length parts
    → parts_behind tag (part ∷ parts) ≡ (mark tag ++ (part ++ codes "\n")) ++ parts_behind tag parts
whole_line tag part [] some = absurd (omega (arith, some))
whole_line tag [] (next ∷ parts) some = refl
whole_line tag (b ∷ part) (next ∷ parts) some = refl

-- a text that begins with a line
pub line_first : (tag line rest : List ℕ) → All (λ b. is_feed b ≡ false) line
    → lines_behind tag (line ++ 10 ∷ rest) ≡ (mark tag ++ (line ++ codes "\n")) ++ lines_behind tag rest
line_first tag line rest clear =
    ap (parts_behind tag) (slice_split_at is_feed line 10 rest clear refl)
    ∙ whole_line tag line (slice_split is_feed rest) (omega (arith, length-slice_split is_feed rest))

pub tags_stand : TagsStandBeforeLines
tags_stand tag [] e = refl
tags_stand tag (line ∷ lines) e =
    ap (lines_behind tag) (append_assoc line (10 ∷ []) (lined lines))
    ∙ line_first tag line (lined lines) (no_feed line (or_left (list_any is_feed line) _ e))
    ∙ ap (λ rest. (mark tag ++ (line ++ codes "\n")) ++ rest) (tags_stand tag lines (or_right (list_any is_feed line) _ e))

-- a text that has a line feed, and is cut there
pub cut_line : (tag rest line behind : List ℕ) → position_or_len is_feed rest < length rest → line ≡ before_first is_feed rest → behind ≡ after_first is_feed rest
    → lines_behind tag rest ≡ (mark tag ++ (line ++ codes "\n")) ++ lines_behind tag behind
cut_line tag rest line behind some is_line is_behind =
    let last = after_first is_feed rest in
    ap (parts_behind tag) (slice_split_first is_feed rest 0 some)
    ∙ whole_line tag (before_first is_feed rest) (slice_split is_feed last) (omega (arith, length-slice_split is_feed last))
    ∙ ap (λ l. (mark tag ++ (l ++ codes "\n")) ++ lines_behind tag last) (sym is_line)
    ∙ ap (λ l. (mark tag ++ (line ++ codes "\n")) ++ lines_behind tag l) (sym is_behind)

-- a text that has none is one part
pub one_part : (tag rest : List ℕ) → position_or_len is_feed rest ≡ length rest → lines_behind tag rest ≡ parts_behind tag (rest ∷ [])
one_part tag rest none =
    ap (parts_behind tag) (slice_split_none is_feed rest
    (λ k d below. fails_before_first is_feed rest k d (omega (arith, none, below))))

-- a line that is added, and the rest of the text behind it
pub line_step : (tag rest line behind out after start : List ℕ) → position_or_len is_feed rest < length rest → line ≡ before_first is_feed rest → behind ≡ after_first is_feed rest
    → after ≡ out ++ (mark tag ++ (line ++ codes "\n")) → out ++ lines_behind tag rest ≡ start → after ++ lines_behind tag behind ≡ start
line_step tag rest line behind out after start some is_line is_behind added whole =
    let piece = mark tag ++ (line ++ codes "\n") in
    ap (λ l. l ++ lines_behind tag behind) added
    ∙ append_assoc out piece (lines_behind tag behind)
    ∙ ap (λ l. out ++ l) (sym (cut_line tag rest line behind some is_line is_behind))
    ∙ whole
