-- A text as a configuration and the lines of a script.
use Rattle.std.specs.Prelude.{ℕ, zero, suc, ◌-◌, Bool, nat_lt, List, length, take, codes, Option, Some, None, if◌then◌else◌}
use Rattle.std.specs.List.{position_or_len}
use Rattle.std.specs.Str.{bytes_eq}
use Rattle.std.specs.Str.Lines.{lines}
use Rattle.floor_words.specs.Lines.{behind}

-- the line divides a configuration from a script
abbrev pub is_divider : List ℕ → Bool
is_divider line = bytes_eq line (codes "---")

-- one of the lines of the text is the divider
abbrev pub has_divider : List ℕ → Bool
has_divider text = nat_lt (position_or_len is_divider (lines text)) (length (lines text))

-- how many lines stand before the first divider
abbrev pub lines_before : List ℕ → ℕ
lines_before text = position_or_len is_divider (lines text)

-- the text behind so many of its lines
abbrev pub behind_lines : ℕ → List ℕ → List ℕ
behind_lines zero text = text
behind_lines (suc count) text = behind_lines count (behind text)

-- the text without what begins at the line that stands behind so many
abbrev pub until_line : ℕ → List ℕ → List ℕ
until_line count text = take (length text - length (behind_lines count text)) text

-- the configuration of a text: what stands before the first divider, or none where there is no divider
abbrev pub configuration_of : List ℕ → Option (List ℕ)
configuration_of text = if has_divider text then Some (until_line (lines_before text) text) else None

-- how many lines of a text are none of its script: those to the first divider
abbrev pub lines_passed : List ℕ → ℕ
lines_passed text = if has_divider text then suc (lines_before text) else 0

-- the script of a text: what stands behind the first divider, or the whole text where there is none
abbrev pub script_of : List ℕ → List ℕ
script_of text = behind_lines (lines_passed text) text
