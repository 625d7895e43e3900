-- The first line of a text. `lines` are all of them: line feeds end them, a carriage return before a line feed is dropped, and the last line may lack its line feed.
use Rattle.std.specs.Prelude.{◌≡◌, ℕ, ◌==◌, Bool, cond, nat_lt, List, [], ◌∷◌, length}
use Rattle.std.specs.List.{position_or_len, before_first, after_first}
use Rattle.std.specs.Str.Lines.{lines, strip_carriage_return}
use Rattle.floor_words.specs.declared.line.Cut.{Cut}

-- the byte ends a line: it is a line feed
abbrev pub is_line_feed : ℕ → Bool
is_line_feed b = b == 10

-- the text has a line feed
abbrev pub has_line_feed : List ℕ → Bool
has_line_feed text = nat_lt (position_or_len is_line_feed text) (length text)

-- the first line of a text
abbrev pub first_line : List ℕ → List ℕ
first_line text = cond (has_line_feed text) (strip_carriage_return (before_first is_line_feed text)) text

-- the text behind the first line feed
abbrev pub behind : List ℕ → List ℕ
behind text = cond (has_line_feed text) (after_first is_line_feed text) []

-- the cut is the text's first line and what follows it, and so the text's lines are that line and then the lines of what follows
pub record IsCut (text : List ℕ) (cut : Cut) : Type 0 where
  pub line : cut.line.now ≡ first_line text
  pub rest : cut.rest.now ≡ behind text
  pub lines_are : lines text ≡ cut.line.now ∷ lines cut.rest.now
