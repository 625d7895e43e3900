-- The lines of the bytes that come from a client.
use Rattle.std.specs.Prelude.{ℕ, ◌==◌, Bool, nat_lt, List, [], ◌∷◌, ◌++◌, length, flat_map, position, unwrap_or, Option}
use Rattle.std.specs.List.{list_any}

-- the byte ends a line: it is a line feed
abbrev pub is_line_feed : ℕ → Bool
is_line_feed b = b == 10

-- how many bytes stand before the first line feed, where there is one
abbrev pub line_len : List ℕ → Option ℕ
line_len bytes = position is_line_feed bytes

-- the bytes have a line feed
abbrev pub has_line_feed : List ℕ → Bool
has_line_feed bytes = list_any is_line_feed bytes

-- lines, each with its line feed, one behind another
abbrev pub lined : List (List ℕ) → List ℕ
lined lines = flat_map (λ line. line ++ 10 ∷ []) lines

-- how many bytes of the first line came
abbrev pub first_len : List ℕ → ℕ
first_len bytes = unwrap_or (line_len bytes) (length bytes)

-- the first line has more than 1 MiB
abbrev pub is_too_long : List ℕ → Bool
is_too_long bytes = nat_lt 1048576 (first_len bytes)
