-- A configuration that is sent line by line, up to a line `.`.
use Rattle.std.specs.Prelude.{ℕ, ◌+◌, Bool, false, nat_lt, if◌then◌else◌, List, [], ◌∷◌, ◌++◌, length, codes}
use Rattle.std.specs.Str.{bytes_eq}
use Rattle.floor_control.specs.declared.opening.Sent.{Sent}
use Rattle.floor_control.specs.declared.opening.Sent.TheVariants.{More, Whole, NotText, TooLong}

-- the lines that came and are UTF-8, each with its line feed; how many bytes all lines have; and whether all are UTF-8
pub record Opening : Type 0 where
  pub text : List ℕ
  pub len : ℕ
  pub is_text : Bool

-- it is too long with a further line of so many bytes: it has more than 1 MiB
abbrev pub is_too_long : ℕ → Opening → Bool
is_too_long len o = nat_lt 1048576 (o.len + (len + 1))

-- the line ends the configuration
abbrev pub is_end : List ℕ → Bool
is_end line = bytes_eq line (codes ".")

-- what a line does, and what has come then
abbrev pub of_line : List ℕ → Opening → Sent
of_line line o =
    if is_end line then (if o.is_text then Whole else NotText)
    else if is_too_long (length line) o then TooLong
    else More

abbrev pub with_line : List ℕ → Opening → Opening
with_line line o =
    if is_end line then o
    else if is_too_long (length line) o then o
    else record o { text = o.text ++ (line ++ 10 ∷ []); len = o.len + (length line + 1) }

-- what a line of so many bytes does that isn't UTF-8, and what has come then
abbrev pub of_other : ℕ → Opening → Sent
of_other len o = if is_too_long len o then TooLong else More

abbrev pub with_other : ℕ → Opening → Opening
with_other len o = if is_too_long len o then o else record o { len = o.len + (len + 1); is_text = false }
