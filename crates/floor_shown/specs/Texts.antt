-- Texts that are shown.
use Rattle.std.specs.Prelude.{ℕ, List, Option, Some, None, if◌then◌else◌}
use Rattle.std.specs.Str.{is_utf8}
use Rattle.floor_message.specs.Text.{shortened, unless_empty}

-- the text that bytes are, where there are any and they are one
abbrev pub text_in : Option (List ℕ) → Option (List ℕ)
text_in None = None
text_in (Some bytes) = if is_utf8 bytes then Some bytes else None

-- the bytes of a text's front, as many as a message may have of it; none where it is empty
abbrev pub octets_in : ℕ → Option (List ℕ) → Option (List ℕ)
octets_in most None = None
octets_in most (Some text) = unless_empty (shortened most text)
