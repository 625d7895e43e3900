-- When a thread has something to do.
use Rattle.std.specs.Prelude.{ℕ, min, Option, Some, None}

-- of two times, either of which may be none, the earlier one
abbrev pub earlier : Option ℕ → Option ℕ → Option ℕ
earlier (Some a) (Some b) = Some (min a b)
earlier (Some a) None = Some a
earlier None other = other
