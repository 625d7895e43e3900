-- The exit status of what the server refuses.
use Rattle.std.specs.Prelude.{ℕ, ◌+◌, min, Option, Some, None, zero, suc}

-- ten and the error's number; of the errors that say that a request is none, which have no number of 1 or more, that of refused words
abbrev pub status_of : Option ℕ → ℕ
status_of None = 2
status_of (Some zero) = 2
status_of (Some (suc n)) = min (10 + suc n) 255
