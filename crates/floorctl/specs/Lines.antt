-- The lines of the bytes that come from the server.
use Rattle.std.specs.Prelude.{◌≡◌, ℕ, ◌+◌, ◌==◌, List, take, drop, position, Option, Some, None}

-- how many bytes stand before the first line feed, where there is one
abbrev pub line_len : List ℕ → Option ℕ
line_len bytes = position (λ b. b == 10) bytes

-- a line is what stands before the first line feed, and what stands behind that is left; without one all is left
abbrev pub TakesAt : Option ℕ → (old : List ℕ) → (line : Option (List ℕ)) → (new : List ℕ) → Type 0
TakesAt (Some len) old line new = (line ≡ Some (take len old)) × (new ≡ drop (len + 1) old)
TakesAt None old line new = (line ≡ None) × (new ≡ old)

abbrev pub Takes : (old : List ℕ) → (line : Option (List ℕ)) → (new : List ℕ) → Type 0
Takes old line new = TakesAt (line_len old) old line new
