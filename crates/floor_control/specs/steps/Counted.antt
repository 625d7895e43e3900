-- What is counted of the texts that wait.
use Rattle.std.specs.Prelude.{◌≡◌, ◌<◌, ◌^◌, ◌+◌, ℕ, List, [], ◌∷◌, length}
use Rattle.floor_control.specs.Outgoing.{Piece, answers_len, live_len}

-- no piece is empty
abbrev pub AreWhole : List Piece → Type 0
AreWhole [] = Unit {0}
AreWhole (p ∷ pieces) = (0 < length p.bytes) × AreWhole pieces

-- the counts are those of the pieces, and fit 64 bits
pub record IsCounted (pieces : List Piece) (answers live : ℕ) (held_back : List ℕ) : Type 0 where
  pub answers_count : answers ≡ answers_len pieces
  pub live_count : live ≡ live_len pieces
  pub answers_fit : answers < 2 ^ 63 + 262144
  pub live_fits : live + length held_back < 2 ^ 63 + 1048576
  pub whole : AreWhole pieces
