-- Seats that ascend, by conference and by number.
use Rattle.std.specs.Prelude.{◌≡◌, ℕ, ◌<◌, ◌≤◌, List, length, slice_index_or}
use Rattle.floor_serve.specs.Seat.{Seat}

-- a seat is of a lower conference, or of a lower number of the same
pub record IsBefore (s t : Seat) : Type 0 where
  pub conference : s.conference ≤ t.conference
  pub number : s.conference ≡ t.conference → s.n < t.n

-- each seat stands behind those that are before it
abbrev pub Ascend : List Seat → Type 0
Ascend seats = (i j : ℕ) (d : Seat) → i < j → j < length seats → IsBefore (slice_index_or seats i d) (slice_index_or seats j d)

-- From this place on, up to another one, the seats are of the conference, and no other seat is.
pub record IsBlock (seats : List Seat) (conference from to : ℕ) : Type 0 where
  pub parts : from ≤ to
  pub within : to ≤ length seats
  pub others : (k : ℕ) (d : Seat) → k < length seats → (slice_index_or seats k d).conference ≡ conference → (from ≤ k) × (k < to)
