-- How long a notice waits for its acknowledgement, in milliseconds (RFC 8855, section 8.3.1; RFC 6298).
use Rattle.std.specs.Prelude.{ℕ, ◌+◌, ◌-◌, ◌*◌, ◌/◌, ◌^◌, max, min, Option, Some, None}

-- the smoothed time from a notice to its acknowledgement, and how much it varies
pub record Round : Type 0 where
  pub smoothed : ℕ
  pub variation : ℕ

-- what was measured, if anything was, and the request retransmission timer, after which a notice is sent again
pub record Pace : Type 0 where
  pub round : Option Round
  pub t1 : ℕ

abbrev pub first_pace : Pace
first_pace = record { round = None; t1 = 500 }

-- the longest retransmission timer
abbrev pub max_t1 : ℕ
max_t1 = 60000

-- how far apart two times are
abbrev pub apart : ℕ → ℕ → ℕ
apart a b = (a - b) + (b - a)

-- The first time counts whole, each later one an eighth, and a quarter for the variation.
abbrev pub round_with : Option Round → ℕ → Round
round_with None time = record { smoothed = time; variation = time / 2 }
round_with (Some r) time = record { smoothed = (7 * r.smoothed + time) / 8; variation = (3 * r.variation + apart r.smoothed time) / 4 }

-- the retransmission timer: the round trip and four times what it varies by, 100 at least; 500 at least, and a minute at most
abbrev pub t1_of : Round → ℕ
t1_of r = min max_t1 (max 500 (r.smoothed + max 100 (4 * r.variation)))

-- An acknowledgement came so long after a notice that was sent once.
abbrev pub measured : Pace → (time : ℕ) → Pace
measured p time = let round = round_with p.round (min max_t1 time) in record { round = Some round; t1 = t1_of round }

-- how long an answer is kept, and fragments are held: 20 times the retransmission timer, ten seconds at least
abbrev pub t2_of : (t1 : ℕ) → ℕ
t2_of t1 = max 10000 (20 * t1)

-- how long after it was sent first a notice is due that was sent so often: 1, 3, 7 and 15 times the retransmission timer
abbrev pub due_after : (t1 tries : ℕ) → ℕ
due_after t1 tries = t1 * (2 ^ tries - 1)

-- so many milliseconds later, as far as a clock goes
abbrev pub later : (time millis : ℕ) → ℕ
later time millis = min (time + millis) 18446744073709551615
