-- What comes from a client and goes out to it, as one stream of bytes.
use Rattle.std.specs.Prelude.{◌≡◌, ◌≤◌, ℕ, Bool, true, false, List, ◌∷◌, ◌++◌, length, drop, flat_map}
use Rattle.std.specs.List.{list_any}
use Rattle.floor_control.specs.Incoming.{Incoming, is_line_feed, next_of, rest_of, took_in}
use Rattle.floor_control.specs.Outgoing.{Outgoing, Piece, first_bytes, is_over, wrote, answered as answer, ended_answer as end, told as tell}
use Rattle.floor_control.specs.declared.incoming.Next.{Next}
use Rattle.floor_control.specs.declared.incoming.Next.TheVariants.{Line, NotText, TooLong, Nothing, Ended}

-- a line comes, whether it is UTF-8 or not
abbrev pub is_line : Next → Bool
is_line (Line line) = true
is_line (NotText len) = true
is_line TooLong = false
is_line Nothing = false
is_line Ended = false

pub record LinesStay : Type 0 where
  -- a line that comes next is the same whatever comes behind it, and what comes stands behind what is left
  pub next : (i : Incoming) (more : List ℕ) → is_line (next_of i) ≡ true → next_of (took_in more i) ≡ next_of i
  pub rest : (i : Incoming) (more : List ℕ) → is_line (next_of i) ≡ true → rest_of (took_in more i) ≡ took_in more (rest_of i)
  -- what was held is the line, its line feed, and what is left; no line feed is in the line
  pub front : (i : Incoming) (line : List ℕ) → next_of i ≡ Line line → i.held ≡ line ++ 10 ∷ (rest_of i).held
  pub whole : (i : Incoming) (line : List ℕ) → next_of i ≡ Line line → list_any is_line_feed line ≡ false

-- the bytes of texts, one behind another
abbrev pub all_bytes : List Piece → List ℕ
all_bytes pieces = flat_map (λ p. p.bytes) pieces

pub record TextsGoOutInOrder : Type 0 where
  -- a text of an answer stands behind all that waits, and so does live text that doesn't come within an answer
  pub answered : (text : List ℕ) (o : Outgoing) → all_bytes (answer text o).waiting ≡ all_bytes o.waiting ++ text
  pub told : (text : List ℕ) (o : Outgoing) → is_over o ≡ false → o.is_answering ≡ false → all_bytes (tell text o).waiting ≡ all_bytes o.waiting ++ text
  -- what comes within one is held back, in order, and stands behind the whole answer
  pub held_back : (text : List ℕ) (o : Outgoing) → is_over o ≡ false → o.is_answering ≡ true → tell text o ≡ record o { held_back = o.held_back ++ text }
  pub ended : (o : Outgoing) → all_bytes (end o).waiting ≡ all_bytes o.waiting ++ o.held_back
  -- what was written is the front of what waited
  pub written : (count : ℕ) (o : Outgoing) → count ≤ length (first_bytes o.waiting) → all_bytes (wrote count o).waiting ≡ drop count (all_bytes o.waiting)
