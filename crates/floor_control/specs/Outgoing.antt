-- The texts that go out to a client, in order.
use Rattle.std.specs.Prelude.{ℕ, ◌+◌, ◌&&◌, Bool, true, false, not, nat_le, nat_eq, if◌then◌else◌, List, [], ◌∷◌, ◌++◌, length, drop, sum_by}

-- a text that waits to be written, or what is left of it
pub record Piece : Type 0 where
  pub is_live : Bool
  pub bytes : List ℕ

-- what waits to be written, whether an answer was begun and isn't ended, and the live text that waits for its end
pub record Outgoing : Type 0 where
  pub waiting : List Piece
  pub is_answering : Bool
  pub held_back : List ℕ

-- a text behind the others; an empty one is none
abbrev pub put : Bool → List ℕ → List Piece → List Piece
put is_live [] pieces = pieces
put is_live (b ∷ text) pieces = pieces ++ record { is_live = is_live; bytes = b ∷ text } ∷ []

-- an answer begins with a text, or goes on with it
abbrev pub answered : List ℕ → Outgoing → Outgoing
answered text o = record o { waiting = put false text o.waiting; is_answering = true }

-- an answer ends, and what was held back stands behind it
abbrev pub ended_answer : Outgoing → Outgoing
ended_answer o = record { waiting = put true o.held_back o.waiting; is_answering = false; held_back = [] }

-- how many bytes of answers wait
abbrev pub answer_bytes : Piece → ℕ
answer_bytes p = if p.is_live then 0 else length p.bytes

abbrev pub answers_len : List Piece → ℕ
answers_len pieces = sum_by answer_bytes pieces

-- how many bytes of live text wait
abbrev pub live_bytes : Piece → ℕ
live_bytes p = if p.is_live then length p.bytes else 0

abbrev pub live_len : List Piece → ℕ
live_len pieces = sum_by live_bytes pieces

-- so much of answers waits, 256 KiB, that no more is taken
abbrev pub is_full : Outgoing → Bool
is_full o = nat_le 262144 (answers_len o.waiting)

-- too much live text waits, 1 MiB
abbrev pub is_over : Outgoing → Bool
is_over o = nat_le 1048576 (live_len o.waiting + length o.held_back)

-- live text goes behind what waits, and within an answer waits for its end; none is taken where too much waits
abbrev pub told : List ℕ → Outgoing → Outgoing
told text o =
    if is_over o then o
    else if o.is_answering then record o { held_back = o.held_back ++ text }
    else record o { waiting = put true text o.waiting }

-- the bytes that are to be written next
abbrev pub first_bytes : List Piece → List ℕ
first_bytes [] = []
first_bytes (p ∷ pieces) = p.bytes

-- the first text is live
abbrev pub is_live : List Piece → Bool
is_live [] = false
is_live (p ∷ pieces) = p.is_live

-- what is left of the first text, unless nothing is
abbrev pub left_of : Bool → List ℕ → List Piece → List Piece
left_of is_live [] pieces = pieces
left_of is_live (b ∷ bytes) pieces = record { is_live = is_live; bytes = b ∷ bytes } ∷ pieces

-- what waits where so many of the first bytes were written
abbrev pub written : ℕ → List Piece → List Piece
written count [] = []
written count (p ∷ pieces) = left_of p.is_live (drop count p.bytes) pieces

abbrev pub wrote : ℕ → Outgoing → Outgoing
wrote count o = record o { waiting = written count o.waiting }

-- nothing waits, and no answer was begun
abbrev pub is_idle : Outgoing → Bool
is_idle o = nat_eq (length o.waiting) 0 && (nat_eq (length o.held_back) 0 && not o.is_answering)
