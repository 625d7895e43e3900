-- Of each subject the newest is told (RFC 8855, sections 6.2, 13.1.2 and 13.5.2).
use Rattle.std.specs.Prelude.{◌≡◌, ℕ, List, [], ◌∷◌, take, Option, Some, None, if◌then◌else◌}
use Rattle.floor_datagram.specs.Notices.{Notices, Out, is_same_subject, is_out_as}

-- the first of these messages that is of this one's subject
abbrev pub first_of : List ℕ → List (List ℕ) → Option (List ℕ)
first_of q [] = None
first_of q (m ∷ ms) = if is_same_subject q m then Some m else first_of q ms

-- a value, or else another
abbrev pub or_else : Option (List ℕ) → Option (List ℕ) → Option (List ℕ)
or_else (Some m) other = Some m
or_else None other = other

-- the last of these messages that is of this one's subject
abbrev pub newest_of : List ℕ → List (List ℕ) → Option (List ℕ)
newest_of q [] = None
newest_of q (m ∷ ms) = or_else (newest_of q ms) (if is_same_subject q m then Some m else None)

-- of each subject one message at most
abbrev pub IsDistinct : List (List ℕ) → Type 0
IsDistinct [] = Unit {0}
IsDistinct (m ∷ ms) = (first_of m ms ≡ None) × IsDistinct ms

-- Of each subject the newest message that the server said waits, or else it is the last that the peer was told; and while none is
-- out none waits.
pub record IsNewest (said told : List (List ℕ)) (n : Notices) : Type 0 where
  pub newest : (q : List ℕ) → newest_of q said ≡ or_else (first_of q n.waiting) (newest_of q told)
  pub distinct : IsDistinct n.waiting
  pub idle : n.out ≡ None → n.waiting ≡ []

-- what is begun where none is out: the first that waits
abbrev pub beginning : Option Out → List (List ℕ) → List (List ℕ)
beginning (Some o) waiting = []
beginning None waiting = take 1 waiting

-- what is begun behind an acknowledgement with this ID
abbrev pub begun_behind : (id : ℕ) → Notices → List (List ℕ)
begun_behind id n = if is_out_as id n.out then take 1 n.waiting else []
