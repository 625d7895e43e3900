-- What the server tells its peer unasked: one notice is out at a time, and of each subject the newest waits (RFC 8855, sections 6.2, 8.2 and 8.3.1).
use Rattle.std.specs.Prelude.{ℕ, ◌+◌, ◌-◌, ◌%◌, ◌==◌, Bool, false, ◌&&◌, ◌||◌, true, List, [], ◌∷◌, ◌++◌, length, Option, Some, None, nat_le, nat_lt, slice_set, position, if◌then◌else◌}
use Rattle.floor_wire.specs.Message.{number_at}
use Rattle.floor_datagram.specs.Datagrams.{primitive_of}
use Rattle.floor_datagram.specs.Numbering.{steps_to}
use Rattle.floor_datagram.specs.Written.{raised, pieces}
use Rattle.floor_datagram.specs.Pace.{Pace, measured, due_after, first_pace, later}

-- ---- subjects

-- the two bytes at 14, where a FloorStatus has its floor and a FloorRequestStatus its floor request; 0 in a shorter message
abbrev pub subject_number : List ℕ → ℕ
subject_number m = if nat_lt (length m) 16 then 0 else number_at m 14

-- Both are of one subject: the same primitive, and the same floor or floor request.
abbrev pub is_same_subject : List ℕ → List ℕ → Bool
is_same_subject m n = (primitive_of m == primitive_of n) && (subject_number m == subject_number n)

-- a FloorStatus or a FloorRequestStatus that tells of something
abbrev pub has_subject : List ℕ → Bool
has_subject m = (primitive_of m == 4 || primitive_of m == 8) && nat_le 16 (length m)

-- with this message at the place of the one of its subject, or behind all
abbrev pub put_at : Option ℕ → List ℕ → List (List ℕ) → List (List ℕ)
put_at None m ms = ms ++ m ∷ []
put_at (Some place) m ms = slice_set ms place m

abbrev pub put : List ℕ → List (List ℕ) → List (List ℕ)
put m ms = put_at (position (λ n. is_same_subject m n) ms) m ms

-- ---- Transaction IDs

-- 0 is passed over.
abbrev pub not_zero : ℕ → ℕ
not_zero id = if id == 0 then 1 else id

-- 0 to 1,023 steps ahead of the ID that was taken last
abbrev pub is_near : Option ℕ → ℕ → Bool
is_near None id = false
is_near (Some last) id = nat_lt (steps_to id last) 1024

-- the ID of a notice, where this one would be next: one that is near is 16,384 more
abbrev pub fresh_id : Option ℕ → ℕ → ℕ
fresh_id last next = if is_near last (not_zero next) then not_zero ((not_zero next + 16384) % 65536) else not_zero next

-- ---- notices

-- the notice that is out: its ID, its datagrams, when it was first sent, how often it was sent, and its retransmission timer
pub record Out : Type 0 where
  pub id : ℕ
  pub datagrams : List (List ℕ)
  pub first : ℕ
  pub tries : ℕ
  pub t1 : ℕ

-- the ID that is next, the notice that is out, what waits, and the pace
pub record Notices : Type 0 where
  pub next : ℕ
  pub out : Option Out
  pub waiting : List (List ℕ)
  pub pace : Pace

-- what there is behind a call, and what the peer is sent
pub record Sends : Type 0 where
  pub after : Notices
  pub down : List (List ℕ)

abbrev pub keeps_still : Notices → Sends
keeps_still n = record { after = n; down = [] }

abbrev pub out_with : (limit id : ℕ) → List ℕ → (now t1 : ℕ) → Out
out_with limit id m now t1 = record { id = id; datagrams = pieces limit (raised false id m); first = now; tries = 1; t1 = t1 }

-- A notice is begun under this ID: it is out, and sent for the first time.
abbrev pub begun_as : (id : ℕ) → Notices → (limit now : ℕ) → List ℕ → Sends
begun_as id n limit now m = record {
  after = record { next = (id + 1) % 65536; out = Some (out_with limit id m now n.pace.t1); waiting = n.waiting; pace = n.pace };
  down = pieces limit (raised false id m);
}

abbrev pub begun : Notices → Option ℕ → (limit now : ℕ) → List ℕ → Sends
begun n last limit now m = begun_as (fresh_id last n.next) n limit now m

-- the first that waits is begun, where none is out
abbrev pub pumped_with : Option Out → List (List ℕ) → Notices → Option ℕ → (limit now : ℕ) → Sends
pumped_with (Some o) ms n last limit now = keeps_still n
pumped_with None [] n last limit now = keeps_still n
pumped_with None (m ∷ ms) n last limit now = begun (record n { waiting = ms }) last limit now m

abbrev pub pumped : Notices → Option ℕ → (limit now : ℕ) → Sends
pumped n last limit now = pumped_with n.out n.waiting n last limit now

-- A message waits at the place of its subject.
abbrev pub waits : Notices → List ℕ → Notices
waits n m = record n { waiting = put m n.waiting }

-- whether a notice is out
abbrev pub is_out : Option Out → Bool
is_out None = false
is_out (Some o) = true

-- An answer that has a subject waits too, where a notice is out.
abbrev pub crossed : Notices → List ℕ → Notices
crossed n m = if has_subject m && is_out n.out then waits n m else n

-- A message waits at the place of its subject, and is begun where none is out.
abbrev pub told : Notices → Option ℕ → (limit now : ℕ) → List ℕ → Sends
told n last limit now m = pumped (waits n m) last limit now

-- the pace behind an acknowledgement: only of what was sent once a time is measured
abbrev pub pace_with : Pace → Out → (now : ℕ) → Pace
pace_with p o now = if o.tries == 1 then measured p (now - o.first) else p

-- whether the one that is out has this ID
abbrev pub is_out_as : (id : ℕ) → Option Out → Bool
is_out_as id None = false
is_out_as id (Some o) = o.id == id

-- The one with this ID is out no more.
abbrev pub closed_with : Option Out → Notices → (now id : ℕ) → Notices
closed_with None n now id = n
closed_with (Some o) n now id = if o.id == id then record n { out = None; pace = pace_with n.pace o now } else n

-- An acknowledgement of the one that is out ends it, and the next is begun.
abbrev pub acknowledged : Notices → Option ℕ → (limit now id : ℕ) → Sends
acknowledged n last limit now id =
    if is_out_as id n.out then pumped (closed_with n.out n now id) last limit now else keeps_still n

-- whether the one that is out is due by now
abbrev pub is_due : Option Out → (now : ℕ) → Bool
is_due None now = false
is_due (Some o) now = nat_le (due_after o.t1 o.tries) (now - o.first)

-- whether it was sent four times, and is due again
abbrev pub is_lost : Option Out → (now : ℕ) → Bool
is_lost None now = false
is_lost (Some o) now = nat_le 4 o.tries && nat_le (due_after o.t1 o.tries) (now - o.first)

-- The one that is out is sent again, where it is due and was sent fewer than four times.
abbrev pub once_more : Out → Out
once_more o = record o { tries = o.tries + 1 }

abbrev pub again_with : Option Out → Notices → Sends
again_with None n = keeps_still n
again_with (Some o) n = record { after = record n { out = Some (once_more o) }; down = o.datagrams }

-- how often the one that is out was sent
abbrev pub tries_of : Option Out → ℕ
tries_of None = 0
tries_of (Some o) = o.tries

abbrev pub again : Notices → (now : ℕ) → Sends
again n now = if is_due n.out now && nat_lt (tries_of n.out) 4 then again_with n.out n else keeps_still n

-- Nothing waits any more, and what is out is given up.
abbrev pub given_up : Notices → Notices
given_up n = record n { out = None; waiting = [] }

abbrev pub first_notices : (first : ℕ) → Notices
first_notices first = record { next = (first + 32768) % 65536; out = None; waiting = []; pace = first_pace }

-- when the one that is out is due
abbrev pub due_of : Option Out → Option ℕ
due_of None = None
due_of (Some o) = Some (later o.first (due_after o.t1 o.tries))

-- What waits and what is out is given up, and a last notice is begun.
abbrev pub parted : Notices → Option ℕ → (limit now : ℕ) → List ℕ → Sends
parted n last limit now m = begun (given_up n) last limit now m
