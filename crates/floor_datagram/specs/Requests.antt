-- What a session does with its peer's datagrams, so that each request is taken once (RFC 8855, sections 8.1, 8.3.1 and 8.3.2).
use Rattle.std.specs.Prelude.{◌≡◌, ℕ, ◌+◌, ◌==◌, Bool, false, true, List, [], ◌∷◌, ◌++◌, length, Option, Some, None, nat_lt, if◌then◌else◌}
use Rattle.floor_datagram.specs.Datagrams.{id_of, primitive_of, kind_of}
use Rattle.floor_datagram.specs.Numbering.{age_of}
use Rattle.floor_datagram.specs.Written.{lowered, goodbye_ack, error, raised, pieces}
use Rattle.floor_datagram.specs.Fragments.{Fragments, none_held, placed, without, offset_of, fragment_of}
use Rattle.floor_datagram.specs.declared.kind.Kind.{Kind}
use Rattle.floor_datagram.specs.declared.kind.Kind.TheVariants as Kinds
use Rattle.floor_datagram.specs.declared.numbering.Age.{Age}
use Rattle.floor_datagram.specs.declared.numbering.Age.TheVariants.{Copy, Older, Newer}
use Rattle.floor_datagram.specs.declared.fragments.Fragment.{Fragment}
use Rattle.floor_datagram.specs.declared.fragments.Fragment.TheVariants as Fragment_is
use Rattle.floor_datagram.specs.declared.heard.Heard.{Heard}
use Rattle.floor_datagram.specs.declared.heard.Heard.TheVariants as Was

-- the Transaction ID that was taken last; the datagrams of its answer, none before there is one; the fragments that are held; and
-- whether the peer said Goodbye, or the session ended otherwise: then no request is taken
pub record Requests : Type 0 where
  pub last : Option ℕ
  pub answer : List (List ℕ)
  pub held : Fragments
  pub over : Bool

abbrev pub no_requests : Requests
no_requests = record { last = None; answer = []; held = none_held; over = false }

-- what a datagram does: what there is after it, what it was, what the server is sent, and what the peer is sent
pub record Effect : Type 0 where
  pub after : Requests
  pub heard : Heard
  pub up : List ℕ
  pub down : List (List ℕ)

-- only the peer is sent something
abbrev pub replied : Requests → List (List ℕ) → Effect
replied r down = record { after = r; heard = Was.Nothing; up = []; down = down }

abbrev pub silent : Requests → Effect
silent r = replied r []

-- the most bytes that wait for the server
abbrev pub max_waiting : ℕ
max_waiting = 65536

-- A request is sent to the server, unless too much waits for it: then it is dropped.
abbrev pub passed_on : Requests → (waiting : ℕ) → List ℕ → Effect
passed_on r waiting m =
    if nat_lt max_waiting (waiting + length m) then silent r
    else record { after = record { last = Some (id_of m); answer = []; held = r.held; over = r.over }; heard = Was.Request (primitive_of m); up = lowered m; down = [] }

-- A Goodbye is answered, and isn't sent to the server: the stream ends.
abbrev pub parted : Requests → List ℕ → Effect
parted r m = record {
  after = record { last = Some (id_of m); answer = goodbye_ack m ∷ []; held = none_held; over = true };
  heard = Was.Goodbye;
  up = [];
  down = goodbye_ack m ∷ [];
}

abbrev pub taken : Requests → (waiting : ℕ) → List ℕ → Effect
taken r waiting m = if primitive_of m == 16 then parted r m else passed_on r waiting m

-- A copy of the request that was taken last has its answer sent again; an older one is dropped; a newer one is taken.
abbrev pub asked : Age → Requests → (waiting : ℕ) → List ℕ → Effect
asked Copy r waiting m = replied r r.answer
asked Older r waiting m = silent r
asked Newer r waiting m = if r.over then silent r else taken r waiting m

-- what a whole message does
abbrev pub judged : Kind → Requests → (waiting : ℕ) → List ℕ → Effect
judged Kinds.Fragment r waiting m = silent r
judged Kinds.Misfit r waiting m = replied r (error 13 m ∷ [])
judged Kinds.Acknowledgement r waiting m = record { after = r; heard = Was.Acknowledgement (id_of m); up = []; down = [] }
judged Kinds.Request r waiting m = asked (age_of r.last (id_of m)) r waiting m
judged Kinds.Nothing r waiting m = silent r

-- A message that is whole is judged as if it had come whole.
abbrev pub put_together : Fragments → Option (List ℕ) → Requests → (waiting : ℕ) → Effect
put_together held None r waiting = silent (record r { held = held })
put_together held (Some m) r waiting = judged (kind_of m) (record r { held = held }) waiting m

-- Of the request that was taken last the first fragment has its answer sent again; of an older one it is dropped; else it is held.
abbrev pub aged : Age → Requests → (waiting now : ℕ) → List ℕ → Effect
aged Copy r waiting now d = replied r (if offset_of d == 0 then r.answer else [])
aged Older r waiting now d = silent r
aged Newer r waiting now d = if r.over then silent r else put_together (placed r.held now d).held (placed r.held now d).message r waiting

-- what a fragment does
abbrev pub parts : Fragment → Requests → (waiting now : ℕ) → List ℕ → Effect
parts Fragment_is.Nothing r waiting now d = silent r
parts Fragment_is.Beyond r waiting now d = replied (record r { held = without r.held d }) (error 13 d ∷ [])
parts Fragment_is.Part r waiting now d = aged (age_of r.last (id_of d)) r waiting now d

abbrev pub does : Kind → Requests → (waiting now : ℕ) → List ℕ → Effect
does Kinds.Fragment r waiting now d = parts (fragment_of d) r waiting now d
does Kinds.Misfit r waiting now d = judged Kinds.Misfit r waiting d
does Kinds.Acknowledgement r waiting now d = judged Kinds.Acknowledgement r waiting d
does Kinds.Request r waiting now d = judged Kinds.Request r waiting d
does Kinds.Nothing r waiting now d = judged Kinds.Nothing r waiting d

-- what a datagram does that comes at this time, where so many bytes wait for the server
abbrev pub effect : Requests → (waiting now : ℕ) → List ℕ → Effect
effect r waiting now d = does (kind_of d) r waiting now d

-- The effect took place.
pub record Took (e : Effect) (new : Requests) (heard : Heard) (up_old up_new : List ℕ) (down_old down_new : List (List ℕ)) : Type 0 where
  pub after : new ≡ e.after
  pub heard_is : heard ≡ e.heard
  pub up : up_new ≡ up_old ++ e.up
  pub down : down_new ≡ down_old ++ e.down

-- the datagrams of an answer of the server's
abbrev pub answer_of : (limit : ℕ) → List ℕ → List (List ℕ)
answer_of limit m = pieces limit (raised true (id_of m) m)

abbrev pub is_last : Option ℕ → ℕ → Bool
is_last None id = false
is_last (Some last) id = last == id

-- An answer to the request that was taken last is kept for its copies.
abbrev pub answered : Requests → (limit : ℕ) → List ℕ → Requests
answered r limit m = if is_last r.last (id_of m) then record r { answer = answer_of limit m } else r

-- No request is taken any more; fragments that are held are given up.
abbrev pub ended : Requests → Requests
ended r = record r { held = none_held; over = true }

abbrev pub forgotten : Requests → Requests
forgotten r = record r { held = none_held }

-- No request is taken any more; the one that was taken last is answered by this datagram.
abbrev pub refused_by : List ℕ → Requests → Requests
refused_by refusal r = record r { answer = refusal ∷ []; held = none_held; over = true }
