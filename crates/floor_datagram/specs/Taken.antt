-- What a session took of what came: each request once, in order (RFC 8855, sections 6.2.3, 8.1 and 8.3.2).
use Rattle.std.specs.Prelude.{◌≡◌, ℕ, ◌==◌, List, [], ◌∷◌, ◌++◌, drop, Option, Some, None, ◌⊎◌, if◌then◌else◌}
use Rattle.std.specs.List.{AllByRecursion, flat_map}
use Rattle.floor_datagram.specs.Datagrams.{id_of, primitive_of}
use Rattle.floor_datagram.specs.Numbering.{age_of}
use Rattle.floor_datagram.specs.Written.{lowered}
use Rattle.floor_datagram.specs.Fragments.{fragment_of, head_of, range_of, payload_of, joined}
use Rattle.floor_datagram.specs.Requests.{Requests}
use Rattle.floor_datagram.specs.declared.fragments.Fragment.TheVariants.{Part}
use Rattle.floor_datagram.specs.declared.fragments.Range.{Range}
use Rattle.floor_datagram.specs.declared.numbering.Age.TheVariants.{Newer}

-- the datagram came
abbrev pub IsAmong : List (List ℕ) → List ℕ → Type 0
IsAmong [] d = ⊥
IsAmong (c ∷ came) d = (d ≡ c) ⊎ IsAmong came d

-- a fragment came that carries this range of the message with this header, but for its first byte
pub record Carries (came : List (List ℕ)) (head : List ℕ) (range : Range) : Type 0 where
  pub fragment : List ℕ
  pub among : IsAmong came fragment
  pub part : fragment_of fragment ≡ Part
  pub head_is : head_of fragment ≡ head
  pub range_is : range_of fragment ≡ range

-- fragments of this message came, and make up its payload, each beginning where the one before ends
pub record IsPutTogether (came : List (List ℕ)) (m : List ℕ) : Type 0 where
  pub ranges : List Range
  pub carried : AllByRecursion (Carries came (head_of m)) ranges
  pub payload : joined 0 (payload_of m) ranges ≡ Some (drop 12 m)

-- the message came, whole or in fragments
abbrev pub IsMadeOf : List (List ℕ) → List ℕ → Type 0
IsMadeOf came m = IsAmong came m ⊎ IsPutTogether came m

-- each is newer than the one before, the first than this one
abbrev pub Ascends : Option ℕ → List (List ℕ) → Type 0
Ascends last [] = Unit {0}
Ascends last (m ∷ ms) = (age_of last (id_of m) ≡ Newer) × Ascends (Some (id_of m)) ms

-- the Transaction ID of the last
abbrev pub last_id : Option ℕ → List (List ℕ) → Option ℕ
last_id last [] = last
last_id last (m ∷ ms) = last_id (Some (id_of m)) ms

-- what the server is sent of a request: a Goodbye isn't sent
abbrev pub sent_of : List ℕ → List ℕ
sent_of m = if primitive_of m == 16 then [] else lowered m

-- Of the datagrams that came these requests were taken, each newer than the one before; the server was sent what they ask, in
-- order, and nothing else; and what is held of a message came.
pub record Carried (came : List (List ℕ)) (up : List ℕ) (r : Requests) : Type 0 where
  pub taken : List (List ℕ)
  pub made : AllByRecursion (IsMadeOf came) taken
  pub ascend : Ascends None taken
  pub last : r.last ≡ last_id None taken
  pub sent : up ≡ flat_map (λ m. sent_of m) taken
  pub held : AllByRecursion (Carries came r.held.head) r.held.ranges

-- What was carried so far and what a call adds to it is what is carried of the datagrams with these behind them.
abbrev pub KeepsCarried : (more : List (List ℕ)) → (old new : Requests) → (up_old up_new : List ℕ) → Type 0
KeepsCarried more old new up_old up_new =
    (came : List (List ℕ)) (up : List ℕ) → Carried came up old
    → (added : List ℕ) × (up_new ≡ up_old ++ added) × Carried (came ++ more) (up ++ added) new
