-- Fragments of a request, and how they are put together (RFC 8855, section 6.2.3).
use Rattle.std.specs.Prelude.{ℕ, ◌+◌, ◌*◌, ◌==◌, Bool, not, ◌&&◌, ◌||◌, List, [], ◌∷◌, ◌++◌, length, take, drop, Option, Some, None, option_map, unwrap_or, nat_eq, nat_lt, if◌then◌else◌}
use Rattle.std.specs.List.{insert, list_any, position}
use Rattle.std.specs.Cmp.Lexicographic.{pointwise}
use Rattle.floor_wire.specs.Message.{number_at, message_len}
use Rattle.floor_wire.specs.Header.{header_of}
use Rattle.floor_datagram.specs.declared.fragments.Fragment.{Fragment}
use Rattle.floor_datagram.specs.declared.fragments.Fragment.TheVariants.{Nothing, Beyond, Part}
use Rattle.floor_datagram.specs.declared.fragments.Range.{Range}

-- the Fragment Offset and the Fragment Length, in units of 4 bytes, and the bytes behind them
abbrev pub offset_of : List ℕ → ℕ
offset_of fragment = number_at fragment 12

abbrev pub units_of : List ℕ → ℕ
units_of fragment = number_at fragment 14

-- the Payload Length of the whole message, in units of 4 bytes
abbrev pub payload_of : List ℕ → ℕ
payload_of fragment = number_at fragment 2

abbrev pub body_of : List ℕ → List ℕ
body_of fragment = drop 16 fragment

-- the longest message that is put together, in bytes
abbrev pub max_request_len : ℕ
max_request_len = 8192

-- nothing: a response, or one that has no fields of a fragment or carries no unit; beyond: it passes the end of the payload, isn't
-- as long as its Fragment Length says, or is of a message that is too long; else a part of a message
abbrev pub fragment_of : List ℕ → Fragment
fragment_of d =
    if (header_of d).transaction_responder || nat_lt (length d) 16 || units_of d == 0 then Nothing
    else if nat_lt (payload_of d) (offset_of d + units_of d) || not (length d == 16 + 4 * units_of d) || nat_lt max_request_len (message_len d) then Beyond
    else Part

-- what the fragments of one message have in common: the header without its first byte
abbrev pub head_of : List ℕ → List ℕ
head_of fragment = take 11 (drop 1 fragment)

abbrev pub range_of : List ℕ → Range
range_of d = record { offset = offset_of d; units = units_of d; body = body_of d }

-- the fragments that are held, of one message, in the order of their offsets, and when the first of them came
pub record Fragments : Type 0 where
  pub head : List ℕ
  pub ranges : List Range
  pub since : ℕ

abbrev pub none_held : Fragments
none_held = record { head = []; ranges = []; since = 0 }

-- those that are held of this fragment's message, and since when
abbrev pub held_of : Fragments → List ℕ → List Range
held_of held d = if pointwise nat_eq held.head (head_of d) then held.ranges else []

abbrev pub since_of : Fragments → (now : ℕ) → List ℕ → ℕ
since_of held now d = if pointwise nat_eq held.head (head_of d) then held.since else now

abbrev pub is_same_range : List ℕ → Range → Bool
is_same_range d r = (r.offset == offset_of d) && (r.units == units_of d)

abbrev pub overlaps : List ℕ → Range → Bool
overlaps d r = nat_lt r.offset (offset_of d + units_of d) && nat_lt (offset_of d) (r.offset + r.units)

-- it begins at this offset or behind it
abbrev pub is_from : (offset : ℕ) → Range → Bool
is_from offset r = not (nat_lt r.offset offset)

-- where those from an offset on begin
abbrev pub place_of : (offset : ℕ) → List Range → ℕ
place_of offset ranges = unwrap_or (position (λ r. is_from offset r) ranges) (length ranges)

-- with this fragment, before the first that begins at its offset or behind it
abbrev pub with_range : List ℕ → List Range → List Range
with_range d ranges = insert ranges (place_of (offset_of d) ranges) (range_of d)

-- the payload from this unit to that one, if the ranges make it up, each beginning where the one before ends
abbrev pub joined : (at end : ℕ) → List Range → Option (List ℕ)
joined at end [] = if at == end then Some [] else None
joined at end (r ∷ rs) = if r.offset == at then option_map (λ rest. r.body ++ rest) (joined (r.offset + r.units) end rs) else None

-- what is held then, and the message, if it is whole: version 2, R and F clear
pub record Placed : Type 0 where
  pub held : Fragments
  pub message : Option (List ℕ)

abbrev pub whole_of : List ℕ → (since : ℕ) → Option (List ℕ) → List Range → Placed
whole_of d since None ranges = record { held = record { head = head_of d; ranges = ranges; since = since }; message = None }
whole_of d since (Some payload) ranges = record { held = none_held; message = Some (0x40 ∷ (head_of d ++ payload)) }

-- A range that is held already is passed over; one that overlaps another in part drops the message; else it is held.
abbrev pub placed_in : List ℕ → (since : ℕ) → List Range → Placed
placed_in d since ranges =
    if list_any (λ r. is_same_range d r) ranges then record { held = record { head = head_of d; ranges = ranges; since = since }; message = None }
    else if list_any (λ r. overlaps d r) ranges then record { held = none_held; message = None }
    else whole_of d since (joined 0 (payload_of d) (with_range d ranges)) (with_range d ranges)

abbrev pub placed : Fragments → (now : ℕ) → List ℕ → Placed
placed held now d = placed_in d (since_of held now d) (held_of held d)

-- without what is held of this fragment's message
abbrev pub without : Fragments → List ℕ → Fragments
without held d = if pointwise nat_eq held.head (head_of d) then none_held else held

-- when the first of those that are held came
abbrev pub held_since : Fragments → Option ℕ
held_since held = if length held.ranges == 0 then None else Some held.since
