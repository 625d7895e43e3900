-- The HelloAck of version 2, which lists the primitives that acknowledge and Goodbye too (RFC 8855, sections 5.2.10 and 13.7).
use Rattle.std.specs.Prelude.{ℕ, ◌+◌, ◌-◌, ◌/◌, ◌==◌, Bool, ◌&&◌, List, ◌∷◌, ◌++◌, length, take, drop, nat_le, nat_lt, slice_index, if◌then◌else◌}
use Rattle.std.specs.Int.{w16, to_be_bytes}
use Rattle.floor_wire.specs.Message.{number_at}
use Rattle.floor_datagram.specs.Datagrams.{primitive_of}

-- the Length of the attribute at the front of a message
abbrev pub front_len : List ℕ → ℕ
front_len m = slice_index m 13

-- a HelloAck that begins with SUPPORTED-PRIMITIVES, which has room for four more
abbrev pub lists_primitives : List ℕ → Bool
lists_primitives m =
    (primitive_of m == 12) && nat_le 14 (length m) && (slice_index m 12 / 2 == 11) && nat_le 2 (front_len m) && nat_lt (front_len m) 252
    && nat_le (12 + front_len m) (length m) && nat_lt (number_at m 2) 65535

-- Behind the primitives that it lists stand FloorRequestStatusAck, FloorStatusAck, Goodbye and GoodbyeAck: four bytes, so that the
-- padding stays as it is.
abbrev pub extended : List ℕ → List ℕ
extended m =
    if lists_primitives m
    then take 2 m ++ to_be_bytes w16 (number_at m 2 + 1) ++ take 9 (drop 4 m) ++ (front_len m + 4) ∷ (take (front_len m - 2) (drop 14 m)
    ++ 14 ∷ 15 ∷ 16 ∷ 17 ∷ drop (12 + front_len m) m)
    else m
