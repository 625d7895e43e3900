-- The floor requests of its own that a user has ongoing: the last FloorRequestStatus of each (RFC 8855, sections 5.2.5 and 13.1.2).
use Rattle.std.specs.Prelude.{ℕ, ◌==◌, Bool, not, ◌&&◌, ◌||◌, List, [], ◌∷◌, ◌++◌, length, Option, Some, None, nat_lt, slice_index, position, is_some, if◌then◌else◌}
use Rattle.std.specs.List.{remove}
use Rattle.floor_datagram.specs.Datagrams.{id_of, primitive_of}
use Rattle.floor_datagram.specs.Requests.{is_last}
use Rattle.floor_datagram.specs.Notices.{is_same_subject}

-- a FloorRequestStatus with a status, which stands at 22
abbrev pub has_status : List ℕ → Bool
has_status m = (primitive_of m == 4) && nat_lt 22 (length m)

-- Pending, Accepted or Granted
abbrev pub is_ongoing : List ℕ → Bool
is_ongoing m = nat_lt (slice_index m 22) 4

-- where the one of this message's floor request stands
abbrev pub place_in : List ℕ → List (List ℕ) → Option ℕ
place_in m own = position (λ n. is_same_subject m n) own

abbrev pub removed : Option ℕ → List (List ℕ) → List (List ℕ)
removed None own = own
removed (Some place) own = remove own place

-- It tells of a request of the user's own: it is a notice, tells of one that is known, or answers a FloorRequest.
abbrev pub is_own_at : (last : Option ℕ) (asked : ℕ) → (place : Option ℕ) → List ℕ → Bool
is_own_at last asked place m = id_of m == 0 || is_some place || (is_last last (id_of m) && (asked == 1))

abbrev pub is_own : (last : Option ℕ) (asked : ℕ) → List (List ℕ) → List ℕ → Bool
is_own last asked own m = is_own_at last asked (place_in m own) m

-- the own ongoing requests behind this message: the latest last
abbrev pub own_after : (last : Option ℕ) (asked : ℕ) → List (List ℕ) → List ℕ → List (List ℕ)
own_after last asked own m =
    if not (has_status m) then own
    else if not (is_own last asked own m) then own
    else if is_ongoing m then removed (place_in m own) own ++ m ∷ []
    else removed (place_in m own) own
