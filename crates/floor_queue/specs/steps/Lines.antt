-- The ongoing requests of each floor in one line: those that hold it, then those that wait in their order, then the rest.
use Rattle.std.specs.Prelude.{◌≡◌, ℕ, ◌==◌, nat_lt, Bool, true, false, not, ◌&&◌, if◌then◌else◌, List, [], ◌∷◌, map, count_by, find, take, length, All, Option, Some, None, ◌+◌}
use Rattle.std.specs.List.{list_all, list_any, position_or_len}
use Rattle.std.specs.Option.{option_map_or}
use Rattle.floor_config.specs.declared.floors.Floor.{Floor}
use Rattle.floor_queue.specs.declared.index.rank.Rank.{Rank}
use Rattle.floor_queue.specs.declared.request.Request.{Request}
use Rattle.floor_queue.specs.Order.{names, waits, is_due, is_express, room_of}
use Rattle.floor_queue.specs.Queue.{is_ascending, request_at, without_chair}

-- what the place of a request in its lines goes by
unfoldable pub rank_of : List Floor → Request → Rank
rank_of floors r =
    record { is_granted = r.is_granted; waits = waits r; is_express = is_express floors r; priority = r.priority; number = r.number }

-- the one of which the mark stands is first, and t says which where both have it or neither
abbrev pub first_by : Bool → Bool → Bool → Bool
first_by a b t = if a then (if b then t else true) else (if b then false else t)

-- the higher priority is first, then the lower number
abbrev pub first_by_priority : Rank → Rank → Bool
first_by_priority a b =
    if a.priority == b.priority then nat_lt a.number b.number else nat_lt b.priority a.priority

-- whoever holds is first, then whoever waits, then the express one, then the one of higher priority or lower number
unfoldable pub before : Rank → Rank → Bool
before a b =
    first_by a.is_granted b.is_granted (first_by a.waits b.waits (first_by a.is_express b.is_express (first_by_priority a b)))

-- how many of the first ranks are before x
abbrev pub place_in : Rank → List Rank → ℕ
place_in x xs = position_or_len (λ k. not (before k x)) xs

-- the ranks with x before the first that isn't before it
abbrev pub with_rank : Rank → List Rank → List Rank
with_rank x [] = x ∷ []
with_rank x (y ∷ ys) = if before y x then y ∷ with_rank x ys else x ∷ y ∷ ys

-- the ranks without the first that isn't before x
abbrev pub without_rank : Rank → List Rank → List Rank
without_rank x [] = []
without_rank x (y ∷ ys) = if before y x then y ∷ without_rank x ys else ys

-- the ranks with y in the stead of x, where x stands among them
abbrev pub moved_rank : Rank → Rank → List Rank → List Rank
moved_rank x y xs = if nat_lt (place_in x xs) (length xs) then with_rank y (without_rank x xs) else xs

-- no rank is before an earlier one
abbrev pub is_in_order : List Rank → Bool
is_in_order [] = true
is_in_order (x ∷ xs) = list_all (λ k. not (before k x)) xs && is_in_order xs

-- a floor, the ranks of the requests that name it, and whether one of them came, changed or ended since the last settling
pub record FloorLine : Type 0 where
  pub floor : ℕ
  pub ranks : List Rank
  pub is_marked : Bool

abbrev pub empty_line : Floor → FloorLine
empty_line f = record { floor = f.id; ranks = []; is_marked = false }

abbrev pub emptied : FloorLine → FloorLine
emptied l = record l { ranks = []; is_marked = false }

-- the line after r, whose rank is x, was added
abbrev pub added : Request → Rank → FloorLine → FloorLine
added r x l = if names r l.floor then record l { ranks = with_rank x l.ranks } else l

-- the line after r, whose rank was x, was taken out
abbrev pub taken : Request → Rank → FloorLine → FloorLine
taken r x l = if names r l.floor then record l { ranks = without_rank x l.ranks } else l

-- the line after the rank of r became y, which was x
abbrev pub moved : Request → Rank → Rank → FloorLine → FloorLine
moved r x y l = if names r l.floor then record l { ranks = moved_rank x y l.ranks } else l

-- the line after r came, changed or ended
abbrev pub marked : Request → FloorLine → FloorLine
marked r l = if names r l.floor then record l { is_marked = true } else l

-- the line of which each request may be due
abbrev pub with_mark : FloorLine → FloorLine
with_mark l = record l { is_marked = true }

-- the line after the requests were settled
abbrev pub unmarked : FloorLine → FloorLine
unmarked l = record l { is_marked = false }

-- the floor is marked
abbrev pub has_mark : List FloorLine → ℕ → Bool
has_mark lines floor = list_any (λ l. l.floor == floor && l.is_marked) lines

-- one of the floors of r is marked
abbrev pub names_marked : List FloorLine → Request → Bool
names_marked lines r = list_any (λ f. has_mark lines f.floor) r.floors

-- no request is due of which no floor is marked
abbrev pub AreMarked : List Floor → List Request → List FloorLine → Type 0
AreMarked floors rs lines = count_by (λ r. is_due floors rs r && not (names_marked lines r)) rs ≡ 0

-- a line is in order, and has as many ranks under each test as requests that name the floor
pub record IsLine (floors : List Floor) (rs : List Request) (l : FloorLine) : Type 0 where
  pub in_order : is_in_order l.ranks ≡ true
  pub counts : (p : Rank → Bool) → count_by p l.ranks ≡ count_by (λ r. names r l.floor && p (rank_of floors r)) rs

-- each floor has its line
pub record AreLines (floors : List Floor) (rs : List Request) (lines : List FloorLine) : Type 0 where
  pub floors_same : map (λ (l : FloorLine). l.floor) lines ≡ map (λ (f : Floor). f.id) floors
  pub each : All (IsLine floors rs) lines

-- r after this floor lost its chair, if one did
abbrev pub without_lost : Option ℕ → Request → Request
without_lost None r = r
without_lost (Some floor) r = without_chair floor r

-- A line while a floor's chair changes: the first of the requests have their ranks by the floors of now, and the rest by those of before.
pub record IsChangingLine (before_floors floors : List Floor) (first rest : List Request) (l : FloorLine) : Type 0 where
  pub in_order : is_in_order l.ranks ≡ true
  pub counts : (p : Rank → Bool) → count_by p l.ranks
      ≡ count_by (λ r. names r l.floor && p (rank_of floors r)) first + count_by (λ r. names r l.floor && p (rank_of before_floors r)) rest

-- each floor has its line, while a floor's chair changes
pub record AreChangingLines (before_floors floors : List Floor) (first rest : List Request) (lines : List FloorLine) : Type 0 where
  pub floors_same : map (λ (l : FloorLine). l.floor) lines ≡ map (λ (f : Floor). f.id) before_floors
  pub each : All (IsChangingLine before_floors floors first rest) lines

-- the floor has a place for the rank within its room: never, where it has no line
abbrev pub has_place : List Floor → List FloorLine → Rank → ℕ → Bool
has_place floors lines x floor =
    option_map_or (λ l. nat_lt (place_in x l.ranks) (room_of floors floor)) (find (λ l. l.floor == floor) lines) false

-- r waits, and each of its floors has a place for it
abbrev pub is_due_in : List Floor → List FloorLine → Request → Bool
is_due_in floors lines r = waits r && list_all (λ f. has_place floors lines (rank_of floors r) f.floor) r.floors

-- the request with this number is due
abbrev pub is_number_due : List Floor → List FloorLine → List Request → ℕ → Bool
is_number_due floors lines rs number = option_map_or (is_due_in floors lines) (request_at rs number) false

-- the line is marked, and one of its first requests, as many as the floor has room for, is due
abbrev pub line_has_due : List Floor → List FloorLine → List Request → FloorLine → Bool
line_has_due floors lines rs l =
    l.is_marked && list_any (λ k. k.waits && is_number_due floors lines rs k.number) (take (room_of floors l.floor) l.ranks)

-- the rank is that of a request that waits, is due, and has a number that passes t
abbrev pub rank_shows : List Floor → List FloorLine → List Request → (ℕ → Bool) → Rank → Bool
rank_shows floors lines rs t k = k.waits && (is_number_due floors lines rs k.number && t k.number)

-- the line is marked, and shows such a rank among its first ones, as many as the floor has room for
abbrev pub line_shows : List Floor → List FloorLine → List Request → (ℕ → Bool) → FloorLine → Bool
line_shows floors lines rs t l = l.is_marked && list_any (rank_shows floors lines rs t) (take (room_of floors l.floor) l.ranks)

-- The requests by ascending number, and their lines.
pub record IsLined (floors : List Floor) (rs : List Request) (lines : List FloorLine) : Type 0 where
  pub ascending : is_ascending rs ≡ true
  pub lined : AreLines floors rs lines
  pub marks : AreMarked floors rs lines

-- the request with this number stands in the line of the floor
abbrev pub is_lined : List FloorLine → ℕ → ℕ → Bool
is_lined lines number floor = option_map_or (λ l. list_any (λ k. k.number == number) l.ranks) (find (λ l. l.floor == floor) lines) false
