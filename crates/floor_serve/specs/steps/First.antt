-- The first place of a list of seats at which something isn't so.
use Rattle.std.specs.Prelude.{◌≡◌, ℕ, ◌<◌, ◌≤◌, List, length, take, slice_get, sum_by, All, IfSome, true}
use Rattle.floor_serve.specs.Booth.{Booth}
use Rattle.floor_serve.specs.Finish.{Agrees, AgreesWithAll, AreOneMember, AreWhole, Looked, numbers_of}
use Rattle.floor_serve.specs.Seat.{Seat}
use Rattle.floor_serve.specs.Table.{is_opened}

-- It is so at each place before this one, and not at this one, unless there is none.
pub record IsFirst (P : ℕ → Type 0) (count place : ℕ) : Type 0 where
  pub within : place ≤ count
  pub before : (k : ℕ) → k < place → P k
  pub fault : place < count → ¬ P place

-- the seat at a place agrees with this conference
abbrev pub AgreesAt : Booth → ℕ → List Seat → ℕ → Type 0
AgreesAt booth conference seats k = IfSome (slice_get seats k) (Agrees (record { conference = conference; booth = booth }))

-- its conference was opened
abbrev pub KnownAt : List ℕ → List Seat → ℕ → Type 0
KnownAt opened seats k = IfSome (slice_get seats k) (λ s. is_opened opened s.conference ≡ true)

-- no seat before it is of its member
abbrev pub SingleAt : List Seat → ℕ → Type 0
SingleAt seats k = IfSome (slice_get seats k) (λ s. All (λ t. ¬ AreOneMember t s) (take k seats))

-- the seat at a place agrees with each of these conferences
abbrev pub AgreesWithAllAt : List Looked → List Seat → ℕ → Type 0
AgreesWithAllAt looked seats k = IfSome (slice_get seats k) (AgreesWithAll looked)

-- These conferences were looked at: their journals have so many events, and the first seat that disagrees with one stands at this place.
pub record AllFound (opened : List ℕ) (seats : List Seat) (events unfit : ℕ) : Type 0 where
  pub looked : List Looked
  pub whole : AreWhole looked
  pub numbers_are : opened ≡ numbers_of looked
  pub events_are : events ≡ sum_by (λ l. length l.booth.ledger.journal) looked
  pub first : IsFirst (AgreesWithAllAt looked seats) (length seats) unfit
