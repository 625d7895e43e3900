-- The end: what every seat recorded, against the journals of the conferences.
use Rattle.std.specs.Prelude.{◌≡◌, ℕ, ◌<◌, List, [], ◌∷◌, ◌++◌, length, map, take, sum_by, slice_get, All, IfSome, Some, true, false, Result, Ok, Err}
use Rattle.floor_serve.specs.Booth.{Booth, IsBooth}
use Rattle.floor_serve.specs.Fits.{messages_of}
use Rattle.floor_serve.specs.Seat.{Seat}
use Rattle.floor_serve.specs.Table.{is_opened}
use Rattle.floor_serve.specs.declared.fault.FinishFault.{FinishFault}
use Rattle.floor_serve.specs.declared.end.finish.Report.{Report}

-- a conference as it stood in one hold of its lock
pub record Looked : Type 0 where
  pub conference : ℕ
  pub booth : Booth

abbrev pub numbers_of : List Looked → List ℕ
numbers_of looked = map (λ l. l.conference) looked

-- each keeps what every booth keeps, and no event was broken off
abbrev pub AreWhole : List Looked → Type 0
AreWhole [] = Unit {0}
AreWhole (l ∷ looked) = IsBooth l.booth × (l.booth.ledger.is_broken ≡ false) × AreWhole looked

-- if the seat is one of this conference, its record is all that the journal has of its member
abbrev pub Agrees : Looked → Seat → Type 0
Agrees l s = s.conference ≡ l.conference → s.sent ≡ messages_of l.booth.ledger.journal s.n

-- the same of each conference
abbrev pub AgreesWithAll : List Looked → Seat → Type 0
AgreesWithAll [] s = Unit {0}
AgreesWithAll (l ∷ looked) s = Agrees l s × AgreesWithAll looked s

-- two seats are of one member
abbrev pub AreOneMember : Seat → Seat → Type 0
AreOneMember s t = (s.conference ≡ t.conference) × (s.n ≡ t.n)

-- The seat at this place fits: its conference was opened, its record is what the journal has of its member, and no seat before it is of that member.
pub record IsGood (looked : List Looked) (seats : List Seat) (k : ℕ) : Type 0 where
  pub known : IfSome (slice_get seats k) (λ s. is_opened (numbers_of looked) s.conference ≡ true)
  pub agrees : IfSome (slice_get seats k) (AgreesWithAll looked)
  pub single : IfSome (slice_get seats k) (λ s. All (λ t. ¬ AreOneMember t s) (take k seats))

-- Every seat fits, and these are their number and that of all events.
pub record IsReport (looked : List Looked) (seats : List Seat) (report : Report) : Type 0 where
  pub good : (k : ℕ) → k < length seats → IsGood looked seats k
  pub seats_are : report.seats ≡ length seats
  pub events_are : report.events ≡ sum_by (λ l. length l.booth.ledger.journal) looked

-- The first seat that doesn't fit is this member's.
pub record IsMismatch (looked : List Looked) (seats : List Seat) (conference n : ℕ) : Type 0 where
  pub place : ℕ
  pub seat : Seat
  pub stands : slice_get seats place ≡ Some seat
  pub conference_is : seat.conference ≡ conference
  pub n_is : seat.n ≡ n
  pub before : (j : ℕ) → j < place → IsGood looked seats j
  pub fault : ¬ IsGood looked seats place

-- The first conference that is broken off is this one.
pub record IsBroken (opened : List ℕ) (looked : List Looked) (conference : ℕ) : Type 0 where
  pub rest : List ℕ
  pub parts : opened ≡ numbers_of looked ++ conference ∷ rest
  pub booth : Booth
  pub kept : IsBooth booth
  pub broken : booth.ledger.is_broken ≡ true

-- what the end answers where these conferences were opened and the first of them, or all, were found so
abbrev pub IsAnswer : List ℕ → List Seat → List Looked → Result Report FinishFault → Type 0
IsAnswer opened seats looked (Ok report) = (opened ≡ numbers_of looked) × IsReport looked seats report
IsAnswer opened seats looked (Err (FinishFault.Mismatch conference n)) = (opened ≡ numbers_of looked) × IsMismatch looked seats conference n
IsAnswer opened seats looked (Err (FinishFault.Broken conference)) = IsBroken opened looked conference

-- Each conference was looked at in one hold of its lock, in the order of opening, up to the first that is broken off.
pub record Finished (opened : List ℕ) (seats : List Seat) (result : Result Report FinishFault) : Type 0 where
  pub looked : List Looked
  pub whole : AreWhole looked
  pub answer : IsAnswer opened seats looked result
