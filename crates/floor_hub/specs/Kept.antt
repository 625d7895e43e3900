-- Kept worlds: what holds of each world that steps lead to.
use Rattle.std.specs.Prelude.{◌≡◌, ℕ, zero, suc, ◌≤◌, List, [], ◌∷◌, ◌++◌, ◌==◌, if◌then◌else◌, Bool, true, false, Option, Some, None, length, count_by}
use Rattle.floor_machine.specs.Conference.{is_live}
use Rattle.floor_machine.specs.Journal.{IsJournal}
use Rattle.floor_machine.specs.declared.event.Event.{Event}
use Rattle.floor_machine.specs.declared.event.Event.TheVariants.{Join, Message, Took, Leave, Revoke, Close, AddUser, AddFloor, SetChair, Say}
use Rattle.floor_hub.specs.World.{World, Part, Place, Arrival, arrival, state_of}

abbrev pub is_join : Event → Bool
is_join (Join user) = true
is_join (Message n bytes) = false
is_join (Took n k) = false
is_join (Leave n) = false
is_join (Revoke request) = false
is_join Close = false
is_join (AddUser user) = false
is_join (AddFloor floor) = false
is_join (SetChair floor chair) = false
is_join (Say user bytes) = false

-- how many of these events are Joins
abbrev pub joins : List Event → ℕ
joins es = count_by is_join es

-- The events of a part are a journal of its configuration; its arrivals are as many as its Joins; and the member of each live arrival of an open conference is live.
pub record IsKeptPart (p : Part) : Type 0 where
  pub journal : IsJournal p.config p.events
  pub joins : length p.arrivals ≡ joins p.events
  pub live : (n : ℕ) (a : Arrival) → (state_of p).is_open ≡ true → arrival p n ≡ Some a → a.live ≡ true → is_live (state_of p) n ≡ true

abbrev pub KeptIn : Option Part → Type 0
KeptIn None = Unit {0}
KeptIn (Some p) = IsKeptPart p

-- how many arrivals a conference has
abbrev pub arrivals_in : Option Part → ℕ
arrivals_in None = 0
arrivals_in (Some p) = length p.arrivals

-- the numbers within a conference, in the order of arrival
abbrev pub numbers_of : ℕ → List Place → List ℕ
numbers_of c [] = []
numbers_of c (q ∷ qs) = if q.conference == c then q.n ∷ numbers_of c qs else numbers_of c qs

-- 1 to k
abbrev pub first_numbers : ℕ → List ℕ
first_numbers zero = []
first_numbers (suc k) = first_numbers k ++ suc k ∷ []

-- each part is kept, and the places of a conference are its arrivals, each once, n from 1 on in order
pub record IsKept (w : World) : Type 0 where
  pub parts : (c : ℕ) → KeptIn (w.parts c)
  pub places : (c : ℕ) → numbers_of c w.places ≡ first_numbers (arrivals_in (w.parts c))

-- each conference that is opened has an id of 32 bits (RFC 8855, section 5.1)
abbrev pub IsNumbered : World → Type 0
IsNumbered w = (c : ℕ) (p : Part) → w.parts c ≡ Some p → c ≤ 4294967295
