-- How members come and stay, and how runs of events are put together.
use Rattle.std.specs.Prelude.{◌≡◌, ◌≤◌, ◌<◌, ◌⊎◌, ◌↔◌, ℕ, ◌+◌, ◌==◌, false, true, List, [], ◌++◌, length, All, IsTrue}
use Rattle.std.specs.Option.{option_map_or}
use Rattle.floor_config.specs.Configuration.{Configuration}
use Rattle.floor_queue.specs.Order.{settle}
use Rattle.floor_machine.specs.Parcel.{Parcel}
use Rattle.floor_machine.specs.Conference.{Conference, is_live, is_numbered_from, opening}
use Rattle.floor_machine.specs.declared.event.Event.{Event}
use Rattle.floor_machine.specs.declared.event.Event.TheVariants.{Join, Leave}
use Rattle.floor_machine.specs.Events.{joiner}
use Rattle.floor_machine.specs.Shown.{ongoing_of}
use Rattle.floor_machine.specs.Change.{change}
use Rattle.floor_machine.specs.Journal.{IsLawfulFrom, after, after_from, parcels_from, parcels_of, told_from}
use Rattle.floor_machine.specs.Next.{next}

-- how many members an event adds
abbrev pub joins : Event → ℕ
joins e = option_map_or (λ user. 1) (joiner e) 0

-- the event isn't that n leaves
abbrev pub StaysIn : ℕ → Event → Type 0
StaysIn n (Leave k) = (n == k) ≡ false
StaysIn n _ = Unit {0}

-- an event adds the member that joins, and no other
abbrev pub JoinsAdd : Type 0
JoinsAdd = (s : Conference) (e : Event) → length (next s e).members ≡ length s.members + joins e

-- who doesn't leave stays live
abbrev pub StaysLive : Type 0
StaysLive = (s : Conference) (e : Event) (n : ℕ) → StaysIn n e → is_live s n ≡ true → is_live (next s e) n ≡ true

-- who joins is live
abbrev pub JoinsLive : Type 0
JoinsLive = (s : Conference) (user : ℕ) → is_live (next s (Join user)) (length s.members + 1) ≡ true

-- who is live after an event was live before, or has joined
abbrev pub WasLive : Type 0
WasLive = (s : Conference) (e : Event) (n : ℕ) → is_live (next s e) n ≡ true →
    (is_live s n ≡ true) ⊎ ((joins e ≡ 1) × (n ≡ length s.members + 1))

-- nobody is told anything before it joins
abbrev pub ToldOnceJoined : Type 0
ToldOnceJoined = (config : Configuration) (es : List Event) (n : ℕ) → length (after config es).members < n → told_from (opening config) es n ≡ []

-- each parcel of an event is to one of the members
abbrev pub SentToMembers : Type 0
SentToMembers = (s : Conference) (e : Event) → IsTrue (is_numbered_from 1 s.members) →
    All (λ (p : Parcel). (1 ≤ p.n) × (p.n ≤ length (next s e).members)) (parcels_of s e)

-- a run of events, and then another, is the run of both
abbrev pub AfterBoth : Type 0
AfterBoth = (s : Conference) (es fs : List Event) → after_from s (es ++ fs) ≡ after_from (after_from s es) fs

-- it tells what the first tells, and then what the second tells
abbrev pub ParcelsOfBoth : Type 0
ParcelsOfBoth = (s : Conference) (es fs : List Event) → parcels_from s (es ++ fs) ≡ parcels_from s es ++ parcels_from (after_from s es) fs

-- and so to each member
abbrev pub ToldByBoth : Type 0
ToldByBoth = (s : Conference) (es fs : List Event) (n : ℕ) → told_from s (es ++ fs) n ≡ told_from s es n ++ told_from (after_from s es) fs n

-- it is lawful exactly where the first is, and the second after it
abbrev pub BothLawful : Type 0
BothLawful = (s : Conference) (es fs : List Event) → IsLawfulFrom s (es ++ fs) ↔ (IsLawfulFrom s es × IsLawfulFrom (after_from s es) fs)

-- the ongoing requests after an event are those that its change leaves, settled as a queue of the floors of then settles them
abbrev pub SettlesAsQueue : Type 0
SettlesAsQueue = (s : Conference) (e : Event) → (next s e).ongoing ≡ settle (next s e).config.floors (ongoing_of (change s e).entries)
