-- Whole runs of one conference: journals, and what they call for.
use Rattle.std.specs.Prelude.{ℕ, ◌≤◌, ◌==◌, List, [], ◌∷◌, ◌++◌, length, map, filter}
use Rattle.std.specs.List.{concat, flat_map}
use Rattle.floor_config.specs.Configuration.{Configuration}
use Rattle.floor_machine.specs.Parcel.{Parcel}
use Rattle.floor_machine.specs.Conference.{Conference, opening}
use Rattle.floor_machine.specs.declared.event.Event.{Event}
use Rattle.floor_machine.specs.Change.{IsLawful}
use Rattle.floor_machine.specs.Outgoing.{Outgoing, outgoing_bytes}
use Rattle.floor_machine.specs.Next.{next, told}

-- a message as it is sent to n
abbrev pub parcel : ℕ → Outgoing → Parcel
parcel n message = record { n = n; bytes = outgoing_bytes message }

-- all that an event tells the members, by ascending number
unfoldable pub parcels_of : Conference → Event → List Parcel
parcels_of s e = flat_map (λ m. map (parcel m.n) (told s e m.n)) (next s e).members

-- the conference after these events, one after another
abbrev pub after_from : Conference → List Event → Conference
after_from s [] = s
after_from s (e ∷ es) = after_from (next s e) es

-- the conference that opened with this configuration, after these events
abbrev pub after : Configuration → List Event → Conference
after config es = after_from (opening config) es

-- each event is lawful after those before it
abbrev pub IsLawfulFrom : Conference → List Event → Type 0
IsLawfulFrom s [] = Unit {0}
IsLawfulFrom s (e ∷ es) = IsLawful s e × IsLawfulFrom (next s e) es

-- the most events of a journal
abbrev pub MAX_EVENTS : ℕ
MAX_EVENTS = 2000000

-- a journal: at most 2,000,000 events, each lawful after those before it
pub record IsJournal (config : Configuration) (es : List Event) : Type 0 where
  pub count : length es ≤ MAX_EVENTS
  pub lawful : IsLawfulFrom (opening config) es

-- all that these events tell the members, event by event
abbrev pub parcels_from : Conference → List Event → List Parcel
parcels_from s [] = []
parcels_from s (e ∷ es) = parcels_of s e ++ parcels_from (next s e) es

-- all that these events tell n
abbrev pub told_from : Conference → List Event → ℕ → List Outgoing
told_from s [] n = []
told_from s (e ∷ es) n = told s e n ++ told_from (next s e) es n

-- what a journal calls for at n: each message is one parcel
abbrev pub parcels : Configuration → List Event → ℕ → List (List ℕ)
parcels config es n = map outgoing_bytes (told_from (opening config) es n)

-- the bytes that a journal calls for at n
abbrev pub Q : Configuration → List Event → ℕ → List ℕ
Q config es n = concat (parcels config es n)

-- the parcels to n
abbrev pub sent_to : ℕ → List Parcel → List Parcel
sent_to n sent = filter (λ p. p.n == n) sent
