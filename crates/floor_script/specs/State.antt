-- How a script stands: what its lines so far have come to.
use Rattle.std.specs.Prelude.{ℕ, ◌+◌, ◌==◌, ◌&&◌, Bool, false, List, [], length, map, take, drop, Option, Some, None, if◌then◌else◌}
use Rattle.std.specs.List.{list_any}
use Rattle.std.specs.Option.{option_map}
use Rattle.floor_config.specs.Configuration.{Configuration}
use Rattle.floor_machine.specs.Parcel.{Parcel}
use Rattle.floor_room.specs.Room.{parcels_to}
use Rattle.floor_hub.specs.declared.step.Step.TheVariants.{Open}
use Rattle.floor_hub.specs.StandsFor.{live_at}
use Rattle.floor_hub.specs.World.{Arrival, Part, Place, World, nothing, place}
use Rattle.floor_hub.specs.Runs.{run}
use Rattle.floor_script.specs.Attached.{is_numbered}
use Rattle.floor_script.specs.declared.attached.Live.{Live}

-- The world that the hub stands for, how many parcels to the member n of a conference were printed, and the live connections of each
-- conference, in the order in which they were attached.
pub record State : Type 0 where
  pub world : World
  pub printed : ℕ → ℕ → ℕ
  pub lives : ℕ → List Live

-- these conferences are open, and nobody was attached
abbrev pub begun : List Configuration → State
begun configs = record { world = run nothing (map Open configs); printed = λ conference n. 0; lives = λ conference. [] }

-- the conference of a connection, live or not
abbrev pub conference_at : State → ℕ → Option ℕ
conference_at s connection = option_map (λ p. p.conference) (place s.world.places connection)

-- the connection is live in its conference
abbrev pub is_live_in : (ℕ → List Live) → Option ℕ → ℕ → Bool
is_live_in lives None connection = false
is_live_in lives (Some conference) connection = list_any (is_numbered connection) (lives conference)

-- these are the live connections of a conference, and those of each other are as they were
abbrev pub with_lives : (ℕ → List Live) → ℕ → List Live → ℕ → List Live
with_lives lives conference now other = if other == conference then now else lives other

-- the live connections of a conference, if it is known, are changed so
abbrev pub changed_lives : (List Live → List Live) → Option ℕ → (ℕ → List Live) → ℕ → List Live
changed_lives change None lives = lives
changed_lives change (Some conference) lives = with_lives lives conference (change (lives conference))

-- what the events of a conference call for at its member n, in order
abbrev pub called_for : Option Part → ℕ → List Parcel
called_for None n = []
called_for (Some p) n = parcels_to p.config p.events n

-- what is called for behind the first so many, at an arrival that is live
abbrev pub called_behind : Option Arrival → ℕ → List Parcel → List Parcel
called_behind None count called = []
called_behind (Some a) count called = drop count called

abbrev pub waits_at : World → (ℕ → ℕ → ℕ) → Option Place → List Parcel
waits_at w printed None = []
waits_at w printed (Some p) = called_behind (live_at w.parts p) (printed p.conference p.n) (called_for (w.parts p.conference) p.n)

-- what waits for a connection: all that the events of its conference call for at it and that wasn't printed, in order; nothing once it has left
abbrev pub waits : World → (ℕ → ℕ → ℕ) → ℕ → List Parcel
waits w printed connection = waits_at w printed (place w.places connection)

-- how many parcels are printed of one connection at once, and how many of its messages are served, at most
unfoldable pub most_at_once : ℕ
most_at_once = 100000000

-- what is printed at once of what waits for a connection: all of it, unless there are more than 100,000,000 parcels, of which the first are
abbrev pub printable : World → (ℕ → ℕ → ℕ) → ℕ → List Parcel
printable w printed connection = take most_at_once (waits w printed connection)

abbrev pub count_at : Option Place → ℕ → ℕ → ℕ → ℕ
count_at None count conference n = 0
count_at (Some p) count conference n = if (p.conference == conference) && (p.n == n) then count else 0

-- how many parcels were printed, once that of a connection was, too
abbrev pub with_printed : World → (ℕ → ℕ → ℕ) → ℕ → ℕ → ℕ → ℕ
with_printed w printed connection conference n = printed conference n + count_at (place w.places connection) (length (printable w printed connection)) conference n
