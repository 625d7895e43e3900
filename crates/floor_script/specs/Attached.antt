-- Which connections are live in which conference, and which of them are slow.
use Rattle.std.specs.Prelude.{◌≡◌, ◌≢◌, ℕ, zero, suc, ◌==◌, Bool, false, not, List, [], ◌∷◌, ◌++◌, Option, Some, None, slice_get, if◌then◌else◌, map, filter}
use Rattle.std.specs.List.{list_any}
use Rattle.std.specs.Option.{option_map_or}
use Rattle.std.specs.Ordering.{nat_cmp}
use Rattle.std.specs.BTreeMap.{get}
use Rattle.floor_script.specs.declared.attached.Attached.{Attached}
use Rattle.floor_script.specs.declared.attached.Live.{Live}
use Rattle.floor_script.specs.declared.attached.Pace.{Pace}
use Rattle.floor_script.specs.declared.attached.Pace.TheVariants.{Fast}

-- the conference of the connection, live or not: connections are numbered from 1 on
abbrev pub conference_at : Attached → ℕ → Option ℕ
conference_at a zero = None
conference_at a (suc place) = slice_get a.conferences.items place

-- the live connections of a conference, in the order in which they were attached
abbrev pub live_in : Attached → ℕ → List Live
live_in a conference = option_map_or (λ lives. lives.items) (get nat_cmp a.live conference) []

-- these are the live connections of this conference now, and those of each other are as they were
pub record Lives (conference : ℕ) (lives : List Live) (old new : Attached) : Type 0 where
  pub here : live_in new conference ≡ lives
  pub others : (other : ℕ) → other ≢ conference → live_in new other ≡ live_in old other

-- the connection with the next number was attached to this conference: it is live, behind the others, and fast
pub record Adds (conference connection : ℕ) (old new : Attached) : Type 0 where
  pub conferences : new.conferences.items ≡ old.conferences.items ++ conference ∷ []
  pub lives : Lives conference (live_in old conference ++ record { connection = connection; pace = Fast } ∷ []) old new

-- the connection has this number
abbrev pub is_numbered : ℕ → Live → Bool
is_numbered connection live = live.connection == connection

-- a live connection, which has this pace if it has this number
abbrev pub paced : ℕ → Pace → Live → Live
paced connection pace live = if is_numbered connection live then record { connection = live.connection; pace = pace } else live

-- the connection is none of the live ones of this conference any more
pub record Removes (conference connection : ℕ) (old new : Attached) : Type 0 where
  pub conferences : new.conferences ≡ old.conferences
  pub lives : Lives conference (filter (λ live. not (is_numbered connection live)) (live_in old conference)) old new

-- the same where its conference is known; nothing has changed where it isn't
abbrev pub RemovedFrom : Option ℕ → ℕ → Attached → Attached → Type 0
RemovedFrom None connection old new = new ≡ old
RemovedFrom (Some conference) connection old new = Removes conference connection old new

-- the connection has this pace now, where it is live
pub record Paces (conference connection : ℕ) (pace : Pace) (old new : Attached) : Type 0 where
  pub conferences : new.conferences ≡ old.conferences
  pub lives : Lives conference (map (paced connection pace) (live_in old conference)) old new

-- the same where its conference is known; nothing has changed where it isn't
abbrev pub PacesIn : Option ℕ → ℕ → Pace → Attached → Attached → Type 0
PacesIn None connection pace old new = new ≡ old
PacesIn (Some conference) connection pace old new = Paces conference connection pace old new

-- the connection is live in its conference
abbrev pub is_live : Attached → Option ℕ → ℕ → Bool
is_live a None connection = false
is_live a (Some conference) connection = list_any (is_numbered connection) (live_in a conference)
