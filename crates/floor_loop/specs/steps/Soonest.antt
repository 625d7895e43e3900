-- Whose stay is over first.
use Rattle.std.specs.Prelude.{ℕ, zero, suc, nat_le, nat_lt, if◌then◌else◌, List, map, filter, Option, Some, None, slice_get, slice_index_or}
use Rattle.std.specs.Option.{option_map}
use Rattle.floor_hub.specs.declared.attached.Live.{Live}
use Rattle.floor_loop.specs.declared.line.Entry.{Entry}
use Rattle.floor_loop.specs.declared.stay.Stay.{Stay}
use Rattle.floor_loop.specs.Away.{is_stay_of}

-- until when a member stays, by what is known of each
abbrev pub end_of : (ℕ → Option Stay) → ℕ → Option ℕ
end_of stays number = option_map (λ s. s.until) (stays number)

-- of these live connections those of this user that are away
abbrev pub among_in : (ℕ → Option Stay) → ℕ → List Live → List ℕ
among_in stays user live = map (λ l. l.number) (filter (λ l. is_stay_of user (stays l.number)) live)

-- a stay as an entry: whose it is, and when it is over
abbrev pub entry_of : ℕ × Stay → Entry
entry_of e = record { number = e.0; time = e.1.until }

-- the stay at this place
abbrev pub entry_at : List (ℕ × Stay) → ℕ → Option Entry
entry_at stays place = option_map entry_of (slice_get stays place)

-- the one of these that is over first
abbrev pub sooner : Option Entry → Option Entry → Option Entry
sooner None other = other
sooner (Some first) None = Some first
sooner (Some first) (Some other) = Some (if nat_lt other.time first.time then other else first)

-- of the stays before this place the one that is over first
abbrev pub soonest_to : List (ℕ × Stay) → ℕ → Option Entry
soonest_to stays zero = None
soonest_to stays (suc place) = sooner (soonest_to stays place) (entry_at stays place)

-- of these the connection that is away for longer, with the time since when it is
abbrev pub longer : Option Entry → ℕ → Option Stay → Option Entry
longer oldest number None = oldest
longer None number (Some s) = Some record { number = number; time = s.since }
longer (Some e) number (Some s) = Some (if nat_le e.time s.since then e else record { number = number; time = s.since })

abbrev pub older : (ℕ → Option Stay) → Option Entry → ℕ → Option Entry
older stays oldest number = longer oldest number (stays number)

-- of the first so many of these the one that is away for longest
abbrev pub oldest_to : (ℕ → Option Stay) → List ℕ → ℕ → Option Entry
oldest_to stays numbers zero = None
oldest_to stays numbers (suc place) = older stays (oldest_to stays numbers place) (slice_index_or numbers place 0)
