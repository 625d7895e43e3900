-- What the log is to be told.
use Rattle.std.specs.Prelude.{◌≡◌, ◌≤◌, ◌⊎◌, ◌+◌, ◌++◌, ◌∷◌, [], ℕ, List, Some, false, min, nat_eq}
use Rattle.floor_connections.specs.declared.conferences.Conference.{Conference}
use Rattle.floor_connections.specs.declared.connections.Connections.{Connections}
use Rattle.floor_connections.specs.declared.entry.Entry.{Entry}
use Rattle.floor_connections.specs.declared.entry.Entry.TheVariants.{Large}
use Rattle.floor_connections.specs.Conferences.{conference_at}
use Rattle.floor_connections.specs.Received.{IsReached, NoneIsReached, SameReceived, more_received, received}

-- It is told nothing.
pub record SameLog (old new : Connections) : Type 0 where
  pub entries : new.entries.items ≡ old.entries.items
  pub untold : new.untold ≡ old.untold

-- It is told this last; or, where memory was refused for that, that one entry more wasn't told.
abbrev pub IsTold : Entry → Connections → Connections → Type 0
IsTold entry old new =
    ((new.entries.items ≡ old.entries.items ++ entry ∷ []) × (new.untold ≡ old.untold)) ⊎ ((new.entries.items ≡ old.entries.items) × (new.untold ≡ min (old.untold + 1) 18446744073709551615))

-- It is told all that it was to be, and perhaps more; and no conference's members have sent any byte.
pub record GoesOn (old new : Connections) : Type 0 where
  pub received : SameReceived old.conferences new.conferences
  pub more : List Entry
  pub entries : new.entries.items ≡ old.entries.items ++ more
  pub untold : old.untold ≤ new.untold

-- The members of the conference have sent so many bytes more, and no others any. Where another 100 MB are reached the log is told, and else nothing.
pub record Receives (conference count : ℕ) (old new : Connections) : Type 0 where
  pub counted : (c : Conference) → conference_at old.conferences conference ≡ Some c → received new.conferences conference ≡ more_received count (received old.conferences conference)
  pub others : (k : ℕ) → nat_eq conference k ≡ false → received new.conferences k ≡ received old.conferences k
  pub told : (NoneIsReached (received old.conferences conference) (received new.conferences conference) × SameLog old new) ⊎ ((megabytes : ℕ) × IsReached (received old.conferences conference) (received new.conferences conference) megabytes × IsTold (Large conference megabytes) old new)

-- So many bytes more were counted, and perhaps the log was told more behind that.
pub record IsCounted (conference count : ℕ) (old new : Connections) : Type 0 where
  pub between : Connections
  pub took : Receives conference count old between
  pub goes_on : GoesOn between new
