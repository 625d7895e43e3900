-- A connection was attached, and then others have left.
use Rattle.std.specs.Prelude.{◌≡◌, ℕ, Bool, false, List, None, nat_lt}
use Rattle.floor_room.specs.declared.status.Phase.{Phase}
use Rattle.floor_room.specs.declared.status.Phase.TheVariants.{Running, Ended, Broken}
use Rattle.std.specs.List.{Contains}
use Rattle.floor_hub.specs.Connections.{connection_at}
use Rattle.floor_hub.specs.Hub.{Hub}
use Rattle.floor_hub.specs.Rooms.{Joins}

-- a connection with this number was attached to the conference; behind it these have left, and no other has come or gone
pub record Entered (conference number : ℕ) (back : List ℕ) (old new : Hub) : Type 0 where
  pub mid : Hub
  pub joins : Joins conference number old mid
  pub left : (k : ℕ) → Contains back k → connection_at new.connections k ≡ None
  pub others : (k : ℕ) → ¬ Contains back k → connection_at new.connections k ≡ connection_at mid.connections k

-- a conference that stands so, and has had so many events, takes events
abbrev pub takes_events : Phase → ℕ → Bool
takes_events Running events = nat_lt events 2000000
takes_events Ended events = false
takes_events Broken events = false
