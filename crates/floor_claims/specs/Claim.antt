-- What a connection's socket took, in a loop that certain steps led to.
use Rattle.std.specs.Prelude.{◌≡◌, ℕ, List, false, Some}
use Rattle.floor_config.specs.Configuration.{Configuration}
use Rattle.floor_room.specs.Room.{Room}
use Rattle.floor_hub.specs.declared.connection.Connection.{Connection}
use Rattle.floor_hub.specs.declared.step.Step.{Step}
use Rattle.floor_hub.specs.Connections.{connection_at}
use Rattle.floor_hub.specs.Hub.{room_at}
use Rattle.floor_hub.specs.Runs.{alone, configuration, events, run}
use Rattle.floor_hub.specs.StandsFor.{StandsFor}
use Rattle.floor_hub.specs.World.{nothing}
use Rattle.floor_loop.specs.Laws.{IsFront}
use Rattle.floor_loop.specs.Loop.{Loop}

-- Steps from nothing led to where the loop's hub stands. The connection is live, and these bytes are a front of what the floor machine of its
-- conference's configuration calls for, after the events that this conference has alone; and so many parcels are whole in them.
pub record IsWritten (l : Loop) (number : ℕ) (bytes : List ℕ) : Type 0 where
  pub steps : List Step
  pub stands : StandsFor l.hub (run nothing steps)
  pub connection : Connection
  pub live : connection_at l.hub.connections number ≡ Some connection
  pub config : Configuration
  pub opened : configuration connection.conference steps ≡ Some config
  pub parcels : ℕ
  pub front : IsFront config (events connection.conference (alone connection.conference steps)) connection.n bytes parcels

-- the connection is live, and its conference has a room that isn't broken off
pub record IsWhole (l : Loop) (number : ℕ) : Type 0 where
  pub connection : Connection
  pub room : Room
  pub live : connection_at l.hub.connections number ≡ Some connection
  pub there : room_at l.hub connection.conference ≡ Some room
  pub whole : room.ledger.is_broken ≡ false
