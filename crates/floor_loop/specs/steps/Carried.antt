-- A loop that steps of its hub carried on, somebody having come to one conference or not.
use Rattle.std.specs.Prelude.{◌≡◌, ℕ, [], nat_eq, false, Some}
use Rattle.floor_hub.specs.declared.connection.Connection.{Connection}
use Rattle.floor_hub.specs.Connections.{connection_at}
use Rattle.floor_hub.specs.Gathers.{Gathers}
use Rattle.floor_loop.specs.Done.{AnySteps, Steps}
use Rattle.floor_loop.specs.Loop.{Loop}
use Rattle.floor_loop.specs.Written.{Took}
use Rattle.floor_loop.specs.steps.Moved.{IsLoop, WasLive}

-- the connection was live before, at the same place, and its socket took nothing
pub record IsUntouched (old new : Loop) (number : ℕ) (y : Connection) : Type 0 where
  pub was : WasLive old.hub number y
  pub took : Took old new number [] 0

-- steps of the hub were done, what was a loop is one, whoever isn't of this conference is untouched, and what the events changed was gathered
pub record Carries (conference : ℕ) (old new : Loop) : Type 0 where
  pub steps : Steps AnySteps old.hub new.hub
  pub loop : IsLoop old → IsLoop new
  pub others : IsLoop old → (k : ℕ) (y : Connection) → connection_at new.hub.connections k ≡ Some y → nat_eq conference y.conference ≡ false → IsUntouched old new k y
  pub gathered : Gathers old.hub new.hub
