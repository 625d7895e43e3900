-- Calls of a loop, for a connection that is live behind each.
use Rattle.std.specs.Prelude.{◌≡◌, ℕ, List, ◌++◌}
use Rattle.floor_hub.specs.declared.step.Step.{Step}
use Rattle.floor_hub.specs.Runs.{run}
use Rattle.floor_hub.specs.StandsFor.{StandsFor}
use Rattle.floor_hub.specs.World.{World, nothing}
use Rattle.floor_loop.specs.Laws.{Call, Calls, IsNew, bytes_by, steps_of}
use Rattle.floor_loop.specs.Loop.{Loop}
use Rattle.floor_loop.specs.Written.{IsServing}

-- such calls, from where the first loop stood for this world
pub record Goes (number : ℕ) (old new : Loop) (bytes : List ℕ) (w : World) : Type 0 where
  pub calls : List Call
  pub are : Calls number w calls old new
  pub stands : StandsFor new.hub (run w (steps_of calls))
  pub taken : bytes_by number calls ≡ bytes

-- calls led from the first loop to the last, by which the connection's socket took these bytes
abbrev pub Led : ℕ → Loop → Loop → List ℕ → Type 0
Led number old new bytes = (w : World) → StandsFor old.hub w → Goes number old new bytes w

-- so, and what was taken before grew by these bytes
pub record Writes (number : ℕ) (old new : Loop) (was is : List ℕ) : Type 0 where
  pub bytes : List ℕ
  pub grew : is ≡ was ++ bytes
  pub led : Led number old new bytes

-- steps from nothing led to where the loop's hub stands, and nothing was written yet to the connection, which is live
pub record IsBegun (l : Loop) (number : ℕ) : Type 0 where
  pub before : List Step
  pub stands : StandsFor l.hub (run nothing before)
  pub serving : IsServing l
  pub new : IsNew l number
