-- What a member's life has come to by calls.
use Rattle.std.specs.Prelude.{◌≡◌, ℕ, List}
use Rattle.floor_hub.specs.Runs.{run}
use Rattle.floor_hub.specs.StandsFor.{StandsFor}
use Rattle.floor_hub.specs.World.{World}
use Rattle.floor_loop.specs.Laws.{Call as LoopCall, Calls as LoopCalls, bytes_by as loop_bytes_by, steps_of}
use Rattle.floor_loop.specs.Loop.{Loop}

-- such calls of the loop, from where it stood for this world, by which the connection's socket took these bytes
pub record Goes (number : ℕ) (old new : Loop) (bytes : List ℕ) (w : World) : Type 0 where
  pub calls : List LoopCall
  pub are : LoopCalls number w calls old new
  pub stands : StandsFor new.hub (run w (steps_of calls))
  pub taken : loop_bytes_by number calls ≡ bytes

-- so from each world that it stood for
abbrev pub Led : ℕ → Loop → Loop → List ℕ → Type 0
Led number old new bytes = (w : World) → StandsFor old.hub w → Goes number old new bytes w
