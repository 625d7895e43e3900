-- What a call does to the table of sockets: calls of floor_sockets, one behind another.
use Rattle.std.specs.Prelude.{◌≡◌, ℕ, Bool, false, List, max}
use Rattle.floor_sockets.specs.Sockets.{Sockets}
use Rattle.floor_sockets.specs.Laws.{have_shut}
use Rattle.floor_sockets.specs.Runs.{Call, Calls}

-- Such calls, the last in front, led from one value to the other, and by them the Shut of just these slots was given.
pub record StepsBy (given : ℕ → Bool) (old new : Sockets) : Type 0 where
  pub calls : List Call
  pub lead : Calls calls old new
  pub shut : (slot : ℕ) → have_shut slot calls ≡ given slot

-- nobody's
abbrev pub nobody : ℕ → Bool
nobody slot = false

-- Such calls by which nobody's Shut was given.
abbrev pub Steps : Sockets → Sockets → Type 0
Steps = StepsBy nobody

-- the table so late, unless it was later before
abbrev pub at_time : ℕ → Sockets → Sockets
at_time now s = record s { time = max s.time now }
