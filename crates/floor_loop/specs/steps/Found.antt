-- What serving a connection has found.
use Rattle.std.specs.Prelude.{ℕ}
use Rattle.floor_hub.specs.declared.step.Served.{Served}
use Rattle.floor_hub.specs.declared.step.Served.TheVariants.{Nothing, Message}
use Rattle.floor_hub.specs.Hub.{Hub}
use Rattle.floor_loop.specs.Done.{AddsMessages}
use Rattle.floor_loop.specs.Loop.{HoldsNoMessage}

-- one message, or that none is whole
abbrev pub Finds : ℕ → Served → Hub → Hub → Type 0
Finds number Nothing old new = AddsMessages number 0 old new × HoldsNoMessage new number
Finds number Message old new = AddsMessages number 1 old new
