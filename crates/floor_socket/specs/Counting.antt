-- What the loops counted, one after another.
use Rattle.std.specs.Prelude.{ℕ, ◌+◌, min}
use Rattle.floor_control.specs.declared.metrics.Metrics.{Metrics}
use Rattle.floor_poll.specs.Counters.{both}
use Rattle.floor_socket.specs.declared.task.Step.{Step}
use Rattle.floor_socket.specs.declared.task.Step.TheVariants.{Count, Counting}

-- what follows where the next loop has told what it counted: the one behind it is asked
abbrev pub counted : Metrics → Step → Step
counted more (Counting place counts) = Count (min (place + 1) 18446744073709551615) (both counts more)
counted more step = step
