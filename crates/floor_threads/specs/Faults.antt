-- What a stop has found.
use Rattle.std.specs.Prelude.{Result, Ok, Err}
use Rattle.floor_console.specs.declared.board.StopRefusal.{StopRefusal}
use Rattle.floor_console.specs.declared.board.StopRefusal.TheVariants as stop
use Rattle.floor_console.specs.declared.board.Stopped.{Stopped}
use Rattle.floor_serve.specs.declared.end.finish.Report.{Report}
use Rattle.floor_serve.specs.declared.fault.FinishFault.{FinishFault}
use Rattle.floor_serve.specs.declared.fault.FinishFault.TheVariants as finish

-- what the administrator is told of a stop: how many seats and events there were, or which conference is broken, or which member's seat doesn't fit
abbrev pub stopped : Result Report FinishFault → Result Stopped StopRefusal
stopped (Ok report) = Ok record { seats = report.seats; events = report.events }
stopped (Err (finish.Broken conference)) = Err (stop.Broken conference)
stopped (Err (finish.Mismatch conference n)) = Err (stop.Mismatch conference n)
