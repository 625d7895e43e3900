-- The names of faults, and the exit status that each gives.
use Rattle.std.specs.Prelude.{ℕ, Option, Some, None, List, codes}
use Rattle.floor_script.specs.declared.line.LineFault.{LineFault}
use Rattle.floor_script.specs.declared.line.LineFault.TheVariants as line
use Rattle.floor_script.specs.declared.fault.RunFault.{RunFault}
use Rattle.floor_script.specs.declared.fault.RunFault.TheVariants as run

-- the name of a line's fault
abbrev pub name_of_line_fault : LineFault → List ℕ
name_of_line_fault line.UnknownCommand = codes "UnknownCommand"
name_of_line_fault line.BadNumber = codes "BadNumber"
name_of_line_fault line.BadHex = codes "BadHex"
name_of_line_fault line.Memory = codes "Memory"

-- the name of a run's fault, where the output doesn't tell it
abbrev pub name_of_run_fault : RunFault → Option (List ℕ)
name_of_run_fault run.CannotRead = Some (codes "CannotRead")
name_of_run_fault run.CannotWrite = Some (codes "CannotWrite")
name_of_run_fault run.Memory = Some (codes "Memory")
name_of_run_fault run.Refused = None

-- the exit status: 2 where the configuration or a line was refused, else 1
abbrev pub status_of : RunFault → ℕ
status_of run.Refused = 2
status_of run.CannotRead = 1
status_of run.CannotWrite = 1
status_of run.Memory = 1
