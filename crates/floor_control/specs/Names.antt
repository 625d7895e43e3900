-- The names of faults and refusals.
use Rattle.std.specs.Prelude.{ℕ, Bool, false, List, codes}
use Rattle.floor_console.specs.Names as console
use Rattle.floor_control.specs.declared.line.LineFault.{LineFault}
use Rattle.floor_control.specs.declared.line.LineFault.TheVariants as line
use Rattle.floor_control.specs.declared.refusal.ControlRefusal.{ControlRefusal}
use Rattle.floor_control.specs.declared.refusal.ControlRefusal.TheVariants.{ByBoard, Running, Forgotten, Watching, BadPlace, Draining, Full, TooLong, NotText}

-- the name of what is wrong with a line
abbrev pub name_of_fault : LineFault → List ℕ
name_of_fault line.UnknownCommand = codes "UnknownCommand"
name_of_fault line.BadNumber = codes "BadNumber"
name_of_fault line.BadHex = codes "BadHex"
name_of_fault line.Memory = codes "Memory"

-- the name of a refusal, or of the console's that it wraps
abbrev pub name_of_refusal : ControlRefusal → List ℕ
name_of_refusal (ByBoard refusal) = console.name_of_refusal refusal
name_of_refusal Running = codes "Running"
name_of_refusal Forgotten = codes "Forgotten"
name_of_refusal Watching = codes "Watching"
name_of_refusal BadPlace = codes "BadPlace"
name_of_refusal Draining = codes "Draining"
name_of_refusal Full = codes "Full"
name_of_refusal TooLong = codes "TooLong"
name_of_refusal NotText = codes "NotText"

-- the refusal is want of memory
abbrev pub is_memory : ControlRefusal → Bool
is_memory (ByBoard refusal) = console.is_memory refusal
is_memory _ = false
