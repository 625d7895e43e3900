-- The names of faults and refusals.
use Rattle.std.specs.Prelude.{ℕ, Bool, true, false, List, codes}
use Rattle.floor_config.specs.Names as configuration
use Rattle.floor_config.specs.declared.fault.ConfigFault.TheVariants as fault
use Rattle.floor_room.specs.Names as room
use Rattle.floor_console.specs.declared.command.ConsoleFault.{ConsoleFault}
use Rattle.floor_console.specs.declared.command.ConsoleFault.TheVariants as line
use Rattle.floor_console.specs.declared.board.BoardRefusal.{BoardRefusal}
use Rattle.floor_console.specs.declared.board.BoardRefusal.TheVariants.{NoConference, ByRoom, CannotRead, ByConfiguration, CannotListen, Used, Memory}

-- the name of what is wrong with a line
abbrev pub name_of_fault : ConsoleFault → List ℕ
name_of_fault line.UnknownCommand = codes "UnknownCommand"
name_of_fault line.BadNumber = codes "BadNumber"
name_of_fault line.Memory = codes "Memory"

-- the name of a board's refusal, or of the one that it wraps
abbrev pub name_of_refusal : BoardRefusal → List ℕ
name_of_refusal NoConference = codes "NoConference"
name_of_refusal (ByRoom refusal) = room.name_of refusal
name_of_refusal CannotRead = codes "CannotRead"
name_of_refusal (ByConfiguration fault) = configuration.name_of fault
name_of_refusal CannotListen = codes "CannotListen"
name_of_refusal Used = codes "Used"
name_of_refusal Memory = codes "Memory"

-- the refusal is want of memory
abbrev pub is_memory : BoardRefusal → Bool
is_memory Memory = true
is_memory (ByRoom refusal) = room.is_memory refusal
is_memory (ByConfiguration fault.Memory) = true
is_memory _ = false
