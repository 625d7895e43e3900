-- How refusals and phases are called, and which refusal is want of memory.
use Rattle.std.specs.Prelude.{ℕ, Bool, true, false, List, codes}
use Rattle.floor_machine.specs.declared.machine.Refusal.TheVariants.{Memory}
use Rattle.floor_machine.specs.Names as machine
use Rattle.floor_room.specs.declared.refusal.RoomRefusal.{RoomRefusal}
use Rattle.floor_room.specs.declared.refusal.RoomRefusal.TheVariants.{JournalFull, Refused}
use Rattle.floor_room.specs.declared.status.Phase.{Phase}
use Rattle.floor_room.specs.declared.status.Phase.TheVariants as phase

-- the refusal's own name, or that of the machine's refusal that it is
abbrev pub name_of : RoomRefusal → List ℕ
name_of JournalFull = codes "JournalFull"
name_of (Refused refusal) = machine.name_of refusal

-- the refusal is want of memory
abbrev pub is_memory : RoomRefusal → Bool
is_memory (Refused Memory) = true
is_memory _ = false

-- the word for a phase, as an administrator reads it
abbrev pub phase_name : Phase → List ℕ
phase_name phase.Running = codes "open"
phase_name phase.Ended = codes "ended"
phase_name phase.Broken = codes "broken"
