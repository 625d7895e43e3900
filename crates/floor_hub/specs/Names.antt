-- How the hub's refusals are called, and which of them are want of memory.
use Rattle.std.specs.Prelude.{ℕ, Bool, true, false, List, codes}
use Rattle.floor_room.specs.Names as room
use Rattle.floor_hub.specs.declared.refusal.HubRefusal.{HubRefusal}
use Rattle.floor_hub.specs.declared.refusal.HubRefusal.TheVariants.{NoConference, Forgotten, Running, NoConnection, Used, BadMessage, ByRoom, Memory}

-- the refusal's own name, or that of the room's refusal that it is
abbrev pub name_of : HubRefusal → List ℕ
name_of Used = codes "Used"
name_of NoConference = codes "NoConference"
name_of Forgotten = codes "Forgotten"
name_of Running = codes "Running"
name_of NoConnection = codes "NoConnection"
name_of BadMessage = codes "BadMessage"
name_of Memory = codes "Memory"
name_of (ByRoom refusal) = room.name_of refusal

-- the refusal is want of memory, in a room or outside
abbrev pub is_memory : HubRefusal → Bool
is_memory Memory = true
is_memory (ByRoom refusal) = room.is_memory refusal
is_memory _ = false
