-- The names of refusals.
use Rattle.std.specs.Prelude.{ℕ, List, codes}
use Rattle.floor_hub.specs.Names as hub
use Rattle.floor_meetings.specs.declared.refusal.JoinRefusal.{JoinRefusal}
use Rattle.floor_meetings.specs.declared.refusal.JoinRefusal.TheVariants.{InUse, UserConnections, Connections, Memory, ByHub}

-- the name of a refusal, in ASCII
abbrev pub name_of : JoinRefusal → List ℕ
name_of InUse = codes "InUse"
name_of UserConnections = codes "UserConnections"
name_of Connections = codes "Connections"
name_of Memory = codes "Memory"
name_of (ByHub refusal) = hub.name_of refusal
