-- The names of refusals.
use Rattle.std.specs.Prelude.{ℕ, List, codes}
use Rattle.floor_proxy.specs.Names as proxy
use Rattle.floor_doors.specs.declared.refusal.DoorRefusal.{DoorRefusal}
use Rattle.floor_doors.specs.declared.refusal.DoorRefusal.TheVariants.{NoHeader, ByHeader, Memory}

-- the name of a refusal, in ASCII
abbrev pub name_of : DoorRefusal → List ℕ
name_of NoHeader = codes "NoHeader"
name_of (ByHeader refusal) = proxy.name_of refusal
name_of Memory = codes "Memory"
