-- What a person is told of a fault.
use Rattle.std.specs.Prelude.{ℕ, List, codes}
use Rattle.floor_keep.specs.declared.fault.KeepFault.{KeepFault}
use Rattle.floor_keep.specs.declared.fault.KeepFault.TheVariants.{CannotKeep, Lost, Descriptors, Memory}
use Rattle.floor_keep.specs.declared.kept.KeptFault.{KeptFault}
use Rattle.floor_keep.specs.declared.kept.KeptFault.TheVariants as kept

abbrev pub name_of : KeepFault → List ℕ
name_of CannotKeep = codes "CannotKeep"
name_of Lost = codes "Lost"
name_of Descriptors = codes "Descriptors"
name_of Memory = codes "Memory"

abbrev pub name_of_kept : KeptFault → List ℕ
name_of_kept kept.Shorter = codes "Shorter"
name_of_kept kept.CannotWrite = codes "CannotWrite"
name_of_kept kept.CannotSync = codes "CannotSync"
name_of_kept kept.Memory = codes "Memory"
