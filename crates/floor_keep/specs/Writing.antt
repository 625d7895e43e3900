-- What is written to the file of a conference.
use Rattle.std.specs.Prelude.{◌≡◌, ℕ, List, [], length}
use Rattle.floor_machine.specs.declared.event.Event.{Event}
use Rattle.floor_kept.specs.declared.entry.Entry.{Entry}
use Rattle.floor_kept.specs.declared.writing.WriteFault.{WriteFault}
use Rattle.floor_kept.specs.declared.writing.WriteFault.TheVariants as write
use Rattle.floor_keep.specs.declared.kept.KeptFault.{KeptFault}
use Rattle.floor_keep.specs.declared.kept.KeptFault.TheVariants.{CannotWrite, Memory}

-- nothing is new: so many events have their lines, and nothing is noted beside them
abbrev pub IsNothing : ℕ → List Event → List Entry → Type 0
IsNothing done journal notes = (length journal ≡ done) × (notes ≡ [])

-- the fault of a file that couldn't be written
abbrev pub of_write_fault : WriteFault → KeptFault
of_write_fault write.Broken = CannotWrite
of_write_fault write.CannotWrite = CannotWrite
of_write_fault write.Memory = Memory
