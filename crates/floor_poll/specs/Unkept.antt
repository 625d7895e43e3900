-- Conferences that have no file.
use Rattle.std.specs.Prelude.{ℕ}
use Rattle.floor_keep.specs.declared.ending.Left.TheVariants.{Missing}
use Rattle.floor_keep.specs.declared.ending.Unkept.{Unkept}
use Rattle.floor_keep.specs.declared.fault.KeepFault.{KeepFault}
use Rattle.floor_keep.specs.declared.fault.KeepFault.TheVariants as keep
use Rattle.floor_keep.specs.declared.kept.KeptFault.{KeptFault}
use Rattle.floor_keep.specs.declared.kept.KeptFault.TheVariants as kept

-- why a conference isn't kept whose file couldn't be made
abbrev pub cause_of : KeepFault → KeptFault
cause_of keep.Memory = kept.Memory
cause_of keep.CannotKeep = kept.CannotWrite
cause_of keep.Lost = kept.CannotWrite
cause_of keep.Descriptors = kept.CannotWrite

-- a conference whose file couldn't be made has none: no restart opens anything of it
abbrev pub unkept_of : ℕ → KeepFault → Unkept
unkept_of conference fault = record { conference = conference; cause = cause_of fault; left = Missing }
