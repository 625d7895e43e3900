-- How the faults of a configuration are called.
use Rattle.std.specs.Prelude.{ℕ, List, codes}
use Rattle.floor_config.specs.declared.fault.ConfigFault.{ConfigFault}
use Rattle.floor_config.specs.declared.fault.ConfigFault.TheVariants.{Syntax, MissingKey, WrongType, OutOfRange, DoubleUser, DoubleFloor, NoFloor, UnknownChair, DoubleConference, DoublePort, Memory}

-- the fault's own name, in ASCII
abbrev pub name_of : ConfigFault → List ℕ
name_of Syntax = codes "Syntax"
name_of MissingKey = codes "MissingKey"
name_of WrongType = codes "WrongType"
name_of OutOfRange = codes "OutOfRange"
name_of DoubleUser = codes "DoubleUser"
name_of DoubleFloor = codes "DoubleFloor"
name_of NoFloor = codes "NoFloor"
name_of UnknownChair = codes "UnknownChair"
name_of DoubleConference = codes "DoubleConference"
name_of DoublePort = codes "DoublePort"
name_of Memory = codes "Memory"
