-- The fault that a text is refused by.
use Rattle.std.specs.Prelude.{List, Option, Some, None, Result, Ok, Err}
use Rattle.floor_config.specs.declared.fault.ConfigFault.{ConfigFault}
use Rattle.floor_config.specs.Configuration.{Configuration}

-- the fault of a reading, where it is refused
abbrev pub fault_of : Result (List Configuration) ConfigFault → Option ConfigFault
fault_of (Ok configurations) = None
fault_of (Err fault) = Some fault
