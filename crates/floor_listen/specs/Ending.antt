-- How the program ends: the fault, its name and the exit status.
use Rattle.std.specs.Prelude.{ℕ, List, Option, Some, None, Result, Ok, Err, codes}
use Rattle.floor_config.specs.Names as configuration
use Rattle.floor_listen.specs.declared.ending.Ending.{Ending}
use Rattle.floor_listen.specs.declared.ending.Ending.TheVariants.{InOrder, Refused, Fault}
use Rattle.floor_listen.specs.declared.ending.ServerFault.{ServerFault}
use Rattle.floor_listen.specs.declared.ending.ServerFault.TheVariants.{CannotRead, CannotWrite, ByConfiguration, CannotListen, CannotKeep, Lost, NotAJournal, Broken, Mismatch, Memory}

-- the fault's own name, or the configuration's
abbrev pub name_of : ServerFault → List ℕ
name_of CannotRead = codes "CannotRead"
name_of CannotWrite = codes "CannotWrite"
name_of (ByConfiguration fault) = configuration.name_of fault
name_of CannotListen = codes "CannotListen"
name_of CannotKeep = codes "CannotKeep"
name_of Lost = codes "Lost"
name_of NotAJournal = codes "NotAJournal"
name_of Broken = codes "Broken"
name_of Mismatch = codes "Mismatch"
name_of Memory = codes "Memory"

-- the exit status: 0 where all was in order, 2 where the words are refused, 1 for a fault
abbrev pub status_of : Ending → ℕ
status_of InOrder = 0
status_of Refused = 2
status_of (Fault fault) = 1

-- what standard error tells: the name of the fault
abbrev pub told : Ending → Option (List ℕ)
told InOrder = None
told Refused = None
told (Fault fault) = Some (name_of fault)

-- the help that was asked for is printed, or a fault is why not
abbrev pub after_help : Result (Unit {0}) ServerFault → Ending
after_help (Ok _) = InOrder
after_help (Err fault) = Fault fault

-- what went wrong while the server served comes before what its stop found wrong
abbrev pub ended : Result (Unit {0}) ServerFault → Result (Unit {0}) ServerFault → Ending
ended (Ok _) (Ok _) = InOrder
ended (Ok _) (Err fault) = Fault fault
ended (Err fault) stopped = Fault fault
