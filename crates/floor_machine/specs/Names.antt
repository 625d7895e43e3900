-- How the refusals of a machine are called.
use Rattle.std.specs.Prelude.{ℕ, List, codes}
use Rattle.floor_machine.specs.declared.machine.Refusal.{Refusal}
use Rattle.floor_machine.specs.declared.machine.Refusal.TheVariants.{Broken, Ended, NoMember, NoUser, Full, NoRequest, Cut, BadCount, OutOfRange, DoubleUser, DoubleFloor, NoFloor, UnknownChair, Memory}

-- the refusal's own name, in ASCII
abbrev pub name_of : Refusal → List ℕ
name_of Broken = codes "Broken"
name_of Ended = codes "Ended"
name_of NoMember = codes "NoMember"
name_of NoUser = codes "NoUser"
name_of Full = codes "Full"
name_of NoRequest = codes "NoRequest"
name_of Cut = codes "Cut"
name_of BadCount = codes "BadCount"
name_of OutOfRange = codes "OutOfRange"
name_of DoubleUser = codes "DoubleUser"
name_of DoubleFloor = codes "DoubleFloor"
name_of NoFloor = codes "NoFloor"
name_of UnknownChair = codes "UnknownChair"
name_of Memory = codes "Memory"
