-- The numbers that C sees, and their names.
use Rattle.std.specs.Prelude.{ℕ, List, codes}
use Rattle.floor_config.specs.declared.fault.ConfigFault.{ConfigFault}
use Rattle.floor_config.specs.declared.fault.ConfigFault.TheVariants as fault
use Rattle.floor_config.specs.Names as config
use Rattle.floor_machine.specs.declared.machine.Refusal.{Refusal}
use Rattle.floor_machine.specs.declared.machine.Refusal.TheVariants as machine
use Rattle.floor_room.specs.declared.refusal.RoomRefusal.TheVariants as room
use Rattle.floor_room.specs.declared.status.Phase.{Phase}
use Rattle.floor_hub.specs.declared.refusal.HubRefusal.{HubRefusal}
use Rattle.floor_hub.specs.declared.refusal.HubRefusal.TheVariants as hub
use Rattle.floor_hub.specs.Names as hub_names
use Rattle.floor_ffi.specs.declared.outcome.Outcome.{Outcome}
use Rattle.floor_ffi.specs.declared.outcome.Outcome.TheVariants.{Done, Nothing, TooShort, NotUtf8, Refused, Fault}

-- the number of each refusal of a machine
abbrev pub of_machine : Refusal → ℕ
of_machine machine.Broken = 20
of_machine machine.Ended = 21
of_machine machine.NoMember = 22
of_machine machine.NoUser = 23
of_machine machine.Full = 24
of_machine machine.NoRequest = 25
of_machine machine.Cut = 26
of_machine machine.BadCount = 27
of_machine machine.OutOfRange = 28
of_machine machine.DoubleUser = 29
of_machine machine.DoubleFloor = 30
of_machine machine.NoFloor = 31
of_machine machine.UnknownChair = 32
of_machine machine.Memory = 33

-- the number of each refusal of a hub
abbrev pub of_refusal : HubRefusal → ℕ
of_refusal hub.Used = 10
of_refusal hub.NoConference = 11
of_refusal hub.NoConnection = 12
of_refusal hub.Memory = 13
of_refusal (hub.ByRoom room.JournalFull) = 14
of_refusal hub.Forgotten = 15
of_refusal hub.Running = 16
of_refusal hub.BadMessage = 17
of_refusal (hub.ByRoom (room.Refused refusal)) = of_machine refusal

-- the number of each fault of a configuration; want of memory has the hub's
abbrev pub of_fault : ConfigFault → ℕ
of_fault fault.Syntax = 40
of_fault fault.MissingKey = 41
of_fault fault.WrongType = 42
of_fault fault.OutOfRange = 43
of_fault fault.DoubleUser = 44
of_fault fault.DoubleFloor = 45
of_fault fault.NoFloor = 46
of_fault fault.UnknownChair = 47
of_fault fault.DoubleConference = 48
of_fault fault.DoublePort = 49
of_fault fault.Memory = 13

-- the number of each outcome
abbrev pub number_of : Outcome → ℕ
number_of Done = 0
number_of Nothing = 1
number_of TooShort = 2
number_of NotUtf8 = 3
number_of (Refused refusal) = of_refusal refusal
number_of (Fault fault) = of_fault fault

-- the name of each outcome, that of a refusal or of a fault its own
abbrev pub name_of : Outcome → List ℕ
name_of Done = codes "Done"
name_of Nothing = codes "Nothing"
name_of TooShort = codes "TooShort"
name_of NotUtf8 = codes "NotUtf8"
name_of (Refused refusal) = hub_names.name_of refusal
name_of (Fault fault) = config.name_of fault

-- the number of each phase
abbrev pub of_phase : Phase → ℕ
of_phase Phase.Running = 0
of_phase Phase.Ended = 1
of_phase Phase.Broken = 2

-- the outcome that its number tells: itself, but that a configuration's want of memory is the hub's
abbrev pub told_by_number : Outcome → Outcome
told_by_number Done = Done
told_by_number Nothing = Nothing
told_by_number TooShort = TooShort
told_by_number NotUtf8 = NotUtf8
told_by_number (Refused refusal) = Refused refusal
told_by_number (Fault fault.Syntax) = Fault fault.Syntax
told_by_number (Fault fault.MissingKey) = Fault fault.MissingKey
told_by_number (Fault fault.WrongType) = Fault fault.WrongType
told_by_number (Fault fault.OutOfRange) = Fault fault.OutOfRange
told_by_number (Fault fault.DoubleUser) = Fault fault.DoubleUser
told_by_number (Fault fault.DoubleFloor) = Fault fault.DoubleFloor
told_by_number (Fault fault.NoFloor) = Fault fault.NoFloor
told_by_number (Fault fault.UnknownChair) = Fault fault.UnknownChair
told_by_number (Fault fault.DoubleConference) = Fault fault.DoubleConference
told_by_number (Fault fault.DoublePort) = Fault fault.DoublePort
told_by_number (Fault fault.Memory) = Refused hub.Memory
