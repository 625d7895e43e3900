-- The faults that end the server, and what a failed call of the system is answered by.
use Rattle.std.specs.IoError.{error_kind}
use Rattle.std.specs.declared.io.ErrorKind.{ErrorKind}
use Rattle.std.specs.declared.io.ErrorKind.TheVariants as kind
use Rattle.floor_config.specs.declared.fault.ConfigFault.{ConfigFault}
use Rattle.floor_config.specs.declared.fault.ConfigFault.TheVariants as configuration
use Rattle.floor_console.specs.declared.board.BoardRefusal.{BoardRefusal}
use Rattle.floor_console.specs.declared.board.BoardRefusal.TheVariants as board
use Rattle.floor_console.specs.declared.board.StopRefusal.{StopRefusal}
use Rattle.floor_console.specs.declared.board.StopRefusal.TheVariants as stop
use Rattle.floor_keep.specs.declared.fault.KeepFault.{KeepFault}
use Rattle.floor_keep.specs.declared.fault.KeepFault.TheVariants as keep
use Rattle.floor_listen.specs.declared.ending.ServerFault.{ServerFault}
use Rattle.floor_listen.specs.declared.ending.ServerFault.TheVariants.{CannotRead, ByConfiguration, CannotListen, CannotKeep, Lost, Broken, Mismatch, Memory}
use Rattle.floor_server.specs.declared.reason.PortFault.{PortFault}
use Rattle.floor_server.specs.declared.reason.PortFault.TheVariants as port

-- the fault of a server whose first conferences can't be opened; the numbers of a configuration differ, so none is in use but by want of memory
abbrev pub fault_of_opening : BoardRefusal → ServerFault
fault_of_opening board.NoConference = Memory
fault_of_opening (board.ByRoom refusal) = Broken
fault_of_opening board.CannotRead = CannotRead
fault_of_opening (board.ByConfiguration fault) = ByConfiguration fault
fault_of_opening board.CannotListen = CannotListen
fault_of_opening board.Used = Memory
fault_of_opening board.Memory = Memory

-- the fault of a server whose stop finds something wrong
abbrev pub fault_of_stop : StopRefusal → ServerFault
fault_of_stop (stop.Broken conference) = Broken
fault_of_stop (stop.Mismatch conference n) = Mismatch

-- the fault of a server that can't keep its conferences
abbrev pub fault_of_keeping : KeepFault → ServerFault
fault_of_keeping keep.CannotKeep = CannotKeep
fault_of_keeping keep.Descriptors = CannotKeep
fault_of_keeping keep.Lost = Lost
fault_of_keeping keep.Memory = Memory

-- what is answered where a file can't be read, by the kind of the system's error
abbrev pub refusal_of_reading : ErrorKind → BoardRefusal
refusal_of_reading kind.OutOfMemory = board.Memory
refusal_of_reading _ = board.CannotRead

-- what is answered where a configuration is refused
abbrev pub refusal_of_configuration : ConfigFault → BoardRefusal
refusal_of_configuration configuration.Memory = board.Memory
refusal_of_configuration fault = board.ByConfiguration fault

-- what is answered where the system refuses a port, by the kind of its error
abbrev pub refusal_of_listening : ErrorKind → BoardRefusal
refusal_of_listening kind.OutOfMemory = board.Memory
refusal_of_listening _ = board.CannotListen

-- what is answered where a port isn't listened on
abbrev pub refusal_of_port : PortFault → BoardRefusal
refusal_of_port (port.System error) = refusal_of_listening (error_kind error)
refusal_of_port port.NoThread = board.CannotListen
refusal_of_port port.Memory = board.Memory
