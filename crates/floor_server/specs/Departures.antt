-- Why a connection isn't served, or isn't any more, as the log tells.
use Rattle.std.specs.Prelude.{ℕ, List, codes}
use Rattle.floor_listen.specs.declared.connections.Unserved.{Unserved}
use Rattle.floor_listen.specs.declared.connections.Unserved.TheVariants as table
use Rattle.floor_proxy.specs.Names.{name_of as name_of_proxy}
use Rattle.floor_room.specs.Names.{name_of}
use Rattle.floor_server.specs.declared.departure.Departure.{Departure}
use Rattle.floor_server.specs.declared.departure.Departure.TheVariants as left
use Rattle.floor_server.specs.declared.departure.Refused.{Refused}
use Rattle.floor_server.specs.declared.departure.Refused.TheVariants as refused

-- what a table of connections refuses one by
abbrev pub refused_by_table : Unserved → Refused
refused_by_table table.Full = refused.Connections
refused_by_table table.Memory = refused.Memory

-- what a person is told of a connection that doesn't join
abbrev pub name_of_refused : Refused → List ℕ
name_of_refused refused.NoHeader = codes "NoHeader"
name_of_refused (refused.ByHeader refusal) = name_of_proxy refusal
name_of_refused refused.UserConnections = codes "UserConnections"
name_of_refused refused.Connections = codes "Connections"
name_of_refused refused.NoConference = codes "NoConference"
name_of_refused (refused.ByRoom refusal) = name_of refusal
name_of_refused refused.NoThread = codes "NoThread"
name_of_refused refused.Memory = codes "Memory"

-- what a person is told of a member that has left
abbrev pub name_of_departure : Departure → List ℕ
name_of_departure left.EndOfStream = codes "EndOfStream"
name_of_departure left.InsideMessage = codes "InsideMessage"
name_of_departure left.Reset = codes "Reset"
name_of_departure left.TooLong = codes "TooLong"
name_of_departure (left.Message refusal) = name_of refusal
name_of_departure left.Slow = codes "Slow"
name_of_departure left.Closed = codes "Closed"
name_of_departure left.BrokenOff = codes "BrokenOff"
name_of_departure left.Stopped = codes "Stopped"
name_of_departure left.Removed = codes "Removed"
name_of_departure left.TurnLimit = codes "TurnLimit"
name_of_departure left.NoThread = codes "NoThread"
name_of_departure left.Memory = codes "Memory"
