-- Why a connection isn't served, or isn't any more, by what its thread found.
use Rattle.std.specs.Prelude.{Bool, true, false, Result, Ok, Err}
use Rattle.floor_room.specs.declared.status.Phase.{Phase}
use Rattle.floor_room.specs.declared.status.Phase.TheVariants as phase
use Rattle.floor_serve.specs.declared.fault.DeskRefusal.{DeskRefusal}
use Rattle.floor_serve.specs.declared.fault.DeskRefusal.TheVariants as desk
use Rattle.floor_serve.specs.declared.fault.ReadFault.{ReadFault}
use Rattle.floor_serve.specs.declared.fault.ReadFault.TheVariants as fault
use Rattle.floor_serve.specs.declared.reading.ReadEnd.{ReadEnd}
use Rattle.floor_serve.specs.declared.reading.ReadEnd.TheVariants as end
use Rattle.floor_server.specs.declared.departure.Departure.{Departure}
use Rattle.floor_server.specs.declared.departure.Departure.TheVariants as left
use Rattle.floor_server.specs.declared.departure.Refused.{Refused}
use Rattle.floor_server.specs.declared.departure.Refused.TheVariants as refused

-- what is the matter where there is no desk
abbrev pub refused_by_desk : DeskRefusal → Refused
refused_by_desk desk.NoConference = refused.NoConference
refused_by_desk desk.Memory = refused.Memory

-- why a member has left whom nothing but its reading ended
abbrev pub departure_of_read : Result ReadEnd ReadFault → Departure
departure_of_read (Ok end.Closed) = left.EndOfStream
departure_of_read (Ok (end.Cut k)) = left.InsideMessage
departure_of_read (Err fault.Read) = left.Reset
departure_of_read (Err fault.TurnLimit) = left.TurnLimit
departure_of_read (Err (fault.Refused refusal)) = left.Message refusal
departure_of_read (Err fault.Memory) = left.Memory

-- why a member has left: its conference isn't open any more; or it was told nothing more before it left, as one that is cut; or its port ends; or its reading ended
abbrev pub departure_of : Result ReadEnd ReadFault → Bool → Phase → Bool → Departure
departure_of end is_closed phase.Ended is_ending = left.Closed
departure_of end is_closed phase.Broken is_ending = left.BrokenOff
departure_of end true phase.Running is_ending = left.Slow
departure_of end false phase.Running true = left.Stopped
departure_of end false phase.Running false = departure_of_read end
