-- The names of refusals and of departures.
use Rattle.std.specs.Prelude.{ℕ, List, codes}
use Rattle.floor_doors.specs.Names as doors
use Rattle.floor_hub.specs.Names as hub
use Rattle.floor_meetings.specs.Names as meetings
use Rattle.floor_connections.specs.declared.departure.Departure.{Departure}
use Rattle.floor_connections.specs.declared.departure.Departure.TheVariants as departure
use Rattle.floor_connections.specs.declared.refusal.Refusal.{Refusal}
use Rattle.floor_connections.specs.declared.refusal.Refusal.TheVariants.{NotAsked, Memory, Removed, AtDoor, AtMeeting}

-- the name of a refusal, in ASCII
abbrev pub name_of : Refusal → List ℕ
name_of NotAsked = codes "NotAsked"
name_of Memory = codes "Memory"
name_of Removed = codes "Removed"
name_of (AtDoor refusal) = doors.name_of refusal
name_of (AtMeeting refusal) = meetings.name_of refusal

-- and of why a member's socket was shut
abbrev pub name_of_departure : Departure → List ℕ
name_of_departure departure.EndOfStream = codes "EndOfStream"
name_of_departure departure.InsideMessage = codes "InsideMessage"
name_of_departure departure.Reset = codes "Reset"
name_of_departure (departure.Refused refusal) = hub.name_of refusal
name_of_departure departure.TooLong = codes "TooLong"
name_of_departure departure.Slow = codes "Slow"
name_of_departure departure.Closed = codes "Closed"
name_of_departure departure.BrokenOff = codes "BrokenOff"
name_of_departure departure.Removed = codes "Removed"
name_of_departure departure.Stopped = codes "Stopped"
