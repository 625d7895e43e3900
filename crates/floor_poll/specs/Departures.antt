-- Why a connection isn't served any more, as the log tells.
use Rattle.std.specs.Prelude.{zero, suc, Bool, true, false, Option, Some, None}
use Rattle.floor_hub.specs.declared.refusal.HubRefusal.{HubRefusal}
use Rattle.floor_hub.specs.declared.refusal.HubRefusal.TheVariants as hub
use Rattle.floor_room.specs.declared.status.Phase.{Phase}
use Rattle.floor_room.specs.declared.status.Phase.TheVariants as phase
use Rattle.floor_server.specs.declared.departure.Departure.{Departure}
use Rattle.floor_server.specs.declared.departure.Departure.TheVariants as left
use Rattle.floor_server.specs.declared.departure.Refused.{Refused}
use Rattle.floor_server.specs.declared.departure.Refused.TheVariants as refused
use Rattle.floor_poll.specs.declared.departure.End.{End}
use Rattle.floor_poll.specs.declared.departure.End.TheVariants as end

-- why a member has left whom nothing but the end of its reading ended
abbrev pub departure_at : End → Departure
departure_at (end.Stream zero) = left.EndOfStream
departure_at (end.Stream (suc held)) = left.InsideMessage
departure_at end.Failure = left.Reset
departure_at end.TooLong = left.TooLong
departure_at (end.Refused (hub.ByRoom refusal)) = left.Message refusal
departure_at (end.Refused hub.Used) = left.Memory
departure_at (end.Refused hub.NoConference) = left.Memory
departure_at (end.Refused hub.Forgotten) = left.Memory
departure_at (end.Refused hub.Running) = left.Memory
departure_at (end.Refused hub.NoConnection) = left.Memory
departure_at (end.Refused hub.BadMessage) = left.Memory
departure_at (end.Refused hub.Memory) = left.Memory
departure_at end.Removed = left.Removed

abbrev pub departure_by : Bool → Option End → Departure
departure_by true end = left.Stopped
departure_by false None = left.Reset
departure_by false (Some end) = departure_at end

-- why a member has left: its conference isn't open any more; or it was cut; or the server stops; or its reading ended so
abbrev pub departure_of : Phase → Bool → Bool → Option End → Departure
departure_of phase.Ended is_cut is_stopping end = left.Closed
departure_of phase.Broken is_cut is_stopping end = left.BrokenOff
departure_of phase.Running true is_stopping end = left.Slow
departure_of phase.Running false is_stopping end = departure_by is_stopping end

-- why a connection doesn't join whom the hub refuses so
abbrev pub refused_by : HubRefusal → Refused
refused_by hub.Used = refused.NoConference
refused_by hub.NoConference = refused.NoConference
refused_by hub.Forgotten = refused.NoConference
refused_by hub.Running = refused.NoConference
refused_by hub.NoConnection = refused.NoConference
refused_by hub.BadMessage = refused.NoConference
refused_by hub.Memory = refused.Memory
refused_by (hub.ByRoom refusal) = refused.ByRoom refusal

-- whether a connection was lost that isn't served any more for this reason: one that ended in order where that is asked for
abbrev pub is_lost : Departure → Bool → Bool
is_lost left.EndOfStream for_all = for_all
is_lost left.InsideMessage for_all = true
is_lost left.Reset for_all = true
is_lost left.TooLong for_all = false
is_lost (left.Message refusal) for_all = false
is_lost left.Slow for_all = false
is_lost left.Closed for_all = false
is_lost left.BrokenOff for_all = false
is_lost left.Stopped for_all = false
is_lost left.Removed for_all = false
is_lost left.TurnLimit for_all = false
is_lost left.NoThread for_all = false
is_lost left.Memory for_all = false
