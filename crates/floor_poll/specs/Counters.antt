-- What loops count.
use Rattle.std.specs.Prelude.{ℕ, zero, suc, ◌/◌}
use Rattle.floor_control.specs.declared.metrics.EventTimes.{EventTimes}
use Rattle.floor_control.specs.declared.metrics.Metrics.{Metrics}
use Rattle.floor_control.specs.Metrics.{no_times, noted, plus}
use Rattle.floor_control.specs.Metrics as control
use Rattle.floor_control.specs.Refused.{both_refused, none_refused}
use Rattle.floor_control.specs.declared.refused.RefusedCounts.{RefusedCounts}
use Rattle.floor_machine.specs.declared.machine.Refusal.{Refusal}
use Rattle.floor_machine.specs.declared.machine.Refusal.TheVariants as machine
use Rattle.floor_proxy.specs.declared.refusal.ProxyRefusal.{ProxyRefusal}
use Rattle.floor_proxy.specs.declared.refusal.ProxyRefusal.TheVariants as proxy
use Rattle.floor_room.specs.declared.refusal.RoomRefusal.TheVariants as room
use Rattle.floor_server.specs.declared.departure.Refused.{Refused}
use Rattle.floor_server.specs.declared.departure.Refused.TheVariants as cause
use Rattle.floor_room.specs.declared.status.Phase.{Phase}
use Rattle.floor_room.specs.declared.status.Phase.TheVariants.{Running}
use Rattle.floor_room.specs.declared.status.Status.{Status}

-- nothing
abbrev pub no_counts : Metrics
no_counts =
    record {
      conferences = 0;
      members = 0;
      connections = 0;
      events = 0;
      messages = 0;
      told = 0;
      cut = 0;
      refused = none_refused;
      accept_failures = 0;
      event_times = no_times;
    }

-- what two loops have counted together
abbrev pub both : Metrics → Metrics → Metrics
both a b =
    record {
      conferences = plus a.conferences b.conferences;
      members = plus a.members b.members;
      connections = plus a.connections b.connections;
      events = plus a.events b.events;
      messages = plus a.messages b.messages;
      told = plus a.told b.told;
      cut = plus a.cut b.cut;
      refused = both_refused a.refused b.refused;
      accept_failures = plus a.accept_failures b.accept_failures;
      event_times = control.both a.event_times b.event_times;
    }

-- a conference that is open is one
abbrev pub open_of : Phase → ℕ
open_of Running = 1
open_of _ = 0

-- a conference's members and events, and itself where it is open, are counted with the others
abbrev pub with_conference : Status → Metrics → Metrics
with_conference s m =
    record m {
      conferences = plus m.conferences (open_of s.phase);
      members = plus m.members s.members;
      events = plus m.events s.events;
    }

-- so many events, each of which took so many nanoseconds
abbrev pub noted_each : ℕ → ℕ → EventTimes → EventTimes
noted_each zero nanoseconds times = times
noted_each (suc k) nanoseconds times = noted nanoseconds (noted_each k nanoseconds times)

-- events that took so many nanoseconds together took as long as one another
abbrev pub timed : (nanoseconds events : ℕ) → Metrics → Metrics
timed nanoseconds events m = record m { event_times = noted_each events (nanoseconds / events) m.event_times }

-- one more whose header a door didn't take
abbrev pub refused_by_header : ProxyRefusal → RefusedCounts → RefusedCounts
refused_by_header proxy.BadHeader r = record r { bad_header = plus r.bad_header 1 }
refused_by_header proxy.NoCertificate r = record r { no_certificate = plus r.no_certificate 1 }
refused_by_header proxy.NotVerified r = record r { not_verified = plus r.not_verified 1 }
refused_by_header proxy.NoName r = record r { no_name = plus r.no_name 1 }
refused_by_header proxy.BadName r = record r { bad_name = plus r.bad_name 1 }

-- one more that its conference refused: by nothing else than these five
abbrev pub refused_by_room : Refusal → RefusedCounts → RefusedCounts
refused_by_room machine.Full r = record r { full = plus r.full 1 }
refused_by_room machine.Ended r = record r { ended = plus r.ended 1 }
refused_by_room machine.Broken r = record r { broken = plus r.broken 1 }
refused_by_room machine.NoUser r = record r { no_user = plus r.no_user 1 }
refused_by_room machine.Memory r = record r { memory = plus r.memory 1 }
refused_by_room _ r = r

-- one more that joined no conference, by why it didn't; no thread is had where memory is refused
abbrev pub refused_by : Refused → RefusedCounts → RefusedCounts
refused_by cause.NoHeader r = record r { no_header = plus r.no_header 1 }
refused_by (cause.ByHeader refusal) r = refused_by_header refusal r
refused_by cause.NoConference r = record r { no_conference = plus r.no_conference 1 }
refused_by cause.UserConnections r = record r { user_connections = plus r.user_connections 1 }
refused_by cause.Connections r = record r { connections = plus r.connections 1 }
refused_by (cause.ByRoom room.JournalFull) r = record r { journal_full = plus r.journal_full 1 }
refused_by (cause.ByRoom (room.Refused refusal)) r = refused_by_room refusal r
refused_by cause.NoThread r = record r { memory = plus r.memory 1 }
refused_by cause.Memory r = record r { memory = plus r.memory 1 }
