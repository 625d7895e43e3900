-- What the notice that is out stands for.
use Rattle.std.specs.Prelude.{◌≤◌, Option, Some, None}
use Rattle.floor_datagram.specs.Notices as notices
use Rattle.floor_datagram.specs.declared.notices.Out.{Out}

abbrev pub out_of : Out → notices.Out
out_of o = record { id = o.id; datagrams = o.datagrams.items; first = o.first; tries = o.tries; t1 = o.t1 }

-- It was sent one to four times, and its retransmission timer is a minute at most.
abbrev pub IsOut : Option Out → Type 0
IsOut None = Unit {0}
IsOut (Some o) = (1 ≤ o.tries) × (o.tries ≤ 4) × (o.t1 ≤ 60000)
