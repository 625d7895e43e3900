-- A server's counts, in Prometheus' text.
use Rattle.std.specs.Prelude.{ℕ, nat_le, if◌then◌else◌, List, ◌++◌, codes}
use Rattle.std.specs.Fmt.{decimal}
use Rattle.floor_control.specs.declared.metrics.EventTimes.{EventTimes}
use Rattle.floor_control.specs.declared.metrics.Metrics.{Metrics}
pub use Rattle.floor_control.specs.Refused.{plus}
use Rattle.floor_control.specs.Refused.{refused_total}

-- no event
abbrev pub no_times : EventTimes
no_times =
    record {
      tens = 0;
      hundreds = 0;
      milliseconds = 0;
      ten_milliseconds = 0;
      hundred_milliseconds = 0;
      seconds = 0;
      count = 0;
      nanoseconds = 0;
    }

-- one more, where it took no longer than this
abbrev pub counted : ℕ → ℕ → ℕ → ℕ
counted nanoseconds most count = if nat_le nanoseconds most then plus count 1 else count

-- an event that held its loop for so many nanoseconds is one more of each limit that it is within
abbrev pub noted : ℕ → EventTimes → EventTimes
noted nanoseconds t =
    record {
      tens = counted nanoseconds 10000 t.tens;
      hundreds = counted nanoseconds 100000 t.hundreds;
      milliseconds = counted nanoseconds 1000000 t.milliseconds;
      ten_milliseconds = counted nanoseconds 10000000 t.ten_milliseconds;
      hundred_milliseconds = counted nanoseconds 100000000 t.hundred_milliseconds;
      seconds = counted nanoseconds 1000000000 t.seconds;
      count = plus t.count 1;
      nanoseconds = plus t.nanoseconds nanoseconds;
    }

-- the events of both
abbrev pub both : EventTimes → EventTimes → EventTimes
both a b =
    record {
      tens = plus a.tens b.tens;
      hundreds = plus a.hundreds b.hundreds;
      milliseconds = plus a.milliseconds b.milliseconds;
      ten_milliseconds = plus a.ten_milliseconds b.ten_milliseconds;
      hundred_milliseconds = plus a.hundred_milliseconds b.hundred_milliseconds;
      seconds = plus a.seconds b.seconds;
      count = plus a.count b.count;
      nanoseconds = plus a.nanoseconds b.nanoseconds;
    }

-- what a count is, and of which kind
abbrev pub head : List ℕ → List ℕ → List ℕ → List ℕ
head name help kind =
    codes "# HELP floorhub_" ++ (name ++ (codes " " ++ (help ++ (codes "\n# TYPE floorhub_" ++ (name ++ (codes " " ++ (kind ++ codes "\n")))))))

-- how many there are
abbrev pub sample : List ℕ → ℕ → List ℕ
sample name count = codes "floorhub_" ++ (name ++ (codes " " ++ (decimal count ++ codes "\n")))

abbrev pub metric : List ℕ → List ℕ → List ℕ → ℕ → List ℕ
metric name help kind count = head name help kind ++ sample name count

-- what may also fall
abbrev pub gauge : List ℕ → List ℕ → ℕ → List ℕ
gauge name help count = metric name help (codes "gauge") count

abbrev pub gauges : Metrics → List ℕ
gauges m =
    gauge (codes "conferences") (codes "Conferences that are open.") m.conferences
    ++ (gauge (codes "members") (codes "Members that are live.") m.members
    ++ gauge (codes "connections") (codes "Connections that are served.") m.connections)

-- what only rises: events and what they told
abbrev pub counter : List ℕ → List ℕ → ℕ → List ℕ
counter name help count = metric name help (codes "counter") count

abbrev pub event_counters : Metrics → List ℕ
event_counters m =
    counter (codes "events_total") (codes "Events of all conferences.") m.events
    ++ (counter (codes "messages_total") (codes "Messages of members.") m.messages
    ++ counter (codes "told_total") (codes "Messages told to members.") m.told)

-- what only rises: who was cut or not let in
abbrev pub refusal_counters : Metrics → List ℕ
refusal_counters m =
    counter (codes "cut_total") (codes "Members that were cut.") m.cut
    ++ (refused_total m.refused
    ++ counter (codes "accept_failures_total") (codes "Connections that could not be accepted.") m.accept_failures)

-- how many events took no longer than this, in seconds
abbrev pub bucket : List ℕ → ℕ → List ℕ
bucket most count = codes "floorhub_event_seconds_bucket{le=\"" ++ (most ++ (codes "\"} " ++ (decimal count ++ codes "\n")))

-- how many events there were, and how long all of them took, in seconds
abbrev pub sum_words : EventTimes → List ℕ
sum_words t =
    bucket (codes "+Inf") t.count
    ++ (codes "floorhub_event_seconds_sum " ++ (decimal t.nanoseconds ++ (codes "e-9\nfloorhub_event_seconds_count " ++ (decimal t.count ++ codes "\n"))))

-- how many events took less than a hundredth of a second, and how many more
abbrev pub short_buckets : EventTimes → List ℕ
short_buckets t =
    bucket (codes "0.00001") t.tens
    ++ (bucket (codes "0.0001") t.hundreds
    ++ bucket (codes "0.001") t.milliseconds)

abbrev pub long_buckets : EventTimes → List ℕ
long_buckets t =
    bucket (codes "0.01") t.ten_milliseconds
    ++ (bucket (codes "0.1") t.hundred_milliseconds
    ++ bucket (codes "1") t.seconds)

-- how long events held their loops
abbrev pub histogram : EventTimes → List ℕ
histogram t =
    head (codes "event_seconds") (codes "How long an event held its loop.") (codes "histogram")
    ++ (short_buckets t ++ (long_buckets t ++ sum_words t))

-- a server's counts, and the number of their lines
abbrev pub metrics : Metrics → List ℕ
metrics m = (gauges m ++ (event_counters m ++ refusal_counters m)) ++ (histogram m.event_times ++ codes "end 52\n")
