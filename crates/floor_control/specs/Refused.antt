-- How many connections were refused, by the name of the refusal, in Prometheus' text.
use Rattle.std.specs.Prelude.{ℕ, ◌+◌, ◌-◌, ◌^◌, min, List, ◌++◌, codes}
use Rattle.std.specs.Fmt.{decimal}
use Rattle.floor_control.specs.declared.refused.RefusedCounts.{RefusedCounts}

-- none
abbrev pub none_refused : RefusedCounts
none_refused =
    record {
      no_header = 0;
      bad_header = 0;
      no_name = 0;
      bad_name = 0;
      no_certificate = 0;
      not_verified = 0;
      no_conference = 0;
      no_user = 0;
      ended = 0;
      broken = 0;
      user_connections = 0;
      connections = 0;
      full = 0;
      journal_full = 0;
      memory = 0;
    }

-- the sum of two counts, up to the greatest number of 64 bits
abbrev pub plus : ℕ → ℕ → ℕ
plus a b = min (a + b) (2 ^ 64 - 1)

-- those of both
abbrev pub both_refused : RefusedCounts → RefusedCounts → RefusedCounts
both_refused a b =
    record {
      no_header = plus a.no_header b.no_header;
      bad_header = plus a.bad_header b.bad_header;
      no_name = plus a.no_name b.no_name;
      bad_name = plus a.bad_name b.bad_name;
      no_certificate = plus a.no_certificate b.no_certificate;
      not_verified = plus a.not_verified b.not_verified;
      no_conference = plus a.no_conference b.no_conference;
      no_user = plus a.no_user b.no_user;
      ended = plus a.ended b.ended;
      broken = plus a.broken b.broken;
      user_connections = plus a.user_connections b.user_connections;
      connections = plus a.connections b.connections;
      full = plus a.full b.full;
      journal_full = plus a.journal_full b.journal_full;
      memory = plus a.memory b.memory;
    }

-- how many were refused by this name
abbrev pub refused_sample : List ℕ → ℕ → List ℕ
refused_sample name count = codes "floorhub_refused_total{name=\"" ++ (name ++ (codes "\"} " ++ (decimal count ++ codes "\n")))

-- by a header at a door
abbrev pub by_headers : RefusedCounts → List ℕ
by_headers r =
    refused_sample (codes "NoHeader") r.no_header
    ++ (refused_sample (codes "BadHeader") r.bad_header
    ++ (refused_sample (codes "NoName") r.no_name
    ++ refused_sample (codes "BadName") r.bad_name))

-- by a certificate
abbrev pub by_certificates : RefusedCounts → List ℕ
by_certificates r =
    refused_sample (codes "NoCertificate") r.no_certificate
    ++ refused_sample (codes "NotVerified") r.not_verified

-- by the conference
abbrev pub by_conferences : RefusedCounts → List ℕ
by_conferences r =
    refused_sample (codes "NoConference") r.no_conference
    ++ (refused_sample (codes "NoUser") r.no_user
    ++ (refused_sample (codes "Ended") r.ended
    ++ refused_sample (codes "Broken") r.broken))

-- by a bound
abbrev pub by_bounds : RefusedCounts → List ℕ
by_bounds r =
    refused_sample (codes "UserConnections") r.user_connections
    ++ (refused_sample (codes "Connections") r.connections
    ++ (refused_sample (codes "Full") r.full
    ++ refused_sample (codes "JournalFull") r.journal_full))

-- by what was said at a door
abbrev pub at_doors : RefusedCounts → List ℕ
at_doors r = by_headers r ++ by_certificates r

-- by the conference, a bound of it, or memory
abbrev pub inside : RefusedCounts → List ℕ
inside r = by_conferences r ++ (by_bounds r ++ refused_sample (codes "Memory") r.memory)

-- all of them
abbrev pub refused_total : RefusedCounts → List ℕ
refused_total r =
    codes "# HELP floorhub_refused_total Connections that were refused.\n# TYPE floorhub_refused_total counter\n"
    ++ (at_doors r ++ inside r)
