-- Which session a datagram of a user's belongs to, and when one begins (RFC 8855, sections 6.2 and 8.3).
use Rattle.std.specs.Prelude.{ℕ, ◌==◌, Bool, true, false, not, ◌&&◌, ◌||◌, List, Option, Some, None, nat_le, if◌then◌else◌}
use Rattle.floor_datagram.specs.Datagrams.{id_of, primitive_of, kind_of}
use Rattle.floor_datagram.specs.Numbering.{age_of}
use Rattle.floor_datagram.specs.declared.kind.Kind.{Kind}
use Rattle.floor_datagram.specs.declared.kind.Kind.TheVariants as Kinds
use Rattle.floor_datagram.specs.declared.numbering.Age.{Age}
use Rattle.floor_datagram.specs.declared.numbering.Age.TheVariants as Ages
use Rattle.floor_sessions.specs.declared.way.Standing.{Standing}
use Rattle.floor_sessions.specs.declared.way.Way.{Way}
use Rattle.floor_sessions.specs.declared.way.Way.TheVariants.{Dropped, Misfit, Parting, Onward, Begins, Moves, Anew}

-- a whole Hello
abbrev pub is_hello_by : Kind → List ℕ → Bool
is_hello_by Kinds.Fragment d = false
is_hello_by Kinds.Misfit d = false
is_hello_by Kinds.Acknowledgement d = false
is_hello_by Kinds.Request d = primitive_of d == 11
is_hello_by Kinds.Nothing d = false

abbrev pub is_hello : List ℕ → Bool
is_hello d = is_hello_by (kind_of d) d

-- its Transaction ID is newer than the last, or older
abbrev pub is_newer_age : Age → Bool
is_newer_age Ages.Copy = false
is_newer_age Ages.Older = false
is_newer_age Ages.Newer = true

abbrev pub is_newer_than : Option ℕ → List ℕ → Bool
is_newer_than last d = is_newer_age (age_of last (id_of d))

abbrev pub is_older_age : Age → Bool
is_older_age Ages.Copy = false
is_older_age Ages.Older = true
is_older_age Ages.Newer = false

abbrev pub is_older_than : Option ℕ → List ℕ → Bool
is_older_than last d = is_older_age (age_of last (id_of d))

-- where there is no session: a request begins one, but for a Goodbye, which is answered; a fragment begins none
abbrev pub alone_by : Kind → List ℕ → Way
alone_by Kinds.Fragment d = Dropped
alone_by Kinds.Misfit d = Misfit
alone_by Kinds.Acknowledgement d = Dropped
alone_by Kinds.Request d = if primitive_of d == 16 then Parting else Begins
alone_by Kinds.Nothing d = Dropped

abbrev pub alone : List ℕ → Way
alone d = alone_by (kind_of d) d

-- Behind a session that ended less long ago, at the same port, than an answer is kept, only a Hello with a newer ID begins one.
abbrev pub behind_end : Standing → List ℕ → Way
behind_end s d =
    if nat_le s.t2 s.ago || not s.is_here then alone d
    else if is_hello d && is_newer_than s.last d then Begins else Onward

-- Beside a session only a Hello takes over from another port. At the same port a Hello with an older ID, as long after a
-- request was taken as an answer is kept, is a client's that began anew.
abbrev pub beside : Standing → List ℕ → Way
beside s d =
    if not (is_hello d) then (if s.is_here then Onward else Dropped)
    else if not s.is_here then Moves
    else if is_older_than s.last d && nat_le s.t2 s.ago then Anew else Onward

abbrev pub way_of : Option Standing → List ℕ → Way
way_of None d = alone d
way_of (Some s) d = if s.has_ended then behind_end s d else beside s d
