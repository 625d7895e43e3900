-- What holds of a session from its beginning.
use Rattle.std.specs.Prelude.{◌≤◌, ◌<◌, ◌^◌}
use Rattle.floor_datagram.specs.Session as session
use Rattle.floor_datagram.specs.declared.session.Terms.{Terms}

abbrev pub terms_of : Terms → session.Terms
terms_of t = record { conference = t.conference; user = t.user; limit = t.limit; probe = t.probe }

-- Its datagrams hold a fragment's fields and a unit at least.
abbrev pub IsLimit : Terms → Type 0
IsLimit t = (20 ≤ t.limit) × (t.limit < 2 ^ 32)
