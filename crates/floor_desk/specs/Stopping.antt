-- By when a floor control server is to stop.
use Rattle.std.specs.Prelude.{◌+◌, ◌&&◌, ◌==◌, ℕ, Bool, true, false, Option, Some, None, if◌then◌else◌, min}
use Rattle.floor_desk.specs.declared.desk.Desk.{Desk}

-- by when it is to stop, where it is so late, in microseconds: as was said; where nothing was said and it hasn't stopped, a second later
abbrev pub stop_by : Option ℕ → Bool → ℕ → Option ℕ
stop_by (Some until) has_stopped now = Some until
stop_by None true now = None
stop_by None false now = Some (min (now + 1000000) 18446744073709551615)

-- the server is to stop; nothing else has changed
abbrev pub stopping : Desk → Desk
stopping d = record d { stop = stop_by d.stop d.has_stopped d.now.micros }

-- the same where no conference is opened any more, and none is open; else nothing has changed
abbrev pub stopping_at_last : Desk → Desk
stopping_at_last d = if d.is_draining && d.open == 0 then stopping d else d

-- no conference is opened any more, and where none is open the server is to stop
abbrev pub draining : Desk → Desk
draining d = stopping_at_last (record d { is_draining = true })
