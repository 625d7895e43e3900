-- When the time is wanted.
use Rattle.std.specs.Prelude.{◌≡◌, ◌⊎◌, ◌*◌, ℕ, Contains, Some, min}
use Rattle.floor_loop.specs.Loop.{over_at}
use Rattle.floor_sockets.specs.declared.deadlines.Deadline.{Deadline}
use Rattle.floor_turn.specs.declared.server.Server.{Server}

-- the time of a member that is over, in microseconds, or the last there is
abbrev pub micros_of : ℕ → ℕ
micros_of millis = min (millis * 1000) 18446744073709551615

-- A deadline of a socket is so late, or the time of a member is over then.
abbrev pub IsDueAt : Server → ℕ → Type 0
IsDueAt s time =
    ((d : Deadline) × Contains s.connections.sockets.deadlines d × (d.until ≡ time)) ⊎ ((number until : ℕ) × (over_at s.meetings.hub number ≡ Some until) × (time ≡ micros_of until))
