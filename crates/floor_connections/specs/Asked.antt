-- What was asked of a socket, and isn't answered yet.
use Rattle.std.specs.Prelude.{Bool, true, false, ◌||◌, Option, Some, None}
use Rattle.floor_sockets.specs.declared.life.Asked.{Asked}
use Rattle.floor_sockets.specs.declared.life.Asked.TheVariants as asked
use Rattle.floor_sockets.specs.declared.life.Life.{Life}
use Rattle.floor_sockets.specs.Life as life

abbrev pub is_read : Asked → Bool
is_read asked.Nothing = false
is_read asked.Accept = false
is_read asked.Read = true
is_read asked.Serve = false
is_read asked.Write = false
is_read asked.Shut = false

abbrev pub is_write : Asked → Bool
is_write asked.Nothing = false
is_write asked.Accept = false
is_write asked.Read = false
is_write asked.Serve = false
is_write asked.Write = true
is_write asked.Shut = false

-- an accept was asked of it, a read, a write, or its Shut
abbrev pub accepts : Option Life → Bool
accepts None = false
accepts (Some l) = life.is_accepting l.asked

abbrev pub reads : Option Life → Bool
reads None = false
reads (Some l) = is_read l.asked

abbrev pub writes : Option Life → Bool
writes None = false
writes (Some l) = is_write l.asked

abbrev pub shuts : Option Life → Bool
shuts None = false
shuts (Some l) = life.is_shutting l.asked

-- it is to be shut down
abbrev pub is_over : Option Life → Bool
is_over None = false
is_over (Some l) = l.is_over

-- no socket is there any more, or it is to be shut down or being shut
abbrev pub is_ending : Option Life → Bool
is_ending None = true
is_ending (Some l) = l.is_over || life.is_shutting l.asked
