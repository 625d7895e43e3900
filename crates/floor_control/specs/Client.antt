-- A client's buffers.
use Rattle.std.specs.Prelude.{◌&&◌, Bool, false, []}
use Rattle.floor_control.specs.Incoming.{Incoming, is_spent}
use Rattle.floor_control.specs.Outgoing.{Outgoing, is_idle}

-- what came, and what goes out
pub record Client : Type 0 where
  pub incoming : Incoming
  pub outgoing : Outgoing

-- nothing came, and nothing waits
abbrev pub new_client : Client
new_client = record { incoming = record { held = []; has_ended = false }; outgoing = record { waiting = []; is_answering = false; held_back = [] } }

-- no line comes any more, no answer was begun, and all is written
abbrev pub is_done : Client → Bool
is_done c = is_spent c.incoming && is_idle c.outgoing
