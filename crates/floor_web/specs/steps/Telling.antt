-- What comes of the messages that are held of a server's stream.
use Rattle.std.specs.Prelude.{◌≡◌, ℕ, Bool, true, List, [], ◌++◌, map}
use Rattle.floor_wire.specs.Message.{messages, rest}
use Rattle.websocket.specs.Connection.{Connection}
use Rattle.floor_web.specs.Frames.{start, bytes_of, data_frame}

-- These messages were sent, a binary frame each; none is held any more, unless memory was refused.
pub record PassesOn (context : Connection) (held left down_old down_new : List ℕ) (granted : Bool) : Type 0 where
  pub passed : List (List ℕ)
  pub others : List (List ℕ)
  pub front : messages held ≡ passed ++ others
  pub context_is : context ≡ start
  pub down : down_new ≡ down_old ++ bytes_of (map data_frame passed)
  pub all : granted ≡ true → (others ≡ []) × (left ≡ rest held)
