-- What is told of a control client's socket.
use Rattle.std.specs.Prelude.{◌≡◌, ℕ, None, Some}
use Rattle.floor_sockets.specs.Runs.{Call, Does}
use Rattle.floor_sockets.specs.Sockets.{Sockets}
use Rattle.floor_connections.specs.declared.place.Place.{Place}
use Rattle.floor_connections.specs.declared.table.Table.{Table}
use Rattle.floor_connections.specs.Table.{client_of, socket_at}

-- Where a client is at the socket the table of sockets has taken the call; else nothing has changed.
pub record IsForClient (call : Call) (socket : ℕ) (t : Table) (old new : Sockets) : Type 0 where
  pub took : (place : Place) → client_of (socket_at t socket) ≡ Some place → Does call old new
  pub other : client_of (socket_at t socket) ≡ None → new ≡ old
