-- Places that are to be listened on.
use Rattle.std.specs.Prelude.{◌≡◌, ℕ, IfSome, IsSome, Some}
use Rattle.floor_config.specs.declared.users.User.{User}
use Rattle.floor_sockets.specs.Sockets.{Opens, Sockets, life_at}
use Rattle.floor_sockets.specs.declared.role.Role.TheVariants.{Listener}
use Rattle.floor_connections.specs.declared.connections.Connections.{Connections}
use Rattle.floor_connections.specs.declared.place.Place.{Place}
use Rattle.floor_connections.specs.declared.place.Place.TheVariants.{Port}
use Rattle.floor_connections.specs.declared.table.Table.{Table}
use Rattle.floor_connections.specs.Table.{OthersStay, listener_of, socket_at, wanted}

-- In a slot that had no socket the place is to be listened on; at each other socket is whoever was.
pub record IsAdded (place : Place) (group : ℕ) (old new : Connections) (slot : ℕ) : Type 0 where
  pub opened : Opens Listener group old.sockets new.sockets slot
  pub there : listener_of (socket_at new.table slot) ≡ Some (wanted place group)
  pub others : OthersStay slot old.table new.table

-- The place is to be listened on, in a slot that has a socket.
pub record IsHeld (t : Table) (s : Sockets) (place : Place) (group slot : ℕ) : Type 0 where
  pub there : listener_of (socket_at t slot) ≡ Some (wanted place group)
  pub life : IsSome (life_at s slot)

-- What was to be listened on is so still.
abbrev pub KeepsPorts : Connections → Connections → Type 0
KeepsPorts old new = (place : Place) (group slot : ℕ) → IsHeld old.table old.sockets place group slot → IsHeld new.table new.sockets place group slot

-- The user's port, where it has one, is to be listened on for it.
abbrev pub HasPort : Table → Sockets → ℕ → User → Type 0
HasPort t s conference user = IfSome user.port (λ port. (group slot : ℕ) × IsHeld t s (Port conference user.id port) group slot)
