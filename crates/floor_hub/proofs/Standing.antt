-- Which worlds rooms and connections stand for, where no conference was forgotten.
use Rattle.std.specs.Prelude.{◌≡◌, ℕ, Option, Some, length}
use Rattle.floor_room.specs.Room.{Room}
use Rattle.floor_hub.specs.declared.connection.Connection.{Connection}
use Rattle.floor_hub.specs.StandsFor.{NumberStands, RoomStands}
use Rattle.floor_hub.specs.World.{Place, World, place}

-- the rooms, arrivals and live connections are the world's
pub record RoomsStand (rooms : ℕ → Option Room) (connections : ℕ → Option Connection) (arrivals : ℕ) (w : World) : Type 0 where
  pub of_rooms : (c : ℕ) → RoomStands (rooms c) (w.parts c)
  pub count : arrivals ≡ length w.places
  pub numbers : (k : ℕ) → NumberStands rooms w.parts (connections k) (place w.places k)
  -- no two numbers have one place
  pub apart : (j k : ℕ) (p : Place) → place w.places j ≡ Some p → place w.places k ≡ Some p → j ≡ k
