-- Whom a call is for: a conference's room, or a connection with its room.
use Rattle.std.specs.Prelude.{◌≡◌, ℕ, nat_eq, false, Option, Some, None, Result, Err}
use Rattle.floor_room.specs.Room.{Room}
use Rattle.floor_hub.specs.declared.connection.Connection.{Connection}
use Rattle.floor_hub.specs.declared.refusal.HubRefusal.{HubRefusal}
use Rattle.floor_hub.specs.declared.refusal.HubRefusal.TheVariants.{NoConnection}
use Rattle.floor_hub.specs.Connections.{Connections, Puts, SameConnections, connection_at}

-- Without a room of this conference the call is refused so, and no room has changed. Else its room has done so, and every other is as it was.
pub record AtRoom {T : Type 0} (Did : Room → Room → Result T HubRefusal → Type 0) (gone : HubRefusal) (rooms now : ℕ → Option Room) (c : ℕ) (result : Result T HubRefusal) : Type 0 where
  pub absent : rooms c ≡ None → (result ≡ Err gone) × ((d : ℕ) → now d ≡ rooms d)
  pub there : (r : Room) → rooms c ≡ Some r →
      (s : Room) × (now c ≡ Some s) × ((d : ℕ) → nat_eq c d ≡ false → now d ≡ rooms d) × Did r s result

-- Without a live connection of this number the call is refused, and nothing has changed. Else it and its conference's room have done so, and all others are as they were.
pub record AtConnection {T : Type 0} (Did : Connection → Option Connection → Room → Room → Result T HubRefusal → Type 0) (rooms now : ℕ → Option Room) (old new : Connections) (number : ℕ)
    (result : Result T HubRefusal) : Type 0 where
  pub absent : connection_at old number ≡ None → (result ≡ Err NoConnection) × ((d : ℕ) → now d ≡ rooms d) × SameConnections old new
  pub there : (x : Connection) → connection_at old number ≡ Some x → (r : Room) → rooms x.conference ≡ Some r →
      (s : Room) × (y : Option Connection) × (now x.conference ≡ Some s) × ((d : ℕ) → nat_eq x.conference d ≡ false → now d ≡ rooms d)
      × Puts old new number y × Did x y r s result
