-- What waits for a connection that leaves is thrown away.
use Rattle.std.specs.Prelude.{◌≡◌, ℕ, [], nat_eq, false, Some}
use Rattle.floor_room.specs.Room.{Room}
use Rattle.floor_hub.specs.declared.connection.Connection.{Connection}
use Rattle.floor_hub.specs.Concerned.{IsLeftAlone}
use Rattle.floor_hub.specs.Connections.{connection_at}
use Rattle.floor_hub.specs.Gathers.{Gathers}
use Rattle.floor_hub.specs.Hub.{room_at}
use Rattle.floor_loop.specs.Done.{NoSteps, Steps}
use Rattle.floor_loop.specs.Loop.{Loop, Outgoing, outgoing_at}
use Rattle.floor_loop.specs.Written.{Dropped, Took}
use Rattle.floor_loop.specs.steps.Moved.{IsLoop, SameLedgers}

-- No step was done, nobody has come or gone, and to no other than this connection has anything been done: what is on its way to it is what
-- was, what waits for it waits, and nothing was written.
pub record Thrown (number : ℕ) (old new : Loop) : Type 0 where
  pub steps : Steps NoSteps old.hub new.hub
  pub connections : (k : ℕ) → connection_at new.hub.connections k ≡ connection_at old.hub.connections k
  pub loop : IsLoop old → IsLoop new
  pub others : IsLoop old → (k : ℕ) → nat_eq number k ≡ false → Took old new k [] 0
  pub dropped : IsLoop old → Dropped old new number
  pub found : (k : ℕ) (o : Outgoing) → outgoing_at old k ≡ Some o → (p : Outgoing) × (outgoing_at new k ≡ Some p) × (p.ends ≡ o.ends)
  pub ready : (k : ℕ) (p : Outgoing) → outgoing_at new k ≡ Some p → (o : Outgoing) × (outgoing_at old k ≡ Some o) × (p.ready ≡ o.ready)
  pub alone : IsLoop old → (k : ℕ) (x : Connection) (r s : Room) → nat_eq number k ≡ false → connection_at old.hub.connections k ≡ Some x → room_at old.hub x.conference ≡ Some r → room_at new.hub x.conference ≡ Some s →
      IsLeftAlone r s x.n
  pub ledgers : SameLedgers old.hub new.hub
  pub gathered : Gathers old.hub new.hub
