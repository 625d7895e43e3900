use Rattle.std.proofs.Common.{◌≡◌, ℕ, refl, None, Some}
use Rattle.std.specs.Prelude.{Option}
use Rattle.floor_room.specs.Room.{Room}
use Rattle.floor_hub.specs.declared.connection.Connection.{Connection}
use Rattle.floor_hub.specs.Connections.{connection_at}
use Rattle.floor_hub.specs.Hub.{room_at}
use Rattle.floor_loop.specs.Loop.{IsHandedOut, outgoing_in}
use Rattle.floor_loop.proofs.Released.{nothing-first}
use Rattle.floor_loop.proofs.Stepping.{keeps-refl}
use Rattle.floor_loop.proofs.turn.wake_handed.Goals as goal

pub returns-in-Ok : goal.returns-in-Ok
returns-in-Ok c =
    record {
      kept = c.wake_each.ensures.kept;
      woken = λ number x is conference. woken number x is conference (room_at c.args.hub.now c.args.conference) refl;
      ends = c.wake_each.ensures.ends;
      away = c.wake_each.ensures.away;
    }
  where
    woken : (number : ℕ) (x : Connection) → connection_at c.args.hub.now.connections number ≡ Some x → x.conference ≡ c.args.conference → (z : Option Room) → room_at c.args.hub.now c.args.conference ≡ z →
        IsHandedOut c.args.hub.now c.wake_each.new.attended number
    woken number x is conference None e = λ o is_o some. absurd (some (nothing-first c.args.hub.now c.args.conference number x is conference e))
    woken number x is conference (Some r) e = c.wake_each.ensures.woken number x.n ((c.in-Ok.ensures.found r e).found number x is conference)

pub returns-in-Err : goal.returns-in-Err
returns-in-Err c =
    record {
      kept = keeps-refl (outgoing_in c.args.attended.now);
      woken = λ number x is conference. woken number x is conference (room_at c.args.hub.now c.args.conference) refl;
      ends = λ k. refl;
      away = refl;
    }
  where
    woken : (number : ℕ) (x : Connection) → connection_at c.args.hub.now.connections number ≡ Some x → x.conference ≡ c.args.conference → (z : Option Room) → room_at c.args.hub.now c.args.conference ≡ z →
        IsHandedOut c.args.hub.now c.args.attended.now number
    woken number x is conference None e = λ o is_o some. absurd (some (nothing-first c.args.hub.now c.args.conference number x is conference e))
    woken number x is conference (Some r) e = absurd (c.in-Err.ensures.found r e)
