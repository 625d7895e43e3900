-- A connection that was attached to the hub and taken in.
use Rattle.std.specs.Prelude.{◌≡◌, ℕ, [], nat_eq, false, Some, None, Result, Ok, Err, IfErr, IfOk, MatchResult}
use Rattle.floor_hub.specs.declared.connection.Connection.{Connection}
use Rattle.floor_hub.specs.declared.refusal.HubRefusal.{HubRefusal}
use Rattle.floor_hub.specs.declared.step.Answer.TheVariants.{Attached}
use Rattle.floor_hub.specs.declared.step.Step.TheVariants.{Attach}
use Rattle.floor_hub.specs.Calls.{Fails, Turns}
use Rattle.floor_hub.specs.Concerned.{Concerns}
use Rattle.floor_hub.specs.Connections.{connection_at}
use Rattle.floor_hub.specs.Gathers.{Gathers}
use Rattle.floor_hub.specs.Hub.{Hub}
use Rattle.floor_hub.specs.Left.{LeftAt}
use Rattle.floor_hub.specs.Rooms.{Joins, OneRoom, attach_event, by_broken, refusal_in}
use Rattle.floor_hub.specs.StandsFor.{StandsFor}
use Rattle.floor_hub.specs.World.{World}
use Rattle.floor_loop.specs.Loop.{Attended, Outgoing, outgoing_in}

-- a connection of this conference that was just attached
abbrev pub fresh : ℕ → Outgoing
fresh conference = record { conference = conference; rest = []; parcels = 0; ready = None; ends = None; fails = None }

-- what the hub has done that was asked for it
pub record Attaches (conference user : ℕ) (old new : Hub) (result : Result ℕ HubRefusal) : Type 0 where
  pub next : (w : World) → StandsFor old w → MatchResult result (λ number. Turns new w (Attach conference user) (Attached number)) (λ r. Fails new w (Attach conference user) r)
  pub room : OneRoom by_broken (refusal_in result) (attach_event user) conference old new
  pub left : IfErr result (LeftAt (attach_event user) conference old new)
  pub found : IfOk result (λ number. (x : Connection) × (connection_at new.connections number ≡ Some x) × (x.conference ≡ conference))
  pub joined : IfOk result (λ number. Joins conference number old new)
  pub concerned : Concerns old new
  pub gathered : Gathers old new

-- the connection with this number, if one was attached, is there now, and each other is as it was
abbrev pub Adds : ℕ → Attended → Attended → Result ℕ HubRefusal → Type 0
Adds conference old new (Err r) = new ≡ old
Adds conference old new (Ok number) = (outgoing_in new number ≡ Some (fresh conference)) × ((k : ℕ) → nat_eq number k ≡ false → outgoing_in new k ≡ outgoing_in old k) × (new.time ≡ old.time) × (new.away ≡ old.away)
