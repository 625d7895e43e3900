-- What each call of the hub has done: all clauses of its contract, of one answer.
use Rattle.std.specs.Prelude.{◌≡◌, ℕ, List, Option, Some, None, Result, MatchResult, IfOk, IfErr, OnOk, OnErr}
use Rattle.floor_config.specs.Configuration.{Configuration}
use Rattle.floor_machine.specs.Parcel.{Parcel}
use Rattle.floor_machine.specs.declared.act.Act.{Act}
use Rattle.floor_machine.specs.declared.event.Event.TheVariants.{Took as Takes}
use Rattle.floor_room.specs.Room.{Room}
use Rattle.floor_room.specs.declared.said.Said as room
use Rattle.floor_hub.specs.Calls.{Fails, FailsGone, FailsSame, Turns, answer_of}
use Rattle.floor_hub.specs.Concerned.{Concerns}
use Rattle.floor_hub.specs.Connections.{Puts, SameConnections, StayLive, connection_at}
use Rattle.floor_hub.specs.Hub.{Hub, room_at}
use Rattle.floor_hub.specs.Left.{LeftAt, LeftLeaving, LeftServing, LeftTaking}
use Rattle.floor_hub.specs.Rooms.{Forgets, IsRefusedIn, IsRemembered, Joins, KeptOf, OneRoom, Opens, RoomOf, SameHub, TakenOf, admin_event, attach_event, by_broken, leave_event, refusal_in, serve_event, say_event, took_event}
use Rattle.floor_hub.specs.StandsFor.{StandsFor}
use Rattle.floor_hub.specs.World.{World, answer_said}
use Rattle.floor_hub.specs.declared.connection.Connection.{Connection}
use Rattle.floor_hub.specs.declared.refusal.HubRefusal.{HubRefusal}
use Rattle.floor_hub.specs.declared.step.Answer.TheVariants.{Attached, Done, Said}
use Rattle.floor_hub.specs.declared.step.Served.{Served}
use Rattle.floor_hub.specs.declared.step.Step.TheVariants.{Admin, Attach, Leave, Open, Piece, Say, Serve, Took}

-- `Hub::open`
pub record Opening (config : Configuration) (old new : Hub) (r : Result (Unit {0}) HubRefusal) : Type 0 where
  pub next : (w : World) → StandsFor old w → MatchResult r (λ _. Turns new w (Open config) Done) (λ why. FailsSame new w (Open config) why)
  pub took : OnOk r (Opens config old new)
  pub connections : SameConnections old.connections new.connections
  pub left : OnErr r (SameHub old new)
  pub concerned : new.concerned ≡ old.concerned
  pub forgotten : new.forgotten ≡ old.forgotten

-- `Hub::attach`
pub record Attaching (conference user : ℕ) (old new : Hub) (r : Result ℕ HubRefusal) : Type 0 where
  pub next : (w : World) → StandsFor old w → MatchResult r (λ number. Turns new w (Attach conference user) (Attached number)) (λ why. Fails new w (Attach conference user) why)
  pub room : OneRoom by_broken (refusal_in r) (attach_event user) conference old new
  pub left : IfErr r (LeftAt (attach_event user) conference old new)
  pub found : IfOk r (λ number. (x : Connection) × (connection_at new.connections number ≡ Some x) × (x.conference ≡ conference))
  pub joined : IfOk r (λ number. Joins conference number old new)
  pub concerned : Concerns old new
  pub forgotten : new.forgotten ≡ old.forgotten

-- `Hub::piece`
pub record Handing (number : ℕ) (bytes : List ℕ) (old new : Hub) (r : Result (Unit {0}) HubRefusal) : Type 0 where
  pub next : (w : World) → StandsFor old w → MatchResult r (λ _. Turns new w (Piece number bytes) Done) (λ why. FailsSame new w (Piece number bytes) why)
  pub rooms : (c : ℕ) → room_at new c ≡ room_at old c
  pub connections : StayLive old.connections new.connections
  pub left : OnErr r (SameHub old new)
  pub concerned : new.concerned ≡ old.concerned
  pub forgotten : new.forgotten ≡ old.forgotten

-- `Hub::serve`
pub record Serving (number : ℕ) (old new : Hub) (r : Result Served HubRefusal) : Type 0 where
  pub next : (w : World) → StandsFor old w → MatchResult r (λ found. Turns new w (Serve number) (answer_of found)) (λ why. Fails new w (Serve number) why)
  pub room : RoomOf by_broken (refusal_in r) serve_event (connection_at old.connections number) old new
  pub connections : StayLive old.connections new.connections
  pub left : IfErr r (LeftServing number (connection_at old.connections number) old new)
  pub concerned : Concerns old new
  pub forgotten : new.forgotten ≡ old.forgotten

-- `Hub::took`
pub record Acknowledging (number k : ℕ) (old new : Hub) (r : Result (Unit {0}) HubRefusal) : Type 0 where
  pub next : (w : World) → StandsFor old w → MatchResult r (λ _. Turns new w (Took number k) Done) (λ why. Fails new w (Took number k) why)
  pub room : RoomOf by_broken (refusal_in r) (took_event k) (connection_at old.connections number) old new
  pub refused : (x : Connection) (s : Room) → connection_at old.connections number ≡ Some x → room_at old x.conference ≡ Some s → IfErr r (IsRefusedIn (Takes x.n k) s)
  pub connections : StayLive old.connections new.connections
  pub left : IfErr r (LeftTaking k (connection_at old.connections number) old new)
  pub concerned : Concerns old new
  pub forgotten : new.forgotten ≡ old.forgotten

-- `Hub::leave`
pub record Leaving (number : ℕ) (old new : Hub) (r : Result (Unit {0}) HubRefusal) : Type 0 where
  pub next : (w : World) → StandsFor old w → MatchResult r (λ _. Turns new w (Leave number) Done) (λ why. FailsGone new w (Leave number) why)
  pub room : RoomOf None (refusal_in r) leave_event (connection_at old.connections number) old new
  pub gone : Puts old.connections new.connections number None
  pub left : IfErr r (LeftLeaving number (connection_at old.connections number) old new)
  pub concerned : Concerns old new
  pub forgotten : new.forgotten ≡ old.forgotten

-- `Hub::admin`
pub record Acting (conference : ℕ) (act : Act) (old new : Hub) (r : Result (Unit {0}) HubRefusal) : Type 0 where
  pub next : (w : World) → StandsFor old w → MatchResult r (λ _. Turns new w (Admin conference act) Done) (λ why. Fails new w (Admin conference act) why)
  pub room : OneRoom by_broken (refusal_in r) (admin_event act) conference old new
  pub connections : StayLive old.connections new.connections
  pub left : IfErr r (LeftAt (admin_event act) conference old new)
  pub concerned : Concerns old new
  pub forgotten : new.forgotten ≡ old.forgotten

-- `Hub::say`
pub record Saying (conference user : ℕ) (bytes : List ℕ) (old new : Hub) (r : Result room.Said HubRefusal) : Type 0 where
  pub next : (w : World) → StandsFor old w → MatchResult r (λ v. Turns new w (Say conference user bytes) (Said v)) (λ why. Fails new w (Say conference user bytes) why)
  pub said : IfOk r (λ v. (s : Room) × (room_at old conference ≡ Some s) × (v ≡ answer_said s.ledger user bytes))
  pub room : OneRoom by_broken (refusal_in r) (say_event user bytes) conference old new
  pub connections : StayLive old.connections new.connections
  pub left : IfErr r (LeftAt (say_event user bytes) conference old new)
  pub concerned : Concerns old new
  pub forgotten : new.forgotten ≡ old.forgotten

-- `Hub::forget`
pub record Forgetting (conference : ℕ) (old new : Hub) (r : Result (Unit {0}) HubRefusal) : Type 0 where
  pub took : OnOk r (Forgets conference old new)
  pub refused : IfErr r (IsRemembered conference old)
  pub left : OnErr r (new ≡ old)
  pub stands : (w : World) → StandsFor old w → StandsFor new w
  pub concerned : new.concerned ≡ old.concerned

-- `Hub::take`
pub record Taking (number : ℕ) (old new : Hub) (r : Result (Option Parcel) HubRefusal) : Type 0 where
  pub given : TakenOf (connection_at old.connections number) r old new
  pub kept : KeptOf (connection_at old.connections number) old
  pub stands : (w : World) → StandsFor old w → StandsFor new w
  pub concerned : new.concerned ≡ old.concerned
  pub forgotten : new.forgotten ≡ old.forgotten
