-- Who comes back to a conference in which members of its own are away.
use Rattle.std.specs.Prelude.{◌≡◌, ◌⊎◌, ◌≤◌, ℕ, ◌+◌, List, Bool, true, false, nat_eq, Some, None}
use Rattle.std.specs.List.{Contains}
use Rattle.floor_room.specs.Room.{Room}
use Rattle.floor_hub.specs.declared.attached.Live.{Live}
use Rattle.floor_hub.specs.declared.connection.Connection.{Connection}
use Rattle.floor_hub.specs.declared.refusal.HubRefusal.{HubRefusal}
use Rattle.floor_hub.specs.declared.refusal.HubRefusal.TheVariants.{Memory as NoMemory}
use Rattle.floor_hub.specs.declared.step.Step.TheVariants.{Attach}
use Rattle.floor_hub.specs.Calls.{Fails}
use Rattle.floor_hub.specs.Connections.{connection_at}
use Rattle.floor_hub.specs.Members.{AreMembers, user_of}
use Rattle.floor_hub.specs.Hub.{Hub, room_at}
use Rattle.floor_hub.specs.StandsFor.{StandsFor}
use Rattle.floor_hub.specs.World.{World}
use Rattle.floor_loop.specs.declared.stay.Stay.{Stay}
use Rattle.floor_loop.specs.Away.{Away, IsOldest, are_live, away_among, by_full, is_stay_of, stay_of}
use Rattle.floor_loop.specs.Loop.{Loop, stay_at}
use Rattle.floor_loop.specs.Written.{IsOver}

-- A connection of this user has come to the conference, with the next number; those of the user's members that were away there have left, and no
-- other has gone.
pub record Returned (conference user number : ℕ) (old new : Loop) : Type 0 where
  pub live : List Live
  pub members : AreMembers old.hub conference live
  pub back : new.attended.away.back ≡ away_among old.attended.away user live
  pub next : number ≡ old.hub.arrivals + 1
  pub connection : Connection
  pub there : connection_at new.hub.connections number ≡ Some connection
  pub place : connection.conference ≡ conference
  pub left : (k : ℕ) → Contains new.attended.away.back k → connection_at new.hub.connections k ≡ None
  pub others : (k : ℕ) → nat_eq number k ≡ false → ¬ Contains new.attended.away.back k → connection_at new.hub.connections k ≡ connection_at old.hub.connections k

-- nothing but the last place of the conference is left, which is kept for who comes back, and none of this user's members there is away
pub record IsKeptPlace (conference user : ℕ) (r : Room) (l : Loop) : Type 0 where
  pub keeps : l.attended.away.keeps_place ≡ true
  pub live : are_live 63 r user ≡ true
  pub nobody : (k : ℕ) (x : Connection) → connection_at l.hub.connections k ≡ Some x → x.conference ≡ conference → is_stay_of user (stay_at l k) ≡ false

-- Why nobody of this user is attached to the conference: memory was refused; or nothing but the last place is left, which is kept for who comes back; or the
-- hub refuses it so.
abbrev pub IsRefusedAs : ℕ → ℕ → Bool → Hub → Hub → HubRefusal → Type 0
IsRefusedAs conference user keeps_place old new r =
    (r ≡ NoMemory)
    ⊎ (((r ≡ by_full) × (keeps_place ≡ true) × ((q : Room) → room_at old conference ≡ Some q → are_live 63 q user ≡ true))
    ⊎ ((w : World) → StandsFor old w → Fails new w (Attach conference user) r))

-- Each stay is of a connection that has come; and where that is live, it is in its own member's name, as its conference's journal has it.
abbrev pub StaysAreOwn : Loop → Type 0
StaysAreOwn l = (k : ℕ) (s : Stay) → stay_at l k ≡ Some s →
    (k ≤ l.hub.arrivals) × ((x : Connection) (r : Room) → connection_at l.hub.connections k ≡ Some x → room_at l.hub x.conference ≡ Some r → user_of r.ledger.journal x.n ≡ Some s.user)

-- The connection isn't away, and its member may not stay: there is no grace, nothing more is told to it, or the journal of its conference has no Join
-- of it.
pub record MayNotStay (l : Loop) (number : ℕ) : Type 0 where
  pub here : stay_at l number ≡ None
  pub why : (l.attended.away.grace.lost ≡ 0)
      ⊎ (((x : Connection) (r : Room) → connection_at l.hub.connections number ≡ Some x → room_at l.hub x.conference ≡ Some r → IsOver r x.n)
      ⊎ ((x : Connection) (r : Room) → connection_at l.hub.connections number ≡ Some x → room_at l.hub x.conference ≡ Some r → user_of r.ledger.journal x.n ≡ None))

-- this one is away since longest of this user's members in the conference
pub record IsOldestOf (hub : Hub) (a : Away) (conference user number : ℕ) : Type 0 where
  pub live : List Live
  pub members : AreMembers hub conference live
  pub oldest : IsOldest (stay_of a) (away_among a user live) number
