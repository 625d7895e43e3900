-- A conference that goes on from its configuration and its journal.
use Rattle.std.specs.Prelude.{◌≡◌, All, List, ◌++◌, Some}
use Rattle.floor_config.specs.Configuration.{Configuration}
use Rattle.floor_machine.specs.declared.event.Event.{Event}
use Rattle.floor_machine.specs.declared.event.Event.TheVariants.{Join, Message, Took, Leave, Revoke, Close, AddUser, AddFloor, SetChair, Say}
use Rattle.floor_room.specs.Room.{Room}
use Rattle.floor_hub.specs.Hub.{Hub, room_at}

-- a member leaves by it
abbrev pub IsLeave : Event → Type 0
IsLeave (Join user) = ⊥
IsLeave (Message n frame) = ⊥
IsLeave (Took n k) = ⊥
IsLeave (Leave n) = Unit {0}
IsLeave (Revoke request) = ⊥
IsLeave Close = ⊥
IsLeave (AddUser user) = ⊥
IsLeave (AddFloor floor) = ⊥
IsLeave (SetChair floor chair) = ⊥
IsLeave (Say user bytes) = ⊥

-- the journal has these events, in order, and behind them members that left
pub record Continues (events journal : List Event) : Type 0 where
  pub left : List Event
  pub is : journal ≡ events ++ left
  pub leaves : All IsLeave left

-- The conference is opened with this configuration, and its journal has these events, and behind them members that left.
pub record IsResumed (hub : Hub) (config : Configuration) (events : List Event) : Type 0 where
  pub room : Room
  pub there : room_at hub config.conference ≡ Some room
  pub opening : room.ledger.config ≡ config
  pub journal : Continues events room.ledger.journal
