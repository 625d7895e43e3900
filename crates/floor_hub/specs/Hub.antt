-- A hub, as contracts see it.
use Rattle.std.specs.Prelude.{ℕ, Bool, List, nat_eq, Option}
use Rattle.std.specs.List.{list_any}
use Rattle.std.specs.Map.{lookup}
use Rattle.floor_message.specs.declared.information.Info.{Info}
use Rattle.floor_room.specs.Room.{Room}
use Rattle.floor_hub.specs.Connections.{Connections}
use Rattle.floor_hub.specs.News.{Gathered, has}

-- the rooms by conference; the live connections by number; how many arrivals there were; the numbers of those that the last call
-- concerned which could concern anybody; what is shown of the requests that it changed; the conferences that were forgotten; and what the
-- events of those that are watched changed
pub record Hub : Type 0 where
  pub rooms : List (ℕ × Room)
  pub connections : Connections
  pub arrivals : ℕ
  pub concerned : List ℕ
  pub changed : List Info
  pub forgotten : List ℕ
  pub gathered : Gathered

-- the room of a conference
abbrev pub room_at : Hub → ℕ → Option Room
room_at h c = lookup (nat_eq c) h.rooms

-- the conference was forgotten
abbrev pub is_forgotten : Hub → ℕ → Bool
is_forgotten h c = list_any (nat_eq c) h.forgotten

-- the conference is watched
abbrev pub is_watched : Hub → ℕ → Bool
is_watched h c = has h.gathered.watched c
