-- What becomes of how many events of a room are kept.
use Rattle.std.specs.Prelude.{◌≡◌, ℕ, Result, Ok}
use Rattle.floor_room.specs.Room.{Room}
use Rattle.floor_hub.specs.declared.hub.keeping.Keeping.{Keeping}
use Rattle.floor_hub.specs.declared.hub.keeping.Keeping.TheVariants.{Begins, Comes, Ends}
use Rattle.floor_hub.specs.declared.refusal.HubRefusal.{HubRefusal}
use Rattle.floor_hub.specs.Rooms.{all_so_far, all_to_come, so_many}

-- so many events of the room are kept then
abbrev pub kept_by : Keeping → Room → ℕ
kept_by Begins r = all_so_far r
kept_by (Comes events) r = so_many events r
kept_by Ends r = all_to_come r

-- it was done so, and nothing else of the room has changed
abbrev pub KeptIn : Keeping → Room → Room → Result (Unit {0}) HubRefusal → Type 0
KeptIn keeping old new result = (result ≡ Ok tt) × (new ≡ record old { kept = kept_by keeping old })
