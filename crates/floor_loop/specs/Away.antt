-- Members that outlive their connections.
use Rattle.std.specs.Prelude.{◌+◌, ◌&&◌, if◌then◌else◌, ℕ, ◌≡◌, ◌≤◌, Bool, false, List, count_by, map, filter, nat_eq, nat_le, min, Option, Some, None, is_none}
use Rattle.std.specs.List.{Contains}
use Rattle.std.specs.Map.{lookup}
use Rattle.std.specs.Option.{option_map, option_map_or}
use Rattle.floor_config.specs.Lookup.{is_user}
use Rattle.floor_machine.specs.declared.machine.Refusal.TheVariants.{Full}
use Rattle.floor_room.specs.declared.refusal.RoomRefusal.TheVariants.{Refused as ByMachine}
use Rattle.floor_room.specs.Ledger.{closed, conference_of}
use Rattle.floor_room.specs.Standing.{config_of}
use Rattle.floor_room.specs.Room.{Room}
use Rattle.floor_hub.specs.declared.refusal.HubRefusal.{HubRefusal}
use Rattle.floor_hub.specs.declared.refusal.HubRefusal.TheVariants.{ByRoom}
use Rattle.floor_hub.specs.declared.attached.Live.{Live}
use Rattle.floor_loop.specs.declared.stay.Stay.{Stay}
use Rattle.floor_loop.specs.declared.grace.Grace.{Grace}

-- who is away, by connection; how long members outlive their connections; whether the last place of a conference is kept for who comes back;
-- and who left by the last attach, since its user came back
pub record Away : Type 0 where
  pub stays : List (ℕ × Stay)
  pub grace : Grace
  pub keeps_place : Bool
  pub back : List ℕ

-- what is known of the connection with this number, where it is away
abbrev pub stay_of : Away → ℕ → Option Stay
stay_of a number = lookup (nat_eq number) a.stays

-- until when its member stays
abbrev pub ends_of : Away → ℕ → Option ℕ
ends_of a number = option_map (λ s. s.until) (stay_of a number)

-- so much later than this, in 64 bits
abbrev pub later : ℕ → ℕ → ℕ
later time millis = min (time + millis) 18446744073709551615

-- a member of this user is away from then on for so long
abbrev pub stay_from : ℕ → ℕ → ℕ → Stay
stay_from user since millis = record { user = user; since = since; until = later since millis }

-- it is a stay of this user
abbrev pub is_stay_of : ℕ → Option Stay → Bool
is_stay_of user None = false
is_stay_of user (Some s) = nat_eq s.user user

-- of these live connections those of this user that are away
abbrev pub away_among : Away → ℕ → List Live → List ℕ
away_among a user live = map (λ l. l.number) (filter (λ l. is_stay_of user (stay_of a l.number)) live)

-- This one of these connections is away, as is known of each, and none of them is away for longer.
pub record IsOldest (stays : ℕ → Option Stay) (numbers : List ℕ) (number : ℕ) : Type 0 where
  pub among : Contains numbers number
  pub stay : Stay
  pub there : stays number ≡ Some stay
  pub first : (k : ℕ) (s : Stay) → Contains numbers k → stays k ≡ Some s → stay.since ≤ s.since

-- why nobody joins a conference that is full
abbrev pub by_full : HubRefusal
by_full = ByRoom (ByMachine Full)

-- how many members are live, where nothing but their number may be against it that this user joins: the room takes events, and the user is one of
-- the conference's
abbrev pub beside : Room → ℕ → Option ℕ
beside r user = if is_none (closed r.ledger) && is_user (config_of r.ledger) user then Some (count_by (λ m. m.is_live) (conference_of r.ledger).members) else None

-- so many are live already, those that are away too
abbrev pub are_live : ℕ → Room → ℕ → Bool
are_live count r user = option_map_or (nat_le count) (beside r user) false
