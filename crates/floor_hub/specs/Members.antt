-- Who is in a conference now, as a hub lends it.
use Rattle.std.specs.Prelude.{◌≡◌, ◌⊎◌, ℕ, zero, suc, List, [], ◌∷◌, Option, Some, None, false, filter_map, map, slice_get}
use Rattle.floor_machine.specs.declared.event.Event.{Event}
use Rattle.floor_machine.specs.Events.{joiner}
use Rattle.floor_room.specs.Room.{Room}
use Rattle.floor_hub.specs.declared.attached.Live.{Live}
use Rattle.floor_hub.specs.declared.connection.Connection.{Connection}
use Rattle.floor_hub.specs.Concerned.{AscendFrom, is_cut, is_shut}
use Rattle.floor_hub.specs.Connections.{connection_at}
use Rattle.floor_hub.specs.Hub.{Hub, room_at}

-- under this number, and as n, a connection stands there
abbrev pub Stands : List Live → ℕ → ℕ → Type 0
Stands [] number n = ⊥
Stands (l ∷ live) number n = ((l.number ≡ number) × (l.n ≡ n)) ⊎ Stands live number n

-- the fact holds of each connection
abbrev pub EachOf : (Live → Type 0) → List Live → Type 0
EachOf P [] = Unit {0}
EachOf P (l ∷ live) = P l × EachOf P live

-- of a connection it is known whether its member is cut, while its conference is open and its room isn't broken off
abbrev pub IsKnown : Room → Live → Type 0
IsKnown r l = is_shut r ≡ false → l.is_cut ≡ is_cut r l.n

-- These are the live connections of the conference: each of them and nobody else, each once, by ascending number and so by ascending n; and
-- of each it is known whether its member is cut.
pub record AreMembers (h : Hub) (conference : ℕ) (live : List Live) : Type 0 where
  pub numbers : AscendFrom 0 (map (λ l. l.number) live)
  pub ns : AscendFrom 0 (map (λ l. l.n) live)
  pub found : (number : ℕ) (x : Connection) → connection_at h.connections number ≡ Some x → x.conference ≡ conference → Stands live number x.n
  pub there : (number n : ℕ) → Stands live number n → (x : Connection) × (connection_at h.connections number ≡ Some x) × (x.conference ≡ conference) × (x.n ≡ n)
  pub cut : (r : Room) → room_at h conference ≡ Some r → EachOf (IsKnown r) live

-- the user that joined as n: that of the n-th Join
abbrev pub user_of : List Event → ℕ → Option ℕ
user_of es zero = None
user_of es (suc k) = slice_get (filter_map joiner es) k
