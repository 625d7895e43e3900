-- The live connections of a conference, and which of them a call names.
use Rattle.std.specs.Prelude.{◌≡◌, ◌⊎◌, ◌||◌, ◌&&◌, ◌==◌, not, ℕ, ◌+◌, ◌++◌, ◌<◌, ◌≤◌, List, [], ◌∷◌, Bool, false, Option, Some, None, Result, Ok, Err, length, map, filter, nat_eq}
use Rattle.std.specs.List.{list_any}
use Rattle.std.specs.Map.{lookup}
use Rattle.floor_machine.specs.Conference.{AreCut}
use Rattle.floor_room.specs.Ledger.{conference_of}
use Rattle.floor_room.specs.Room.{Room}
use Rattle.floor_room.specs.Told.{AreTold}
use Rattle.floor_hub.specs.declared.attached.Live.{Live}
use Rattle.floor_hub.specs.declared.connection.Connection.{Connection}
use Rattle.floor_hub.specs.declared.refusal.HubRefusal.{HubRefusal}
use Rattle.floor_hub.specs.Connections.{connection_at}
use Rattle.floor_hub.specs.Hub.{Hub, room_at}
use Rattle.floor_hub.specs.StandsFor.{Stood}
use Rattle.floor_hub.specs.Concerned.{AscendFrom, is_shut}
pub use Rattle.floor_hub.specs.Members.{EachOf, IsKnown, Stands}

-- the live connections of each conference, and whom the last call concerned
pub record Concerned : Type 0 where
  pub attached : List (ℕ × List Live)
  pub numbers : List ℕ

abbrev pub or_none : Option (List Live) → List Live
or_none None = []
or_none (Some live) = live

-- the live connections of this conference
abbrev pub live_in : Concerned → ℕ → List Live
live_in c conference = or_none (lookup (nat_eq conference) c.attached)

-- the numbers of connections, and those of their members
abbrev pub numbers_of : List Live → List ℕ
numbers_of live = map (λ l. l.number) live

abbrev pub members_of : List Live → List ℕ
members_of live = map (λ l. l.n) live

-- a number stands in a list
abbrev pub IsIn : List ℕ → ℕ → Type 0
IsIn [] number = ⊥
IsIn (k ∷ numbers) number = (k ≡ number) ⊎ IsIn numbers number

-- the connections stand in the order in which they came, by which their numbers ascend, and those of their members
abbrev pub AreListed : List Live → Type 0
AreListed live = AscendFrom 0 (numbers_of live) × AscendFrom 0 (members_of live)

-- a connection comes behind all of these
pub record IsBehind (live : List Live) (number n : ℕ) : Type 0 where
  pub first : 0 < number
  pub first_n : 0 < n
  pub numbers : (k : ℕ) → IsIn (numbers_of live) k → k < number
  pub members : (k : ℕ) → IsIn (members_of live) k → k < n

-- these have lower numbers than this, and their members outboxes among so many
pub record AreWithin (live : List Live) (number outboxes : ℕ) : Type 0 where
  pub first : 0 < number
  pub numbers : (k : ℕ) → IsIn (numbers_of live) k → k < number
  pub members : (k : ℕ) → IsIn (members_of live) k → k ≤ outboxes

-- the connection, where its member is cut if it was or is n
abbrev pub cut_at : ℕ → Live → Live
cut_at n l = record { number = l.number; n = l.n; is_cut = l.is_cut || n == l.n }

-- the connection, where its member is cut if it was or is one of these
abbrev pub marked : List ℕ → Live → Live
marked cut l = record { number = l.number; n = l.n; is_cut = l.is_cut || list_any (λ k. k == l.n) cut }

-- the connection of a member that is one of those told something, or one of those cut that wasn't
abbrev pub is_noted : List ℕ → List ℕ → Live → Bool
is_noted told cut l = list_any (λ k. k == l.n) told || list_any (λ k. k == l.n) cut && not l.is_cut

-- the call has named the connection: not where the room was shut before; where it is shut now; and else where it is noted
abbrev pub is_named : Bool → Bool → List ℕ → List ℕ → Live → Bool
is_named was_shut shut told cut l = not was_shut && (shut || is_noted told cut l)

-- these numbers ascend, and are those of the connections that pass the test
pub record Names (numbers : List ℕ) (test : Live → Bool) (live : List Live) : Type 0 where
  pub ascending : AscendFrom 0 numbers
  pub named : (k : ℕ) → IsIn numbers k → IsIn (numbers_of (filter test live)) k
  pub all : (k : ℕ) → IsIn (numbers_of (filter test live)) k → IsIn numbers k

-- so far some of these connections are named, in ascending order, and there is room for all
pub record IsNaming (live : List Live) (numbers : List ℕ) (capacity : ℕ) : Type 0 where
  pub listed : AreListed live
  pub ascending : AscendFrom 0 numbers
  pub within : (k : ℕ) → IsIn numbers k → IsIn (numbers_of live) k
  pub room : length live ≤ capacity

-- those of one list are named besides those of another
pub record AddsNames (old new more : List ℕ) : Type 0 where
  pub added : (k : ℕ) → IsIn new k → IsIn old k ⊎ IsIn more k
  pub kept : (k : ℕ) → IsIn old k → IsIn new k
  pub came : (k : ℕ) → IsIn more k → IsIn new k

-- Some of these connections are named, and of each it is known now whether its member is cut, in a room that stands so, was shut before or wasn't, and has told something to these.
pub record NamedIn (was_shut : Bool) (s : Room) (told : List ℕ) (live after : List Live) (numbers : List ℕ) : Type 0 where
  pub cut : List ℕ
  pub are_cut : was_shut ≡ false → is_shut s ≡ false → AreCut (conference_of s.ledger).members cut
  pub marked : after ≡ map (marked cut) live
  pub names : Names numbers (is_named was_shut (is_shut s) told cut) live

-- Each live connection stands in the list of its conference, and nobody else.
pub record AreAttached (lists : ℕ → List Live) (connections : ℕ → Option Connection) : Type 0 where
  pub found : (number : ℕ) (x : Connection) → connections number ≡ Some x → Stands (lists x.conference) number x.n
  pub live : (conference number n : ℕ) → Stands (lists conference) number n →
      (x : Connection) × (connections number ≡ Some x) × (x.conference ≡ conference) × (x.n ≡ n)

-- the same of each live connection
abbrev pub AreKnown : (ℕ → Option Room) → (ℕ → List Live) → Type 0
AreKnown rooms lists = (c : ℕ) (r : Room) → rooms c ≡ Some r → EachOf (IsKnown r) (lists c)

-- the same connections are live in each conference
abbrev pub SameLive : Concerned → Concerned → Type 0
SameLive old new = (conference : ℕ) → live_in new conference ≡ live_in old conference

-- these are live in this conference now, and in each other those that were
pub record PutsLive (old new : Concerned) (conference : ℕ) (live : List Live) : Type 0 where
  pub here : live_in new conference ≡ live
  pub others : (other : ℕ) → nat_eq conference other ≡ false → live_in new other ≡ live_in old other

-- there is room for the numbers of all that are live in any one conference
abbrev pub HaveRoom : Concerned → ℕ → Type 0
HaveRoom c room = (conference : ℕ) → length (live_in c conference) ≤ room

-- the connections but for this one
abbrev pub without : ℕ → List Live → List Live
without number live = filter (λ l. not (l.number == number)) live

-- these are told of what a call did to a room; nothing is said of a room that is shut now
abbrev pub Tells : Room → Room → List ℕ → Type 0
Tells r s told = is_shut s ≡ false → AreTold r.outboxes s.outboxes told

-- The room of this conference went from r to s and told these, and of the connections that are live now some are named. Without a room nobody is.
pub record ConcernedBy (live : Room → List Live) (told : List ℕ) (rooms now : ℕ → Option Room) (conference : ℕ) (old new : Concerned) : Type 0 where
  pub absent : rooms conference ≡ None → SameLive old new × (new.numbers ≡ [])
  pub there : (r s : Room) → rooms conference ≡ Some r → now conference ≡ Some s →
      Tells r s told × NamedIn (is_shut r) s told (live r) (live_in new conference) new.numbers
      × ((other : ℕ) → nat_eq conference other ≡ false → live_in new other ≡ live_in old other)

-- these, whatever the room
abbrev pub always : List Live → Room → List Live
always live r = live

-- a connection's call has concerned so; without a connection nobody is
abbrev pub ConcernedOf : (Connection → List Live) → List ℕ → Option Connection → (ℕ → Option Room) → (ℕ → Option Room) → Concerned → Concerned → Type 0
ConcernedOf live told None rooms now old new = SameLive old new × (new.numbers ≡ [])
ConcernedOf live told (Some x) rooms now old new = ConcernedBy (always (live x)) told rooms now x.conference old new

-- who joins this room, and isn't cut
abbrev pub joined_as : Room → ℕ → Live
joined_as r number = record { number = number; n = length (conference_of r.ledger).members + 1; is_cut = false }

-- those that were there, and after an attach that was done the new one
abbrev pub attached_to : List Live → ℕ → Result (Unit {0}) HubRefusal → Room → List Live
attached_to live number (Ok v) r = live ++ joined_as r number ∷ []
attached_to live number (Err e) r = live

-- what holds of each hub: it stands for a world, its live connections are listed, and of each it is known whether its member is cut
pub record IsKeptHub (h : Hub) (c : Concerned) : Type 0 where
  pub stood : Stood h
  pub attached : AreAttached (live_in c) (connection_at h.connections)
  pub known : AreKnown (room_at h) (live_in c)
