-- Whom a call of the hub concerns: the connections to which it queued something, whose member it cut, or whose conference it closed or broke off.
use Rattle.std.specs.Prelude.{◌≡◌, ◌⊎◌, ◌<◌, ◌||◌, ◌&&◌, not, ℕ, List, [], ◌∷◌, Bool, true, false, Some, length, if◌then◌else◌}
use Rattle.std.specs.Option.{option_map_or}
use Rattle.std.specs.List.{Contains}
use Rattle.floor_machine.specs.Conference as machine
use Rattle.floor_machine.specs.Parcel.{Parcel}
use Rattle.floor_room.specs.Ledger.{conference_of}
use Rattle.floor_room.specs.Room.{Room, is_kept}
use Rattle.floor_room.specs.Taking.{outbox_of}
use Rattle.floor_hub.specs.declared.connection.Connection.{Connection}
use Rattle.floor_hub.specs.Connections.{connection_at}
use Rattle.floor_hub.specs.Hub.{Hub, room_at}

-- what waits for the member n, and nothing where nobody has joined under the number
abbrev pub waiting : Room → ℕ → List Parcel
waiting r n = option_map_or (λ o. o.held) (outbox_of r.outboxes n) []

-- what is handed out to the member n of this room: what waits for it, where all that was told is kept
abbrev pub handed : Room → ℕ → List Parcel
handed r n = if is_kept r then waiting r n else []

-- the member n is cut; of a room that is broken off nobody is said to be
abbrev pub is_cut : Room → ℕ → Bool
is_cut r n = not r.ledger.is_broken && machine.is_cut (conference_of r.ledger) n

-- the conference has ended, or its room is broken off
abbrev pub is_shut : Room → Bool
is_shut r = r.ledger.is_broken || not (conference_of r.ledger).is_open

-- a call on this room has queued something to n, has cut it, or has closed the conference or broken it off
abbrev pub IsConcerned : Room → Room → ℕ → Type 0
IsConcerned old new n =
    (length (waiting old n) < length (waiting new n))
    ⊎ (((is_cut old n ≡ false) × (is_cut new n ≡ true)) ⊎ ((is_shut old ≡ false) × (is_shut new ≡ true)))

-- a call has left n alone: what waited for it waits, and nothing more; who is cut was cut; and the conference is as open as it was
pub record IsLeftAlone (old new : Room) (n : ℕ) : Type 0 where
  pub waiting : waiting new n ≡ waiting old n
  pub cut : is_cut new n ≡ true → is_cut old n ≡ true
  pub shut : is_shut new ≡ true → is_shut old ≡ true

-- the live connection with this number is concerned
pub record IsNamed (old new : Hub) (number : ℕ) : Type 0 where
  pub connection : Connection
  pub before : Room
  pub after : Room
  pub live : connection_at new.connections number ≡ Some connection
  pub was : room_at old connection.conference ≡ Some before
  pub now : room_at new connection.conference ≡ Some after
  pub concerned : IsConcerned before after connection.n

-- the numbers ascend, and are above this one
abbrev pub AscendFrom : ℕ → List ℕ → Type 0
AscendFrom k [] = Unit {0}
AscendFrom k (number ∷ numbers) = (k < number) × AscendFrom number numbers

-- Each number stands there once, in ascending order, and is that of a connection which the call concerned; a connection that was live and stays so, and isn't named, was left alone.
pub record Concerns (old new : Hub) : Type 0 where
  pub ascending : AscendFrom 0 new.concerned
  pub named : (number : ℕ) → Contains new.concerned number → IsNamed old new number
  pub others : (number : ℕ) (x y : Connection) → connection_at old.connections number ≡ Some x → connection_at new.connections number ≡ Some y →
      ¬ Contains new.concerned number → (r s : Room) → room_at old x.conference ≡ Some r → room_at new x.conference ≡ Some s → IsLeftAlone r s x.n
