-- What putting lines comes to.
use Rattle.std.specs.Prelude.{◌≡◌, ◌≤◌, ◌<◌, ◌+◌, ℕ, List, length, take, drop}
use Rattle.floor_machine.specs.declared.event.Event.{Event}
use Rattle.floor_room.specs.Text.{lines}
use Rattle.floor_ffi.specs.declared.reading.Line.{Line}
use Rattle.floor_ffi.specs.declared.reading.Line.TheVariants.{Put, Longer}

-- the line lies at the front of the room, or it is longer than the room
abbrev pub IsLine : List ℕ → ℕ → List ℕ → Line → Type 0
IsLine line size room (Put len) = (len ≡ length line) × (len ≤ size) × (take len room ≡ line)
IsLine line size room (Longer len) = (len ≡ length line) × (size < len)

-- the lines of so many events behind the first ones lie at the front of the room
pub record PutsSome (journal : List Event) (done added len size : ℕ) (room : List ℕ) : Type 0 where
  pub counted : len ≡ length (lines (done + 1) (take added (drop done journal)))
  pub within : len ≤ size
  pub bytes : take len room ≡ lines (done + 1) (take added (drop done journal))
