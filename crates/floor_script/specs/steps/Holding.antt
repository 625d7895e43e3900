-- What a hub holds while no room of it is broken off.
use Rattle.std.specs.Prelude.{◌≡◌, ℕ, false, List, Option, Some, None}
use Rattle.std.specs.Option.{option_map_or}
use Rattle.floor_machine.specs.Journal.{MAX_EVENTS}
use Rattle.floor_room.specs.Outbox.{Outbox}
use Rattle.floor_room.specs.Room.{Room}
use Rattle.floor_room.specs.Taking.{outbox_of}
use Rattle.floor_hub.specs.declared.step.Answer.{Answer}
use Rattle.floor_hub.specs.Hub.{Hub, room_at}
use Rattle.floor_hub.specs.StandsFor.{StandsFor}
use Rattle.floor_hub.specs.World.{Turn, World, turn}
use Rattle.floor_hub.specs.declared.step.Step.TheVariants.{Open, Took}
use Rattle.floor_config.specs.Configuration.{Configuration}
use Rattle.floor_script.specs.Printed.{acknowledged}
use Rattle.floor_script.specs.declared.waiting.Taken.{Taken}

-- the outbox that a room keeps for its member n
abbrev pub outbox_in : Option Room → ℕ → Option Outbox
outbox_in None n = None
outbox_in (Some room) n = outbox_of room.outboxes n

-- how many parcels were taken of it
abbrev pub taken_in : Option Room → ℕ → ℕ
taken_in room n = option_map_or (λ outbox. outbox.taken) (outbox_in room n) 0

-- the room isn't broken off
abbrev pub IsWhole : Option Room → Type 0
IsWhole None = Unit {0}
IsWhole (Some room) = room.ledger.is_broken ≡ false

-- what the room tells is handed out at once: none of its events has to be kept first
abbrev pub IsAtOnce : Option Room → Type 0
IsAtOnce None = Unit {0}
IsAtOnce (Some room) = room.kept ≡ MAX_EVENTS

-- The hub stands for the world, no room is broken off or has events that aren't kept, and so many parcels were taken of each member.
pub record Holds (hub : Hub) (w : World) (printed : ℕ → ℕ → ℕ) : Type 0 where
  pub stands : StandsFor hub w
  pub whole : (conference : ℕ) → IsWhole (room_at hub conference)
  pub at_once : (conference : ℕ) → IsAtOnce (room_at hub conference)
  pub taken : (conference n : ℕ) → taken_in (room_at hub conference) n ≡ printed conference n

-- The hub did so and answered so, and nothing was taken of what waits.
pub record Answers (does : World → Turn) (answer : Answer) (old new : Hub) : Type 0 where
  pub next : (w : World) (printed : ℕ → ℕ → ℕ) → Holds old w printed → Holds new (does w).world printed
  pub answered : (w : World) (printed : ℕ → ℕ → ℕ) → Holds old w printed → (does w).answer ≡ answer

-- The hub was asked to open a conference.
pub record IsOpened (config : Configuration) (old new : Hub) : Type 0 where
  pub next : (w : World) (printed : ℕ → ℕ → ℕ) → Holds old w printed → Holds new (turn w (Open config)).world printed

-- The hub was told of these acknowledgements.
pub record Acknowledges (taken : List Taken) (old new : Hub) : Type 0 where
  pub next : (w : World) (printed : ℕ → ℕ → ℕ) → Holds old w printed → Holds new (acknowledged taken w) printed

-- The hub was told of this acknowledgement.
pub record AcknowledgesOne (taken : Taken) (old new : Hub) : Type 0 where
  pub next : (w : World) (printed : ℕ → ℕ → ℕ) → Holds old w printed → Holds new (turn w (Took taken.connection taken.parcels)).world printed
