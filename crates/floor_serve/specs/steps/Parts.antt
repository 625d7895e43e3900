-- A part of what a journal has of a member, and how many messages it has.
use Rattle.std.specs.Prelude.{◌≡◌, ℕ, ◌+◌, ◌-◌, ◌≤◌, ◌<◌, nat_lt, if◌then◌else◌, List, [], ◌∷◌, length, slice_get, slice_index_or, IfSome}
use Rattle.std.specs.Option.{option_map_or}
use Rattle.floor_machine.specs.declared.event.Event.{Event}
use Rattle.floor_machine.specs.declared.event.Event.TheVariants.{Message}
use Rattle.floor_machine.specs.Events.{message}
use Rattle.floor_serve.specs.Fits.{messages_of, sent_at}
use Rattle.floor_serve.specs.Seat.{Seat}
use Rattle.floor_serve.specs.declared.seat.Sent.{Sent}

-- These are some of those, and as many as those only if they are those.
pub record IsPart (some all : List Sent) : Type 0 where
  pub few : length some ≤ length all
  pub whole : length some ≡ length all → some ≡ all

-- The entry is the event at this place, behind another place, as the seat of n records it.
pub record StandsAt (journal : List Event) (at n : ℕ) (entry : Sent) (next : ℕ) : Type 0 where
  pub behind : at < next
  pub within : next ≤ length journal
  pub is : (d : Event) → sent_at next (slice_index_or journal (next - 1) d) n ≡ entry ∷ []

-- how many messages an event is
abbrev pub message_count : Event → ℕ
message_count e = option_map_or (λ bytes. 1) (message e) 0

-- the same, if its member's number is below a bound
abbrev pub lower_count : ℕ → Event → ℕ
lower_count bound (Message n bytes) = if nat_lt n bound then 1 else 0
lower_count bound _ = 0

-- how many messages a journal has
abbrev pub messages_in : List Event → ℕ
messages_in [] = 0
messages_in (e ∷ es) = message_count e + messages_in es

-- the same, of members of lower numbers alone
abbrev pub messages_below : ℕ → List Event → ℕ
messages_below bound [] = 0
messages_below bound (e ∷ es) = lower_count bound e + messages_below bound es

-- what the seat at a place recorded is all that the journal has of its member
abbrev pub FitsAt : List Event → List Seat → ℕ → Type 0
FitsAt journal seats k = IfSome (slice_get seats k) (λ s. s.sent ≡ messages_of journal s.n)

-- So many entries are counted of these first seats, whose numbers are below a bound. They are no more than the messages below it, and where they are as many, each seat fits.
pub record IsCounted (journal : List Event) (seats : List Seat) (first bound count : ℕ) : Type 0 where
  pub few : count ≤ messages_below bound journal
  pub fit : messages_below bound journal ≤ count → (k : ℕ) → k < first → FitsAt journal seats k
