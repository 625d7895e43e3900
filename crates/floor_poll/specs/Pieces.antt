-- What a loop hands out of a conference's journal.
use Rattle.std.specs.Prelude.{◌≡◌, ◌<◌, ◌≤◌, ℕ, ◌-◌, ◌+◌, ◌^◌, ◌↔◌, min, IsTrue, List, length, take, drop, sum_by}
use Rattle.floor_machine.specs.declared.event.Event.{Event}
use Rattle.floor_machine.specs.declared.event.Event.TheVariants.{Took}
use Rattle.floor_poll.specs.declared.mailbox.Piece.{Piece}

-- how many messages an event says were taken whole
abbrev pub taken_by : Event → ℕ
taken_by (Took n k) = k
taken_by _ = 0

-- how many messages were taken whole by some events, up to the greatest number of 64 bits
abbrev pub taken : List Event → ℕ
taken events = min (sum_by taken_by events) (2 ^ 64 - 1)

-- Events are the first of those behind `done`, in the journal's order: one at least where there is one, and 1,000 at most.
pub record IsFront (done : ℕ) (journal events : List Event) : Type 0 where
  pub same : events ≡ take (length events) (drop done journal)
  pub one : done < length journal → 1 ≤ length events
  pub most : length events ≤ 1000

-- A piece has some events of the front, and says whether the journal has more behind them: so whoever asks on behind them is handed each event once.
pub record IsPiece (done : ℕ) (journal : List Event) (piece : Piece) : Type 0 where
  pub front : IsFront done journal piece.events.items
  pub more : IsTrue piece.has_more ↔ done + length piece.events.items < length journal
