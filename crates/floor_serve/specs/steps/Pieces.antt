-- A piece of the text of a journal.
use Rattle.std.specs.Prelude.{◌≡◌, ℕ, ◌+◌, ◌-◌, ◌≤◌, List, ◌++◌, drop, length, take}
use Rattle.floor_room.specs.Text.{lines}
use Rattle.floor_serve.specs.Booth.{Booth, IsBooth}

-- The lines of so many events of some booth's journal, behind the first of them, stand behind the text.
pub record IsPiece (old new : List ℕ) (done added : ℕ) : Type 0 where
  pub booth : Booth
  pub kept : IsBooth booth
  pub within : added ≤ length booth.ledger.journal - done
  pub text : new ≡ old ++ lines (done + 1) (take added (drop done booth.ledger.journal))
