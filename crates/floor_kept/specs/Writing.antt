-- What a writer of a kept conference has written, and what stands after a write that failed.
use Rattle.std.specs.Prelude.{◌≡◌, ℕ, ◌+◌, ◌≤◌, Bool, true, false, List, [], ◌∷◌, ◌++◌, length, drop, take, Option}
use Rattle.std.specs.Io.KnownBytes.{Appends}
use Rattle.floor_machine.specs.declared.event.Event.{Event}
use Rattle.floor_room.specs.Text.{lines}
use Rattle.floor_kept.specs.Entries.{entry_line}
use Rattle.floor_kept.specs.declared.entry.Entry.{Entry}

-- how many events of the journal stand in the file, and whether a write has failed
pub record Writer : Type 0 where
  pub done : ℕ
  pub is_broken : Bool

-- the lines of the events behind the first so many
abbrev pub new_lines : ℕ → List Event → List ℕ
new_lines done journal = lines (done + 1) (drop done journal)

-- the lines of entries that are no events, where the next event is the one at this place
abbrev pub note_lines : ℕ → List Entry → List ℕ
note_lines place [] = []
note_lines place (note ∷ notes) = entry_line place note ++ note_lines place notes

-- what a turn adds: the lines of its events, and behind them those of its notes
abbrev pub turn_lines : ℕ → List Event → List Entry → List ℕ
turn_lines done journal notes = new_lines done journal ++ note_lines (length journal + 1) notes

-- Bytes were written, all of them, and nothing was broken off before or by that.
pub record Wrote (old new : Writer) (done : ℕ) (was is : Option (List ℕ)) (bytes : List ℕ) : Type 0 where
  pub whole : old.is_broken ≡ false
  pub next : new ≡ record { done = done; is_broken = false }
  pub grew : Appends was is bytes

-- A write failed, now or before: the writer is broken, it counts as before, and a beginning of these bytes was written.
pub record Failed (old new : Writer) (was is : Option (List ℕ)) (bytes : List ℕ) : Type 0 where
  pub next : new ≡ record { done = old.done; is_broken = true }
  pub count : ℕ
  pub within : count ≤ length bytes
  pub grew : Appends was is (take count bytes)
  pub nothing : old.is_broken ≡ true → count ≡ 0

-- A beginning of these bytes was written.
pub record IsPart (was is : Option (List ℕ)) (bytes : List ℕ) : Type 0 where
  pub count : ℕ
  pub within : count ≤ length bytes
  pub grew : Appends was is (take count bytes)
