-- What stands behind the head of the file in which a conference is kept.
use Rattle.std.specs.Prelude.{◌≡◌, ℕ, ◌+◌, ◌==◌, ◌⊎◌, ◌&&◌, not, Bool, true, false, List, [], ◌∷◌, ◌++◌, length, filter_map, Option, Some, None}
use Rattle.std.specs.List.{list_all, list_any}
use Rattle.floor_machine.specs.declared.event.Event.{Event}
use Rattle.floor_kept.specs.Entries.{IsEntry, IsLineOf, entry_line, is_within, place_behind}
use Rattle.floor_kept.specs.declared.entry.Entry.{Entry}
use Rattle.floor_kept.specs.declared.entry.Entry.TheVariants.{Happened, End}
use Rattle.floor_kept.specs.declared.body.BadLine.{BadLine as BadLineAt}
use Rattle.floor_kept.specs.declared.body.BodyFault.{BodyFault}
use Rattle.floor_kept.specs.declared.body.BodyFault.TheVariants.{BadLine, Memory}

-- the lines of entries, of which the first event is the one at this place
abbrev pub entry_lines : ℕ → List Entry → List ℕ
entry_lines place [] = []
entry_lines place (entry ∷ entries) = entry_line place entry ++ entry_lines (place_behind place entry) entries

-- the place of the next event behind these
abbrev pub next_place : ℕ → List Entry → ℕ
next_place place [] = place
next_place place (entry ∷ entries) = next_place (place_behind place entry) entries

-- the event of an entry, where it is one
abbrev pub event_of : Entry → Option Event
event_of (Happened e) = Some e
event_of _ = None

-- the events among entries, in order
abbrev pub events_of : List Entry → List Event
events_of entries = filter_map event_of entries

abbrev pub is_end : Entry → Bool
is_end End = true
is_end _ = false

-- the end of the journal stands among these
abbrev pub is_ended : List Entry → Bool
is_ended entries = list_any is_end entries

-- each is an entry that the file can have at its place
abbrev pub AreEntries : ℕ → List Entry → Type 0
AreEntries place [] = Unit {0}
AreEntries place (entry ∷ entries) = IsEntry entry × (is_within place entry ≡ true) × AreEntries (place_behind place entry) entries

-- no line stands behind the end
abbrev pub ends_last : List Entry → Bool
ends_last [] = true
ends_last (entry ∷ []) = true
ends_last (entry ∷ more ∷ entries) = not (is_end entry) && ends_last (more ∷ entries)

-- the text has no line feed
abbrev pub is_one_line : List ℕ → Bool
is_one_line text = list_all (λ b. not (b == 10)) text

-- The text is the lines of these entries from place 1 on, and behind them a last line without its end, which is torn; so many bytes
-- stand before that.
pub record IsBody (text : List ℕ) (entries : List Entry) (stands : ℕ) : Type 0 where
  pub fit : AreEntries 1 entries
  pub last : ends_last entries ≡ true
  pub torn : List ℕ
  pub parts : text ≡ entry_lines 1 entries ++ torn
  pub one_line : is_one_line torn ≡ true
  pub stand : stands ≡ length (entry_lines 1 entries)

-- The first line that can't be read: before it stand the lines of entries, and it is none, or stands behind the end. It is told by the
-- place of the next event, and by its number from 1 on.
pub record IsFirstBad (text : List ℕ) (bad : BadLineAt) : Type 0 where
  pub before : List Entry
  pub fit : AreEntries 1 before
  pub last : ends_last before ≡ true
  pub line : List ℕ
  pub behind : List ℕ
  pub parts : text ≡ entry_lines 1 before ++ (line ++ 10 ∷ behind)
  pub one_line : is_one_line line ≡ true
  pub none : (is_ended before ≡ true) ⊎ ((entry : Entry) → ¬ IsLineOf (next_place 1 before) line entry)
  pub place : bad.place ≡ next_place 1 before
  pub number : bad.number ≡ length before + 1

abbrev pub IsFault : List ℕ → BodyFault → Type 0
IsFault text (BadLine bad) = IsFirstBad text bad
IsFault text Memory = Unit {0}
