-- The whole file of a kept conference, byte by byte.
use Rattle.std.specs.Prelude.{◌≡◌, ℕ, ◌+◌, ◌≤◌, ◌⊎◌, true, List, [], ◌∷◌, ◌++◌, length, Ok}
use Rattle.std.specs.List.{list_all}
use Rattle.std.specs.Str.{IsUtf8, IsValidUpTo}
use Rattle.floor_config.specs.Configuration.{Configuration}
use Rattle.floor_config.specs.Reading.{reading}
use Rattle.floor_kept.specs.Body.{AreEntries, ends_last, entry_lines, is_ended, is_one_line, next_place}
use Rattle.floor_kept.specs.Entries.{IsLineOf}
use Rattle.floor_kept.specs.Head.{IsHeadFault, head_text, is_table_line, lines_of}
use Rattle.floor_kept.specs.declared.body.BadLine.{BadLine as BadLineAt}
use Rattle.floor_kept.specs.declared.entry.Entry.{Entry}
use Rattle.floor_kept.specs.declared.file.FileFault.{FileFault}
use Rattle.floor_kept.specs.declared.file.FileFault.TheVariants.{Head, BadLine, Memory}

-- The bytes are a head of so many lines, whose table is the configuration of one conference, this one; then the lines of these entries from
-- place 1 on; and behind them a last line without its end, which is torn. So many bytes stand before that.
pub record IsFile (bytes : List ℕ) (config : Configuration) (entries : List Entry) (head_lines stands : ℕ) : Type 0 where
  pub lines : List (List ℕ)
  pub are : list_all is_table_line lines ≡ true
  pub read : reading (lines_of lines) ≡ Ok (config ∷ [])
  pub lines_are : head_lines ≡ length lines + 2
  pub fit : AreEntries 1 entries
  pub last : ends_last entries ≡ true
  pub torn : List ℕ
  pub parts : bytes ≡ head_text lines ++ (entry_lines 1 entries ++ torn)
  pub one_line : is_one_line torn ≡ true
  pub stand : stands ≡ length (head_text lines) + length (entry_lines 1 entries)

-- The text is the longest beginning of the bytes that is UTF-8, and this is behind it.
pub record IsTextBefore (bytes text rest : List ℕ) : Type 0 where
  pub parts : bytes ≡ text ++ rest
  pub utf8 : IsUtf8 text
  pub longest : (rest ≡ []) ⊎ IsValidUpTo bytes (length text)

-- The first byte that isn't UTF-8 stands behind the first so many, within so many more or at the line feed behind those.
pub record IsBrokenWithin (bytes : List ℕ) (before count : ℕ) : Type 0 where
  pub at : ℕ
  pub broken : IsValidUpTo bytes at
  pub from : before ≤ at
  pub to : at ≤ before + count

-- The first whole line that can't be read: before it stand a head and the lines of entries, and it is none, or stands behind the end, or isn't
-- UTF-8. It is told by the place of the next event, and by its number in the file from 1 on.
pub record IsBadIn (bytes : List ℕ) (bad : BadLineAt) : Type 0 where
  pub lines : List (List ℕ)
  pub are : list_all is_table_line lines ≡ true
  pub before : List Entry
  pub fit : AreEntries 1 before
  pub last : ends_last before ≡ true
  pub line : List ℕ
  pub behind : List ℕ
  pub parts : bytes ≡ head_text lines ++ (entry_lines 1 before ++ (line ++ 10 ∷ behind))
  pub one_line : is_one_line line ≡ true
  pub none : (is_ended before ≡ true)
      ⊎ (((entry : Entry) → ¬ IsLineOf (next_place 1 before) line entry)
      ⊎ IsBrokenWithin bytes (length (head_text lines) + length (entry_lines 1 before)) (length line))
  pub place : bad.place ≡ next_place 1 before
  pub number : bad.number ≡ length lines + 2 + (length before + 1)

-- why bytes aren't read: their text has no head, or a line can't be read
abbrev pub IsFileFault : List ℕ → FileFault → Type 0
IsFileFault bytes (Head fault) = (text : List ℕ) × (rest : List ℕ) × IsTextBefore bytes text rest × IsHeadFault text fault
IsFileFault bytes (BadLine bad) = IsBadIn bytes bad
IsFileFault bytes Memory = Unit {0}

-- the place of the event that can't be read, and the number of its line; 0 where the head is what can't
abbrev pub place_of : FileFault → ℕ
place_of (BadLine bad) = bad.place
place_of (Head fault) = 0
place_of Memory = 0

abbrev pub line_of : FileFault → ℕ
line_of (BadLine bad) = bad.number
line_of (Head fault) = 0
line_of Memory = 0
