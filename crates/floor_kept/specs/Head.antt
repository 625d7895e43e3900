-- The head of the file in which a conference is kept: the configuration that it opened with.
use Rattle.std.specs.Prelude.{◌≡◌, ◌≢◌, ℕ, ◌+◌, ◌≤◌, ◌&&◌, not, Bool, true, List, [], ◌∷◌, ◌++◌, length, codes, Ok}
use Rattle.std.specs.List.{list_all}
use Rattle.std.specs.Str.{bytes_eq}
use Rattle.toml.specs.Data.{Members, array, item, member, members_depth, no_items, no_members, table}
use Rattle.floor_config.specs.Configuration.{Configuration}
use Rattle.floor_config.specs.Outcome.{Fails}
use Rattle.floor_config.specs.Reading.{conferences_of, reading}
use Rattle.floor_kept.specs.Body.{is_one_line}
use Rattle.floor_kept.specs.declared.head.HeadFault.{HeadFault}
use Rattle.floor_kept.specs.declared.head.HeadFault.TheVariants.{FirstLine, Divider, Refused, Conferences, Memory}

-- the first line, and the line that ends the head
abbrev pub first_line : List ℕ
first_line = codes "floorhub journal 1\n"

abbrev pub divider : List ℕ
divider = codes "---\n"

-- a line of the table: one line, and not the divider
abbrev pub is_table_line : List ℕ → Bool
is_table_line line = is_one_line line && not (bytes_eq line (codes "---"))

-- lines, each with its line feed
abbrev pub lines_of : List (List ℕ) → List ℕ
lines_of [] = []
lines_of (line ∷ lines) = line ++ (10 ∷ lines_of lines)

-- the head of these lines of a table
abbrev pub head_text : List (List ℕ) → List ℕ
head_text lines = first_line ++ (lines_of lines ++ divider)

-- The text begins with a head of these lines, whose table is the configuration of one conference, this one; so many bytes and so many
-- lines are the head.
pub record IsHead (text : List ℕ) (config : Configuration) (bytes count : ℕ) : Type 0 where
  pub lines : List (List ℕ)
  pub are : list_all is_table_line lines ≡ true
  pub behind : List ℕ
  pub parts : text ≡ head_text lines ++ behind
  pub read : reading (lines_of lines) ≡ Ok (config ∷ [])
  pub bytes_are : bytes ≡ length (head_text lines)
  pub lines_are : count ≡ length lines + 2

-- The text begins with the first line, but no line behind that is the divider.
pub record IsUndivided (text : List ℕ) : Type 0 where
  pub lines : List (List ℕ)
  pub are : list_all is_table_line lines ≡ true
  pub torn : List ℕ
  pub one_line : is_one_line torn ≡ true
  pub parts : text ≡ first_line ++ (lines_of lines ++ torn)

-- The text begins with a head of these lines.
pub record IsDivided (text : List ℕ) (lines : List (List ℕ)) : Type 0 where
  pub are : list_all is_table_line lines ≡ true
  pub behind : List ℕ
  pub parts : text ≡ head_text lines ++ behind

-- why a text has no head: it begins otherwise, has no divider, its table is no configuration, or that of another count of conferences
-- than one
abbrev pub IsHeadFault : List ℕ → HeadFault → Type 0
IsHeadFault text FirstLine = (rest : List ℕ) → text ≢ first_line ++ rest
IsHeadFault text Divider = IsUndivided text
IsHeadFault text (Refused fault) = (lines : List (List ℕ)) × IsDivided text lines × Fails fault (reading (lines_of lines))
IsHeadFault text Conferences =
    (lines : List (List ℕ)) × (configs : List Configuration) × IsDivided text lines × (reading (lines_of lines) ≡ Ok configs) × (length configs ≢ 1)
IsHeadFault text Memory = Unit {0}

-- the document in which this table is the one conference
abbrev pub document_of : Members → Members
document_of conference = member (codes "conference") (array (item (table conference) no_items)) no_members

-- The head's text, all of it, is that of this conference's table, and reads as its configuration, as the document with it alone does.
pub record IsHeadOf (conference : Members) (text : List ℕ) (config : Configuration) : Type 0 where
  pub lines : List (List ℕ)
  pub are : list_all is_table_line lines ≡ true
  pub parts : text ≡ head_text lines
  pub read : reading (lines_of lines) ≡ Ok (config ∷ [])
  pub same : members_depth (document_of conference) ≤ 80 → conferences_of (document_of conference) ≡ Ok (config ∷ [])
