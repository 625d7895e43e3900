-- How a head is cut, and what is read of its table.
use Rattle.std.specs.Prelude.{◌≡◌, ◌≢◌, ℕ, ◌+◌, true, List, ◌++◌, length, Ok}
use Rattle.std.specs.List.{list_all}
use Rattle.floor_config.specs.Configuration.{Configuration}
use Rattle.floor_config.specs.Outcome.{Fails}
use Rattle.floor_config.specs.Reading.{reading}
use Rattle.floor_kept.specs.Body.{is_one_line}
use Rattle.floor_kept.specs.Head.{IsHead, divider, is_table_line, lines_of}
use Rattle.floor_kept.specs.declared.head.HeadFault.{HeadFault}
use Rattle.floor_kept.specs.declared.head.HeadFault.TheVariants as head

-- Lines of a table stand first in a text, then the divider, and then what is behind it; so many lines a head of them has.
pub record IsCut (text table : List ℕ) (count : ℕ) (behind : List ℕ) : Type 0 where
  pub lines : List (List ℕ)
  pub are : list_all is_table_line lines ≡ true
  pub table_is : table ≡ lines_of lines
  pub parts : text ≡ lines_of lines ++ (divider ++ behind)
  pub count_is : count ≡ length lines + 2

-- Lines of a table stand first in a text, and then a line without its end.
pub record IsUncut (text : List ℕ) : Type 0 where
  pub lines : List (List ℕ)
  pub are : list_all is_table_line lines ≡ true
  pub torn : List ℕ
  pub one_line : is_one_line torn ≡ true
  pub parts : text ≡ lines_of lines ++ torn

-- Lines of a table were passed, and this is left of the text; so many lines a head of them has.
pub record Passed (text table : List ℕ) (count : ℕ) (rest : List ℕ) : Type 0 where
  pub lines : List (List ℕ)
  pub are : list_all is_table_line lines ≡ true
  pub table_is : table ≡ lines_of lines
  pub parts : text ≡ lines_of lines ++ rest
  pub count_is : count ≡ length lines + 2

-- why a text isn't the configuration of one conference
abbrev pub IsNotOne : List ℕ → HeadFault → Type 0
IsNotOne text head.FirstLine = ⊥
IsNotOne text head.Divider = ⊥
IsNotOne text (head.Refused fault) = Fails fault (reading text)
IsNotOne text head.Conferences = (configs : List Configuration) × (reading text ≡ Ok configs) × (length configs ≢ 1)
IsNotOne text head.Memory = Unit {0}

-- The text is such a head, and this behind it.
abbrev pub IsHeadBefore : List ℕ → Configuration → ℕ → ℕ → List ℕ → Type 0
IsHeadBefore text config bytes lines behind = (h : IsHead text config bytes lines) × (h.behind ≡ behind)
