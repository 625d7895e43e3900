-- Heads that are begun with, and the text whose conferences they are of.
use Rattle.std.specs.Prelude.{◌≡◌, ℕ, codes, List, [], ◌∷◌, map, Some, string_bytes}
use Rattle.toml.specs.Data.{Members, array, get_member, table}
use Rattle.toml.specs.Parse.{parse_document}
use Rattle.toml.specs.View.{items_of}
use Rattle.floor_kept.specs.Head.{IsHeadOf}
use Rattle.floor_kept.specs.declared.head.NewHead.{NewHead}

-- the head's text, all of it, is that of this conference's table, and reads as its configuration
abbrev pub IsNewHeadOf : Members → NewHead → Type 0
IsNewHeadOf conference head = IsHeadOf conference (string_bytes head.text) head.config

-- the heads of these conferences' tables, one each, in their order
abbrev pub AreHeadsOf : List Members → List NewHead → Type 0
AreHeadsOf [] heads = heads ≡ []
AreHeadsOf (conference ∷ conferences) heads =
    (head : NewHead) × (others : List NewHead) × (heads ≡ head ∷ others) × IsNewHeadOf conference head × AreHeadsOf conferences others

-- The text is a document, whose key conference has an array of these tables, and the heads are theirs.
pub record AreHeadsIn (text : List ℕ) (heads : List NewHead) : Type 0 where
  pub document : Members
  pub parsed : parse_document text ≡ Some document
  pub conferences : List Members
  pub tables : get_member (codes "conference") document ≡ Some (array (items_of (map table conferences)))
  pub are : AreHeadsOf conferences heads
