-- The heads of one table more, and those of a document's.
use Rattle.std.proofs.Common.{◌≡◌, ◌∷◌, ◌++◌, [], List, Option, Some, option_map, BTreeMap, Global, String, Vec, refl, sym, ap, ◌∙◌, map, ℕ, string_bytes, nat_cmp}
use Rattle.std.specs.Prelude.{codes, Result, Ok, Err, IfOk}
use Rattle.std.specs.Cmp.Lexicographic.{slice_cmp}
use Rattle.std.specs.Map.{lookup}
use Rattle.std.specs.BTreeMap.{is_at}
use Rattle.std.proofs.lemmas.List.{map-append}
use Rattle.toml.specs.Data.{Data, Members, array, get_member, table}
use Rattle.toml.specs.Parse.{parse_document}
use Rattle.toml.specs.View.{items_of, members_view, table_view, view}
use Rattle.toml.specs.declared.value.Value.{Value, Array}
use Rattle.toml.proofs.Views.{view-Array, view-lookup}
use Rattle.floor_kept.specs.NewHeads.{AreHeadsIn, AreHeadsOf, IsNewHeadOf}
use Rattle.floor_kept.specs.steps.Heads.{AreHeadsOfValues, IsHeadOfValue}
use Rattle.floor_kept.specs.declared.head.HeadFault.{HeadFault}
use Rattle.floor_kept.specs.declared.head.NewHead.{NewHead}

one_more : (conferences : List Members) (conference : Members) (heads : List NewHead) (head : NewHead)
    → AreHeadsOf conferences heads → IsNewHeadOf conference head → AreHeadsOf (conferences ++ conference ∷ []) (heads ++ head ∷ [])
one_more [] conference heads head are is = (head, [], ap (λ (hs : List NewHead). hs ++ head ∷ []) are, is, refl)
one_more (c ∷ cs) conference heads head (first, others, same, here, more) is =
    (first, others ++ head ∷ [], ap (λ (hs : List NewHead). hs ++ head ∷ []) same, here, one_more cs conference others head more is)

-- one value more
pub push_value : (values : List Value) (value : Value) (heads : List NewHead) (head : NewHead)
    → AreHeadsOfValues values heads → IsHeadOfValue value head → AreHeadsOfValues (values ++ value ∷ []) (heads ++ head ∷ [])
push_value values value heads head (conferences, are, those) (conference, is, this) = (
  conferences ++ conference ∷ [],
  map-append view values (value ∷ []) ∙ ap (λ (ds : List Data). ds ++ view value ∷ []) are
      ∙ ap (λ (d : Data). map table conferences ++ d ∷ []) is ∙ sym (map-append table conferences (conference ∷ [])),
  one_more conferences conference heads head those this,
)

-- the heads of the array at the key conference
pub in_text : (text : List ℕ) (document : BTreeMap (String Global) Value) (values : Vec Value Global) (heads : List NewHead)
    → parse_document text ≡ Some (table_view document)
    → Some (Array values) ≡ lookup (is_at (λ k. slice_cmp nat_cmp (codes "conference") (string_bytes k))) document.entries
    → AreHeadsOfValues values.items heads → AreHeadsIn text heads
in_text text document values heads parsed found (conferences, tables, are) = record {
  document = table_view document;
  parsed = parsed;
  conferences = conferences;
  tables = sym (view-lookup (codes "conference") document.entries) ∙ ap (option_map view) (sym found) ∙ ap (λ (d : Data). Some d) (view-Array values)
      ∙ ap (λ (ds : List Data). Some (array (items_of ds))) tables;
  are = are;
}

-- where all is well one thing follows from the other
pub well : {A : Type 0} (outcome : Result A HeadFault) (P Q : A → Type 0) → ((x : A) → P x → Q x) → IfOk outcome P → IfOk outcome Q
well (Ok x) P Q follows holds = follows x holds
well (Err fault) P Q follows holds = holds
