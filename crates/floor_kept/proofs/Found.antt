-- What a line is read as.
use Rattle.std.proofs.Common.{◌≡◌, ◌<◌, ◌^◌, ℕ, Bool, true, false, cond, List, ◌++◌, refl, sym, ◌∙◌, ap, subst}
use Rattle.std.specs.Prelude.{Option, Some, None, IfSome, codes, unwrap_or}
use Rattle.std.specs.Str.{bytes_eq}
use Rattle.std.proofs.lemmas.Bool.{false≢true}
use Rattle.std.proofs.lemmas.Slice.Eq.{bytes_eq-Decides}
use Rattle.floor_words.specs.Laws.{NumbersAreReadBack, WordsAreReadBack}
use Rattle.floor_words.specs.Words.{words}
use Rattle.floor_kept.specs.Entries.{IsEntry, IsLineOf, entry_line, is_within}
use Rattle.floor_kept.specs.declared.entry.Entry.{Entry}
use Rattle.floor_kept.specs.steps.Parsed.{checked, entry_words}
use Rattle.floor_kept.proofs.Fitting.{words_fit}
use Rattle.floor_kept.proofs.Spelled.{lines_are_read_back}

-- what the words say, where its line is the text
found : (place : ℕ) (text : List ℕ) (entry : Entry) (ws : List (List ℕ)) → Some entry ≡ entry_words ws → is_within place entry ≡ true
    → bytes_eq (entry_line place entry) (text ++ codes "\n") ≡ true → IsLineOf place text entry
found place text entry ws said within same = record {
  fits = subst (λ (o : Option Entry). IfSome o IsEntry) (sym said) (words_fit ws);
  within = within;
  printed = (bytes_eq-Decides (entry_line place entry) (text ++ codes "\n")).0 same;
}

found_on : (P : Entry → Type 0) (entry : Entry) (a b : Bool) → (a ≡ true → b ≡ true → P entry) → IfSome (cond a (cond b (Some entry) None) None) P
found_on P entry true true h = h refl refl
found_on P entry true false h = tt
found_on P entry false b h = tt

-- what is found by that is the line's
pub checked_found : (place : ℕ) (text : List ℕ) (entry : Entry) (ws : List (List ℕ)) (o : Option Entry) → Some entry ≡ entry_words ws → o ≡ checked place text entry
    → IfSome o (IsLineOf place text)
checked_found place text entry ws o said e =
    subst (λ (o : Option Entry). IfSome o (IsLineOf place text)) (sym e)
    (found_on (IsLineOf place text) entry (is_within place entry) (bytes_eq (entry_line place entry) (text ++ codes "\n")) (λ within same. found place text entry ws said within same))

not_found : (entry : Entry) (a b : Bool) → None ≡ cond a (cond b (Some entry) None) None → a ≡ true → b ≡ true → ⊥
not_found entry true true e w s = cc e
not_found entry true false e w s = false≢true s
not_found entry false b e w s = false≢true w

module _ (again : WordsAreReadBack) (numbers : NumbersAreReadBack) where
  said : (place : ℕ) (text : List ℕ) (entry : Entry) → place < 2 ^ 32 → IsLineOf place text entry → entry_words (words text) ≡ Some entry
  said place text entry few h = lines_are_read_back numbers again place entry text few h.fits h.printed

  -- words that say nothing are no entry's line
  pub nothing : (place : ℕ) (text : List ℕ) (ws : List (List ℕ)) → place < 2 ^ 32 → ws ≡ words text → None ≡ entry_words ws
      → (entry : Entry) → IsLineOf place text entry → ⊥
  nothing place text ws few same none entry h = cc (none ∙ ap entry_words same ∙ said place text entry few h)

  -- the words say another entry than each whose line this is
  one : (place : ℕ) (text : List ℕ) (ws : List (List ℕ)) (other : Entry) → place < 2 ^ 32 → ws ≡ words text → Some other ≡ entry_words ws
      → (entry : Entry) → IsLineOf place text entry → other ≡ entry
  one place text ws other few same e entry h = ap (λ (o : Option Entry). unwrap_or o other) (e ∙ ap entry_words same ∙ said place text entry few h)

  -- where nothing is found by that, the text is no entry's line
  pub checked_none : (place : ℕ) (text : List ℕ) (ws : List (List ℕ)) (other : Entry) → place < 2 ^ 32 → ws ≡ words text → Some other ≡ entry_words ws
      → None ≡ checked place text other → (entry : Entry) → IsLineOf place text entry → ⊥
  checked_none place text ws other few same e none entry h =
      let it = one place text ws other few same e entry h in
      not_found other (is_within place other) (bytes_eq (entry_line place other) (text ++ codes "\n")) none
      (ap (is_within place) it ∙ h.within)
      ((bytes_eq-Decides (entry_line place other) (text ++ codes "\n")).1 (ap (entry_line place) it ∙ h.printed))

  -- two entries with one line at one place are one
  pub same_entry : (place : ℕ) (text : List ℕ) (one other : Entry) → place < 2 ^ 32 → IsLineOf place text one → IsLineOf place text other → one ≡ other
  same_entry place text a b few h j = ap (λ (o : Option Entry). unwrap_or o a) (sym (said place text a few h) ∙ said place text b few j)
