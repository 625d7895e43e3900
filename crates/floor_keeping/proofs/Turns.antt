-- What turns add, one after another.
use Rattle.std.proofs.Common.{◌≡◌, ℕ, List, [], ◌∷◌, ◌++◌, length, refl, sym, ◌∙◌, ap, append_assoc}
use Rattle.std.proofs.lemmas.List.{append-nil}
use Rattle.floor_kept.specs.Laws.{Turn, turns_lines}
use Rattle.floor_kept.specs.Writing.{turn_lines}
use Rattle.floor_keeping.specs.Laws.{IsOfTurns, events_behind}

pub lines_both : (n : ℕ) (xs ys : List Turn) → turns_lines n (xs ++ ys) ≡ turns_lines n xs ++ turns_lines (events_behind n xs) ys
lines_both n [] ys = refl
lines_both n (t ∷ ts) ys =
    ap (λ (l : List ℕ). turn_lines n t.journal t.notes ++ l) (lines_both (length t.journal) ts ys)
    ∙ sym (append_assoc (turn_lines n t.journal t.notes) (turns_lines (length t.journal) ts) (turns_lines (events_behind (length t.journal) ts) ys))

events_both : (n : ℕ) (xs ys : List Turn) → events_behind n (xs ++ ys) ≡ events_behind (events_behind n xs) ys
events_both n [] ys = refl
events_both n (t ∷ ts) ys = events_both (length t.journal) ts ys

-- of equal numbers and bytes
pub of_same : (n m k l : ℕ) (a b : List ℕ) (ts : List Turn) → m ≡ n → b ≡ a → l ≡ k → IsOfTurns n a k ts → IsOfTurns m b l ts
of_same n m k l a b ts from bytes count h = record {
  bytes_are = bytes ∙ h.bytes_are ∙ ap (λ (i : ℕ). turns_lines i ts) (sym from);
  count_is = count ∙ h.count_is ∙ ap (λ (i : ℕ). events_behind i ts) (sym from);
}

-- one behind another
pub of_both : (n m k : ℕ) (a b : List ℕ) (xs ys : List Turn) → IsOfTurns n a m xs → IsOfTurns m b k ys → IsOfTurns n (a ++ b) k (xs ++ ys)
of_both n m k a b xs ys x y = record {
  bytes_are =
      ap (λ (l : List ℕ). l ++ b) x.bytes_are
      ∙ ap (λ (l : List ℕ). turns_lines n xs ++ l) (y.bytes_are ∙ ap (λ (i : ℕ). turns_lines i ys) x.count_is)
      ∙ sym (lines_both n xs ys);
  count_is = y.count_is ∙ ap (λ (i : ℕ). events_behind i ys) x.count_is ∙ sym (events_both n xs ys);
}

pub of_one : (n : ℕ) (t : Turn) → IsOfTurns n (turn_lines n t.journal t.notes) (length t.journal) (t ∷ [])
of_one n t = record { bytes_are = sym (append-nil (turn_lines n t.journal t.notes)); count_is = refl }

pub of_none : (n : ℕ) → IsOfTurns n [] n []
of_none n = record { bytes_are = refl; count_is = refl }
