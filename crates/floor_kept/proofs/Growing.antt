-- One entry more.
use Rattle.std.proofs.Common.{◌≡◌, ◌&&◌, ℕ, Bool, true, false, not, List, [], ◌∷◌, ◌++◌, refl, sym, ◌∙◌, ap, append_assoc}
use Rattle.std.specs.Prelude.{◌||◌}
use Rattle.std.proofs.lemmas.Bool.{false≢true}
use Rattle.std.proofs.lemmas.List.{append-nil}
use Rattle.floor_kept.specs.Entries.{IsEntry, entry_line, is_within, place_behind}
use Rattle.floor_kept.specs.Body.{AreEntries, ends_last, entry_lines, is_end, is_ended, next_place}
use Rattle.floor_kept.specs.declared.entry.Entry.{Entry}

pub place_more : (place : ℕ) (xs : List Entry) (x : Entry) → next_place place (xs ++ x ∷ []) ≡ place_behind (next_place place xs) x
place_more place [] x = refl
place_more place (y ∷ xs) x = place_more (place_behind place y) xs x

pub lines_more : (place : ℕ) (xs : List Entry) (x : Entry) → entry_lines place (xs ++ x ∷ []) ≡ entry_lines place xs ++ entry_line (next_place place xs) x
lines_more place [] x = append-nil (entry_line place x)
lines_more place (y ∷ xs) x =
    ap (λ (l : List ℕ). entry_line place y ++ l) (lines_more (place_behind place y) xs x)
    ∙ sym (append_assoc (entry_line place y) (entry_lines (place_behind place y) xs) _)

pub fit_more : (place : ℕ) (xs : List Entry) (x : Entry) → AreEntries place xs → IsEntry x → is_within (next_place place xs) x ≡ true
    → AreEntries place (xs ++ x ∷ [])
fit_more place [] x h fits within = (fits, within, tt)
fit_more place (y ∷ xs) x (f, w, h) fits within = (f, w, fit_more (place_behind place y) xs x h fits within)

and_true : (b : Bool) → b ≡ false → (a : Bool) → a ≡ true → (not b && a) ≡ true
and_true true e a h = absurd (false≢true (sym e))
and_true false e a h = h

or_left : (a b : Bool) → (a || b) ≡ false → a ≡ false
or_left true b e = e
or_left false b e = refl

or_right : (a b : Bool) → (a || b) ≡ false → b ≡ false
or_right true b e = absurd (false≢true (sym e))
or_right false b e = e

pub last_more : (xs : List Entry) (x : Entry) → is_ended xs ≡ false → ends_last (xs ++ x ∷ []) ≡ true
last_more [] x none = refl
last_more (y ∷ []) x none = and_true (is_end y) (or_left (is_end y) _ none) true refl
last_more (y ∷ z ∷ xs) x none =
    and_true (is_end y) (or_left (is_end y) _ none) (ends_last (z ∷ (xs ++ x ∷ []))) (last_more (z ∷ xs) x (or_right (is_end y) _ none))

one_end : (b : Bool) → (b || false) ≡ b
one_end true = refl
one_end false = refl

past : (b c : Bool) → b ≡ false → (b || c) ≡ c
past true c e = absurd (false≢true (sym e))
past false c e = refl

pub ended_more : (xs : List Entry) (x : Entry) → is_ended xs ≡ false → is_ended (xs ++ x ∷ []) ≡ is_end x
ended_more [] x none = one_end (is_end x)
ended_more (y ∷ xs) x none = past (is_end y) _ (or_left (is_end y) _ none) ∙ ended_more xs x (or_right (is_end y) _ none)
