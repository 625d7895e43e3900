-- Where a text is cut.
use Rattle.std.proofs.Common.{◌≡◌, inl, inr, ℕ, zero, suc, ◌<◌, ◌≤◌, Bool, true, false, cond, List, [], ◌∷◌, ◌++◌, length, take, drop, Option, Some, None, refl, sym, ◌∙◌, ap, subst, arith, length-append}
use Rattle.std.specs.Prelude.{IsCharBoundary, IfSome}
use Rattle.std.proofs.lemmas.Bool.Decides.{leb_tells, nat_tests}
use Rattle.floor_message.specs.Text.{is_whole_at, cut_at_most, shortened, unless_empty, text_kept, IsLongestFront}
use Rattle.floor_message.specs.Fits.{TextFits}
use Rattle.std.specs.Str.{is_utf8, IsUtf8}
use Rattle.std.proofs.lemmas.Str.{IsCharBoundary-start, IsCharBoundary-from_take, IsUtf8-take, IsUtf8-from_is_utf8, is_utf8-from_IsUtf8}
use Rattle.std.proofs.lemmas.List.{length-take, length-take-le, take-append-drop, take_at}
use Rattle.std.proofs.Math.Seq.{take-length}
use Rattle.std.proofs.Common.{true≢false}

whole_true : (text : List ℕ) (i : ℕ) → IsCharBoundary text i → is_whole_at text i ≡ true
whole_true text i h = grind (arith, nat_tests)

boundary_of : (text : List ℕ) (i : ℕ) → is_whole_at text i ≡ true → IsCharBoundary text i
boundary_of text i h = (grind (arith, nat_tests), λ a b. grind (arith, nat_tests))

not_true : (b : Bool) → (b ≡ true → ⊥) → b ≡ false
not_true true h = absurd (h refl)
not_true false h = refl

pub cut_is : (text : List ℕ) (n r : ℕ) → r ≤ n → IsCharBoundary text r → ((i : ℕ) → r < i → i ≤ n → IsCharBoundary text i → ⊥) → cut_at_most text n ≡ r
cut_is text zero r h whole none = omega arith
cut_is text (suc n) r h whole none = elim (leb_tells r n) [
  | inl w ↦ ap (λ b. cond b (suc n) (cut_at_most text n)) (not_true (is_whole_at text (suc n)) (λ e. none (suc n) (omega (arith, w.1)) (omega arith) (boundary_of text (suc n) e)))
      ∙ cut_is text n r w.1 whole (λ i a b. none i a (omega arith))
  | inr w ↦ let same : suc n ≡ r = omega (arith, w.1) in
      ap (λ b. cond b (suc n) (cut_at_most text n)) (ap (λ k. is_whole_at text k) same ∙ whole_true text r whole) ∙ same
]

-- a text of at most so many bytes is kept whole
pub shortened_whole : (most : ℕ) (text : List ℕ) → length text ≤ most → shortened most text ≡ text
unfolding shortened
shortened_whole most text h =
    ap (λ n. take n text) (cut_is text most (length text) h (omega arith, λ a b. absurd (omega arith)) (λ i a b c. omega (arith, c.0))) ∙ take-length text

-- a text that fits is kept as it is
pub text_kept_whole : (most : ℕ) (text : List ℕ) → TextFits most text → text_kept most (Some text) ≡ Some (Some text)
text_kept_whole most text fits =
    ap (λ b. cond b (Some (unless_empty (shortened most text))) None) fits.utf8
    ∙ ap (λ t. Some (unless_empty t)) (shortened_whole most text fits.short) ∙ ap Some (not_empty text fits.some) where
      not_empty : (t : List ℕ) → 0 < length t → unless_empty t ≡ Some t
      not_empty [] h = absurd (omega arith)
      not_empty (b ∷ bytes) h = refl

pub text_kept_same : (most : ℕ) (text : Option (List ℕ)) → IfSome text (TextFits most) → text_kept most text ≡ Some text
text_kept_same most None h = refl
text_kept_same most (Some text) h = text_kept_whole most text h

cut_bound : (text : List ℕ) (n : ℕ) → cut_at_most text n ≤ n
cut_bound text zero = omega arith
cut_bound text (suc n) = elim (is_whole_at text (suc n)) as (λ b. cond b (suc n) (cut_at_most text n) ≤ suc n) [ true ↦ omega arith | false ↦ omega (arith, cut_bound text n) ]

cut_by : (text : List ℕ) (n : ℕ) (b : Bool) → is_whole_at text (suc n) ≡ b → IsCharBoundary text (cut_at_most text n) → IsCharBoundary text (cond b (suc n) (cut_at_most text n))
cut_by text n true e h = boundary_of text (suc n) e
cut_by text n false e h = h

cut_whole : (text : List ℕ) (n : ℕ) → IsUtf8 text → IsCharBoundary text (cut_at_most text n)
cut_whole text zero h = IsCharBoundary-start text h
cut_whole text (suc n) h = cut_by text n (is_whole_at text (suc n)) refl (cut_whole text n h)

shortened_is : (most : ℕ) (text : List ℕ) → shortened most text ≡ take (cut_at_most text most) text
unfolding shortened
shortened_is most text = refl

kept_of : (most : ℕ) (text : List ℕ) (kept : Option (List ℕ)) → is_utf8 text ≡ true → length text ≤ most → unless_empty text ≡ kept → IfSome kept (TextFits most)
kept_of most [] kept u h e = let P : Option (List ℕ) → Type 0 = λ k. IfSome k (TextFits most) in subst P e tt
kept_of most (b ∷ bytes) kept u h e =
    let P : Option (List ℕ) → Type 0 = λ k. IfSome k (TextFits most) in subst P e (record { utf8 = u; some = omega arith; short = h })

shortened_utf8 : (most : ℕ) (text : List ℕ) → is_utf8 text ≡ true → is_utf8 (shortened most text) ≡ true
shortened_utf8 most text u =
    let whole = IsUtf8-from_is_utf8 text u in
    ap is_utf8 (shortened_is most text) ∙ is_utf8-from_IsUtf8 (take (cut_at_most text most) text) (IsUtf8-take text (cut_at_most text most) whole (cut_whole text most whole))

shortened_short : (most : ℕ) (text : List ℕ) → length (shortened most text) ≤ most
shortened_short most text = omega (arith, ap length (shortened_is most text), length-take (cut_at_most text most) text, cut_bound text most)

kept_by : (most : ℕ) (text : List ℕ) (kept : Option (List ℕ)) (b : Bool) → is_utf8 text ≡ b → cond b (Some (unless_empty (shortened most text))) None ≡ Some kept → IfSome kept (TextFits most)
kept_by most text kept true u e =
    kept_of most (shortened most text) kept (shortened_utf8 most text u) (shortened_short most text) (let same : unless_empty (shortened most text) ≡ kept = cc in same)
kept_by most text kept false u e = absurd (let no : ⊥ = cc in no)

-- what is kept of a text fits
pub kept_fits : (most : ℕ) (text kept : Option (List ℕ)) → text_kept most text ≡ Some kept → IfSome kept (TextFits most)
kept_fits most None kept e = let P : Option (List ℕ) → Type 0 = λ k. IfSome k (TextFits most) in let same : None ≡ kept = cc in subst P same tt
kept_fits most (Some text) kept e = kept_by most text kept (is_utf8 text) refl e

-- the cut is at the greatest place
cut_step : (text : List ℕ) (n k : ℕ) (b : Bool) → is_whole_at text (suc n) ≡ b → k ≤ suc n → IsCharBoundary text k
    → (k ≤ n → k ≤ cut_at_most text n) → k ≤ cond b (suc n) (cut_at_most text n)
cut_step text n k true e h whole below = h
cut_step text n k false e h whole below = elim (leb_tells k n) [
  | inl w ↦ below w.1
  | inr w ↦ let same : k ≡ suc n = omega (arith, w.1, h) in
      absurd (true≢false (sym (whole_true text k whole) ∙ ap (λ i. is_whole_at text i) same ∙ e))
]

cut_greatest : (text : List ℕ) (n k : ℕ) → k ≤ n → IsCharBoundary text k → k ≤ cut_at_most text n
cut_greatest text zero k h whole = h
cut_greatest text (suc n) k h whole =
    cut_step text n k (is_whole_at text (suc n)) refl h whole (λ l. cut_greatest text n k l whole)

-- a front that is UTF-8 ends at a character
front_ends : (text front more : List ℕ) → is_utf8 text ≡ true → text ≡ front ++ more → is_utf8 front ≡ true → IsCharBoundary text (length front)
front_ends text front more u e v =
    let same : take (length front) text ≡ front = ap (λ x. take (length front) x) e ∙ take_at front more (length front) refl in
    IsCharBoundary-from_take text (length front) (IsUtf8-from_is_utf8 text u)
    (omega (arith, ap length e, length-append front more))
    (subst IsUtf8 (sym same) (IsUtf8-from_is_utf8 front v))

-- no longer front could be kept
pub shortened_longest : (most : ℕ) (text : List ℕ) → is_utf8 text ≡ true → IsLongestFront most text (shortened most text)
shortened_longest most text u =
    let whole = cut_whole text most (IsUtf8-from_is_utf8 text u) in
    record {
      behind = drop (cut_at_most text most) text;
      whole = sym (take-append-drop (cut_at_most text most) text) ∙ ap (λ x. x ++ drop (cut_at_most text most) text) (sym (shortened_is most text));
      ends = shortened_utf8 most text u;
      short = shortened_short most text;
      longest = λ front more e v h. omega (
        arith,
        cut_greatest text most (length front) h (front_ends text front more u e v),
        ap length (shortened_is most text),
        length-take-le (cut_at_most text most) text whole.0,
      );
    }
