-- The end of a line: what stands before a line feed, without one carriage return.
use Rattle.std.proofs.Common.{◌≡◌, ◌≢◌, ◌==◌, ℕ, suc, ◌<◌, ◌-◌, Bool, true, false, cond, List, [], ◌∷◌, ◌++◌, length, get_or, take, refl, sym, ◌∙◌, ap, arith, eqb-true, length-append, lt-ltb, le-ltb}
use Rattle.std.specs.Prelude.{Option, Some, None, MatchOption, unwrap_or}
use Rattle.std.specs.List.{position_or_len, before_first, after_first, slice_split}
use Rattle.std.specs.Str.Lines.{lines, lines_of_parts, strip_carriage_return}
use Rattle.std.proofs.Math.Seq.{get_or-append_seam, take-suc, take-append_seam, take-length}
use Rattle.std.proofs.lemmas.Bool.{false≢true}
use Rattle.std.proofs.lemmas.List.Splits.{length-slice_split, slice_split_first, slice_split_none}
use Rattle.std.proofs.lemmas.List.Sums.{fails_before_first}
use Rattle.floor_words.specs.Lines.{IsCut, has_line_feed, is_line_feed}
use Rattle.floor_words.specs.declared.line.Cut.{Cut}
use denote.Ref.{Bor}

-- a list is what stands before its last element, and that
from_last : (l : List ℕ) (m : ℕ) → length l ≡ suc m → (get_or l m 0 == 13) ≡ true → l ≡ take m l ++ (13 ∷ [])
from_last l m long e =
    sym (take-length l) ∙ ap (λ j. take j l) long ∙ take-suc l m 0 (omega (arith, long))
    ∙ ap (λ b. take m l ++ (b ∷ [])) (eqb-true (get_or l m 0) 13 e)

ends_so : (l : List ℕ) → (get_or l (length l - 1) 0 == 13) ≡ true → l ≡ take (length l - 1) l ++ (13 ∷ [])
ends_so [] e = absurd (false≢true e)
ends_so (x ∷ xs) e = from_last (x ∷ xs) (length (x ∷ xs) - 1) (omega arith) e

-- a list with one more element has that at its end
one_more : (x : List ℕ) (b : ℕ) → length (x ++ (b ∷ [])) - 1 ≡ length x
one_more x b = omega (arith, length-append x (b ∷ []))

last_of : (x : List ℕ) (b : ℕ) → get_or (x ++ (b ∷ [])) (length (x ++ (b ∷ [])) - 1) 0 ≡ b
last_of x b = ap (λ k. get_or (x ++ (b ∷ [])) k 0) (one_more x b) ∙ get_or-append_seam x b [] 0

before_last : (x : List ℕ) (b : ℕ) → take (length (x ++ (b ∷ [])) - 1) (x ++ (b ∷ [])) ≡ x
before_last x b = ap (λ k. take k (x ++ (b ∷ []))) (one_more x b) ∙ take-append_seam x (b ∷ [])

chosen : (b : Bool) (l m : List ℕ) → b ≡ true → cond b m l ≡ m
chosen true l m e = refl
chosen false l m e = absurd (false≢true e)

-- a line that ends with a carriage return loses it
pub strips : (l x : List ℕ) → l ≡ x ++ (13 ∷ []) → strip_carriage_return l ≡ x
strips l x e = rw e (chosen _ _ _ (ap (λ b. b == 13) (last_of x 13)) ∙ before_last x 13)

without : (b : Bool) (l : List ℕ) → (b ≡ true → l ≡ take (length l - 1) l ++ (13 ∷ []))
    → ((front : List ℕ) → l ≢ front ++ (13 ∷ [])) → cond b (take (length l - 1) l) l ≡ l
without true l some none = absurd (none _ (some refl))
without false l some none = refl

-- a line that doesn't is left as it is
pub keeps : (l : List ℕ) → ((front : List ℕ) → l ≢ front ++ (13 ∷ [])) → strip_carriage_return l ≡ l
keeps l none = without (get_or l (length l - 1) 0 == 13) l (ends_so l) none

-- what is left of a line where its carriage return was looked for
pub returned : (l : List ℕ) (line : Bor (List ℕ)) (r : Option (Bor (List ℕ))) → line.now ≡ l
    → MatchOption r ((front : List ℕ) → l ≢ front ++ (13 ∷ [])) (λ x. l ≡ x.now ++ (13 ∷ []))
    → (unwrap_or r line).now ≡ strip_carriage_return l
returned l line None same none = same ∙ sym (keeps l none)
returned l line (Some x) same h = sym (strips l x.now h)

-- a text without a line feed is its one line
one_line : (b : Bool) (text : List ℕ) → b ≡ false → cond b [] (text ∷ []) ≡ text ∷ []
one_line true text e = absurd (false≢true (sym e))
one_line false text e = refl

not_zero : (n : ℕ) (b : Bool) → (n == 0) ≡ b → 0 < n → b ≡ false
not_zero n true same some = absurd (omega (arith, eqb-true n 0 same, some))
not_zero n false same some = refl

last_line : (text : List ℕ) → 0 < length text → position_or_len is_line_feed text ≡ length text
    → lines text ≡ text ∷ []
last_line text some none =
    ap lines_of_parts (slice_split_none is_line_feed text
    (λ k d below. fails_before_first is_line_feed text k d (omega (arith, none, below))))
    ∙ one_line (length text == 0) text (not_zero (length text) _ refl some)

left : (b : Bool) (x y : List ℕ) → b ≡ false → cond b x y ≡ y
left true x y e = absurd (false≢true (sym e))
left false x y e = refl

pub cut_last : (text : List ℕ) (cut : Cut) → 0 < length text → position_or_len is_line_feed text ≡ length text
    → cut.line.now ≡ text → cut.rest.now ≡ [] → IsCut text cut
cut_last text cut some none line rest =
    let ends : has_line_feed text ≡ false = le-ltb (position_or_len is_line_feed text) (length text) (omega (arith, none)) in
    record {
      line = line ∙ sym (left (has_line_feed text) _ text ends);
      rest = rest ∙ sym (left (has_line_feed text) _ [] ends);
      lines_are = last_line text some none ∙ rw (line, rest) refl;
    }

-- a text with a line feed is its first line, and then the lines behind that
stripped : (x : List ℕ) (parts : List (List ℕ)) → 0 < length parts
    → lines_of_parts (x ∷ parts) ≡ strip_carriage_return x ∷ lines_of_parts parts
stripped x [] some = absurd (omega (arith, some))
stripped x (y ∷ more) some = refl

more_lines : (text : List ℕ) → position_or_len is_line_feed text < length text
    → lines text ≡ strip_carriage_return (before_first is_line_feed text) ∷ lines (after_first is_line_feed text)
more_lines text below =
    ap lines_of_parts (slice_split_first is_line_feed text 0 below)
    ∙ stripped (before_first is_line_feed text) (slice_split is_line_feed (after_first is_line_feed text))
    (omega (arith, length-slice_split is_line_feed (after_first is_line_feed text)))

pub cut_first : (text : List ℕ) (cut : Cut) → position_or_len is_line_feed text < length text
    → cut.line.now ≡ strip_carriage_return (before_first is_line_feed text)
    → cut.rest.now ≡ after_first is_line_feed text → IsCut text cut
cut_first text cut below line rest =
    let ends : has_line_feed text ≡ true = lt-ltb (position_or_len is_line_feed text) (length text) below in
    record {
      line = line ∙ sym (chosen (has_line_feed text) text _ ends);
      rest = rest ∙ sym (chosen (has_line_feed text) [] _ ends);
      lines_are = more_lines text below ∙ rw (line, rest) refl;
    }
