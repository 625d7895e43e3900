-- A text is cut at its first line feed.
use Rattle.std.proofs.Common.{◌≡◌, ◌==◌, ◌<◌, ◌+◌, ℕ, suc, Bool, true, false, cond, not, List, [], ◌∷◌, ◌++◌, length, take, refl, sym, ◌∙◌, ap, arith, eqb-true}
use Rattle.std.specs.List.{after_first, before_first, list_all, position_or_len, prefix_len}
use Rattle.std.proofs.lemmas.List.Sums.{passes_at_first, split_at_first}
use Rattle.std.proofs.Math.Seq.{take-length}
use Rattle.floor_kept.specs.Body.{is_one_line}

abbrev pub is_feed : ℕ → Bool
is_feed b = b == 10

one_more : (n : ℕ) → 1 + n ≡ suc n
one_more n = omega arith

passing_on : (q : ℕ → Bool) (x : ℕ) (xs : List ℕ) (b : Bool) → q x ≡ b → list_all q (take (prefix_len q xs) xs) ≡ true
    → list_all q (take (cond b (1 + prefix_len q xs) 0) (x ∷ xs)) ≡ true
passing_on q x xs true e h = ap (λ n. list_all q (take n (x ∷ xs))) (one_more (prefix_len q xs)) ∙ rw e h
passing_on q x xs false e h = refl

-- each of those before the first that fails passes
passing : (q : ℕ → Bool) (xs : List ℕ) → list_all q (take (prefix_len q xs) xs) ≡ true
passing q [] = refl
passing q (x ∷ xs) = passing_on q x xs (q x) refl (passing q xs)

-- the line, the line feed, and what stands behind it
pub parts : (s line behind : List ℕ) → line ≡ before_first is_feed s → behind ≡ after_first is_feed s → position_or_len is_feed s < length s
    → s ≡ line ++ (10 ∷ behind)
parts s line behind l b h =
    split_at_first is_feed s 0 h
    ∙ ap (λ c. before_first is_feed s ++ (c ∷ after_first is_feed s)) (eqb-true _ 10 (passes_at_first is_feed s 0 h))
    ∙ rw (← l, ← b) refl

pub line_is_one : (s line : List ℕ) → line ≡ before_first is_feed s → is_one_line line ≡ true
line_is_one s line l = ap is_one_line l ∙ passing (λ b. not (b == 10)) s

-- a text without a line feed
pub rest_is_one : (s : List ℕ) → position_or_len is_feed s ≡ length s → is_one_line s ≡ true
rest_is_one s e = ap is_one_line (sym (take-length s) ∙ ap (λ n. take n s) (sym e)) ∙ passing (λ b. not (b == 10)) s
