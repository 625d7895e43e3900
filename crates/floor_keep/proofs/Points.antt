-- A name is cut at its first point.
use Rattle.std.proofs.Common.{◌≡◌, ◌==◌, ◌<◌, ◌≤◌, ◌+◌, ◌^◌, ◌/◌, ◌%◌, ◌&&◌, ℕ, suc, Bool, true, false, cond, not, take, List, [], ◌∷◌, ◌++◌, length, refl, sym, ◌∙◌, ap, arith, append_assoc, eqb-true}
use Rattle.std.specs.Prelude.{Option, Some, None, codes, unwrap_or}
use Rattle.std.proofs.lemmas.Bool.{false≢true}
use Rattle.std.proofs.lemmas.Slice.Eq.{bytes_eq-Decides}
use Rattle.std.specs.Str.{bytes_eq}
use Rattle.std.specs.Fmt.{decimal}
use Rattle.std.specs.List.{after_first, before_first, list_all, position_or_len, prefix_len}
use Rattle.std.proofs.lemmas.Fmt.{decimal_by_steps}
use Rattle.std.proofs.lemmas.List.Sums.{passes_at_first, split_at_first}
use Rattle.std.proofs.Math.Seq.{take-length}
use Rattle.floor_words.specs.Laws.{NumbersAreReadBack}
use Rattle.floor_words.specs.Words.{number}
use Rattle.floor_keep.specs.Naming.{journal_name}

abbrev pub is_point : ℕ → Bool
is_point b = b == 46

abbrev has_no_point : List ℕ → Bool
has_no_point text = list_all (λ b. not (b == 46)) text

both : (a b : Bool) → a ≡ true → b ≡ true → (a && b) ≡ true
both true b e h = h
both false b e h = cc e

left : (a b : Bool) → (a && b) ≡ true → a ≡ true
left true b e = refl
left false b e = e

right : (a b : Bool) → (a && b) ≡ true → b ≡ true
right true b e = e
right false b e = cc e

all_more : (xs ys : List ℕ) → has_no_point xs ≡ true → has_no_point ys ≡ true → has_no_point (xs ++ ys) ≡ true
all_more [] ys e h = h
all_more (x ∷ xs) ys e h = both (not (x == 46)) _ (left (not (x == 46)) _ e) (all_more xs ys (right (not (x == 46)) _ e) h)

digit : (d : ℕ) → has_no_point ((48 + d) ∷ []) ≡ true
digit d = on (48 + d == 46) refl
  where
    on : (b : Bool) → (48 + d == 46) ≡ b → (not b && true) ≡ true
    on true e = absurd (omega (arith, eqb-true (48 + d) 46 e))
    on false e = refl

-- no point is among the digits of a number
decimal_no_point : (n : ℕ) → n < 2 ^ 64 → has_no_point (decimal n) ≡ true
decimal_no_point n h =
    decimal_by_steps (λ n ds. has_no_point ds ≡ true) (λ n small. digit n) (λ n ds big e. all_more ds _ e (digit (n % 10))) n h

abbrev head_of : List ℕ → ℕ
head_of [] = 0
head_of (x ∷ xs) = x

abbrev tail_of : List ℕ → List ℕ
tail_of [] = []
tail_of (x ∷ xs) = xs

point_is_none : (y : ℕ) → y ≡ 46 → not (y == 46) ≡ true → ⊥
point_is_none y e h = false≢true (sym (ap (λ (c : ℕ). not (c == 46)) e) ∙ h)

-- what stands before a point and has none is what it is
unique : (xs ys r s : List ℕ) → has_no_point xs ≡ true → has_no_point ys ≡ true → xs ++ (46 ∷ r) ≡ ys ++ (46 ∷ s) → xs ≡ ys
unique [] [] r s e h same = refl
unique [] (y ∷ ys) r s e h same = absurd (point_is_none y (sym (ap head_of same)) (left (not (y == 46)) _ h))
unique (x ∷ xs) [] r s e h same = absurd (point_is_none x (ap head_of same) (left (not (x == 46)) _ e))
unique (x ∷ xs) (y ∷ ys) r s e h same =
    ap (λ (c : ℕ). c ∷ xs) (ap head_of same)
    ∙ ap (λ (l : List ℕ). y ∷ l) (unique xs ys r s (right (not (x == 46)) _ e) (right (not (y == 46)) _ h) (ap tail_of same))

has_point : (xs r : List ℕ) → has_no_point (xs ++ (46 ∷ r)) ≡ true → ⊥
has_point [] r e = false≢true e
has_point (x ∷ xs) r e = has_point xs r (right (not (x == 46)) _ e)

one_more : (n : ℕ) → 1 + n ≡ suc n
one_more n = omega arith

passing_on : (q : ℕ → Bool) (x : ℕ) (xs : List ℕ) (b : Bool) → q x ≡ b → list_all q (take (prefix_len q xs) xs) ≡ true
    → list_all q (take (cond b (1 + prefix_len q xs) 0) (x ∷ xs)) ≡ true
passing_on q x xs true e h = ap (λ n. list_all q (take n (x ∷ xs))) (one_more (prefix_len q xs)) ∙ rw e h
passing_on q x xs false e h = refl

-- each of those before the first that fails passes
passing : (q : ℕ → Bool) (xs : List ℕ) → list_all q (take (prefix_len q xs) xs) ≡ true
passing q [] = refl
passing q (x ∷ xs) = passing_on q x xs (q x) refl (passing q xs)

-- what stands before the first point, the point, and what stands behind it
parts : (s line behind : List ℕ) → line ≡ before_first is_point s → behind ≡ after_first is_point s → position_or_len is_point s < length s
    → s ≡ line ++ (46 ∷ behind)
parts s line behind l b h =
    split_at_first is_point s 0 h
    ∙ ap (λ c. before_first is_point s ++ (c ∷ after_first is_point s)) (eqb-true _ 46 (passes_at_first is_point s 0 h))
    ∙ rw (← l, ← b) refl

-- what stands before the first point of a journal's name is its number
pub number_first : (name line behind : List ℕ) (c : ℕ) → line ≡ before_first is_point name → behind ≡ after_first is_point name
    → position_or_len is_point name < length name → c < 2 ^ 32 → name ≡ journal_name c → line ≡ decimal c
number_first name line behind c l b within few e =
    unique line (decimal c) behind (codes "journal") (ap has_no_point l ∙ passing (λ b. not (b == 46)) name) (decimal_no_point c (omega (arith, few)))
    (sym (parts name line behind l b within) ∙ e)

-- a name without a point is no journal's
pub no_journal : (name : List ℕ) (c : ℕ) → position_or_len is_point name ≡ length name → name ≡ journal_name c → ⊥
no_journal name c none e =
    has_point (decimal c) (codes "journal")
    (ap has_no_point (sym e) ∙ ap has_no_point (sym (take-length name) ∙ ap (λ n. take n name) (sym none)) ∙ passing (λ b. not (b == 46)) name)

module _ (numbers : NumbersAreReadBack) where
  reads : (c : ℕ) → c < 2 ^ 32 → number (2 ^ 32) (decimal c) ≡ Some c
  reads c few = (numbers (2 ^ 32) c few (omega (arith, few))).value

  -- a number that isn't read is none's
  pub unread : (line : List ℕ) (c : ℕ) → c < 2 ^ 32 → None ≡ number (2 ^ 32) line → line ≡ decimal c → ⊥
  unread line c few none e = cc (none ∙ ap (number (2 ^ 32)) e ∙ reads c few)

  -- and one that is is that one
  pub read_one : (line : List ℕ) (c d : ℕ) → c < 2 ^ 32 → Some d ≡ number (2 ^ 32) line → line ≡ decimal c → d ≡ c
  read_one line c d few some e = ap (λ (o : Option ℕ). unwrap_or o 0) (some ∙ ap (number (2 ^ 32)) e ∙ reads c few)

  -- a journal's name is the one that is printed for its number
  pub same_name : (name line behind shown : List ℕ) (c d : ℕ) → line ≡ before_first is_point name → behind ≡ after_first is_point name
      → position_or_len is_point name < length name → c < 2 ^ 32 → Some d ≡ number (2 ^ 32) line → shown ≡ journal_name d → bytes_eq name shown ≡ false
      → name ≡ journal_name c → ⊥
  same_name name line behind shown c d l b within few some printed other e =
      let one : d ≡ c = read_one line c d few some (number_first name line behind c l b within few e) in
      false≢true (sym other ∙ (bytes_eq-Decides name shown).1 (e ∙ ap journal_name (sym one) ∙ sym printed))
