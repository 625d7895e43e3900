-- Bytes are a name exactly where they are the digits of a conference, a dot and those of a user.
use Rattle.std.proofs.Common.{◌≡◌, ◌==◌, ℕ, zero, suc, ◌+◌, ◌<◌, ◌≤◌, ◌^◌, ◌&&◌, Bool, true, false, cond, not, List, [], ◌∷◌, ◌++◌, length, take, drop, Some, None, Option, refl, sym, ◌∙◌, ap, arith, eqb-true}
use Rattle.std.specs.Prelude.{nat_lt, nat_le, slice_index}
use Rattle.std.specs.Char.{is_ascii_digit}
use Rattle.std.specs.Fmt.{decimal}
use Rattle.std.specs.List.{list_all, position_or_len, before_first, after_first}
use Rattle.std.specs.Str.Parse.{digits_value}
use Rattle.std.proofs.lemmas.Bool.{and_parts, false≢true, ltb-false, ltb-true, ne_eqb, eq-eqb}
use Rattle.std.proofs.lemmas.Fmt.{decimal-digits_value, decimal_digit, digits_decimal, first_decimal}
use Rattle.std.proofs.Math.Seq.{take-append_seam, drop-append-add}
use Rattle.floor_words.specs.Laws.{NumbersAreReadBack}
use Rattle.floor_words.specs.Words.{number, is_numeral, is_word}
use Rattle.floor_proxy.specs.declared.name.Name.{Name}
use Rattle.floor_proxy.specs.Name.{is_dot, has_leading_zero, numeral, both, name_in}
use Rattle.floor_proxy.specs.Laws.{IsName, NamesAreReadBack, name_bytes}
use Rattle.floor_proxy.proofs.Numerals.{own}

-- what is written is a name ----------------------------------------------------------------------

digit-no-dot : (d : ℕ) → is_ascii_digit d ≡ true → (d == 46) ≡ false
digit-no-dot d digit = by (d == 46) refl where
  by : (t : Bool) → (d == 46) ≡ t → t ≡ false
  by true e = absurd (false≢true (ap is_ascii_digit (sym (eqb-true d 46 e)) ∙ digit))
  by false e = refl

-- behind digits the dot is the first
dot-behind : (ds rest : List ℕ) → list_all is_ascii_digit ds ≡ true → position_or_len is_dot (ds ++ 46 ∷ rest) ≡ length ds
dot-behind [] rest all = refl
dot-behind (d ∷ ds) rest all =
    let digits = and_parts (is_ascii_digit d) (list_all is_ascii_digit ds) all in
    ap (λ (t : Bool). cond (not t) (1 + position_or_len is_dot (ds ++ 46 ∷ rest)) 0) (digit-no-dot d digits.0)
    ∙ omega (arith, dot-behind ds rest digits.1)

no_zero : (ds : List ℕ) → 48 < slice_index ds 0 → has_leading_zero ds ≡ false
no_zero ds more = by (nat_lt 1 (length ds)) where
  by : (t : Bool) → (t && (slice_index ds 0 == 48)) ≡ false
  by true = ne_eqb (slice_index ds 0) 48 (λ same. omega (arith, more, same))
  by false = refl

decimal-plain : (n : ℕ) → n < 2 ^ 64 → has_leading_zero (decimal n) ≡ false
decimal-plain zero small = ap has_leading_zero (decimal_digit 0 (omega arith))
decimal-plain (suc n) small = no_zero (decimal (suc n)) (first_decimal (suc n) (omega arith) small)

numeral-decimal : NumbersAreReadBack → (limit n : ℕ) → n < limit → n < 10 ^ 10 → numeral limit (decimal n) ≡ Some n
numeral-decimal read limit n below short =
    ap (λ (t : Bool). cond t None (number limit (decimal n))) (decimal-plain n (omega arith)) ∙ (read limit n below short).value

written : NumbersAreReadBack → (name : Name) → IsName name → name_in (name_bytes name) ≡ Some name
written read name fits =
    let ds : List ℕ = decimal name.conference in
    let us : List ℕ = decimal name.user in
    let place : position_or_len is_dot (ds ++ 46 ∷ us) ≡ length ds = dot-behind ds us (digits_decimal own name.conference (omega (arith, fits.0))) in
    let before : before_first is_dot (ds ++ 46 ∷ us) ≡ ds = ap (λ (n : ℕ). take n (ds ++ 46 ∷ us)) place ∙ take-append_seam ds (46 ∷ us) in
    let behind : after_first is_dot (ds ++ 46 ∷ us) ≡ us = ap (λ (n : ℕ). drop (n + 1) (ds ++ 46 ∷ us)) place ∙ drop-append-add ds (46 ∷ us) 1 in
    ap (λ (x : List ℕ). both (numeral (2 ^ 32) x) (numeral (2 ^ 16) (after_first is_dot (ds ++ 46 ∷ us)))) before
    ∙ ap (λ (x : List ℕ). both (numeral (2 ^ 32) ds) (numeral (2 ^ 16) x)) behind
    ∙ ap (λ (x : Option ℕ). both x (numeral (2 ^ 16) us)) (numeral-decimal read (2 ^ 32) name.conference fits.0 (omega (arith, fits.0)))
    ∙ ap (both (Some name.conference)) (numeral-decimal read (2 ^ 16) name.user fits.1 (omega (arith, fits.1)))

-- what is a name was so written ------------------------------------------------------------------

both-some : (x y : Option ℕ) (name : Name) → both x y ≡ Some name → (x ≡ Some name.conference) × (y ≡ Some name.user)
both-some None y name e = absurd (let no : ⊥ = cc in no)
both-some (Some c) None name e = absurd (let no : ⊥ = cc in no)
both-some (Some c) (Some u) name e = let made : Name = record { conference = c; user = u } in let same : made ≡ name = cc in
    (ap (λ (m : Name). Some m.conference) same, ap (λ (m : Name). Some m.user) same)

kept : (t : Bool) (n m : ℕ) → cond t (Some n) None ≡ Some m → (t ≡ true) × (n ≡ m)
kept true n m e = (refl, cc)
kept false n m e = absurd (let no : ⊥ = cc in no)

plain : (t : Bool) (x : Option ℕ) (m : ℕ) → cond t None x ≡ Some m → (t ≡ false) × (x ≡ Some m)
plain true x m e = absurd (let no : ⊥ = cc in no)
plain false x m e = (refl, e)

one-digit : (ds : List ℕ) → 0 < length ds → has_leading_zero ds ≡ false → slice_index ds 0 ≡ 48 → length ds ≡ 1
one-digit ds some alone zero_first = by (nat_lt 1 (length ds)) refl alone where
  by : (t : Bool) → nat_lt 1 (length ds) ≡ t → (t && (slice_index ds 0 == 48)) ≡ false → length ds ≡ 1
  by true e none = absurd (false≢true (sym none ∙ eq-eqb (slice_index ds 0) 48 zero_first))
  by false e none = omega (arith, some, ltb-false 1 (length ds) e)

numeral-is : (limit n : ℕ) (ds : List ℕ) → limit ≤ 2 ^ 32 → numeral limit ds ≡ Some n → (n < limit) × (decimal n ≡ ds) × (0 < length ds)
numeral-is limit n ds small e =
    let p = plain (has_leading_zero ds) (number limit ds) n e in
    let q = kept (is_numeral ds && nat_lt (digits_value 10 ds) limit) (digits_value 10 ds) n p.1 in
    let r = and_parts (is_numeral ds) (nat_lt (digits_value 10 ds) limit) q.0 in
    let s = and_parts (is_word ds) (nat_le (length ds) 10 && list_all is_ascii_digit ds) r.0 in
    let t = and_parts (nat_le (length ds) 10) (list_all is_ascii_digit ds) s.1 in
    let some : 0 < length ds = ltb-true 0 (length ds) s.0 in
    let below : digits_value 10 ds < limit = ltb-true (digits_value 10 ds) limit r.1 in (
      omega (arith, below, q.1),
      ap decimal (sym q.1) ∙ decimal-digits_value own ds t.1 some (one-digit ds some p.0) (omega (arith, below, small)),
      some,
    )

-- a byte behind the first dot says that there is one
split : (bytes : List ℕ) → 0 < length (after_first is_dot bytes) → bytes ≡ before_first is_dot bytes ++ 46 ∷ after_first is_dot bytes
split [] some = absurd (omega (arith, some))
split (b ∷ bytes) some = by (b == 46) refl some (split bytes) where
  q : ℕ
  q = position_or_len is_dot bytes

  by : (t : Bool) → (b == 46) ≡ t → 0 < length (drop (cond (not t) (1 + q) 0 + 1) (b ∷ bytes))
      → (0 < length (after_first is_dot bytes) → bytes ≡ before_first is_dot bytes ++ 46 ∷ after_first is_dot bytes)
      → b ∷ bytes ≡ take (cond (not t) (1 + q) 0) (b ∷ bytes) ++ 46 ∷ drop (cond (not t) (1 + q) 0 + 1) (b ∷ bytes)
  by true e some others = ap (λ (x : ℕ). x ∷ bytes) (eqb-true b 46 e)
  by false e some others =
      let one : 1 + q ≡ suc q = omega arith in
      let two : 1 + q + 1 ≡ suc (q + 1) = omega arith in
      let there : 0 < length (drop (q + 1) bytes) = omega (arith, some, ap (λ (n : ℕ). length (drop n (b ∷ bytes))) two) in
      ap (λ (l : List ℕ). b ∷ l) (others there)
      ∙ sym (ap (λ (n : ℕ). take n (b ∷ bytes) ++ 46 ∷ drop (1 + q + 1) (b ∷ bytes)) one ∙ ap (λ (n : ℕ). take (suc q) (b ∷ bytes) ++ 46 ∷ drop n (b ∷ bytes)) two)

read : (bytes : List ℕ) (name : Name) → name_in bytes ≡ Some name → IsName name × (bytes ≡ name_bytes name)
read bytes name e =
    let parts = both-some (numeral (2 ^ 32) (before_first is_dot bytes)) (numeral (2 ^ 16) (after_first is_dot bytes)) name e in
    let conference = numeral-is (2 ^ 32) name.conference (before_first is_dot bytes) (omega arith) parts.0 in
    let user = numeral-is (2 ^ 16) name.user (after_first is_dot bytes) (omega arith) parts.1 in (
      (conference.0, user.0),
      split bytes user.2
          ∙ ap (λ (ds : List ℕ). ds ++ 46 ∷ after_first is_dot bytes) (sym conference.1)
          ∙ ap (λ (ds : List ℕ). decimal name.conference ++ 46 ∷ ds) (sym user.1),
    )

pub names_are_read_back : NumbersAreReadBack → NamesAreReadBack
names_are_read_back numbers bytes name = (read bytes name, λ w. ap name_in w.1 ∙ written numbers name w.0)
