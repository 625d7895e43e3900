-- Numbers of decimal digits, and the bytes before and behind a dot.
use Rattle.std.proofs.Common.{◌≡◌, ℕ, zero, suc, ◌+◌, ◌-◌, ◌≤◌, ◌^◌, ◌&&◌, Bool, true, false, cond, List, [], ◌∷◌, length, take, drop, Some, None, Option, refl, sym, ◌∙◌, ap, rules, arith}
use Rattle.std.specs.Prelude.{nat_lt, position}
use Rattle.std.specs.Char.{is_ascii_digit}
use Rattle.std.specs.List.{list_all, position_or_len, before_first, after_first}
use Rattle.std.specs.Str.{IsUtf8}
use Rattle.std.specs.Str.Parse.{digits_value}
use Rattle.std.proofs.lemmas.Bool.{ltb-false}
use Rattle.std.proofs.lemmas.List.{take_rest}
use Rattle.std.proofs.lemmas.Str.{IsUtf8-from_ascii}
use Rattle.std.specs.Prelude.{nat_le}
use Rattle.std.proofs.lemmas.Fmt.{IsAscii-from_digits}
use Rattle.std.proofs.lemmas.Str.Parse.{IsNumeralModel, numerals_by_value}
use Rattle.floor_words.specs.Words.{number, is_word}
use Rattle.floor_proxy.specs.Name.{is_dot, numeral, both, name_in}

some_at : (k n : ℕ) (xs : List ℕ) (b : Bool) → nat_lt k (length xs) ≡ b → cond b (Some k) None ≡ Some n → k ≡ n
some_at k n xs true test is = cc is
some_at k n xs false test is = absurd (cc is)

-- the place of the first byte that passes a test
pub place_is : (p : ℕ → Bool) (xs : List ℕ) (n : ℕ) → position p xs ≡ Some n → position_or_len p xs ≡ n
place_is p xs n is = some_at (position_or_len p xs) n xs _ refl is

none_at : (k : ℕ) (xs : List ℕ) (b : Bool) → nat_lt k (length xs) ≡ b → cond b (Some k) None ≡ None → length xs ≤ k
none_at k xs true test is = absurd (cc is)
none_at k xs false test is = ltb-false k (length xs) test

-- no byte passes it
pub no_place : (p : ℕ → Bool) (xs : List ℕ) → position p xs ≡ None → length xs ≤ position_or_len p xs
no_place p xs is = none_at (position_or_len p xs) xs _ refl is

-- decimal digits are text
pub own : IsNumeralModel (λ ds. list_all is_ascii_digit ds ≡ true) (digits_value 10)
own = numerals_by_value _ (search rules)

digits-utf8 : (ds : List ℕ) → list_all is_ascii_digit ds ≡ true → IsUtf8 ds
digits-utf8 ds all = IsUtf8-from_ascii ds (IsAscii-from_digits ds (own.to ds all))

-- what is no text is no number
pub not_text : (limit : ℕ) (ds : List ℕ) → (IsUtf8 ds → ⊥) → number limit ds ≡ None
not_text limit ds broken = by (is_word ds) (nat_le (length ds) 10) (list_all is_ascii_digit ds) refl where
  by : (a b c : Bool) → list_all is_ascii_digit ds ≡ c → cond ((a && (b && c)) && nat_lt (digits_value 10 ds) limit) (Some (digits_value 10 ds)) None ≡ None
  by a b true all = absurd (broken (digits-utf8 ds all))
  by true true false all = refl
  by true false false all = refl
  by false b false all = refl

no_bytes : (n : ℕ) (bytes : List ℕ) → length bytes ≤ n → drop n bytes ≡ []
no_bytes zero [] h = refl
no_bytes zero (b ∷ bytes) h = absurd (omega (arith, h))
no_bytes (suc n) [] h = refl
no_bytes (suc n) (b ∷ bytes) h = no_bytes n bytes (omega (arith, h))

no_user : (conference : Option ℕ) → both conference None ≡ None
no_user None = refl
no_user (Some c) = refl

-- without a dot there is no name
pub no_dot : (bytes : List ℕ) → position is_dot bytes ≡ None → name_in bytes ≡ None
no_dot bytes none =
    let behind : after_first is_dot bytes ≡ [] = no_bytes (position_or_len is_dot bytes + 1) bytes (omega (arith, no_place is_dot bytes none)) in
    ap (λ (ds : List ℕ). both (numeral (2 ^ 32) (before_first is_dot bytes)) (numeral (2 ^ 16) ds)) behind
    ∙ no_user (numeral (2 ^ 32) (before_first is_dot bytes))

-- what stands before the first dot, and behind it
pub at_dot : (bytes : List ℕ) (dot : ℕ) → position is_dot bytes ≡ Some dot
    → name_in bytes ≡ both (numeral (2 ^ 32) (take dot bytes)) (numeral (2 ^ 16) (take (length bytes - (dot + 1)) (drop (dot + 1) bytes)))
at_dot bytes dot there =
    ap (λ (n : ℕ). both (numeral (2 ^ 32) (take n bytes)) (numeral (2 ^ 16) (drop (n + 1) bytes))) (place_is is_dot bytes dot there)
    ∙ ap (λ (ds : List ℕ). both (numeral (2 ^ 32) (take dot bytes)) (numeral (2 ^ 16) ds)) (sym (take_rest bytes (dot + 1)))
