-- Numbers of decimal digits.
use Rattle.std.proofs.Common.{◌≡◌, ◌==◌, ℕ, ◌<◌, ◌≤◌, ◌^◌, ◌&&◌, Bool, true, false, cond, not, List, [], ◌∷◌, length, refl, sym, ◌∙◌, ap, rules, arith, lit<, eqb-true, lt-ltb, le-leb}
use Rattle.std.specs.Prelude.{Some, Option, None}
use Rattle.std.specs.Char.{is_ascii_digit}
use Rattle.std.specs.Fmt.{decimal}
use Rattle.std.specs.List.{list_all}
use Rattle.std.specs.Str.Parse.{digits_value}
use Rattle.std.proofs.lemmas.Bool.{false≢true}
use Rattle.std.proofs.lemmas.Fmt.{decimal_is_IsNumeral, digits_decimal, length-decimal-le}
use Rattle.std.proofs.lemmas.Str.Parse.{IsNumeralModel, numerals_by_value}
use Rattle.floor_words.specs.Laws.{NumbersAreReadBack}
use Rattle.floor_words.specs.Words.{is_space, number}

and_left : (a b : Bool) → (a && b) ≡ true → a ≡ true
and_left true b e = refl
and_left false b e = e

and_right : (a b : Bool) → (a && b) ≡ true → b ≡ true
and_right true b e = e
and_right false b e = absurd (cc e)

both : {a b : Bool} → a ≡ true → b ≡ true → (a && b) ≡ true
both {a} {b} e h = rw e h

kept : (b : Bool) (x : Option ℕ) → b ≡ true → cond b x None ≡ x
kept true x e = refl
kept false x e = absurd (cc e)

-- the words of these definitions are std's
pub own : IsNumeralModel (λ ds. list_all is_ascii_digit ds ≡ true) (digits_value 10)
own = numerals_by_value _ (search rules)

-- a digit is no space
told_apart : (b : ℕ) (t : Bool) → (b == 32) ≡ t → is_ascii_digit b ≡ true → not t ≡ true
told_apart b true same e = absurd (false≢true (ap is_ascii_digit (sym (eqb-true b 32 same)) ∙ e))
told_apart b false same e = refl

digit_no_space : (b : ℕ) → is_ascii_digit b ≡ true → not (is_space b) ≡ true
digit_no_space b e = told_apart b (b == 32) refl e

digits_no_space : (ds : List ℕ) → list_all is_ascii_digit ds ≡ true → list_all (λ b. not (is_space b)) ds ≡ true
digits_no_space [] e = refl
digits_no_space (d ∷ ds) e = both (digit_no_space d (and_left (is_ascii_digit d) _ e)) (digits_no_space ds (and_right (is_ascii_digit d) _ e))

-- a number of at most ten digits, below the limit
pub counts : (ds : List ℕ) (limit n : ℕ) → 0 < length ds → length ds ≤ 10 → list_all is_ascii_digit ds ≡ true
    → digits_value 10 ds ≡ n → n < limit → number limit ds ≡ Some n
counts ds limit n some few all same below =
    kept _ _ (both (both (lt-ltb 0 (length ds) some) (both (le-leb (length ds) 10 few) all)) (lt-ltb (digits_value 10 ds) limit (omega (arith, same)))) ∙ ap Some same

pub numbers_are_read_back : NumbersAreReadBack
numbers_are_read_back limit n below short =
    let wide : n < 2 ^ 64 = omega arith in
    let reads = decimal_is_IsNumeral n wide in
    let all = digits_decimal own n wide in
    record {
      value = counts (decimal n) limit n reads.0.0 (length-decimal-le 10 n (lit< tt) short wide) all reads.1 below;
      plain = both (lt-ltb 0 (length (decimal n)) reads.0.0) (digits_no_space (decimal n) all);
    }
