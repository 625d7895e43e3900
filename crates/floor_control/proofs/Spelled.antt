-- Bytes that are spelled in hexadecimal.
use Rattle.std.proofs.Common.{◌≡◌, ◌<◌, ◌*◌, ◌&&◌, ℕ, Bool, true, false, not, List, [], ◌∷◌, ◌++◌, length, refl, ◌∙◌, ap, arith, eqb-true, lt-ltb, ltb-true}
use Rattle.std.specs.Prelude.{Option, Some, None, Result, Ok, Err, codes, ⊤}
use Rattle.std.specs.List.{list_all}
use Rattle.std.specs.Result.{result_ok}
use Rattle.std.specs.Str.{bytes_eq}
use Rattle.std.proofs.lemmas.List.{append-nil}
use Rattle.std.proofs.lemmas.List.Sums.{list_all-from_AllPass}
use Rattle.std.proofs.lemmas.Slice.Eq.{bytes_eq-Decides}
use Rattle.hex.specs.Hex.{IsBytes, decode_of, encode_lower, is_hex_digit, lower_digits}
use Rattle.hex.specs.declared.error.FromHexError.{FromHexError}
use Rattle.hex.proofs.HexLemmas.{decode_of-encode_lower, decode_of-ok, length-encode_with}
use Rattle.floor_words.specs.Laws.{is_plain}
use Rattle.floor_words.specs.Words.{is_space, is_word, spelled}
use Rattle.floor_control.specs.Laws.{printed_value}
use Rattle.floor_control.specs.Line.{bytes_or_fault, value_of}

-- bytes that are to be kept are some, and bytes
abbrev pub IsValue : Option (List ℕ) → Type 0
IsValue (Some bytes) = (0 < length bytes) × IsBytes bytes
IsValue None = ⊤

ok_of : (r : Result (List ℕ) FromHexError) (bytes : List ℕ) → result_ok r ≡ Some bytes → r ≡ Ok bytes
ok_of (Ok bs) bytes e = cc e
ok_of (Err error) bytes e = cc e

-- what a word spells is such
pub value_is_spelled : (word bytes : List ℕ) → is_word word ≡ true → spelled (word ∷ []) ≡ Some bytes → IsValue (Some bytes)
value_is_spelled word bytes some e =
    let (even, digits, twice, small) = decode_of-ok (word ++ []) bytes (ok_of (decode_of (word ++ [])) bytes e) in
    let same : length (word ++ []) ≡ length word = ap length (append-nil word) in
    let long : 0 < length word = ltb-true 0 (length word) some in
    (omega (arith, twice, same, long), small)

-- a hexadecimal digit is no space
digit_no_space : (b : ℕ) (t : Bool) → is_space b ≡ t → is_hex_digit b ≡ true → not t ≡ true
digit_no_space b true e h =
    let space : b ≡ 32 = eqb-true b 32 e in
    cc (ap is_hex_digit space, h)
digit_no_space b false e h = refl

and_left : (a b : Bool) → (a && b) ≡ true → a ≡ true
and_left true b e = refl
and_left false b e = e

and_right : (a b : Bool) → (a && b) ≡ true → b ≡ true
and_right true b e = e
and_right false b e = absurd (cc e)

both : (a b : Bool) → a ≡ true → b ≡ true → (a && b) ≡ true
both true b e h = h
both false b e h = absurd (cc e)

no_space : (text : List ℕ) → list_all is_hex_digit text ≡ true → list_all (λ b. not (is_space b)) text ≡ true
no_space [] e = refl
no_space (b ∷ text) e =
    both (not (is_space b)) _ (digit_no_space b (is_space b) refl (and_left (is_hex_digit b) _ e)) (no_space text (and_right (is_hex_digit b) _ e))

-- it is printed as one word
pub value_is_plain : (value : Option (List ℕ)) → IsValue value → is_plain (printed_value value) ≡ true
value_is_plain None h = refl
value_is_plain (Some bytes) (some, small) =
    let text = encode_lower bytes in
    let (even, digits, twice, whole) = decode_of-ok text bytes (decode_of-encode_lower bytes small) in
    both (is_word text) _ (lt-ltb 0 (length text) (omega (arith, twice, some)))
    (no_space text (list_all-from_AllPass is_hex_digit text digits))

not_one : (b : Bool) → (b ≡ true → ⊥) → b ≡ false
not_one true h = absurd (h refl)
not_one false h = refl

-- it isn't the mark for nothing
no_mark : (bytes : List ℕ) → bytes_eq (encode_lower bytes) (codes "-") ≡ false
no_mark bytes =
    not_one (bytes_eq (encode_lower bytes) (codes "-"))
    (λ e. let same : encode_lower bytes ≡ codes "-" = (bytes_eq-Decides (encode_lower bytes) (codes "-")).0 e in
    let long : length (encode_lower bytes) ≡ 2 * length bytes = length-encode_with lower_digits bytes in
    let one : length (encode_lower bytes) ≡ 1 = ap length same in
    omega (arith, long, one))

-- it is read back
pub value_is_read : (value : Option (List ℕ)) → IsValue value → value_of (printed_value value) ≡ Ok value
value_is_read None h = refl
value_is_read (Some bytes) (some, small) =
    rw (no_mark bytes)
    (ap (λ text. bytes_or_fault (result_ok (decode_of text))) (append-nil (encode_lower bytes))
    ∙ ap (λ r. bytes_or_fault (result_ok r)) (decode_of-encode_lower bytes small))
