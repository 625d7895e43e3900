-- Where the lines end that are handed out at once.
use Rattle.std.proofs.Common.{◌≡◌, ◌∙◌, ap, sym, subst, refl, arith, ℕ, ◌+◌, ◌-◌, ◌^◌, ◌<◌, ◌≤◌, min, List, length, drop, get_or, eqb-true}
use Rattle.std.specs.Prelude.{◌==◌, Option, Some, None, position}
use Rattle.std.specs.Option.{option_map_or}
use Rattle.std.specs.Str.{IsCharBoundary, IsUtf8}
use Rattle.std.proofs.lemmas.Str.{IsCharBoundary-after_ascii, IsCharBoundary-end, IsCharBoundary-from_rest}
use Rattle.std.proofs.lemmas.List.{drop-drop, get_or-drop, length-drop, length-take-le}
use Rattle.std.proofs.lemmas.List.Quantifiers.{position-Some}
use Rattle.floor_socket.specs.Tasks.{first_of, len_at_once}

abbrev end_of : List ℕ → Option ℕ → ℕ
end_of text found = option_map_or (λ place. 32768 + place + 1) found (length text)

cut_at : (text : List ℕ) (found : Option ℕ) → IsUtf8 text → position (λ b. b == 10) (drop 32768 text) ≡ found
    → IsCharBoundary text (end_of text found)
cut_at text None u e = IsCharBoundary-end text
cut_at text (Some place) u e =
    let is = position-Some (λ b. b == 10) (drop 32768 text) place 0 e in
    let long : length (drop 32768 text) ≡ length text - 32768 = length-drop 32768 text in
    let within : 32768 + place < length text = omega (arith, is.0, long) in
    let feed : get_or text (32768 + place) 0 ≡ 10 =
    sym (get_or-drop 32768 text place 0) ∙ eqb-true (get_or (drop 32768 text) place 0) 10 is.1 in
    IsCharBoundary-after_ascii text (32768 + place) u within (omega (arith, feed))

-- a character begins where the lines end that are handed out at once, or the text ends there
pub cut : (text : List ℕ) → IsUtf8 text → IsCharBoundary text (len_at_once text)
cut text u = cut_at text (position (λ b. b == 10) (drop 32768 text)) u refl

-- what is left of a text behind the lines that are handed out at once
pub behind_lines : (text rest lines : List ℕ) (at to : ℕ) → IsCharBoundary text at → rest ≡ drop at text → lines ≡ first_of rest
    → IsCharBoundary rest (len_at_once rest) → length text < 2 ^ 64 → to ≡ min (at + length lines) 18446744073709551615
    → (drop to text ≡ drop (len_at_once (drop at text)) (drop at text)) × IsCharBoundary text to
behind_lines text rest lines at to whole r l behind fits t =
    let long : length lines ≡ len_at_once rest = ap length l ∙ length-take-le (len_at_once rest) rest behind.0 in
    let rest_len : length rest ≡ length text - at = ap length r ∙ length-drop at text in
    let within : len_at_once rest ≤ length rest = behind.0 in
    let from : at ≤ length text = whole.0 in
    let is : to ≡ at + len_at_once rest = omega (arith, t, long, rest_len, within, from, fits) in (
      ap (λ k. drop k text) is ∙ sym (drop-drop (len_at_once rest) at text) ∙ ap (λ x. drop (len_at_once x) (drop at text)) r,
      subst (IsCharBoundary text) (sym is)
          (IsCharBoundary-from_rest text at (len_at_once rest) whole.0 (subst (λ x. IsCharBoundary x (len_at_once rest)) r behind)),
    )
