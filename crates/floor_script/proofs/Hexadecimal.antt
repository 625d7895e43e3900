-- Hexadecimal of bytes that come in two parts.
use Rattle.std.proofs.Common.{◌≡◌, ℕ, ◌/◌, ◌%◌, List, [], ◌∷◌, ◌++◌, take, drop, refl, sym, ap, ◌∙◌, append_assoc, slice_index}
use Rattle.std.proofs.lemmas.List.{take-append-drop}
use Rattle.hex.specs.Hex.{encode_lower, encode_with, lower_digits}

-- the digits of two lists are those of the first, then those of the other
encode_with-append : (t xs ys : List ℕ) → encode_with t (xs ++ ys) ≡ encode_with t xs ++ encode_with t ys
unfolding encode_with
encode_with-append t [] ys = refl
encode_with-append t (x ∷ xs) ys = ap (λ rest. slice_index t (x / 16) ∷ slice_index t (x % 16) ∷ rest) (encode_with-append t xs ys)

-- the digits of the first bytes, those of the others and an end are the digits of all bytes, and the end
pub digits_in_parts : (n : ℕ) (bytes first others end : List ℕ) → first ≡ encode_lower (take n bytes) → others ≡ encode_lower (drop n bytes)
    → first ++ (others ++ end) ≡ encode_lower bytes ++ end
digits_in_parts n bytes first others end f o =
    sym (append_assoc first others end)
    ∙ ap (λ (digits : List ℕ). digits ++ end) (
    ap (λ (l : List ℕ). l ++ others) f ∙ ap (λ (l : List ℕ). encode_lower (take n bytes) ++ l) o
    ∙ sym (encode_with-append lower_digits (take n bytes) (drop n bytes)) ∙ ap encode_lower (take-append-drop n bytes)
    )

-- what four texts that are pushed one after another leave
pub pushed_in_parts : (t0 t1 t2 t3 t4 a' b' c' a b c d : List ℕ) → a' ≡ a → b' ≡ b → c' ≡ c → t1 ≡ t0 ++ a' → t2 ≡ t1 ++ b' → t3 ≡ t2 ++ c' → t4 ≡ t3 ++ d
    → t4 ≡ t0 ++ (a ++ (b ++ (c ++ d)))
pushed_in_parts t0 t1 t2 t3 t4 a' b' c' a b c d p q r e1 e2 e3 e4 =
    e4
    ∙ ap (λ (l : List ℕ). l ++ d) (e3 ∙ ap (λ (l : List ℕ). t2 ++ l) r) ∙ append_assoc t2 c d
    ∙ ap (λ (l : List ℕ). l ++ (c ++ d)) (e2 ∙ ap (λ (l : List ℕ). t1 ++ l) q) ∙ append_assoc t1 b (c ++ d)
    ∙ ap (λ (l : List ℕ). l ++ (b ++ (c ++ d))) (e1 ∙ ap (λ (l : List ℕ). t0 ++ l) p) ∙ append_assoc t0 a (b ++ (c ++ d))
