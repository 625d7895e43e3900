-- The end of a line, without one carriage return.
use Rattle.std.proofs.Common.{◌≡◌, ◌≢◌, ◌==◌, ℕ, suc, ◌-◌, Bool, true, false, cond, List, [], ◌∷◌, ◌++◌, length, get_or, take, refl, sym, ◌∙◌, ap, arith, eqb-true, length-append}
use Rattle.std.specs.Prelude.{Option, Some, None, MatchOption, unwrap_or}
use Rattle.std.specs.Str.Lines.{strip_carriage_return}
use Rattle.std.proofs.Math.Seq.{get_or-append_seam, take-suc, take-append_seam, take-length}
use Rattle.std.proofs.lemmas.Bool.{false≢true}
use denote.Ref.{Bor}

-- a list is what stands before its last element, and that
from_last : (l : List ℕ) (m : ℕ) → length l ≡ suc m → (get_or l m 0 == 13) ≡ true → l ≡ take m l ++ (13 ∷ [])
from_last l m long e =
    sym (take-length l) ∙ ap (λ j. take j l) long ∙ take-suc l m 0 (omega (arith, long))
    ∙ ap (λ b. take m l ++ (b ∷ [])) (eqb-true (get_or l m 0) 13 e)

ends_so : (l : List ℕ) → (get_or l (length l - 1) 0 == 13) ≡ true → l ≡ take (length l - 1) l ++ (13 ∷ [])
ends_so [] e = absurd (false≢true e)
ends_so (x ∷ xs) e = from_last (x ∷ xs) (length (x ∷ xs) - 1) (omega arith) e

-- a list with one more element has that at its end
one_more : (x : List ℕ) (b : ℕ) → length (x ++ (b ∷ [])) - 1 ≡ length x
one_more x b = omega (arith, length-append x (b ∷ []))

last_of : (x : List ℕ) (b : ℕ) → get_or (x ++ (b ∷ [])) (length (x ++ (b ∷ [])) - 1) 0 ≡ b
last_of x b = ap (λ k. get_or (x ++ (b ∷ [])) k 0) (one_more x b) ∙ get_or-append_seam x b [] 0

before_last : (x : List ℕ) (b : ℕ) → take (length (x ++ (b ∷ [])) - 1) (x ++ (b ∷ [])) ≡ x
before_last x b = ap (λ k. take k (x ++ (b ∷ []))) (one_more x b) ∙ take-append_seam x (b ∷ [])

chosen : (b : Bool) (l m : List ℕ) → b ≡ true → cond b m l ≡ m
chosen true l m e = refl
chosen false l m e = absurd (false≢true e)

-- a line that ends with a carriage return loses it
strips : (l x : List ℕ) → l ≡ x ++ (13 ∷ []) → strip_carriage_return l ≡ x
strips l x e = rw e (chosen _ _ _ (ap (λ b. b == 13) (last_of x 13)) ∙ before_last x 13)

without : (b : Bool) (l : List ℕ) → (b ≡ true → l ≡ take (length l - 1) l ++ (13 ∷ []))
    → ((front : List ℕ) → l ≢ front ++ (13 ∷ [])) → cond b (take (length l - 1) l) l ≡ l
without true l some none = absurd (none _ (some refl))
without false l some none = refl

-- a line that doesn't is left as it is
keeps : (l : List ℕ) → ((front : List ℕ) → l ≢ front ++ (13 ∷ [])) → strip_carriage_return l ≡ l
keeps l none = without (get_or l (length l - 1) 0 == 13) l (ends_so l) none

-- what is left of a line where its carriage return was looked for
pub returned : (l : List ℕ) (line : Bor (List ℕ)) (r : Option (Bor (List ℕ))) → line.now ≡ l
    → MatchOption r ((front : List ℕ) → l ≢ front ++ (13 ∷ [])) (λ x. l ≡ x.now ++ (13 ∷ []))
    → (unwrap_or r line).now ≡ strip_carriage_return l
returned l line None same none = same ∙ sym (keeps l none)
returned l line (Some x) same h = sym (strips l x.now h)
