-- Bytes that are written one part behind another.
use Rattle.std.proofs.Common.{◌≡◌, ℕ, zero, suc, ◌+◌, ◌-◌, ◌≤◌, List, [], ◌∷◌, ◌++◌, length, length-append, take, drop, Option, refl, sym, ap, subst, ◌∙◌, arith, length-drop}
use Rattle.std.proofs.KnownBytes.{Appends-trans}
use Rattle.std.proofs.Math.Seq.{take-add, take-length}
use Rattle.std.specs.Io.KnownBytes.{Appends}
use Rattle.floor_script.specs.Written.{Began}

-- one more write of some bytes
pub part_written : (xs : List ℕ) (at k : ℕ) (a b c : Option (List ℕ)) → at ≤ length xs → k ≤ length (take (length xs - at) (drop at xs)) → Appends a b (take at xs)
    → Appends b c (take k (take (length xs - at) (drop at xs))) → (at + k ≤ length xs) × Appends a c (take (at + k) xs)
part_written xs at k a b c within few first more =
    let rest : take (length xs - at) (drop at xs) ≡ drop at xs = ap (λ n. take n (drop at xs)) (sym (length-drop at xs)) ∙ take-length (drop at xs) in
    let Then : List ℕ → Type 0 = λ l. Appends b c (take k l) in
    let Both : List ℕ → Type 0 = λ l. Appends a c l in
    (omega (arith, ap length rest, length-drop at xs), subst Both (sym (take-add at k xs)) (Appends-trans a b c _ _ first (subst Then rest more)))

-- what begins with all of a text
front : (told rest : List ℕ) (k : ℕ) → take (length told + k) (told ++ rest) ≡ told ++ take k rest
front [] rest k = let same : 0 + k ≡ k = omega arith in ap (λ (n : ℕ). take n rest) same
front (x ∷ told) rest k =
    let next : length (x ∷ told) + k ≡ suc (length told + k) = omega arith in
    ap (λ (n : ℕ). take n (x ∷ (told ++ rest))) next ∙ ap (λ (l : List ℕ). x ∷ l) (front told rest k)

-- what ends within its front
within_front : (text more : List ℕ) (k : ℕ) → k ≤ length text → take k (text ++ more) ≡ take k text
within_front text more zero h = refl
within_front [] more (suc k) h = absurd (omega (arith, h))
within_front (x ∷ text) more (suc k) h = ap (λ (l : List ℕ). x ∷ l) (within_front text more k (omega (arith, h)))

-- a beginning of what comes behind what was written
pub began_more : (a b c : Option (List ℕ)) (told text more whole : List ℕ) → Appends a b told → Began b c text → whole ≡ told ++ (text ++ more) → Began a c whole
began_more a b c told text more whole first began e = record {
  count = length told + began.count;
  within = omega (arith, began.within, length-append told (text ++ more), length-append text more, ap (λ (l : List ℕ). length l) e);
  grew = subst (λ (l : List ℕ). Appends a c l)
      (sym (ap (λ (l : List ℕ). take (length told + began.count) l) e ∙ front told (text ++ more) began.count ∙ ap (λ (l : List ℕ). told ++ l) (within_front text more began.count began.within)))
      (Appends-trans a b c told (take began.count text) first began.grew);
}

-- nothing was written
pub began_none : (a b : Option (List ℕ)) (whole : List ℕ) → Appends a b [] → Began a b whole
began_none a b whole grew = record { count = 0; within = omega arith; grew = grew }
