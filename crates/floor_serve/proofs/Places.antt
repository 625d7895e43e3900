-- The numbers of a table's conferences, and the slots that have them.
use Rattle.std.proofs.Common.{◌≡◌, ℕ, ◌<◌, Bool, true, false, cond, List, [], ◌∷◌, ◌++◌, length, get_or, nat_eq, Option, Some, None, inl, inr, Bor, refl, sym, ap, ◌∙◌, arith}
use Rattle.std.specs.Prelude.{◌==◌, ◌||◌, MatchOption}
use Rattle.std.specs.List.{list_any, position, slice_get}
use Rattle.std.specs.Option.{option_copied}
use Rattle.std.proofs.lemmas.Bool.{eqb-true}
use Rattle.std.proofs.lemmas.Bool.Decides.{nat_tests}
use Rattle.std.proofs.lemmas.List.{get_or-map, length-map}
use Rattle.std.proofs.lemmas.List.Quantifiers.{position-Some}
use Rattle.std.proofs.lemmas.Option.{get_or_from_slice_get, slice_get_cases}
use Rattle.floor_serve.specs.declared.table.Slot.{Slot}
use Rattle.floor_serve.specs.Table.{is_opened}
use Rattle.floor_serve.specs.steps.Slots.{numbers}

turned : (a b : ℕ) → nat_eq a b ≡ (b == a)
turned a b = by (nat_eq a b) (b == a) refl refl
  where
    by : (x y : Bool) → nat_eq a b ≡ x → (b == a) ≡ y → x ≡ y
    by true true e f = refl
    by false false e f = refl
    by true false e f = absurd (grind (arith, nat_tests))
    by false true e f = absurd (grind (arith, nat_tests))

-- whether a number is among some, asked either way
pub any-turned : (c : ℕ) (ks : List ℕ) → list_any (nat_eq c) ks ≡ is_opened ks c
any-turned c [] = refl
any-turned c (k ∷ ks) = ap (λ (b : Bool). b || list_any (nat_eq c) ks) (turned c k) ∙ ap (λ (b : Bool). (k == c) || b) (any-turned c ks)

-- a number that isn't among some is put behind them
pub put-behind : (c : ℕ) (ks : List ℕ) → is_opened ks c ≡ false → cond (list_any (nat_eq c) ks) ks (ks ++ c ∷ []) ≡ ks ++ c ∷ []
put-behind c ks h = ap (λ (b : Bool). cond b ks (ks ++ c ∷ [])) (any-turned c ks ∙ h)

-- what stands at the place of a number is the slot that has it
pub slot-found : (r : Option (Bor Slot)) (slots : List Slot) (ks : List ℕ) (c i : ℕ) → option_copied r ≡ slice_get slots i → ks ≡ numbers slots → Some i ≡ position (nat_eq c) ks → is_opened ks c ≡ true →
    MatchOption r (is_opened (numbers slots) c ≡ false) (λ slot. (is_opened (numbers slots) c ≡ true) × (slot.now.conference ≡ c))
slot-found r slots ks c i at same is opened = by r at
  where
    numbered : (i < length ks) × (nat_eq c (get_or ks i 0) ≡ true) × ((k : ℕ) → k < i → nat_eq c (get_or ks k 0) ≡ false)
    numbered = position-Some (nat_eq c) ks i 0 (sym is)

    within : i < length slots
    within = let same_length = simp length-map at (ap length same) in omega (arith, numbered.0, same_length)

    none : None ≡ slice_get slots i → ⊥
    none e =
        elim (slice_get_cases slots i).1 [
          | inl w ↦ let clash : None ≡ Some w.0 = e ∙ w.2 in cc
          | inr w ↦ omega (arith, w.0, within)
        ]

    by : (r : Option (Bor Slot)) → option_copied r ≡ slice_get slots i → MatchOption r (is_opened (numbers slots) c ≡ false) (λ slot. (is_opened (numbers slots) c ≡ true) × (slot.now.conference ≡ c))
    by None e = absurd (none e)
    by (Some slot) e = (
      ap (λ (ns : List ℕ). is_opened ns c) (sym same) ∙ opened,
      sym
          (eqb-true c (get_or ks i 0) numbered.1
          ∙ ap (λ (ns : List ℕ). get_or ns i 0) same
          ∙ get_or-map (λ s. s.conference) slots i slot.now 0 within
          ∙ ap (λ (s : Slot). s.conference) (get_or_from_slice_get slots i slot.now slot.now (sym e))),
    )
