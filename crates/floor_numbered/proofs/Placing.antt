-- Where the entry of a number stands.
use Rattle.std.proofs.Common.{◌≡◌, ℕ, suc, ◌+◌, Bool, true, false, cond, not, List, [], ◌∷◌, Some, refl, sym, ap, ◌∙◌, arith, slice_get}
use Rattle.std.specs.Cmp.{nat_eq_equiv}
use Rattle.std.specs.List.{IsDistinct, position_or_len}
use Rattle.std.specs.Map.{keys_of, lookup, set_value, values_of}
use Rattle.std.specs.Prelude.{nat_eq}
use Rattle.indexmap.specs.Layout.{set_value_at}
use Rattle.indexmap.proofs.MapLemmas.{Found-position, index-first}
use Rattle.indexmap.proofs.RemoveLemmas.{own_first}

-- a value is changed where its key is found first
changed-first : {X : Type 0} (t : ℕ → Bool) (es : List (ℕ × X)) (w : X) → set_value_at es (position_or_len t (keys_of es)) w ≡ set_value t es w
changed-first t [] w = refl
changed-first t (e ∷ es) w = by (changed-first t es w) (t e.0) refl
  where
    behind : ℕ
    behind = position_or_len t (keys_of es)

    by : set_value_at es behind w ≡ set_value t es w → (b : Bool) → t e.0 ≡ b → set_value_at (e ∷ es) (cond (not (t e.0)) (1 + behind) 0) w ≡ cond (t e.0) ((e.0, w) ∷ es) (e ∷ set_value t es w)
    by rest true h = ap (λ b. set_value_at (e ∷ es) (cond (not b) (1 + behind) 0) w) h ∙ sym (ap (λ b. cond b ((e.0, w) ∷ es) (e ∷ set_value t es w)) h)
    by rest false h =
        let next : 1 + behind ≡ suc behind = omega arith in
        ap (λ b. set_value_at (e ∷ es) (cond (not b) (1 + behind) 0) w) h ∙ ap (λ k. set_value_at (e ∷ es) k w) next ∙ ap (λ l. e ∷ l) rest
        ∙ sym (ap (λ b. cond b ((e.0, w) ∷ es) (e ∷ set_value t es w)) h)

module _ {X : Type 0} (es : List (ℕ × X)) (i number : ℕ) (v : X) (unique : IsDistinct nat_eq (keys_of es)) (at : slice_get es i ≡ Some (number, v)) where
  -- the entry that stands there is the number's
  pub value-there : slice_get (values_of es) i ≡ lookup (nat_eq number) es
  value-there = sym (Found-position (nat_eq number) es i (index-first (nat_eq number) es i (own_first nat_eq nat_eq_equiv es i number v unique at))).value

  pub changed-there : (w : X) → set_value_at es i w ≡ set_value (nat_eq number) es w
  changed-there w =
      let f = Found-position (nat_eq number) es i (index-first (nat_eq number) es i (own_first nat_eq nat_eq_equiv es i number v unique at)) in
      ap (λ k. set_value_at es k w) (sym f.or_len) ∙ changed-first (nat_eq number) es w
