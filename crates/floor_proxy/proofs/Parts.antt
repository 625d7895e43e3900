-- TLVs of bytes, step by step.
use Rattle.std.proofs.Common.{◌≡◌, ℕ, zero, suc, ◌+◌, ◌*◌, ◌-◌, ◌<◌, ◌≤◌, ◌==◌, Bool, true, false, cond, List, [], ◌∷◌, length, take, drop, slice_index, Option, Some, None, Ok, refl, sym, ap, ◌∙◌, arith}
use Rattle.std.specs.Prelude.{option_map, find}
use Rattle.std.proofs.lemmas.List.{length-drop, take_rest}
use Rattle.floor_proxy.specs.Tlv.{Tlv, in_front, tlvs_behind, tlvs, value_in}
use Rattle.floor_proxy.specs.steps.Finding.{kept, with_found}

-- the bytes of a value are passed over
pub passed : (n : ℕ) (bytes : List ℕ) → n ≤ length bytes → tlvs_behind n bytes ≡ tlvs_behind 0 (drop n bytes)
unfolding tlvs_behind
passed zero bytes h = refl
passed (suc n) [] h = absurd (omega (arith, h))
passed (suc n) (b ∷ bytes) h = passed n bytes (omega (arith, h))

-- a value passes the end
pub too_long : (n : ℕ) (bytes : List ℕ) → length bytes < n → tlvs_behind n bytes ≡ None
unfolding tlvs_behind
too_long zero bytes h = absurd (omega (arith, h))
too_long (suc n) [] h = refl
too_long (suc n) (b ∷ bytes) h = too_long n bytes (omega (arith, h))

-- a type or a length passes the end
pub too_short : (bytes : List ℕ) → 0 < length bytes → length bytes < 3 → tlvs bytes ≡ None
unfolding tlvs_behind
too_short [] some few = absurd (omega (arith, some))
too_short (kind ∷ []) some few = refl
too_short (kind ∷ high ∷ []) some few = refl
too_short (kind ∷ high ∷ low ∷ bytes) some few = absurd (omega (arith, few))

-- the TLV at the front, and those behind it
pub first_is : (bytes : List ℕ) (len : ℕ) → 3 ≤ length bytes → len ≡ 256 * slice_index bytes 1 + slice_index bytes 2 → len ≤ length (drop 3 bytes)
    → tlvs bytes ≡ in_front (record { kind = slice_index bytes 0; value = take len (drop 3 bytes) }) (tlvs (drop len (drop 3 bytes)))
unfolding tlvs_behind
first_is [] len some is h = absurd (omega (arith, some))
first_is (kind ∷ []) len some is h = absurd (omega (arith, some))
first_is (kind ∷ high ∷ []) len some is h = absurd (omega (arith, some))
first_is (kind ∷ high ∷ low ∷ bytes) len some is h =
    ap (λ (n : ℕ). in_front (record { kind = kind; value = take n bytes }) (tlvs_behind n bytes)) (sym is)
    ∙ ap (in_front (record { kind = kind; value = take len bytes })) (passed len bytes h)

-- the same of the parts of what stands behind the length
pub split_is : (bytes : List ℕ) (len : ℕ) (value behind : List ℕ) → 3 ≤ length bytes → len ≡ 256 * slice_index bytes 1 + slice_index bytes 2
    → len ≤ length (take (length bytes - 3) (drop 3 bytes)) → value ≡ take len (take (length bytes - 3) (drop 3 bytes)) → behind ≡ drop len (take (length bytes - 3) (drop 3 bytes))
    → (tlvs bytes ≡ in_front (record { kind = slice_index bytes 0; value = value }) (tlvs behind)) × (length behind < length bytes)
split_is bytes len value behind some is h front back =
    let rest : take (length bytes - 3) (drop 3 bytes) ≡ drop 3 bytes = take_rest bytes 3 in
    let few : len ≤ length (drop 3 bytes) = omega (arith, h, ap (λ (l : List ℕ). length l) rest) in
    let value_is : value ≡ take len (drop 3 bytes) = front ∙ ap (take len) rest in
    let behind_is : behind ≡ drop len (drop 3 bytes) = back ∙ ap (drop len) rest in (
      first_is bytes len some is few
          ∙ ap (λ (v : List ℕ). in_front (record { kind = slice_index bytes 0; value = v }) (tlvs (drop len (drop 3 bytes)))) (sym value_is)
          ∙ ap (λ (b : List ℕ). in_front (record { kind = slice_index bytes 0; value = value }) (tlvs b)) (sym behind_is),
      omega (arith, some, ap (λ (l : List ℕ). length l) behind_is, length-drop len (drop 3 bytes), length-drop 3 bytes),
    )

-- the TLV at the front passes the end
pub none_is : (bytes : List ℕ) (len : ℕ) → 3 ≤ length bytes → len ≡ 256 * slice_index bytes 1 + slice_index bytes 2 → length (drop 3 bytes) < len → tlvs bytes ≡ None
unfolding tlvs_behind
none_is [] len some is h = absurd (omega (arith, some))
none_is (kind ∷ []) len some is h = absurd (omega (arith, some))
none_is (kind ∷ high ∷ []) len some is h = absurd (omega (arith, some))
none_is (kind ∷ high ∷ low ∷ bytes) len some is h =
    ap (λ (n : ℕ). in_front (record { kind = kind; value = take n bytes }) (tlvs_behind n bytes)) (sym is)
    ∙ ap (in_front (record { kind = kind; value = take len bytes })) (too_long len bytes h)

-- what is found of a TLV and of those behind it
pub found_step : (kind : ℕ) (found : Option (List ℕ)) (t : Tlv) (others : Option (List Tlv))
    → with_found found (value_in kind (in_front t others)) ≡ with_found (kept kind found t.kind t.value) (value_in kind others)
found_step kind (Some value) t None = refl
found_step kind None t None = by (t.kind == kind) where
  by : (b : Bool) → with_found None (value_in kind None) ≡ with_found (cond b (Some t.value) None) (value_in kind None)
  by true = refl
  by false = refl
found_step kind (Some value) t (Some others) = refl
found_step kind None t (Some others) = by (t.kind == kind) where
  by : (b : Bool) → with_found None (Ok (option_map (λ (u : Tlv). u.value) (cond b (Some t) (find (λ (u : Tlv). u.kind == kind) others)))) ≡ with_found (cond b (Some t.value) None) (value_in kind (Some others))
  by true = refl
  by false = refl

-- nothing is found where nothing is left
pub found_all : (kind : ℕ) (found : Option (List ℕ)) (rest : List ℕ) → length rest ≡ 0 → with_found found (value_in kind (tlvs rest)) ≡ Ok found
unfolding tlvs_behind
found_all kind None [] h = refl
found_all kind (Some value) [] h = refl
found_all kind found (b ∷ rest) h = absurd (omega (arith, h))
