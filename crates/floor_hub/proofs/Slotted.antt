-- A connection that is put into a free slot under its number.
use Rattle.std.proofs.Common.{◌≡◌, ◌≢◌, ℕ, Bool, true, false, refl, sym, ◌∙◌, ap, Some, None, ◌⊎◌, inl, inr}
use Rattle.std.specs.Prelude.{Option, nat_eq, is_some}
use Rattle.std.proofs.lemmas.Bool.{eqb-true}
use Rattle.std.proofs.lemmas.Bool.Decides.{eqb_tells}
use Rattle.std.proofs.lemmas.Option.{none-some}
use Rattle.floor_hub.specs.declared.connection.Connection.{Connection}
use Rattle.floor_hub.specs.Connections.{Connections, Puts, at_key, connection_at, key_of, slot_of}
use Rattle.floor_hub.specs.steps.Slots.{IsSlotted}

true_false : true ≡ false → ⊥
true_false e = cc

-- a number that has no slot isn't one that has
not_this : (cs : Connections) (number other k : ℕ) → key_of cs number ≡ None → key_of cs other ≡ Some k → nat_eq number other ≡ false
not_this cs number other k absent is = by (eqb_tells number other)
  where
    by : (((nat_eq number other ≡ true) × (number ≡ other)) ⊎ ((nat_eq number other ≡ false) × (number ≢ other))) → nat_eq number other ≡ false
    by (inl t) = absurd (none-some k (sym absent ∙ ap (key_of cs) t.1 ∙ is))
    by (inr t) = t.0

-- where no connection has the number no slot has it
no_key : (cs : Connections) (number : ℕ) → IsSlotted cs → connection_at cs number ≡ None → key_of cs number ≡ None
no_key cs number slotted fresh = by (key_of cs number) refl
  where
    by : (z : Option ℕ) → key_of cs number ≡ z → key_of cs number ≡ None
    by None is = is
    by (Some k) is = absurd (true_false (sym (slotted.filled number k is) ∙ ap is_some (ap (at_key (slot_of cs)) (sym is) ∙ fresh)))

-- a connection that is taken out of its slot, with its number
module _ (old new : Connections) (number key : ℕ) (slotted : IsSlotted old) where
  module _ (was : key_of old number ≡ Some key) (gone : key_of new number ≡ None) (keys : (other : ℕ) → nat_eq number other ≡ false → key_of new other ≡ key_of old other)
      (vacant : slot_of new key ≡ None) (slots : (other : ℕ) → other ≢ key → slot_of new other ≡ slot_of old other) where
    removed_numbered : (k : ℕ) → is_some (slot_of new k) ≡ true → (n : ℕ) × (key_of new n ≡ Some k)
    removed_numbered k e =
        let apart : k ≢ key = λ same. true_false (sym e ∙ ap (λ (i : ℕ). is_some (slot_of new i)) same ∙ ap is_some vacant) in
        let m = slotted.numbered k (ap is_some (sym (slots k apart)) ∙ e) in
        (m.0, keys m.0 (other m.0 k apart m.1 (eqb_tells number m.0)) ∙ m.1)
      where
        one_key : (a b : ℕ) → ◌≡◌ {A = Option ℕ} (Some a) (Some b) → a ≡ b
        one_key a b h = cc

        other : (m k : ℕ) → k ≢ key → key_of old m ≡ Some k → (((nat_eq number m ≡ true) × (number ≡ m)) ⊎ ((nat_eq number m ≡ false) × (number ≢ m))) → nat_eq number m ≡ false
        other m k apart is (inl t) = absurd (apart (one_key k key (sym is ∙ ap (key_of old) (sym t.1) ∙ was)))
        other m k apart is (inr t) = t.0

    -- whoever has a slot now had it
    had : (m k : ℕ) → key_of new m ≡ Some k → key_of old m ≡ Some k
    had m k is = by (eqb_tells number m)
      where
        by : (((nat_eq number m ≡ true) × (number ≡ m)) ⊎ ((nat_eq number m ≡ false) × (number ≢ m))) → key_of old m ≡ Some k
        by (inl t) = absurd (none-some k (sym gone ∙ ap (key_of new) t.1 ∙ is))
        by (inr t) = sym (keys m t.0) ∙ is

    filled_still : (m k : ℕ) → key_of new m ≡ Some k → is_some (slot_of new k) ≡ true
    filled_still m k is = ap is_some (slots k apart) ∙ slotted.filled m k (had m k is)
      where
        apart : k ≢ key
        apart same = none-some k (sym gone ∙ ap (key_of new) (slotted.apart number m k (was ∙ ap (λ (i : ℕ). Some i) (sym same)) (had m k is)) ∙ is)

    pub removed_slotted : IsSlotted new
    removed_slotted = record {
      filled = filled_still;
      apart = λ m n k g h. slotted.apart m n k (had m k g) (had n k h);
      numbered = removed_numbered;
    }

module _ (old new : Connections) (number key : ℕ) (x : Connection) (slotted : IsSlotted old) where
  module _ (vacant : slot_of old key ≡ None) (own : key_of new number ≡ Some key) (keys : (other : ℕ) → nat_eq number other ≡ false → key_of new other ≡ key_of old other)
      (here : slot_of new key ≡ Some x) (slots : (other : ℕ) → other ≢ key → slot_of new other ≡ slot_of old other) where
    -- no number had the free slot
    not_free : (other k : ℕ) → key_of old other ≡ Some k → k ≢ key
    not_free other k is e = true_false (sym (slotted.filled other k is) ∙ ap (λ (i : ℕ). is_some (slot_of old i)) e ∙ ap is_some vacant)

    others_now : (other : ℕ) → nat_eq number other ≡ false → (z : Option ℕ) → key_of old other ≡ z → connection_at new other ≡ connection_at old other
    others_now other ne None is = ap (at_key (slot_of new)) (keys other ne ∙ is) ∙ sym (ap (at_key (slot_of old)) is)
    others_now other ne (Some k) is = ap (at_key (slot_of new)) (keys other ne ∙ is) ∙ slots k (not_free other k is) ∙ sym (ap (at_key (slot_of old)) is)

    pub inserted : Puts old new number (Some x)
    inserted = record {
      here = ap (at_key (slot_of new)) own ∙ here;
      others = λ other ne. others_now other ne (key_of old other) refl;
    }

    some_key : (a b : ℕ) → ◌≡◌ {A = Option ℕ} (Some a) (Some b) → a ≡ b
    some_key a b e = cc

    filled_now : (other k : ℕ) (b : Bool) → nat_eq number other ≡ b → key_of new other ≡ Some k → is_some (slot_of new k) ≡ true
    filled_now other k true e is =
        let same : key ≡ k = some_key key k (sym own ∙ ap (key_of new) (eqb-true number other e) ∙ is) in
        ap (λ (i : ℕ). is_some (slot_of new i)) (sym same) ∙ ap is_some here
    filled_now other k false e is =
        let was : key_of old other ≡ Some k = sym (keys other e) ∙ is in
        ap is_some (slots k (not_free other k was)) ∙ slotted.filled other k was

    apart_now : (m n k : ℕ) (a b : Bool) → nat_eq number m ≡ a → nat_eq number n ≡ b → key_of new m ≡ Some k → key_of new n ≡ Some k → m ≡ n
    apart_now m n k true true e f g h = sym (eqb-true number m e) ∙ eqb-true number n f
    apart_now m n k true false e f g h =
        let same : key ≡ k = some_key key k (sym own ∙ ap (key_of new) (eqb-true number m e) ∙ g) in
        absurd (not_free n k (sym (keys n f) ∙ h) (sym same))
    apart_now m n k false true e f g h =
        let same : key ≡ k = some_key key k (sym own ∙ ap (key_of new) (eqb-true number n f) ∙ h) in
        absurd (not_free m k (sym (keys m e) ∙ g) (sym same))
    apart_now m n k false false e f g h = slotted.apart m n k (sym (keys m e) ∙ g) (sym (keys n f) ∙ h)

    numbered_now : key_of old number ≡ None → (k : ℕ) → (((nat_eq key k ≡ true) × (key ≡ k)) ⊎ ((nat_eq key k ≡ false) × (key ≢ k))) → is_some (slot_of new k) ≡ true → (n : ℕ) × (key_of new n ≡ Some k)
    numbered_now absent k (inl t) e = (number, own ∙ ap (λ (i : ℕ). Some i) t.1)
    numbered_now absent k (inr t) e =
        let m = slotted.numbered k (ap is_some (sym (slots k (λ same. t.1 (sym same)))) ∙ e) in
        (m.0, keys m.0 (not_this old number m.0 k absent m.1) ∙ m.1)

    pub inserted_slotted : connection_at old number ≡ None → IsSlotted new
    inserted_slotted fresh = record {
      filled = λ other k is. filled_now other k (nat_eq number other) refl is;
      apart = λ m n k g h. apart_now m n k (nat_eq number m) (nat_eq number n) refl refl g h;
      numbered = λ k e. numbered_now (no_key old number slotted fresh) k (eqb_tells key k) e;
    }
