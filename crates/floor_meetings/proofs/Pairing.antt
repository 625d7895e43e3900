-- Members that come to slots and leave them.
use Rattle.std.proofs.Common.{◌≡◌, ◌≢◌, ◌<◌, ℕ, zero, suc, true, false, List, [], ◌∷◌, length, sym, ◌∙◌, ap, Some, None, ◌⊎◌, inl, inr, arith}
use Rattle.std.specs.Prelude.{Option, nat_eq, slice_index_or, slice_set}
use Rattle.std.proofs.lemmas.Bool.Decides.{eqb_tells}
use Rattle.std.proofs.lemmas.List.{get_or-set_same, get_or-set_other}
use Rattle.std.proofs.lemmas.Option.{none-some}
use Rattle.floor_meetings.specs.declared.members.Member.{Member}
use Rattle.floor_meetings.specs.Members.{IsPaired, Members, member_in, slot_of}

-- where somebody stands there is a slot
pub ranged : (xs : List (Option Member)) (i : ℕ) (m : Member) → slice_index_or xs i None ≡ Some m → i < length xs
ranged [] i m e = absurd (none-some m e)
ranged (x ∷ xs) zero m e = omega arith
ranged (x ∷ xs) (suc i) m e = let t = ranged xs i m e in omega (arith, t)

pub vacant : (xs : List (Option Member)) (i : ℕ) (x : Option Member) → i < length xs → slice_index_or (slice_set xs i x) i None ≡ x
vacant xs i x le = get_or-set_same xs i x None le

pub elsewhere : (xs : List (Option Member)) (i k : ℕ) (x : Option Member) → k ≢ i → slice_index_or (slice_set xs i x) k None ≡ slice_index_or xs k None
elsewhere xs i k x ne = get_or-set_other xs i k x None ne

pub one_slot : (a b : ℕ) → ◌≡◌ {A = Option ℕ} (Some a) (Some b) → a ≡ b
one_slot a b h = cc

pub one_member : (a b : Member) → ◌≡◌ {A = Option Member} (Some a) (Some b) → a ≡ b
one_member a b h = cc

abbrev pub Tells : ℕ → ℕ → Type 0
Tells a b = ((nat_eq a b ≡ true) × (a ≡ b)) ⊎ ((nat_eq a b ≡ false) × (a ≢ b))

module _ (old new : Members) (number slot : ℕ) (paired : IsPaired old) where
  module _ (was : slot_of old number ≡ Some slot) (gone : slot_of new number ≡ None) (numbers : (k : ℕ) → nat_eq number k ≡ false → slot_of new k ≡ slot_of old k)
      (free : member_in new slot ≡ None) (slots : (k : ℕ) → k ≢ slot → member_in new k ≡ member_in old k) where
    apart : (k : ℕ) (m : Member) → k ≢ slot → slot_of old m.number ≡ Some k → nat_eq number m.number ≡ false
    apart k m ne is = by (eqb_tells number m.number)
      where
        by : Tells number m.number → nat_eq number m.number ≡ false
        by (inl t) = absurd (ne (one_slot k slot (sym is ∙ ap (slot_of old) (sym t.1) ∙ was)))
        by (inr t) = t.0

    named : (k : ℕ) (m : Member) → member_in new k ≡ Some m → slot_of new m.number ≡ Some k
    named k m is =
        let ne : k ≢ slot = λ same. none-some m (sym free ∙ ap (member_in new) (sym same) ∙ is) in
        let before = paired.named k m (sym (slots k ne) ∙ is) in
        numbers m.number (apart k m ne before) ∙ before

    there : (other k : ℕ) → slot_of new other ≡ Some k → (m : Member) × (member_in new k ≡ Some m) × (m.number ≡ other)
    there other k is = by (eqb_tells number other)
      where
        by : Tells number other → (m : Member) × (member_in new k ≡ Some m) × (m.number ≡ other)
        by (inl t) = absurd (none-some k (sym gone ∙ ap (slot_of new) t.1 ∙ is))
        by (inr t) =
            let p = paired.there other k (sym (numbers other t.0) ∙ is) in
            let q = paired.there number slot was in
            let ne : k ≢ slot = λ same. t.1 (sym q.2 ∙ ap (λ (m : Member). m.number) (one_member q.0 p.0 (sym q.1 ∙ ap (member_in old) (sym same) ∙ p.1)) ∙ p.2) in
            (p.0, slots k ne ∙ p.1, p.2)

    pub left-paired : IsPaired new
    left-paired = record { named = named; there = there }

    pub left-others : (k : ℕ) → (slot_of old number ≡ Some k → ⊥) → member_in new k ≡ member_in old k
    left-others k never = slots k (λ same. never (was ∙ ap (λ (i : ℕ). Some i) (sym same)))

    pub left-here : (k : ℕ) → slot_of old number ≡ Some k → member_in new k ≡ None
    left-here k is = ap (member_in new) (one_slot k slot (sym is ∙ was)) ∙ free

-- a member that is put into a free slot under a number that nobody has
module _ (old new : Members) (member : Member) (slot : ℕ) (paired : IsPaired old) where
  module _ (free : member_in old slot ≡ None) (fresh : slot_of old member.number ≡ None) (own : slot_of new member.number ≡ Some slot)
      (numbers : (k : ℕ) → nat_eq member.number k ≡ false → slot_of new k ≡ slot_of old k) (here : member_in new slot ≡ Some member) (slots : (k : ℕ) → k ≢ slot → member_in new k ≡ member_in old k) where
    other : (n k : ℕ) → slot_of old n ≡ Some k → nat_eq member.number n ≡ false
    other n k is = by (eqb_tells member.number n)
      where
        by : Tells member.number n → nat_eq member.number n ≡ false
        by (inl t) = absurd (none-some k (sym fresh ∙ ap (slot_of old) t.1 ∙ is))
        by (inr t) = t.0

    put-named : (k : ℕ) (m : Member) → member_in new k ≡ Some m → slot_of new m.number ≡ Some k
    put-named k m is = by (eqb_tells k slot)
      where
        by : Tells k slot → slot_of new m.number ≡ Some k
        by (inl t) =
            let same = one_member member m (sym here ∙ ap (member_in new) (sym t.1) ∙ is) in
            ap (λ (x : Member). slot_of new x.number) (sym same) ∙ own ∙ ap (λ (i : ℕ). Some i) (sym t.1)
        by (inr t) =
            let before = paired.named k m (sym (slots k t.1) ∙ is) in
            numbers m.number (other m.number k before) ∙ before

    put-there : (n k : ℕ) → slot_of new n ≡ Some k → (m : Member) × (member_in new k ≡ Some m) × (m.number ≡ n)
    put-there n k is = by (eqb_tells member.number n)
      where
        by : Tells member.number n → (m : Member) × (member_in new k ≡ Some m) × (m.number ≡ n)
        by (inl t) = (member, ap (member_in new) (one_slot k slot (sym is ∙ ap (slot_of new) (sym t.1) ∙ own)) ∙ here, t.1)
        by (inr t) =
            let p = paired.there n k (sym (numbers n t.0) ∙ is) in
            let ne : k ≢ slot = λ same. none-some p.0 (sym free ∙ ap (member_in old) (sym same) ∙ p.1) in
            (p.0, slots k ne ∙ p.1, p.2)

    pub put-paired : IsPaired new
    put-paired = record { named = put-named; there = put-there }

-- a number whose slot isn't this
pub never-other : (ms : Members) (number slot k : ℕ) → slot_of ms number ≡ Some slot → nat_eq slot k ≡ false → slot_of ms number ≡ Some k → ⊥
never-other ms number slot k is ne other = by (eqb_tells slot k)
  where
    by : Tells slot k → ⊥
    by (inl t) = cc
    by (inr t) = t.1 (one_slot slot k (sym is ∙ other))

pub never-none : (ms : Members) (number k : ℕ) → slot_of ms number ≡ None → slot_of ms number ≡ Some k → ⊥
never-none ms number k none is = none-some k (sym none ∙ is)

pub not-same : (slot k : ℕ) → nat_eq slot k ≡ false → k ≢ slot
not-same slot k ne same = by (eqb_tells slot k)
  where
    by : Tells slot k → ⊥
    by (inl t) = cc
    by (inr t) = t.1 (sym same)

-- a member is what is known of it
pub same_member : (a b : Member) → a.number ≡ b.number → a.conference ≡ b.conference → a.user ≡ b.user → a ≡ b
same_member a b n c u =
    ap (λ (k : ℕ). record { number = k; conference = a.conference; user = a.user }) n ∙ ap (λ (k : ℕ). record { number = b.number; conference = k; user = a.user }) c
    ∙ ap (λ (k : ℕ). record { number = b.number; conference = b.conference; user = k }) u
