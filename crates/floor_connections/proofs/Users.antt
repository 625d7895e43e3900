-- A user that is let in again.
use Rattle.std.proofs.Common.{◌≡◌, ℕ, true, false, List, inl, inr, refl, sym, ap, ◌∙◌, subst}
use Rattle.std.specs.Prelude.{filter, nat_eq, not}
use Rattle.std.specs.List.{list_any}
use Rattle.std.proofs.lemmas.Bool.Decides.{eqb_tells}
use Rattle.std.proofs.lemmas.Map.Views.{any-filter_same}

itself : (k : ℕ) → nat_eq k k ≡ true
itself k = elim (eqb_tells k k) [ inl t ↦ t.0 | inr t ↦ absurd (t.1 refl) ]

not_true : false ≡ true → ⊥
not_true e = cc

-- numbers that are equal are so the other way round
swapped : (user k : ℕ) → nat_eq user k ≡ true → nat_eq k user ≡ true
swapped user k e = elim (eqb_tells user k) [ inl t ↦ subst (λ (j : ℕ). nat_eq j user ≡ true) t.1 (itself user) | inr t ↦ absurd (not_true (sym t.0 ∙ e)) ]

-- it isn't among the others
pub none_left : (user : ℕ) (users : List ℕ) → list_any (nat_eq user) (filter (λ u. not (nat_eq u user)) users) ≡ false
none_left user users = any-filter_same (nat_eq user) (λ u. not (nat_eq u user)) false (λ k e. ap not (swapped user k e)) users

differs : (user u k : ℕ) → nat_eq user u ≡ false → nat_eq u k ≡ true → nat_eq k user ≡ false
differs user u k ne e = elim (eqb_tells u k) [ inl t ↦ subst (λ (j : ℕ). nat_eq j user ≡ false) t.1 (other user u ne) | inr t ↦ absurd (not_true (sym t.0 ∙ e)) ]
  where
    other : (user u : ℕ) → nat_eq user u ≡ false → nat_eq u user ≡ false
    other user u ne = elim (eqb_tells u user) [ inl t ↦ absurd (not_true (sym ne ∙ swapped u user t.0)) | inr t ↦ t.0 ]

-- and each other is who was
pub others_left : (user u : ℕ) (users : List ℕ) → nat_eq user u ≡ false → list_any (nat_eq u) (filter (λ v. not (nat_eq v user)) users) ≡ list_any (nat_eq u) users
others_left user u users ne = any-filter_same (nat_eq u) (λ v. not (nat_eq v user)) true (λ k e. ap not (differs user u k ne e)) users
