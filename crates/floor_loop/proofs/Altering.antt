-- One connection of many is changed.
use Rattle.std.proofs.Common.{◌≡◌, ◌≢◌, ◌⊎◌, inl, inr, ℕ, ◌+◌, Bool, true, false, cond, List, [], ◌∷◌, refl, sym, ◌∙◌, ap, subst, arith, Some, None}
use Rattle.std.specs.Prelude.{Option, nat_eq}
use Rattle.std.specs.List.{sum_by}
use Rattle.std.specs.Map.{lookup, set_value}
use Rattle.std.specs.Option.{option_map}
use Rattle.std.proofs.lemmas.Bool.Decides.{eqb_tells}
use Rattle.std.proofs.lemmas.List.Sums.{sum_by-cons}
use Rattle.std.proofs.lemmas.Option.{none-some}
use Rattle.floor_loop.specs.Loop.{Outgoing}
use Rattle.floor_loop.specs.steps.Changed.{changed}
use Rattle.floor_loop.specs.steps.Moved.{KeepsAll, KeptAt}
use Rattle.floor_loop.proofs.Stepping.{keeps-same, some-out}

-- a write to the connection that was looked up is such a change
pub changed-is : (f : Outgoing → Outgoing) (number : ℕ) (es : List (ℕ × Outgoing)) (o w : Outgoing) → lookup (nat_eq number) es ≡ Some o → w ≡ f o → set_value (nat_eq number) es w ≡ changed f number es
changed-is f number [] o w is e = absurd (none-some o is)
changed-is f number (e ∷ es) o w is e' = by (nat_eq number e.0) is (λ h. changed-is f number es o w h e')
  where
    by : (b : Bool) → cond b (Some e.1) (lookup (nat_eq number) es) ≡ Some o → (lookup (nat_eq number) es ≡ Some o → set_value (nat_eq number) es w ≡ changed f number es) →
        cond b ((e.0, w) ∷ es) (e ∷ set_value (nat_eq number) es w) ≡ cond b ((e.0, f e.1) ∷ es) (e ∷ changed f number es)
    by true h rec = ap (λ (z : Outgoing). (e.0, z) ∷ es) (e' ∙ ap f (sym (some-out e.1 o h)))
    by false h rec = ap (λ (z : List (ℕ × Outgoing)). e ∷ z) (rec h)

-- without such a connection nothing changes
pub changed-none : (f : Outgoing → Outgoing) (number : ℕ) (es : List (ℕ × Outgoing)) → lookup (nat_eq number) es ≡ None → changed f number es ≡ es
changed-none f number [] is = refl
changed-none f number (e ∷ es) is = by (nat_eq number e.0) is (λ h. changed-none f number es h)
  where
    by : (b : Bool) → cond b (Some e.1) (lookup (nat_eq number) es) ≡ None → (lookup (nat_eq number) es ≡ None → changed f number es ≡ es) → cond b ((e.0, f e.1) ∷ es) (e ∷ changed f number es) ≡ e ∷ es
    by true h rec = absurd (none-some e.1 (sym h))
    by false h rec = ap (λ (z : List (ℕ × Outgoing)). e ∷ z) (rec h)

pub look-here : (f : Outgoing → Outgoing) (number : ℕ) (es : List (ℕ × Outgoing)) → lookup (nat_eq number) (changed f number es) ≡ option_map f (lookup (nat_eq number) es)
look-here f number [] = refl
look-here f number (e ∷ es) = by (nat_eq number e.0) refl (look-here f number es)
  where
    by : (b : Bool) → nat_eq number e.0 ≡ b → lookup (nat_eq number) (changed f number es) ≡ option_map f (lookup (nat_eq number) es) →
        lookup (nat_eq number) (cond b ((e.0, f e.1) ∷ es) (e ∷ changed f number es)) ≡ option_map f (cond b (Some e.1) (lookup (nat_eq number) es))
    by true h rec = ap (λ (c : Bool). cond c (Some (f e.1)) (lookup (nat_eq number) es)) h
    by false h rec = ap (λ (c : Bool). cond c (Some e.1) (lookup (nat_eq number) (changed f number es))) h ∙ rec

pub look-other : (f : Outgoing → Outgoing) (number k : ℕ) (es : List (ℕ × Outgoing)) → nat_eq number k ≡ false → lookup (nat_eq k) (changed f number es) ≡ lookup (nat_eq k) es
look-other f number k [] ne = refl
look-other f number k (e ∷ es) ne = by (nat_eq number e.0) refl (look-other f number k es ne)
  where
    not_both : true ≡ false → ⊥
    not_both h = cc

    far : nat_eq number e.0 ≡ true → nat_eq k e.0 ≡ false
    far h = at (eqb_tells number e.0) (eqb_tells k e.0)
      where
        at : (((nat_eq number e.0 ≡ true) × (number ≡ e.0)) ⊎ ((nat_eq number e.0 ≡ false) × (number ≢ e.0))) → (((nat_eq k e.0 ≡ true) × (k ≡ e.0)) ⊎ ((nat_eq k e.0 ≡ false) × (k ≢ e.0))) → nat_eq k e.0 ≡ false
        at x (inr t) = t.0
        at (inr u) (inl t) = absurd (not_both (sym h ∙ u.0))
        at (inl u) (inl t) = absurd (not_both (sym t.0 ∙ ap (λ (z : ℕ). nat_eq z e.0) (t.1 ∙ sym u.1) ∙ ap (λ (z : ℕ). nat_eq number z) (sym t.1) ∙ ne))

    by : (b : Bool) → nat_eq number e.0 ≡ b → lookup (nat_eq k) (changed f number es) ≡ lookup (nat_eq k) es →
        lookup (nat_eq k) (cond b ((e.0, f e.1) ∷ es) (e ∷ changed f number es)) ≡ cond (nat_eq k e.0) (Some e.1) (lookup (nat_eq k) es)
    by true h rec = ap (λ (c : Bool). cond c (Some (f e.1)) (lookup (nat_eq k) es)) (far h) ∙ ap (λ (c : Bool). cond c (Some e.1) (lookup (nat_eq k) es)) (sym (far h))
    by false h rec = ap (λ (z : Option Outgoing). cond (nat_eq k e.0) (Some e.1) z) rec

-- a change that keeps what is on its way and each mark
pub keeps-changed : (f : Outgoing → Outgoing) (number : ℕ) (es : List (ℕ × Outgoing)) → ((o : Outgoing) → lookup (nat_eq number) es ≡ Some o → KeptAt (Some o) (Some (f o))) → KeepsAll (λ k. lookup (nat_eq k) es) (λ k. lookup (nat_eq k) (changed f number es))
keeps-changed f number es keeps k = by (eqb_tells number k)
  where
    same : (x : Option Outgoing) → KeptAt x x
    same None = tt
    same (Some o) = (keeps-same o, λ e. e)

    mapped : (x : Option Outgoing) → lookup (nat_eq number) es ≡ x → KeptAt x (option_map f x)
    mapped None e = tt
    mapped (Some o) e = keeps o e

    by : (((nat_eq number k ≡ true) × (number ≡ k)) ⊎ ((nat_eq number k ≡ false) × (number ≢ k))) → KeptAt (lookup (nat_eq k) es) (lookup (nat_eq k) (changed f number es))
    by (inl t) = subst (λ (i : ℕ). KeptAt (lookup (nat_eq i) es) (lookup (nat_eq i) (changed f number es))) t.1 (subst (KeptAt (lookup (nat_eq number) es)) (sym (look-here f number es)) (mapped (lookup (nat_eq number) es) refl))
    by (inr t) = subst (KeptAt (lookup (nat_eq k) es)) (sym (look-other f number k es t.0)) (same (lookup (nat_eq k) es))

-- what a number of each connection comes to, where one is changed
pub sum-changed : (count : ℕ × Outgoing → ℕ) (f : Outgoing → Outgoing) (number : ℕ) (es : List (ℕ × Outgoing)) (o : Outgoing) → ((k : ℕ) (p : Outgoing) → count (k, p) ≡ count (number, p)) → lookup (nat_eq number) es ≡ Some o →
    sum_by count (changed f number es) + count (number, o) ≡ sum_by count es + count (number, f o)
sum-changed count f number [] o any is = absurd (none-some o is)
sum-changed count f number (e ∷ es) o any is = by (nat_eq number e.0) is (λ h. sum-changed count f number es o any h)
  where
    by : (b : Bool) → cond b (Some e.1) (lookup (nat_eq number) es) ≡ Some o → (lookup (nat_eq number) es ≡ Some o → sum_by count (changed f number es) + count (number, o) ≡ sum_by count es + count (number, f o)) →
        sum_by count (cond b ((e.0, f e.1) ∷ es) (e ∷ changed f number es)) + count (number, o) ≡ sum_by count (e ∷ es) + count (number, f o)
    by true h rec =
        let same : e.1 ≡ o = some-out e.1 o h in
        let was : count (e.0, e.1) ≡ count (number, o) = any e.0 e.1 ∙ ap (λ (z : Outgoing). count (number, z)) same in
        let now : count (e.0, f e.1) ≡ count (number, f o) = any e.0 (f e.1) ∙ ap (λ (z : Outgoing). count (number, f z)) same in
        omega (arith, sum_by-cons count (e.0, f e.1) es, sum_by-cons count e es, was, now)
    by false h rec = omega (arith, sum_by-cons count e (changed f number es), sum_by-cons count e es, rec h)
