-- Who is found among live connections stands there.
use Rattle.std.proofs.Common.{◌≡◌, ℕ, Bool, true, false, List, [], ◌∷◌, Some, nat_eq, arith, refl, inl, inr}
use Rattle.std.proofs.lemmas.Bool.{eqb-true}
use Rattle.std.specs.Prelude.{find, if◌then◌else◌}
use Rattle.floor_hub.specs.declared.attached.Live.{Live}
use Rattle.floor_hub.specs.Members.{Stands}

-- the one that passes the test
here : (n : ℕ) (l x : Live) → nat_eq l.n n ≡ true → Some l ≡ Some x → (l.number ≡ x.number) × (l.n ≡ n)
here n l x e is = grind (arith, eqb-true)

-- the one that passes the test, or one of the rest
step : (n : ℕ) (l : Live) (live : List Live) (x : Live) (b : Bool) → nat_eq l.n n ≡ b → (if b then Some l else find (λ one. nat_eq one.n n) live) ≡ Some x
    → (find (λ one. nat_eq one.n n) live ≡ Some x → Stands live x.number n) → Stands (l ∷ live) x.number n
step n l live x true e is rest = inl (here n l x e is)
step n l live x false e is rest = inr (rest is)

-- whoever is found stands there
pub stands-found : (n : ℕ) (live : List Live) (x : Live) → find (λ one. nat_eq one.n n) live ≡ Some x → Stands live x.number n
stands-found n [] x is = grind arith
stands-found n (l ∷ live) x is = step n l live x (nat_eq l.n n) refl is (stands-found n live x)
