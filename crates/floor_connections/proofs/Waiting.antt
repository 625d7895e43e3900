-- Who waits.
use Rattle.std.proofs.Common.{◌≡◌, ℕ, Some, None, refl, sym}
use Rattle.std.specs.Prelude.{Option, option_map}
use Rattle.std.proofs.lemmas.Option.{none-some}
use Rattle.floor_connections.specs.declared.table.Named.{Named}

-- whose conference is known waits
pub waiting_there : (o : Option Named) (conference : ℕ) → ◌≡◌ {A = Option ℕ} (Some conference) (option_map (λ n. n.conference) o) → (n : Named) × (o ≡ Some n) × (n.conference ≡ conference)
waiting_there None conference e = absurd (none-some conference (sym e))
waiting_there (Some n) conference e = (n, refl, one n.conference conference (sym e))
  where
    one : (a b : ℕ) → ◌≡◌ {A = Option ℕ} (Some a) (Some b) → a ≡ b
    one a b same = cc
