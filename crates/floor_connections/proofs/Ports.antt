-- The ports of users are to be listened on.
use Rattle.std.proofs.Common.{◌≡◌, ◌≢◌, ◌<◌, ◌+◌, ℕ, List, inl, inr, length, get_or, Some, None, refl, sym, ap, ◌∙◌, subst, arith}
use Rattle.std.specs.Prelude.{IfSome, IsSome, Option}
use Rattle.std.proofs.lemmas.Bool.Decides.{eqb_tells}
use Rattle.std.proofs.lemmas.List.{get_or_default}
use Rattle.floor_config.specs.declared.users.User.{User}
use Rattle.floor_sockets.specs.declared.life.Life.{Life}
use Rattle.floor_connections.specs.declared.connections.Connections.{Connections}
use Rattle.floor_connections.specs.declared.place.Place.TheVariants.{Port}
use Rattle.floor_connections.specs.Ports.{HasPort, IsAdded, IsHeld, KeepsPorts}

-- whose port was added has it
pub added_port : (old new : Connections) (conference group port slot : ℕ) (user : User) → user.port ≡ Some port → IsAdded (Port conference user.id port) group old new slot → HasPort new.table new.sockets conference user
added_port old new conference group port slot user is added =
    subst (λ (o : Option ℕ). IfSome o (λ p. (g s : ℕ) × IsHeld new.table new.sockets (Port conference user.id p) g s)) (sym is)
    (group, slot, record { there = added.there; life = subst (λ (o : Option Life). IsSome o) (sym added.opened.here) refl })

-- who had its port has it still
pub kept_port : (old new : Connections) (conference : ℕ) (user : User) → KeepsPorts old new → HasPort old.table old.sockets conference user → HasPort new.table new.sockets conference user
kept_port old new conference user keeps = by user.port
  where
    by : (o : Option ℕ) → IfSome o (λ p. (g s : ℕ) × IsHeld old.table old.sockets (Port conference user.id p) g s) → IfSome o (λ p. (g s : ℕ) × IsHeld new.table new.sockets (Port conference user.id p) g s)
    by None h = tt
    by (Some port) h = (h.0, h.1, keeps (Port conference user.id port) h.0 h.1 h.2)

before_it : (k i : ℕ) → k < i + 1 → k ≢ i → k < i
before_it k i less other = omega arith

-- what holds of the first users and of the next holds of one more
pub one_more : (P : User → Type 0) (users : List User) (i : ℕ) (user : User) → user ≡ get_or users i user → i < length users → ((k : ℕ) (d : User) → k < i → P (get_or users k d)) → P user → (k : ℕ) (d : User) → k < i + 1 → P (get_or users k d)
one_more P users i user is lt before here k d less =
    elim (eqb_tells k i) [ inl t ↦ subst P (is ∙ get_or_default users i user d lt ∙ ap (λ j. get_or users j d) (sym t.1)) here | inr t ↦ before k d (before_it k i less t.1) ]
