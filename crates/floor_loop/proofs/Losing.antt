-- A connection that is lost, and what is dropped of one that is away.
use Rattle.std.proofs.Common.{◌≡◌, ℕ, zero, suc, false, [], refl, sym, ◌∙◌, subst, arith, None, Some}
use Rattle.std.specs.Prelude.{IsSome, Option, nat_eq}
use Rattle.std.proofs.lemmas.Option.{none-some}
use Rattle.floor_hub.specs.declared.connection.Connection.{Connection}
use Rattle.floor_hub.specs.declared.step.Step.TheVariants.{Leave}
use Rattle.floor_hub.specs.Connections.{connection_at}
use Rattle.floor_hub.specs.Hub.{Hub}
use Rattle.floor_hub.specs.StandsFor.{StandsFor}
use Rattle.floor_hub.specs.World.{nothing}
use Rattle.floor_loop.specs.Done.{AtMost, NoSteps, Steps, Then}
use Rattle.floor_loop.specs.Loop.{Loop}
use Rattle.floor_loop.specs.declared.stay.Stay.{Stay}
use Rattle.floor_loop.specs.Written.{Dropped, Took}
use Rattle.floor_loop.specs.steps.Moved.{IsLoop, Moved, WasLive}
use Rattle.floor_loop.specs.steps.Thrown.{Thrown}
use Rattle.floor_loop.proofs.Moving.{loop-moves, moved-behind, none-at-most, none-then, steps-both, steps-of, took-both}
use Rattle.floor_loop.proofs.Throwing.{thrown-moves}

-- where nobody has arrived nobody is live
pub nobody-live : (h : Hub) → StandsFor h nothing → (number : ℕ) → connection_at h.connections number ≡ None
nobody-live h st zero = st.stands.numbers zero
nobody-live h st (suc k) = st.stands.numbers (suc k)

-- what was on its way to a connection is thrown away, and it stays
module _ (number : ℕ) (a b d : Loop) (first : Moved NoSteps a b) (t : Thrown number b d) where
  pub dropped-loop : IsLoop a → IsLoop d
  dropped-loop l = t.loop (loop-moves NoSteps a b first l)

  pub dropped-steps : Steps NoSteps a.hub d.hub
  dropped-steps = steps-of (Then NoSteps NoSteps) NoSteps a.hub d.hub (λ steps h. none-then NoSteps steps h) (steps-both NoSteps NoSteps a.hub b.hub d.hub first.steps t.steps)

  pub dropped-at-most : Steps (AtMost 1 (Leave number)) a.hub d.hub
  dropped-at-most = steps-of NoSteps (AtMost 1 (Leave number)) a.hub d.hub (none-at-most 1 (Leave number)) dropped-steps

  pub dropped-took : IsLoop a → (k : ℕ) → nat_eq number k ≡ false → Took a d k [] 0
  dropped-took l k ne =
      let m = loop-moves NoSteps a b first l in
      subst (λ (j : ℕ). Took a d k [] j) (omega arith) (took-both a b d k [] [] 0 0 live m.serving (first.took l k) (t.others m k ne))
    where
      live : (z : Connection) → connection_at d.hub.connections k ≡ Some z → WasLive b.hub k z
      live z is = record { connection = z; live = sym (t.connections k) ∙ is; conference = refl; n = refl }

  pub dropped-own : IsLoop a → Dropped a d number
  dropped-own l =
      let m = loop-moves NoSteps a b first l in
      let own = t.dropped m in
      (_, _, took-both a b d number [] own.0 0 own.1 live m.serving (first.took l number) own.2)
    where
      live : (z : Connection) → connection_at d.hub.connections number ≡ Some z → WasLive b.hub number z
      live z is = record { connection = z; live = sym (t.connections number) ∙ is; conference = refl; n = refl }

-- of one that has left nothing is dropped any more
pub dropped-gone : (a e : Loop) (number : ℕ) → connection_at e.hub.connections number ≡ None → Dropped a e number
dropped-gone a e number gone = ([], 0, λ x y r s o p is_x is_y. absurd (none-some y (sym gone ∙ is_y)))

-- or it leaves
module _ (number : ℕ) (a b d e : Loop) (first : Moved NoSteps a b) (t : Thrown number b d) (gone : connection_at e.hub.connections number ≡ None) (left : Moved (AtMost 1 (Leave number)) d e) where
  pub lost-moves : Moved (AtMost 1 (Leave number)) a e
  lost-moves = moved-behind (AtMost 1 (Leave number)) a b e first (thrown-moves number b d e t gone (AtMost 1 (Leave number)) left)

-- nobody is away and here
pub not-both-stays : (z : Option Stay) → z ≡ None → IsSome z → ⊥
not-both-stays None e s = absurd cc
not-both-stays (Some x) e s = absurd (none-some x (sym e))
