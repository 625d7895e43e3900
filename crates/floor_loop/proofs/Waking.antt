-- Whoever is woken, and whoever isn't.
use Rattle.std.proofs.Common.{◌≡◌, ◌≢◌, ◌⊎◌, inl, inr, ℕ, Bool, true, false, refl, ap, subst, sym, ◌∙◌, Some}
use Rattle.std.specs.Prelude.{Option, ◌||◌, ◌↔◌, nat_eq}
use Rattle.std.proofs.lemmas.Bool.Decides.{eqb_tells}
use Rattle.floor_room.specs.Room.{Room}
use Rattle.floor_hub.specs.Concerned.{is_cut, is_shut}
use Rattle.floor_hub.specs.Rooms.{OverIs}
use Rattle.floor_loop.specs.Written.{IsOver}
use Rattle.floor_hub.specs.declared.connection.Connection.{Connection}
use Rattle.floor_hub.specs.Hub.{Hub, room_at}
use Rattle.floor_loop.specs.Loop.{Attended, Outgoing, outgoing_in}
use Rattle.floor_loop.specs.steps.Moved.{IsSpared, KeepsAll}
use Rattle.floor_loop.proofs.Stepping.{kept-some, some-out}

-- a call that changes one connection spares each other
pub spared-at : {P : Type 0} (number k : ℕ) (o p : Outgoing) (g : ℕ → Option Outgoing) → (nat_eq number k ≡ false → g k ≡ Some o) → g k ≡ Some p → (number ≡ k → (p.ends ≡ o.ends) ⊎ P) → (p.ends ≡ o.ends) ⊎ P
spared-at {P} number k o p g others is same = by (eqb_tells number k)
  where
    by : (((nat_eq number k ≡ true) × (number ≡ k)) ⊎ ((nat_eq number k ≡ false) × (number ≢ k))) → (p.ends ≡ o.ends) ⊎ P
    by (inl t) = same t.1
    by (inr t) = inl (ap (λ (z : Outgoing). z.ends) (some-out p o (sym is ∙ others t.0)))

-- one after another
pub spared-both : (hub : Hub) (a b c : Attended) (k : ℕ) → KeepsAll (outgoing_in a) (outgoing_in b) → IsSpared hub a b k → IsSpared hub b c k → IsSpared hub a c k
spared-both hub a b c k keeps f g x r o q is_x is_r is_o is_q conference =
    let t = kept-some (outgoing_in a) (outgoing_in b) keeps k o is_o in
    elim (g x r t.0 q is_x is_r t.1 is_q (t.2.conference ∙ conference)) [
      | inr over ↦ inr over
      | inl same ↦ elim (f x r o t.0 is_x is_r is_o t.1 conference) [ inr over ↦ inr over | inl was ↦ inl (same ∙ was) ]
    ]

pub spared-refl : (hub : Hub) (a : Attended) (k : ℕ) → IsSpared hub a a k
spared-refl hub a k x r o p is_x is_r is_o is_p conference = inl (ap (λ (z : Outgoing). z.ends) (some-out p o (sym is_p ∙ is_o)))

not_true : false ≡ true → ⊥
not_true e = cc

-- nothing more is told to a member if it is cut or its room is shut
pub over-both : (r : Room) (n : ℕ) (b : Bool) → b ≡ (is_cut r n || is_shut r) → (b ≡ true) ↔ IsOver r n
over-both r n b is = (λ e. split (is_cut r n) (is_shut r) refl refl (sym is ∙ e), λ over. is ∙ join (is_cut r n) (is_shut r) over)
  where
    split : (cut shut : Bool) → is_cut r n ≡ cut → is_shut r ≡ shut → (cut || shut) ≡ true → IsOver r n
    split true shut is_c is_s e = inl is_c
    split false true is_c is_s e = inr is_s
    split false false is_c is_s e = absurd (not_true e)

    join : (cut shut : Bool) → ((cut ≡ true) ⊎ (shut ≡ true)) → (cut || shut) ≡ true
    join true shut over = refl
    join false true over = refl
    join false false (inl h) = absurd (not_true h)
    join false false (inr h) = absurd (not_true h)

-- whether nothing more is told to a live connection
pub over-of : (h : Hub) (z : Option Connection) (x : Connection) (b : Bool) → OverIs h z b → z ≡ Some x → (r : Room) → room_at h x.conference ≡ Some r → b ≡ (is_cut r x.n || is_shut r)
over-of h z x b c e = let t : OverIs h (Some x) b = subst (λ (y : Option Connection). OverIs h y b) e c in t
