-- What a socket took of one connection, and a connection that was given.
use Rattle.std.proofs.Common.{◌≡◌, ◌≢◌, ◌⊎◌, inl, inr, ℕ, ◌<◌, Bool, true, false, cond, List, [], ◌∷◌, length, take, drop, length-drop, refl, sym, ◌∙◌, ap, subst, arith, Some, None}
use Rattle.std.specs.Prelude.{Option, IsSome, nat_eq, option_and_then}
use Rattle.std.specs.Map.{lookup}
use Rattle.std.specs.Option.{option_map, option_map_or}
use Rattle.std.proofs.lemmas.Bool.Decides.{eqb_tells}
use Rattle.floor_hub.specs.Hub.{Hub}
use Rattle.floor_loop.specs.Loop.{Attended, Loop, Outgoing, outgoing_in, rest_at}
use Rattle.floor_loop.specs.Written.{Took}
use Rattle.floor_loop.specs.steps.Changed.{changed, given, whole_of, wrote_of}
use Rattle.floor_loop.specs.steps.Moved.{FewerStays, IsLoop, Keeps, KeepsLive, loop_of}
use Rattle.floor_loop.proofs.Altering.{look-here, look-other}
use Rattle.floor_loop.proofs.Moving.{own-same}
use Rattle.floor_loop.proofs.Stepping.{keeps-same}
use Rattle.floor_loop.proofs.Taking.{acked_at, advanced}

abbrev looked : List (ℕ × Outgoing) → ℕ → Option Outgoing
looked es k = lookup (nat_eq k) es

module _ (f : Outgoing → Outgoing) (number : ℕ) (a b : Attended) (next : b.outgoing ≡ changed f number a.outgoing) where
  -- the connection is changed so
  pub changed-here : outgoing_in b number ≡ option_map f (outgoing_in a number)
  changed-here = ap (λ (es : List (ℕ × Outgoing)). looked es number) next ∙ look-here f number a.outgoing

  pub changed-at : (o : Outgoing) → outgoing_in a number ≡ Some o → outgoing_in b number ≡ Some (f o)
  changed-at o is = changed-here ∙ ap (option_map f) is

  -- and each other is as it was
  pub changed-beside : (k : ℕ) → nat_eq number k ≡ false → outgoing_in b k ≡ outgoing_in a k
  changed-beside k ne = ap (λ (es : List (ℕ × Outgoing)). looked es k) next ∙ look-other f number k a.outgoing ne

  -- what is on its way to each is what was, where the change keeps it
  pub live-changed : (hub : Hub) → ((o : Outgoing) → Keeps o (f o)) → KeepsLive hub (outgoing_in a) (outgoing_in b)
  live-changed hub keeps k x o live is = by (eqb_tells number k)
    where
      by : (((nat_eq number k ≡ true) × (number ≡ k)) ⊎ ((nat_eq number k ≡ false) × (number ≢ k))) → (p : Outgoing) × (outgoing_in b k ≡ Some p) × Keeps o p
      by (inl t) = (f o, subst (λ (i : ℕ). outgoing_in b i ≡ Some (f o)) t.1 (changed-at o (ap (outgoing_in a) t.1 ∙ is)), keeps o)
      by (inr t) = (o, changed-beside k t.0 ∙ is, keeps-same o)

-- what holds of a loop after the socket of one connection took so many bytes
pub record Wrote (old new : Loop) (number count : ℕ) : Type 0 where
  pub loop : IsLoop new
  pub took : Took old new number (take count (rest_at old number)) (acked_at old number count)
  pub others : (k : ℕ) → nat_eq number k ≡ false → Took old new k [] 0

pub wrote : (hub : Hub) (a b : Attended) (number count : ℕ) → b.outgoing ≡ changed (wrote_of count) number a.outgoing → FewerStays a b → IsLoop (loop_of hub a) → Wrote (loop_of hub a) (loop_of hub b) number count
wrote hub a b number count next few l =
    let did = advanced (loop_of hub a) (loop_of hub b) number count refl (changed-beside (wrote_of count) number a b next)
    (λ o is. (wrote_of count o, changed-at (wrote_of count) number a b next o is, refl, refl, refl, refl)) l in
    record { loop = record { world = l.world; stands = l.stands; serving = did.0; timed = did.1; own = own-same (loop_of hub a) (loop_of hub b) refl few l }; took = did.2; others = did.3 }

-- a connection that is given carries what it carried
pub keeps-given : (o : Outgoing) → Keeps o (given o)
keeps-given o = record { conference = refl; rest = refl; parcels = refl; until = λ s. s }

-- parcels are acknowledged where all was written, and then all of them

some_number : (a b : ℕ) → ◌≡◌ {A = Option ℕ} (Some a) (Some b) → a ≡ b
some_number a b e = cc

none_number : (a : ℕ) → ◌≡◌ {A = Option ℕ} None (Some a) → ⊥
none_number a e = cc

pub whole-is : (rest : List ℕ) (parcels k : ℕ) → Some k ≡ whole_of rest parcels → (rest ≡ []) × (k ≡ parcels)
whole-is (b ∷ bs) parcels k e = absurd (none_number k (sym e))
whole-is [] parcels k e = (refl, by (nat_eq parcels 0) e)
  where
    by : (b : Bool) → Some k ≡ cond b None (Some parcels) → k ≡ parcels
    by true h = absurd (none_number k (sym h))
    by false h = some_number k parcels h

-- of which connection they are
pub whole-of : (z : Option Outgoing) (count k : ℕ) → Some k ≡ option_and_then (λ o. whole_of (drop count o.rest) o.parcels) z →
    (drop count (option_map_or (λ o. o.rest) z []) ≡ []) × (k ≡ option_map_or (λ o. o.parcels) z 0)
whole-of None count k e = absurd (none_number k (sym e))
whole-of (Some o) count k e = whole-is (drop count o.rest) o.parcels k e

-- nothing is left then
pub all-written : (rest : List ℕ) (count : ℕ) → drop count rest ≡ [] → count < length rest → ⊥
all-written rest count e less = let left = ap length e in omega (arith, left, length-drop count rest, less)

-- who is ready

pub ready-some-at : (a : Attended) (number : ℕ) (o : Outgoing) → outgoing_in a number ≡ Some o → IsSome o.ready → IsSome (option_and_then (λ (z : Outgoing). z.ready) (outgoing_in a number))
ready-some-at a number o is some = subst (λ (z : Option Outgoing). IsSome (option_and_then (λ y. y.ready) z)) (sym is) some

pub given-ready : (a b : Attended) (number : ℕ) → b.outgoing ≡ changed given number a.outgoing → option_and_then (λ (z : Outgoing). z.ready) (outgoing_in b number) ≡ None
given-ready a b number next = ap (λ (z : Option Outgoing). option_and_then (λ y. y.ready) z) (changed-here given number a b next) ∙ by (outgoing_in a number)
  where
    by : (z : Option Outgoing) → option_and_then (λ (y : Outgoing). y.ready) (option_map given z) ≡ None
    by None = refl
    by (Some o) = refl

pub ready-all : (a : Attended) → ((number : ℕ) (o : Outgoing) → outgoing_in a number ≡ Some o → o.ready ≡ None) → (number : ℕ) → option_and_then (λ (z : Outgoing). z.ready) (outgoing_in a number) ≡ None
ready-all a none number = by (outgoing_in a number) refl
  where
    by : (z : Option Outgoing) → outgoing_in a number ≡ z → option_and_then (λ (y : Outgoing). y.ready) z ≡ None
    by None e = refl
    by (Some o) e = none number o e
