-- A mark that is set.
use Rattle.std.proofs.Common.{◌≡◌, ◌≢◌, ◌⊎◌, inl, inr, ◌≤◌, ℕ, ◌+◌, arith, true, false, List, [], refl, sym, ◌∙◌, ap, subst, Some, None}
use Rattle.std.specs.Prelude.{Option, IsSome, nat_eq, option_and_then}
use Rattle.std.specs.Map.{lookup}
use Rattle.std.specs.Option.{option_map}
use Rattle.std.proofs.lemmas.Bool.Decides.{eqb_tells}
use Rattle.std.proofs.lemmas.Option.{none-some}
use Rattle.floor_loop.specs.declared.outgoing.Mark.{Mark}
use Rattle.floor_loop.specs.declared.outgoing.Mark.TheVariants.{Ready, Ends, Fails}
use Rattle.floor_loop.specs.Away.{Away}
use Rattle.floor_loop.specs.Loop.{Attended, Outgoing, earlier, outgoing_in, until_of}
use Rattle.floor_loop.specs.steps.Changed.{changed, mark_of, marked, or_time}
use Rattle.floor_loop.specs.steps.Moved.{KeepsAll, KeptAt}
use Rattle.floor_loop.proofs.Altering.{keeps-changed, look-here, look-other}
use Rattle.floor_loop.specs.steps.Listed.{IsListed, Line, deadline}
use Rattle.floor_loop.proofs.Listing.{has-within}
use Rattle.floor_loop.proofs.Stepping.{some-out}

or-time-some : (z : Option ℕ) (time : ℕ) → IsSome (or_time z time)
or-time-some None time = refl
or-time-some (Some t) time = refl

not-some : (t : ℕ) → ◌≡◌ {A = Option ℕ} (Some t) None → ⊥
not-some t e = cc

or-time-not : (z : Option ℕ) (time : ℕ) → or_time z time ≡ None → z ≡ None
or-time-not None time e = refl
or-time-not (Some t) time e = e

ends-later : (f e : Option ℕ) (time : ℕ) → IsSome (earlier f e) → IsSome (earlier f (or_time e time))
ends-later None None time s = refl
ends-later None (Some t) time s = refl
ends-later (Some u) None time s = refl
ends-later (Some u) (Some t) time s = refl

fails-later : (f e : Option ℕ) (time : ℕ) → IsSome (earlier f e) → IsSome (earlier (or_time f time) e)
fails-later None None time s = refl
fails-later None (Some t) time s = refl
fails-later (Some u) None time s = refl
fails-later (Some u) (Some t) time s = refl

-- who is marked as to be shut down is so
pub ends-until : (o : Outgoing) → IsSome o.ends → IsSome (until_of o)
ends-until o s = by o.fails o.ends s
  where
    by : (f e : Option ℕ) → IsSome e → IsSome (earlier f e)
    by None None s = s
    by None (Some t) s = refl
    by (Some u) None s = refl
    by (Some u) (Some t) s = refl

marked-kept : (mark : Mark) (time : ℕ) (o : Outgoing) → KeptAt (Some o) (Some (marked mark time o))
marked-kept Ready time o = (record { conference = refl; rest = refl; parcels = refl; until = λ s. s }, or-time-not o.ready time)
marked-kept Ends time o = (record { conference = refl; rest = refl; parcels = refl; until = ends-later o.fails o.ends time }, λ e. e)
marked-kept Fails time o = (record { conference = refl; rest = refl; parcels = refl; until = fails-later o.fails o.ends time }, λ e. e)

abbrev looked : List (ℕ × Outgoing) → ℕ → Option Outgoing
looked es k = lookup (nat_eq k) es

-- a mark changes nothing that is on its way, and takes no mark
pub keeps-marked : (mark : Mark) (time number : ℕ) (a b : Attended) → b.outgoing ≡ changed (marked mark time) number a.outgoing → KeepsAll (outgoing_in a) (outgoing_in b)
keeps-marked mark time number a b next =
    subst (λ (es : List (ℕ × Outgoing)). KeepsAll (outgoing_in a) (looked es)) (sym next) (keeps-changed (marked mark time) number a.outgoing (λ o is. marked-kept mark time o))

mark-some : (mark : Mark) (time : ℕ) (o : Outgoing) → IsSome (mark_of mark (marked mark time o))
mark-some Ready time o = or-time-some o.ready time
mark-some Ends time o = or-time-some o.ends time
mark-some Fails time o = or-time-some o.fails time

-- the connection has it then
pub marked-some : (mark : Mark) (time number : ℕ) (a b : Attended) → b.outgoing ≡ changed (marked mark time) number a.outgoing → (o : Outgoing) → outgoing_in b number ≡ Some o → IsSome (mark_of mark o)
marked-some mark time number a b next o is = by (outgoing_in a number) (sym (look-here (marked mark time) number a.outgoing) ∙ ap (λ (es : List (ℕ × Outgoing)). looked es number) (sym next) ∙ is)
  where
    by : (z : Option Outgoing) → option_map (marked mark time) z ≡ Some o → IsSome (mark_of mark o)
    by None e = absurd (none-some o e)
    by (Some q) e = subst (λ (p : Outgoing). IsSome (mark_of mark p)) (some-out (marked mark time q) o e) (mark-some mark time q)

-- and another mark stays
pub marked-beside : (mark other : Mark) (time number : ℕ) (a b : Attended) → b.outgoing ≡ changed (marked mark time) number a.outgoing → ((o : Outgoing) → mark_of other (marked mark time o) ≡ mark_of other o) → (o : Outgoing) → outgoing_in b number ≡ Some o →
    (p : Outgoing) × (outgoing_in a number ≡ Some p) × (mark_of other o ≡ mark_of other p)
marked-beside mark other time number a b next same o is = by (outgoing_in a number) refl (sym (look-here (marked mark time) number a.outgoing) ∙ ap (λ (es : List (ℕ × Outgoing)). looked es number) (sym next) ∙ is)
  where
    by : (z : Option Outgoing) → outgoing_in a number ≡ z → option_map (marked mark time) z ≡ Some o → (p : Outgoing) × (outgoing_in a number ≡ Some p) × (mark_of other o ≡ mark_of other p)
    by None h e = absurd (none-some o e)
    by (Some q) h e = (q, h, ap (mark_of other) (sym (some-out (marked mark time q) o e)) ∙ same q)

-- a connection is marked so, and woken
pub ended-by : (u number : ℕ) (b c : Attended) → c.outgoing ≡ changed (marked Ready u) number b.outgoing → c.time ≡ b.time → ((o : Outgoing) → outgoing_in b number ≡ Some o → (ends : ℕ) × (o.ends ≡ Some ends) × (ends ≤ b.time + 10000)) →
    (o : Outgoing) → outgoing_in c number ≡ Some o → IsSome o.ready × ((ends : ℕ) × (o.ends ≡ Some ends) × (ends ≤ c.time + 10000))
ended-by u number b c next time soon o is =
    let was = marked-beside Ready Ends u number b c next (λ q. refl) o is in
    let p = soon was.0 was.1 in
    (marked-some Ready u number b c next o is, (p.0, was.2 ∙ p.1, subst (λ (k : ℕ). p.0 ≤ k + 10000) (sym time) p.2))

-- it is to be shut down so
pub ends-some : (o : Outgoing) → (ends : ℕ) × (o.ends ≡ Some ends) → IsSome o.ends
ends-some o e = subst IsSome (sym e.1) refl

pub failed-by : (u number : ℕ) (b c : Attended) → c.outgoing ≡ changed (marked Ready u) number b.outgoing → c.time ≡ b.time → ((o : Outgoing) → outgoing_in b number ≡ Some o → (until : ℕ) × (o.fails ≡ Some until) × (until ≤ b.time)) →
    (o : Outgoing) → outgoing_in c number ≡ Some o → IsSome o.ready × ((until : ℕ) × (o.fails ≡ Some until) × (until ≤ c.time))
failed-by u number b c next time past o is =
    let was = marked-beside Ready Fails u number b c next (λ q. refl) o is in
    let p = past was.0 was.1 in
    (marked-some Ready u number b c next o is, (p.0, was.2 ∙ p.1, subst (λ (k : ℕ). p.0 ≤ k) (sym time) p.2))

-- a change that leaves who is ready
pub ready-changed : (f : Outgoing → Outgoing) (number : ℕ) (a b : Attended) → b.outgoing ≡ changed f number a.outgoing → ((o : Outgoing) → (f o).ready ≡ o.ready) → (k : ℕ) →
    option_and_then (λ o. o.ready) (outgoing_in b k) ≡ option_and_then (λ o. o.ready) (outgoing_in a k)
ready-changed f number a b next same k = ap (λ (es : List (ℕ × Outgoing)). option_and_then (λ o. o.ready) (looked es k)) next ∙ by (eqb_tells number k)
  where
    mapped : (z : Option Outgoing) → option_and_then (λ o. o.ready) (option_map f z) ≡ option_and_then (λ o. o.ready) z
    mapped None = refl
    mapped (Some o) = same o

    by : (((nat_eq number k ≡ true) × (number ≡ k)) ⊎ ((nat_eq number k ≡ false) × (number ≢ k))) → option_and_then (λ o. o.ready) (looked (changed f number a.outgoing) k) ≡ option_and_then (λ o. o.ready) (outgoing_in a k)
    by (inl t) =
        subst (λ (i : ℕ). option_and_then (λ o. o.ready) (looked (changed f number a.outgoing) i) ≡ option_and_then (λ o. o.ready) (outgoing_in a i)) t.1
        (ap (λ (z : Option Outgoing). option_and_then (λ o. o.ready) z) (look-here f number a.outgoing) ∙ mapped (outgoing_in a number))
    by (inr t) = ap (λ (z : Option Outgoing). option_and_then (λ o. o.ready) z) (look-other f number k a.outgoing t.0)

-- nobody is away
abbrev nobody : Away
nobody = record { stays = []; grace = record { lost = 0; resumed = 0 }; keeps_place = false; back = [] }

-- whose socket failed is to be shut down by then
pub past-by : (es fs : List (ℕ × Outgoing)) (number time : ℕ) (line : Line) → fs ≡ changed (marked Fails time) number es → IsListed Fails fs time line → (o : Outgoing) → lookup (nat_eq number) fs ≡ Some o →
    (until : ℕ) × (o.fails ≡ Some until) × (until ≤ time)
past-by es fs number time line next l o is =
    by o.fails refl (marked-some Fails time number (record { outgoing = es; time = time; away = nobody }) (record { outgoing = fs; time = time; away = nobody }) next o is)
  where
    not_true : false ≡ true → ⊥
    not_true e = cc

    by : (z : Option ℕ) → o.fails ≡ z → IsSome z → (until : ℕ) × (o.fails ≡ Some until) × (until ≤ time)
    by None e some = absurd (not_true some)
    by (Some until) e some = (until, e, has-within Fails fs time line number until o l is e)

-- who is to be shut down is so within ten seconds
pub soon-by : (es fs : List (ℕ × Outgoing)) (number t time : ℕ) (line : Line) → fs ≡ changed (marked Ends t) number es → IsListed Ends fs (deadline time) line → (o : Outgoing) → lookup (nat_eq number) fs ≡ Some o →
    (ends : ℕ) × (o.ends ≡ Some ends) × (ends ≤ time + 10000)
soon-by es fs number t time line next l o is =
    by o.ends refl (marked-some Ends t number (record { outgoing = es; time = time; away = nobody }) (record { outgoing = fs; time = time; away = nobody }) next o is)
  where
    not_true : false ≡ true → ⊥
    not_true e = cc

    by : (z : Option ℕ) → o.ends ≡ z → IsSome z → (ends : ℕ) × (o.ends ≡ Some ends) × (ends ≤ time + 10000)
    by None e some = absurd (not_true some)
    by (Some ends) e some =
        let le : ends ≤ deadline time = has-within Ends fs (deadline time) line number ends o l is e in
        (ends, e, omega (arith, le))
