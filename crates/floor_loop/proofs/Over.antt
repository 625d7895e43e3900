-- Whoever is told nothing more is told nothing more later.
use Rattle.std.proofs.Common.{◌≡◌, ◌≢◌, ◌⊎◌, inl, inr, ℕ, Bool, true, false, cond, List, [], ◌∷◌, ◌++◌, refl, sym, ◌∙◌, ap, Some, None}
use Rattle.std.specs.Prelude.{Option, is_some, nat_eq, ◌&&◌, ◌||◌, not}
use Rattle.std.proofs.lemmas.Bool.Decides.{eqb_tells}
use Rattle.floor_config.specs.Configuration.{Configuration}
use Rattle.floor_message.specs.Ask.{Answer, asks, refused, unanswered, ask}
use Rattle.floor_machine.specs.Change.{asked_change, change, message_change, no_change, settled}
use Rattle.floor_machine.specs.Checks.{refusal}
use Rattle.floor_machine.specs.Conference as machine
use Rattle.floor_machine.specs.Conference.{Conference, binding, binding_for, opening, user_of}
use Rattle.floor_machine.specs.Said.{said}
use Rattle.floor_machine.specs.declared.event.Event.{Event}
use Rattle.floor_machine.specs.declared.event.Event.TheVariants.{Join, Message, Took, Leave, Revoke, Close, AddUser, AddFloor, SetChair, Say}
use Rattle.floor_machine.specs.Journal.{after, after_from}
use Rattle.floor_machine.specs.Next.{next}
use Rattle.floor_machine.proofs.Counted.{cut-next}
use Rattle.floor_room.specs.Ledger.{Ledger, conference_of}
use Rattle.floor_room.specs.Room.{Room}
use Rattle.floor_machine.specs.Parcel.{Parcel}
use Rattle.floor_hub.specs.Hub.{Hub, room_at}
use Rattle.floor_hub.specs.Rooms.{TakenEach, TookEach}
use Rattle.floor_loop.specs.Written.{IsOver}
use Rattle.floor_loop.specs.steps.Moved.{Grows, SameLedgers}

-- a message leaves a conference as open as it is
open-message : (s : Conference) (n : Option ℕ) (user : ℕ) (a : Answer) → (message_change s n user a).is_open ≡ s.is_open
open-message s n user unanswered = refl
open-message s n user (refused code details) = refl
open-message s n user (asks a) = by (is_some (refusal s user a))
  where
    by : (b : Bool) → (cond b (no_change s) (asked_change s n user a)).is_open ≡ s.is_open
    by true = refl
    by false = refl

-- no event opens a closed one
closed-change : (s : Conference) (e : Event) → s.is_open ≡ false → (change s e).is_open ≡ false
unfolding change
closed-change s (Join user) h = h
closed-change s (Message n bytes) h = open-message s (Some n) (user_of s n) (ask bytes (binding s n)) ∙ h
closed-change s (Took n k) h = h
closed-change s (Leave n) h = h
closed-change s (Revoke request) h = h
closed-change s Close h = refl
closed-change s (AddUser user) h = h
closed-change s (AddFloor floor) h = h
closed-change s (SetChair floor chair) h = h
closed-change s (Say user bytes) h = open-message s None user (said bytes (binding_for s user)) ∙ h

closed-next : (s : Conference) (e : Event) → s.is_open ≡ false → (next s e).is_open ≡ false
unfolding next settled
closed-next s e h = closed-change s e h

closed-from : (s : Conference) (es : List Event) → s.is_open ≡ false → (after_from s es).is_open ≡ false
closed-from s [] h = h
closed-from s (e ∷ es) h = closed-from (next s e) es (closed-next s e h)

cut-from : (s : Conference) (es : List Event) (n : ℕ) → machine.is_cut s n ≡ true → machine.is_cut (after_from s es) n ≡ true
cut-from s [] n h = h
cut-from s (e ∷ es) n h = cut-from (next s e) es n (cut-next s e n h)

after-append : (s : Conference) (es fs : List Event) → after_from s (es ++ fs) ≡ after_from (after_from s es) fs
after-append s [] fs = refl
after-append s (e ∷ es) fs = after-append (next s e) es fs

both-true : (a b : Bool) → (a && b) ≡ true → b ≡ true
both-true true b e = e
both-true false b e = absurd (not_true e)
  where
    not_true : false ≡ true → ⊥
    not_true h = cc

-- the conference of a room that has grown
grown : (r s : Room) (g : Grows r s) → conference_of s.ledger ≡ after_from (conference_of r.ledger) g.more
grown r s g =
    ap (λ (c : Configuration). after c s.ledger.journal) g.config ∙ ap (λ (es : List Event). after r.ledger.config es) g.journal ∙ after-append (opening r.ledger.config) r.ledger.journal g.more

pub over-grows : (r s : Room) (n : ℕ) → Grows r s → IsOver r n → IsOver s n
over-grows r s n g (inl cut) = by s.ledger.is_broken refl
  where
    still : machine.is_cut (conference_of s.ledger) n ≡ true
    still =
        ap (λ (c : Conference). machine.is_cut c n) (grown r s g)
        ∙ cut-from (conference_of r.ledger) g.more n (both-true (not r.ledger.is_broken) (machine.is_cut (conference_of r.ledger) n) cut)

    by : (b : Bool) → s.ledger.is_broken ≡ b → IsOver s n
    by true e = inr (ap (λ (b : Bool). b || not (conference_of s.ledger).is_open) e)
    by false e = inl (ap (λ (b : Bool). not b && machine.is_cut (conference_of s.ledger) n) e ∙ still)
over-grows r s n g (inr shut) = by r.ledger.is_broken refl
  where
    as_closed : (b : Bool) → not b ≡ true → b ≡ false
    as_closed false e = refl
    as_closed true e = absurd (not_true e)
      where
        not_true : false ≡ true → ⊥
        not_true h = cc

    or-true : (b : Bool) → (b || true) ≡ true
    or-true true = refl
    or-true false = refl

    by : (b : Bool) → r.ledger.is_broken ≡ b → IsOver s n
    by true e = inr (ap (λ (b : Bool). b || not (conference_of s.ledger).is_open) (g.broken e))
    by false e =
        let was : (conference_of r.ledger).is_open ≡ false = as_closed (conference_of r.ledger).is_open (sym (ap (λ (b : Bool). b || not (conference_of r.ledger).is_open) e) ∙ shut) in
        let now : (conference_of s.ledger).is_open ≡ false = ap (λ (c : Conference). c.is_open) (grown r s g) ∙ closed-from (conference_of r.ledger) g.more was in
        inr (ap (λ (o : Bool). s.ledger.is_broken || not o) now ∙ or-true s.ledger.is_broken)

-- nothing more is told by a room with the same ledger
pub over-same : (r s : Room) (m n : ℕ) → s.ledger ≡ r.ledger → n ≡ m → IsOver r m → IsOver s n
over-same r s m n ledger place (inl cut) =
    inl (ap (λ (l : Ledger). not l.is_broken && machine.is_cut (conference_of l) n) ledger ∙ ap (λ (i : ℕ). not r.ledger.is_broken && machine.is_cut (conference_of r.ledger) i) place ∙ cut)
over-same r s m n ledger place (inr shut) = inr (ap (λ (l : Ledger). l.is_broken || not (conference_of l).is_open) ledger ∙ shut)

some_room : (r s : Room) → ◌≡◌ {A = Option Room} (Some r) (Some s) → r ≡ s
some_room r s e = cc

-- what was taken out of a room leaves its ledger
pub each-ledger : (r s : Room) (n : ℕ) (ps : List Parcel) → TookEach r s n ps → s.ledger ≡ r.ledger
each-ledger r s n [] h = ap (λ (z : Room). z.ledger) h
each-ledger r s n (p ∷ ps) h = each-ledger h.0 s n ps h.3 ∙ ap (λ (z : Room). z.ledger) h.2.same

pub from-ledgers : (c n : ℕ) (parcels : List Parcel) (old new : Hub) → TakenEach c n parcels old new → SameLedgers old new
from-ledgers c n parcels old new f d r is = by (eqb_tells c d)
  where
    by : (((nat_eq c d ≡ true) × (c ≡ d)) ⊎ ((nat_eq c d ≡ false) × (c ≢ d))) → (s : Room) × (room_at new d ≡ Some s) × (s.ledger ≡ r.ledger)
    by (inl t) = (f.after, ap (room_at new) (sym t.1) ∙ f.now, each-ledger f.before f.after n parcels f.took ∙ ap (λ (z : Room). z.ledger) (some_room f.before r (sym f.was ∙ ap (room_at old) t.1 ∙ is)))
    by (inr t) = (r, f.others d t.0 ∙ is, refl)
