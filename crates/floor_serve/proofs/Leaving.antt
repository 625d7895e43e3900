-- Who has left a booth.
use Rattle.std.proofs.Common.{◌≡◌, inl, inr, ℕ, zero, suc, Bool, true, false, true≢false, cond, List, [], ◌∷◌, map, Option, None, refl, sym, ap, subst, ◌∙◌}
use Rattle.std.specs.Prelude.{◌==◌, is_some}
use Rattle.floor_machine.specs.declared.event.Event.TheVariants.{Leave}
use Rattle.floor_machine.specs.declared.member.Member.{Member}
use Rattle.floor_machine.specs.Conference.{Conference, opening, is_live, member_with}
use Rattle.floor_machine.specs.Change.{change, settled, leaving}
use Rattle.floor_machine.specs.Next.{next}
use Rattle.floor_machine.proofs.Runs.{after_from-more}
use Rattle.floor_machine.proofs.Staying.{live-counted}
use Rattle.floor_room.specs.Ledger.{Ledger, conference_of, with_entry}
use Rattle.floor_room.specs.declared.status.Phase.TheVariants.{Running}
use Rattle.floor_room.specs.declared.status.Status.{Status}
use Rattle.floor_room.specs.Status.{IsStatus, phase_of}
use Rattle.floor_outbox.specs.Ends.{Sender}
use Rattle.floor_serve.specs.Booth.{Applied, Booth, IsClosed, IsGone}
use Rattle.floor_serve.specs.Senders.{sender_of, without}

gone-members : (n : ℕ) (ms : List Member) → is_some (member_with (map (leaving n) ms) n) ≡ false
gone-members n [] = refl
gone-members n (m ∷ ms) = by (m.n == n) refl (gone-members n ms)
  where
    by : (a : Bool) → (m.n == n) ≡ a → is_some (member_with (map (leaving n) ms) n) ≡ false →
        is_some (member_with (cond a (record m { is_live = false }) m ∷ map (leaving n) ms) n) ≡ false
    by true e h = rw e h
    by false e h = rw e h

gone-next : (s : Conference) (n : ℕ) → is_live (next s (Leave n)) n ≡ false
unfolding settled change
gone-next s n = live-counted s (Leave n) n ∙ gone-members n s.members

-- who has left isn't live
pub gone-left : (l : Ledger) (n : ℕ) → is_live (conference_of (with_entry l (Leave n))) n ≡ false
gone-left l n = subst (λ (s : Conference). is_live s n ≡ false) (sym (after_from-more (opening l.config) l.journal (Leave n))) (gone-next (conference_of l) n)

-- a booth from which n has left
pub gone_took : (old new : Booth) (n : ℕ) (more : List (Option Sender)) → Applied old new (Leave n) more → IsGone new n
gone_took old new n more h = inr (inr (ap (λ (b : Booth). is_live (conference_of b.ledger) n) h.next ∙ gone-left old.ledger n))

-- a conference is closed unless it runs
pub closed_of : (b : Booth) (s : Status) → IsStatus b.ledger s → (s.phase ≡ Running → ⊥) → IsClosed b
closed_of b s h other = by b.ledger.is_broken (conference_of b.ledger).is_open refl refl
  where
    by : (k o : Bool) → b.ledger.is_broken ≡ k → (conference_of b.ledger).is_open ≡ o → IsClosed b
    by true o e f = inl e
    by false false e f = inr f
    by false true e f = absurd (other (h.phase ∙ ap (λ (k : Bool). phase_of k (conference_of b.ledger).is_open) e ∙ ap (phase_of false) f))

pub open_of : (b : Booth) (s : Status) → IsStatus b.ledger s → s.phase ≡ Running → IsClosed b → ⊥
open_of b s h runs closed = by b.ledger.is_broken (conference_of b.ledger).is_open refl refl closed
  where
    phase : (k o : Bool) → b.ledger.is_broken ≡ k → (conference_of b.ledger).is_open ≡ o → phase_of k o ≡ Running
    phase k o e f = ap (λ (x : Bool). phase_of x o) (sym e) ∙ ap (phase_of b.ledger.is_broken) (sym f) ∙ sym h.phase ∙ runs

    by : (k o : Bool) → b.ledger.is_broken ≡ k → (conference_of b.ledger).is_open ≡ o → IsClosed b → ⊥
    by true o e f c = let p : phase_of true o ≡ Running = phase true o e f in absurd cc
    by false false e f c = let p : phase_of false false ≡ Running = phase false false e f in absurd cc
    by false true e f (inl x) = absurd (true≢false (sym x ∙ e))
    by false true e f (inr x) = absurd (true≢false (sym f ∙ x))

-- who was parted from has no sender
pub without-none : (os : List (Option Sender)) (n : ℕ) → sender_of (without os n) n ≡ None
without-none os zero = refl
without-none [] (suc k) = refl
without-none (o ∷ os) (suc zero) = refl
without-none (o ∷ os) (suc (suc k)) = without-none os (suc k)
