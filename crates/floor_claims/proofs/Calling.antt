-- One call, and one after another.
use Rattle.std.proofs.Common.{◌≡◌, inl, inr, ℕ, zero, suc, ◌≤◌, Bool, true, false, cond, List, [], ◌∷◌, ◌++◌, length, take, refl, sym, ◌∙◌, ap, subst, arith, append_assoc, append-nil}
use Rattle.std.specs.Prelude.{Result, Ok, Err, OnOk, nat_eq}
use Rattle.std.proofs.lemmas.Bool.Decides.{eqb_tells}
use Rattle.floor_room.specs.Status.{phase_of}
use Rattle.floor_room.specs.declared.status.Phase.TheVariants.{Running, Ended}
use Rattle.floor_hub.specs.declared.step.Step.{Step}
use Rattle.floor_hub.specs.Runs.{alone, events, run}
use Rattle.floor_hub.specs.StandsFor.{StandsFor}
use Rattle.floor_hub.specs.World.{World, nothing, turn}
use Rattle.floor_loop.specs.Done.{Steps}
use Rattle.floor_loop.specs.Laws.{Call, Calls, IsFront, IsLive, WrittenIsCalledFor, bytes_by, parcels_by, steps_of}
use Rattle.floor_loop.specs.Loop.{Loop}
use Rattle.floor_loop.specs.Written.{IsServing, Took}
use Rattle.floor_claims.specs.Claim.{IsWhole, IsWritten}
use Rattle.floor_claims.specs.steps.Led.{IsBegun, Led, Writes}

pub run-append : (w : World) (ss ts : List Step) → run w (ss ++ ts) ≡ run (run w ss) ts
run-append w [] ts = refl
run-append w (s ∷ ss) ts = run-append (turn w s).world ss ts

same : (number : ℕ) → nat_eq number number ≡ true
same number = elim (eqb_tells number number) [ inl t ↦ t.0 | inr t ↦ absurd (t.1 refl) ]

module _ (number : ℕ) (Are : List Step → Type 0) (old new : Loop) (bytes : List ℕ) (parcels : ℕ) where
  -- one call, of which the clauses say this
  pub one-call : Steps Are old.hub new.hub → Took old new number bytes parcels → IsLive new number → IsServing new → Led number old new bytes
  one-call steps took live serving w stands =
      let g = steps w stands in
      let call : Call = record { steps = g.steps; number = number; bytes = bytes; parcels = parcels } in
      let did : Took old new number (cond (nat_eq number number) bytes []) (cond (nat_eq number number) parcels 0) =
      subst (λ (b : Bool). Took old new number (cond b bytes []) (cond b parcels 0)) (sym (same number)) took in
      record {
        calls = call ∷ [];
        are = (new, record { stands = g.stands; took = did; serving = serving }, live, refl);
        stands = subst (λ (ss : List Step). StandsFor new.hub (run w ss)) (sym (append-nil g.steps)) g.stands;
        taken = append-nil (cond (nat_eq number number) bytes []) ∙ ap (λ (b : Bool). cond b bytes []) (same number);
      }

steps-both : (cs ds : List Call) → steps_of (cs ++ ds) ≡ steps_of cs ++ steps_of ds
steps-both [] ds = refl
steps-both (c ∷ cs) ds = ap (λ (ss : List Step). c.steps ++ ss) (steps-both cs ds) ∙ sym (append_assoc c.steps (steps_of cs) (steps_of ds))

bytes-both : (number : ℕ) (cs ds : List Call) → bytes_by number (cs ++ ds) ≡ bytes_by number cs ++ bytes_by number ds
bytes-both number [] ds = refl
bytes-both number (c ∷ cs) ds =
    ap (λ (bs : List ℕ). cond (nat_eq c.number number) c.bytes [] ++ bs) (bytes-both number cs ds)
    ∙ sym (append_assoc (cond (nat_eq c.number number) c.bytes []) (bytes_by number cs) (bytes_by number ds))

calls-both : (number : ℕ) (w : World) (cs ds : List Call) (a b c : Loop) → Calls number w cs a b → Calls number (run w (steps_of cs)) ds b c → Calls number w (cs ++ ds) a c
calls-both number w [] ds a b c f g = subst (λ (l : Loop). Calls number w ds l c) f g
calls-both number w (d ∷ cs) ds a b c f g =
    (f.0, f.1, f.2, calls-both number (run w d.steps) cs ds f.0 b c f.3 (subst (λ (v : World). Calls number v ds b c) (run-append w d.steps (steps_of cs)) g))

-- calls, and calls behind them
pub led-both : (number : ℕ) (a b c : Loop) (first next : List ℕ) → Led number a b first → Led number b c next → Led number a c (first ++ next)
led-both number a b c first next f g w stands =
    let u = f w stands in
    let v = g (run w (steps_of u.calls)) u.stands in
    record {
      calls = u.calls ++ v.calls;
      are = calls-both number w u.calls v.calls a b c u.are v.are;
      stands = subst (λ (ss : List Step). StandsFor c.hub (run w ss)) (sym (steps-both u.calls v.calls)) (subst (StandsFor c.hub) (sym (run-append w (steps_of u.calls) (steps_of v.calls))) v.stands);
      taken = bytes-both number u.calls v.calls ∙ ap (λ (bs : List ℕ). bs ++ bytes_by number v.calls) u.taken ∙ ap (λ (bs : List ℕ). first ++ bs) v.taken;
    }

pub writes-led : (number : ℕ) (a b c : Loop) (was is : List ℕ) → Led number a b [] → Writes number b c was is → Writes number a c was is
writes-led number a b c was is f g = record { bytes = g.bytes; grew = g.grew; led = led-both number a b c [] g.bytes f g.led }

pub writes-both : (number : ℕ) (a b c : Loop) (was mid is : List ℕ) → Writes number a b was mid → Writes number b c mid is → Writes number a c was is
writes-both number a b c was mid is f g = record {
  bytes = f.bytes ++ g.bytes;
  grew = g.grew ∙ ap (λ (l : List ℕ). l ++ g.bytes) f.grew ∙ append_assoc was f.bytes g.bytes;
  led = led-both number a b c f.bytes g.bytes f.led g.led;
}

-- the law, for these calls
pub concluded : WrittenIsCalledFor → (number : ℕ) (first last : Loop) (taken : List ℕ) → IsBegun first number → Writes number first last [] taken → IsWhole last number → IsWritten last number taken
concluded law number first last taken b w h =
    let g = w.led (run nothing b.before) b.stands in
    let steps = b.before ++ steps_of g.calls in
    let all = law b.before g.calls first last number b.stands b.serving b.new g.are h.connection h.room h.live h.there h.whole in
    record {
      steps = steps;
      stands = subst (StandsFor last.hub) (sym (run-append nothing b.before (steps_of g.calls))) g.stands;
      connection = h.connection;
      live = h.live;
      config = h.room.ledger.config;
      opened = all.0;
      parcels = parcels_by number g.calls;
      front = subst (λ (bs : List ℕ). IsFront h.room.ledger.config (events h.connection.conference (alone h.connection.conference steps)) h.connection.n bs (parcels_by number g.calls))
          (g.taken ∙ sym w.grew) all.1;
    }

-- what is lent and what is taken of it

short : (k : ℕ) (bytes : List ℕ) → length (take k bytes) ≤ length bytes
short zero bytes = omega arith
short (suc k) [] = omega arith
short (suc k) (b ∷ bs) = let t = short k bs in omega (arith, t)

pub within : (k count : ℕ) (bytes : List ℕ) → count ≤ length (take k bytes) → count ≤ length bytes
within k count bytes le = let t = short k bytes in omega (arith, t, le)

pub cut : (k count : ℕ) (bytes : List ℕ) → count ≤ length (take k bytes) → take count (take k bytes) ≡ take count bytes
cut k zero bytes le = refl
cut zero (suc count) bytes le = absurd (omega (arith, le))
cut (suc k) (suc count) [] le = absurd (omega (arith, le))
cut (suc k) (suc count) (b ∷ bs) le = ap (λ (l : List ℕ). b ∷ l) (cut k count bs (omega (arith, le)))

-- another number
pub apart : (j k : ℕ) → (j ≡ k → ⊥) → nat_eq j k ≡ false
apart j k never = elim (eqb_tells j k) [ inl t ↦ absurd (never t.1) | inr t ↦ t.0 ]

pub on-ok-of : {T E : Type 0} (P Q : Type 0) (res : Result T E) → (P → Q) → OnOk res P → OnOk res Q
on-ok-of P Q (Ok v) f p = f p
on-ok-of P Q (Err r) f p = tt

-- a conference that stands so isn't broken off
pub running : (is_broken is_open : Bool) → Running ≡ phase_of is_broken is_open → is_broken ≡ false
running true is_open e = absurd cc
running false is_open e = refl

pub ended : (is_broken is_open : Bool) → Ended ≡ phase_of is_broken is_open → is_broken ≡ false
ended true is_open e = absurd cc
ended false is_open e = refl
