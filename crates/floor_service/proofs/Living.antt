-- One client beside all else that the service does.
use Rattle.std.proofs.Common.{◌≡◌, ◌≢◌, ◌⊎◌, ℕ, Bool, true, false, List, [], ◌∷◌, ◌++◌, Option, Some, None, length, min, take, nat_eq, refl, sym, ◌∙◌, ap, subst, inl, inr, ◌||◌, ◌&&◌, append_assoc, append-nil}
use Rattle.std.specs.Prelude.{if◌then◌else◌}
use Rattle.std.proofs.lemmas.Bool.{false≢true}
use Rattle.std.proofs.lemmas.Bool.Decides.{eqb_tells}
use Rattle.floor_rpc.specs.declared.answer.Answer.{Answer as Said}
use Rattle.floor_rpc.specs.declared.failure.Failure.{Failure}
use Rattle.std.specs.Prelude.{Result, nat_le, not}
use Rattle.floor_clients.specs.Clients.{Client, answered_at, answered_by, came, came_at, closed, closed_at, ended, ended_at, is_over, new_client, put_told, room, told_if, took_by}
use Rattle.floor_clients.specs.Laws as client_laws
use Rattle.floor_clients.specs.Outgoing.{lent}
use Rattle.floor_clients.specs.Runs.{Step, Runs, Does, Came, Ended, Close, Line, TooLong, Answer, Tell, Pass, Watch, Unwatch, WatchAll, Took, is_serving, told_line}
use Rattle.floor_clients.specs.Runs as client
use Rattle.floor_clients.specs.Served.{Goes}
use Rattle.floor_clients.specs.Wanted.{Told as Tells, is_wanted}
use Rattle.floor_clients.specs.Watched.{next_of}
use Rattle.floor_clients.specs.declared.mode.Mode.{Mode}
use Rattle.floor_clients.specs.declared.standing.Asked.{Asked}
use Rattle.floor_clients.specs.declared.standing.Asked.TheVariants as asked
use Rattle.floor_clients.specs.declared.standing.CloseReason.{CloseReason}
use Rattle.floor_clients.specs.declared.standing.CloseReason.TheVariants as reason
use Rattle.floor_clients.specs.declared.standing.Next.{Next}
use Rattle.floor_clients.specs.declared.standing.Next.TheVariants as gives
use Rattle.floor_clients.specs.declared.standing.Standing.{Standing}
use Rattle.floor_clients.specs.declared.standing.Standing.TheVariants as standing
use Rattle.floor_desk.specs.Attending.{Attends, Each, GoesOnAt, beside, carried, is_beside, is_carried}
use Rattle.floor_desk.specs.Callers.{GoesOnBy, OthersStay, caller_at, lent_to}
use Rattle.floor_desk.specs.Clients.{OrCloses, ServesOrCloses}
use Rattle.floor_desk.specs.declared.caller.Caller.{Caller}
use Rattle.floor_desk.specs.declared.callers.Callers.{Callers}
use Rattle.floor_desk.specs.declared.desk.Desk.{Desk}
use Rattle.floor_desk.proofs.Attended.{runs_then}
use Rattle.floor_service.specs.Calls.{FirstAt, OthersAttend, ServesAfter, ServesAt, Takes}
use Rattle.floor_service.specs.Laws.{EachLineItsAnswer, IsFront, IsOneRun, WatchedIsTold}
use Rattle.floor_service.specs.Runs as service
use Rattle.floor_service.specs.Runs.{AllLeave, Call, Calls, Leaves, came_by, came_of, taken_by, taken_of}

-- ---- what is done besides a client's own line, and while its request is carried out: nothing comes, and nothing is taken

abbrev IsQuiet : (Step → Bool) → Type 0
IsQuiet may = (s : Step) → may s ≡ true → (client.came_of s ≡ []) × (client.taken_of s ≡ [])

never : (b : Bool) → (false || (b && false)) ≡ true → ⊥
never true e = false≢true e
never false e = false≢true e

quiet_carried : (socket slot : ℕ) → IsQuiet (carried socket slot)
quiet_carried socket slot (Came bytes is) e = absurd (never (nat_eq socket slot) e)
quiet_carried socket slot Ended e = (refl, refl)
quiet_carried socket slot (Close why) e = (refl, refl)
quiet_carried socket slot (Line draining line reply) e = (refl, refl)
quiet_carried socket slot TooLong e = (refl, refl)
quiet_carried socket slot (Answer outcome response) e = (refl, refl)
quiet_carried socket slot (Tell t is) e = (refl, refl)
quiet_carried socket slot (Pass conference place is) e = (refl, refl)
quiet_carried socket slot (Watch conference place) e = (refl, refl)
quiet_carried socket slot (Unwatch conference) e = (refl, refl)
quiet_carried socket slot (WatchAll all) e = (refl, refl)
quiet_carried socket slot (Took bytes) e = absurd (never (nat_eq socket slot) e)

quiet_beside : (slot : ℕ) → IsQuiet (beside slot)
quiet_beside slot s e = quiet_carried slot slot s (ap (λ (b : Bool). b || (nat_eq slot slot && is_carried s)) e)

-- Calls of a client by which nothing came and nothing was taken.
record QuietRun (old new : Client) : Type 0 where
  pub steps : List Step
  pub run : Runs steps old new
  pub came : client.came_by steps ≡ []
  pub taken : client.taken_by steps ≡ []

both_none : (xs ys : List ℕ) → xs ≡ [] → ys ≡ [] → xs ++ ys ≡ []
both_none xs ys e f = ap (λ (zs : List ℕ). zs ++ ys) e ∙ f

none_by : (may : Step → Bool) → IsQuiet may → (ss : List Step) → Each may ss → (client.came_by ss ≡ []) × (client.taken_by ss ≡ [])
none_by may q [] e = (refl, refl)
none_by may q (s ∷ ss) e =
    let here = q s e.0 in
    let rest = none_by may q ss e.1 in
    (both_none (client.came_of s) (client.came_by ss) here.0 rest.0, both_none (client.taken_of s) (client.taken_by ss) here.1 rest.1)

came_both : (xs ys : List Step) → client.came_by (xs ++ ys) ≡ client.came_by xs ++ client.came_by ys
came_both [] ys = refl
came_both (x ∷ xs) ys = ap (λ (zs : List ℕ). client.came_of x ++ zs) (came_both xs ys) ∙ sym (append_assoc (client.came_of x) (client.came_by xs) (client.came_by ys))

taken_both : (xs ys : List Step) → client.taken_by (xs ++ ys) ≡ client.taken_by xs ++ client.taken_by ys
taken_both [] ys = refl
taken_both (x ∷ xs) ys = ap (λ (zs : List ℕ). client.taken_of x ++ zs) (taken_both xs ys) ∙ sym (append_assoc (client.taken_of x) (client.taken_by xs) (client.taken_by ys))

-- ---- whoever isn't served any more is never served again

came_standing : (st : Standing) (bytes : List ℕ) (c : Client) → (came_at st bytes c).standing ≡ c.standing
came_standing standing.Serving bytes c = refl
came_standing standing.Ended bytes c = refl
came_standing (standing.Over why) bytes c = refl

answered_standing : (a : Asked) (o : Result Said Failure) (c : Client) → (answered_at a o c).standing ≡ c.standing
answered_standing asked.Nothing o c = refl
answered_standing asked.Silent o c = refl
answered_standing (asked.Answer id) o c = refl

ended_serves : (st : Standing) → is_serving (ended_at st) ≡ false
ended_serves standing.Serving = refl
ended_serves standing.Ended = refl
ended_serves (standing.Over why) = refl

closed_serves : (why : CloseReason) (st : Standing) → is_serving (closed_at why st) ≡ false
closed_serves why standing.Serving = refl
closed_serves why standing.Ended = refl
closed_serves why (standing.Over other) = refl

abbrev serves : Client → Bool
serves c = is_serving c.standing

chosen : (b : Bool) (x y : Client) → serves x ≡ false → serves y ≡ false → serves (if b then x else y) ≡ false
chosen true x y e f = e
chosen false x y e f = f

told_serves : (t : Tells) (c : Client) → serves c ≡ false → serves (told_if t c) ≡ false
told_serves t c e =
    chosen (not (is_over c.standing) && is_wanted c.mode c.watched t) (put_told t c) c (chosen (nat_le (length (told_line t)) (room c)) _ _ e refl) e

answered_serves : (o : Result Said Failure) (c : Client) → serves c ≡ false → serves (answered_by o c) ≡ false
answered_serves o c e = chosen (is_over c.standing) c (answered_at c.asked o c) e (ap is_serving (answered_standing c.asked o c) ∙ e)

untaken : (bytes : List ℕ) (is : Bool) → is ≡ false → client.came_of (Came bytes is) ≡ []
untaken bytes true e = absurd (false≢true (sym e))
untaken bytes false e = refl

same_serves : (old new m : Client) → new ≡ m → serves m ≡ false → serves new ≡ false
same_serves old new m e f = ap serves e ∙ f

still : (s : Step) (old new : Client) → Does s old new → serves old ≡ false → (serves new ≡ false) × (client.came_of s ≡ [])
still (Came bytes is) old new d e =
    (ap serves d.0 ∙ ap is_serving (came_standing old.standing bytes old) ∙ e, untaken bytes is (d.1 ∙ e))
still Ended old new d e = (ap serves d ∙ ended_serves old.standing, refl)
still (Close why) old new d e = (ap serves d ∙ closed_serves why old.standing, refl)
still (Line draining line reply) old new d e = (ap serves d.next ∙ e, refl)
still TooLong old new d e = (ap serves d.next, refl)
still (Answer outcome response) old new d e = (ap serves d.0 ∙ answered_serves outcome old e, refl)
still (Tell t true) old new d e = (ap serves d.0.told ∙ told_serves t old e, refl)
still (Tell t false) old new d e = (ap serves d.0.told ∙ told_serves t old e, refl)
still (Pass conference place is) old new d e = (ap serves d.0 ∙ e, refl)
still (Watch conference place) old new d e = (ap serves d.0 ∙ e, refl)
still (Unwatch conference) old new d e = (ap serves d.0 ∙ e, refl)
still (WatchAll all) old new d e = (ap serves d ∙ e, refl)
still (Took bytes) old new d e = (ap serves d.next ∙ e, refl)

still_by : (ss : List Step) (old new : Client) → Runs ss old new → serves old ≡ false → (serves new ≡ false) × (client.came_by ss ≡ [])
still_by [] old new r e = (ap serves r ∙ e, refl)
still_by (s ∷ ss) old new r e =
    let here = still s old r.0 r.1 e in
    let rest = still_by ss r.0 new r.2 here.0 in
    (rest.0, both_none (client.came_of s) (client.came_by ss) here.1 rest.1)

-- ---- one call of the service, as one client went through it

-- Of what came by the call all was taken in, or nothing, and nothing is from then on.
record IsStep (slot : ℕ) (call : Call) (old new : Client) : Type 0 where
  pub steps : List Step
  pub run : Runs steps old new
  pub came : (client.came_by steps ≡ came_of slot call) ⊎ ((client.came_by steps ≡ []) × (serves new ≡ false))
  pub taken : client.taken_by steps ≡ taken_of slot call

-- the same client is there
abbrev IsThere : (Client → Client → Type 0) → Caller → Option Caller → Type 0
IsThere by c p = (d : Caller) × (p ≡ Some d) × (d.number ≡ c.number) × by c.client d.client

goes_on : (may : Step → Bool) → IsQuiet may → (o p : Option Caller) (c : Caller) → o ≡ Some c → GoesOnAt may o p → IsThere QuietRun c p
goes_on may q o p c there g =
    let h = subst (λ (x : Option Caller). GoesOnAt may x p) there g in
    let none = none_by may q h.2.steps h.2.each in
    (h.0, h.1, h.2.number, record { steps = h.2.steps; run = h.2.run; came = none.0; taken = none.1 })

-- what one call did, and what was done then besides
quietly_then : (slot : ℕ) (call : Call) (a b c : Client) → QuietRun a b → IsStep slot call b c → IsStep slot call a c
quietly_then slot call a b c f g = record {
  steps = f.steps ++ g.steps;
  run = runs_then f.steps g.steps a b c f.run g.run;
  came = by g.came;
  taken = taken_both f.steps g.steps ∙ ap (λ (xs : List ℕ). xs ++ client.taken_by g.steps) f.taken ∙ g.taken;
}
  where
    front : client.came_by (f.steps ++ g.steps) ≡ client.came_by g.steps
    front = came_both f.steps g.steps ∙ ap (λ (xs : List ℕ). xs ++ client.came_by g.steps) f.came

    by : ((client.came_by g.steps ≡ came_of slot call) ⊎ ((client.came_by g.steps ≡ []) × (serves c ≡ false)))
        → ((client.came_by (f.steps ++ g.steps) ≡ came_of slot call) ⊎ ((client.came_by (f.steps ++ g.steps) ≡ []) × (serves c ≡ false)))
    by (inl e) = inl (front ∙ e)
    by (inr e) = inr (front ∙ e.0, e.1)

then_quietly : (slot : ℕ) (call : Call) (a b c : Client) → IsStep slot call a b → QuietRun b c → IsStep slot call a c
then_quietly slot call a b c f g = record {
  steps = f.steps ++ g.steps;
  run = runs_then f.steps g.steps a b c f.run g.run;
  came = by f.came;
  taken = taken_both f.steps g.steps ∙ ap (λ (xs : List ℕ). client.taken_by f.steps ++ xs) g.taken ∙ append-nil (client.taken_by f.steps) ∙ f.taken;
}
  where
    front : client.came_by (f.steps ++ g.steps) ≡ client.came_by f.steps
    front = came_both f.steps g.steps ∙ ap (λ (xs : List ℕ). client.came_by f.steps ++ xs) g.came ∙ append-nil (client.came_by f.steps)

    by : ((client.came_by f.steps ≡ came_of slot call) ⊎ ((client.came_by f.steps ≡ []) × (serves b ≡ false)))
        → ((client.came_by (f.steps ++ g.steps) ≡ came_of slot call) ⊎ ((client.came_by (f.steps ++ g.steps) ≡ []) × (serves c ≡ false)))
    by (inl e) = inl (front ∙ e)
    by (inr e) = inr (front ∙ e.0, (still_by g.steps b c g.run e.1).0)

quiet_step : (slot : ℕ) (call : Call) (a b : Client) → came_of slot call ≡ [] → taken_of slot call ≡ [] → QuietRun a b → IsStep slot call a b
quiet_step slot call a b came taken g = record { steps = g.steps; run = g.run; came = inl (g.came ∙ sym came); taken = g.taken ∙ sym taken }

one_step : (slot : ℕ) (call : Call) (s : Step) (a b : Client) → Does s a b → client.came_of s ≡ came_of slot call → client.taken_of s ≡ taken_of slot call → IsStep slot call a b
one_step slot call s a b does came taken = record {
  steps = s ∷ [];
  run = (b, does, refl);
  came = inl (append-nil (client.came_of s) ∙ came);
  taken = append-nil (client.taken_of s) ∙ taken;
}

closing_step : (slot : ℕ) (call : Call) (why : CloseReason) (a b : Client) → b ≡ closed why a → taken_of slot call ≡ [] → IsStep slot call a b
closing_step slot call why a b same taken = record {
  steps = Close why ∷ [];
  run = (b, same, refl);
  came = inr (refl, ap serves same ∙ closed_serves why a.standing);
  taken = sym taken;
}

stays : (slot : ℕ) (call : Call) (a : Client) → came_of slot call ≡ [] → taken_of slot call ≡ [] → IsStep slot call a a
stays slot call a came taken = record { steps = []; run = refl; came = inl (sym came); taken = sym taken }

-- ---- the client at the socket of a call, or at another

abbrev Told : ℕ → ℕ → Type 0
Told socket slot = ((nat_eq socket slot ≡ true) × (socket ≡ slot)) ⊎ ((nat_eq socket slot ≡ false) × (socket ≢ slot))

first_at : (socket slot : ℕ) (call : Call) (may : ℕ → Step → Bool) (by : Client → Client → Type 0) (old between new : Callers) (c : Caller) → IsQuiet (may slot) → caller_at old slot ≡ Some c →
    GoesOnBy by (caller_at old socket) (caller_at between socket) → OthersStay socket old between → Attends may between new →
    (nat_eq socket slot ≡ true → (m : Client) → by c.client m → IsStep slot call c.client m) →
    (nat_eq socket slot ≡ false → (came_of slot call ≡ []) × (taken_of slot call ≡ [])) → Told socket slot →
    IsThere (IsStep slot call) c (caller_at new slot)
first_at socket slot call may by old between new c q there here others rest is none (inl u) =
    let h = subst (λ (k : ℕ). GoesOnBy by (caller_at old k) (caller_at between k)) u.1 here in
    let g = subst (λ (x : Option Caller). GoesOnBy by x (caller_at between slot)) there h in
    let r = goes_on (may slot) q (caller_at between slot) (caller_at new slot) g.0 g.1 (rest.here slot) in
    (r.0, r.1, r.2 ∙ g.2, then_quietly slot call c.client g.0.client r.0.client (is u.0 g.0.client g.4) r.3)
first_at socket slot call may by old between new c q there here others rest is none (inr u) =
    let r = goes_on (may slot) q (caller_at between slot) (caller_at new slot) c (others slot u.0 ∙ there) (rest.here slot) in
    let e = none u.0 in
    (r.0, r.1, r.2, quiet_step slot call c.client r.0.client e.0 e.1 r.3)

-- ---- each call

came_at_socket : (socket slot : ℕ) (bytes : List ℕ) (c m : Client) → nat_eq socket slot ≡ true → OrCloses (came bytes) c m → IsStep slot (service.Came socket bytes) c m
came_at_socket socket slot bytes c m e (inl u) = by (is_serving c.standing) refl
  where
    all : came_of slot (service.Came socket bytes) ≡ bytes
    all = ap (λ (b : Bool). if b then bytes else []) e

    by : (b : Bool) → is_serving c.standing ≡ b → IsStep slot (service.Came socket bytes) c m
    by true is = one_step slot (service.Came socket bytes) (Came bytes true) c m (u, sym is) (sym all) refl
    by false is = record {
      steps = Came bytes false ∷ [];
      run = (m, (u, sym is), refl);
      came = inr (refl, ap serves u ∙ ap is_serving (came_standing c.standing bytes c) ∙ is);
      taken = refl;
    }
came_at_socket socket slot bytes c m e (inr u) = closing_step slot (service.Came socket bytes) reason.Memory c m u refl

came_elsewhere : (socket slot : ℕ) (bytes : List ℕ) → nat_eq socket slot ≡ false → (if nat_eq socket slot then bytes else []) ≡ []
came_elsewhere socket slot bytes e = ap (λ (b : Bool). if b then bytes else []) e

served_at : (socket slot : ℕ) (draining : Bool) (next : Next) (c m : Client) → Goes draining next c m → IsStep slot (service.Serve socket) c m
served_at socket slot draining gives.Nothing c m g = subst (λ (x : Client). IsStep slot (service.Serve socket) c x) (sym g.1) (stays slot (service.Serve socket) c refl refl)
served_at socket slot draining gives.Served c m g = one_step slot (service.Serve socket) (Line draining g.0 g.1) c m g.2 refl refl
served_at socket slot draining (gives.Task call) c m g = one_step slot (service.Serve socket) (Line draining g.0 g.1) c m g.2 refl refl
served_at socket slot draining gives.Closed c m g = one_step slot (service.Serve socket) TooLong c m g refl refl

serves_or_closes : (socket slot : ℕ) (draining : Bool) (next : Next) (c m : Client) → ServesOrCloses draining next c m → IsStep slot (service.Serve socket) c m
serves_or_closes socket slot draining next c m (inl g) = served_at socket slot draining next c m g
serves_or_closes socket slot draining next c m (inr g) = closing_step slot (service.Serve socket) reason.Memory c m g.1 refl

-- so much of what was lent to who is at a socket, or all
abbrev lent_by : ℕ → Option Caller → List ℕ
lent_by count p = take (min count (length (lent_to p))) (lent_to p)

took_at_socket : (socket slot count : ℕ) (bytes : List ℕ) (c m : Client) → nat_eq socket slot ≡ true → bytes ≡ take (min count (length (lent c.outgoing))) (lent c.outgoing) → Takes count c m
    → IsStep slot (service.Took socket bytes) c m
took_at_socket socket slot count bytes c m e are took =
    one_step slot (service.Took socket bytes) (Took bytes) c m (record { count = count; bytes_are = are; next = took }) refl (sym (ap (λ (b : Bool). if b then bytes else []) e))

one_call : (slot : ℕ) (call : Call) (old new : Desk) (c : Caller) → caller_at old.callers slot ≡ Some c → Leaves slot call → service.Does call old new → IsThere (IsStep slot call) c (caller_at new.callers slot)
one_call slot (service.Came socket bytes) old new c there leaves d =
    first_at socket slot (service.Came socket bytes) beside (OrCloses (came bytes)) old.callers d.between new.callers c (quiet_beside slot) there d.here d.others d.rest
    (λ e m. came_at_socket socket slot bytes c.client m e) (λ e. (came_elsewhere socket slot bytes e, refl)) (eqb_tells socket slot)
one_call slot (service.Ended socket) old new c there leaves d =
    first_at socket slot (service.Ended socket) beside (λ before after. after ≡ ended before) old.callers d.between new.callers c (quiet_beside slot) there d.here d.others d.rest
    (λ e m u. one_step slot (service.Ended socket) Ended c.client m u refl refl) (λ e. (refl, refl)) (eqb_tells socket slot)
one_call slot (service.Took socket bytes) old new c there leaves d =
    first_at socket slot (service.Took socket bytes) beside (Takes d.0) old.callers d.2.between new.callers c (quiet_beside slot) there d.2.here d.2.others d.2.rest
    (λ e m u. took_at_socket socket slot d.0 bytes c.client m e (lent_here e) u) (λ e. (refl, came_elsewhere socket slot bytes e)) (eqb_tells socket slot)
  where
    at : Told socket slot → nat_eq socket slot ≡ true → bytes ≡ lent_by d.0 (caller_at old.callers slot)
    at (inl u) e = d.1 ∙ ap (λ (k : ℕ). lent_by d.0 (caller_at old.callers k)) u.1
    at (inr u) e = absurd (false≢true (sym u.0 ∙ e))

    lent_here : nat_eq socket slot ≡ true → bytes ≡ lent_by d.0 (Some c)
    lent_here e = at (eqb_tells socket slot) e ∙ ap (λ (p : Option Caller). lent_by d.0 p) there
one_call slot (service.Serve socket) old new c there leaves d =
    let f = goes_on is_beside (quiet_beside slot) (caller_at old.callers slot) (caller_at d.before slot) c there (d.attends.here slot) in
    let g = first_at socket slot (service.Serve socket) (carried socket) (ServesOrCloses old.is_draining d.serves.next) d.before d.serves.between new.callers f.0 (quiet_carried socket slot) f.1
    d.serves.here d.serves.others d.serves.rest (λ e m u. serves_or_closes socket slot old.is_draining d.serves.next f.0.client m u) (λ e. (refl, refl)) (eqb_tells socket slot) in
    (g.0, g.1, g.2 ∙ f.2, quietly_then slot (service.Serve socket) c.client f.0.client g.0.client f.3 g.3)
one_call slot (service.Seats socket) old new c there leaves d =
    let f = goes_on is_beside (quiet_beside slot) (caller_at old.callers slot) (caller_at new.callers slot) c there (d slot leaves) in
    (f.0, f.1, f.2, quiet_step slot (service.Seats socket) c.client f.0.client refl refl f.3)
one_call slot service.Other old new c there leaves d =
    let f = goes_on is_beside (quiet_beside slot) (caller_at old.callers slot) (caller_at new.callers slot) c there (d.here slot) in
    (f.0, f.1, f.2, quiet_step slot service.Other c.client f.0.client refl refl f.3)

-- ---- and calls, one after another

abbrev OneRun : ℕ → List Call → Client → Client → Type 0
OneRun slot calls a b = (steps : List Step) × IsOneRun slot calls steps a b

run_then : (slot : ℕ) (call : Call) (calls : List Call) (a b c : Client) → IsStep slot call a b → OneRun slot calls b c → OneRun slot (call ∷ calls) a c
run_then slot call calls a b c f g = (
  f.steps ++ g.0,
  record {
    run = runs_then f.steps g.0 a b c f.run g.1.run;
    came = by f.came;
    taken = taken_both f.steps g.0 ∙ ap (λ (xs : List ℕ). xs ++ client.taken_by g.0) f.taken ∙ ap (λ (xs : List ℕ). taken_of slot call ++ xs) g.1.taken;
  },
)
  where
    by : ((client.came_by f.steps ≡ came_of slot call) ⊎ ((client.came_by f.steps ≡ []) × (serves b ≡ false))) → IsFront (client.came_by (f.steps ++ g.0)) (came_by slot (call ∷ calls))
    by (inl e) = (
      g.1.came.0,
      ap (λ (xs : List ℕ). came_of slot call ++ xs) g.1.came.1
          ∙ sym (append_assoc (came_of slot call) (client.came_by g.0) g.1.came.0)
          ∙ ap (λ (xs : List ℕ). (xs ++ client.came_by g.0) ++ g.1.came.0) (sym e)
          ∙ ap (λ (xs : List ℕ). xs ++ g.1.came.0) (sym (came_both f.steps g.0)),
    )
    by (inr e) = (
      came_by slot (call ∷ calls),
      ap (λ (xs : List ℕ). xs ++ came_by slot (call ∷ calls)) (sym (came_both f.steps g.0 ∙ both_none (client.came_by f.steps) (client.came_by g.0) e.0 (still_by g.0 b c g.1.run e.1).1)),
    )

pub lived : (slot : ℕ) (calls : List Call) (old new : Desk) (c : Caller) → caller_at old.callers slot ≡ Some c → AllLeave slot calls → Calls calls old new → IsThere (OneRun slot calls) c (caller_at new.callers slot)
lived slot [] old new c there leave run =
    (c, ap (λ (k : Desk). caller_at k.callers slot) run ∙ there, refl, ([], record { run = refl; came = ([], refl); taken = refl }))
lived slot (call ∷ calls) old new c there leave run =
    let f = one_call slot call old run.0 c there leave.0 run.1 in
    let g = lived slot calls run.0 new f.0 f.1 leave.1 run.2 in
    (g.0, g.1, g.2 ∙ f.2, run_then slot call calls c.client f.0.client g.0.client f.3 g.3)

-- ---- the laws

pub each_line_its_answer : client_laws.EachLineItsAnswer → EachLineItsAnswer
each_line_its_answer law slot mode calls joined last c there new leave run =
    let l = lived slot calls joined last c there leave run in
    let steps = l.3.0 in
    (l.0, l.1, l.2, (steps, l.3.1, law mode steps l.0.client (subst (λ (x : Client). Runs steps x l.0.client) new l.3.1.run)))

pub watched_is_told : client_laws.WatchedIsTold → WatchedIsTold
watched_is_told law slot conference from calls first last c there watches leave run =
    let l = lived slot calls first last c there leave run in
    (l.0, l.1, l.2, (l.3.0, l.3.1, λ steps_leave over. law conference from l.3.0 c.client l.0.client watches steps_leave l.3.1.run over))
