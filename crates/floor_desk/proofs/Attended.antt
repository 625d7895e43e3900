-- Calls behind calls, and calls that do nothing.
use Rattle.std.proofs.Common.{◌≡◌, ◌≢◌, ◌⊎◌, ℕ, Bool, true, false, List, [], ◌∷◌, ◌++◌, Option, Some, None, Result, Ok, Err, OnOk, OnErr, nat_eq, refl, sym, ◌∙◌, subst, ap, inl, inr, ◌||◌, ◌&&◌}
use Rattle.std.proofs.lemmas.Bool.Decides.{eqb_tells}
use Rattle.floor_clients.specs.Clients.{Client, answered_by, closed}
use Rattle.floor_clients.specs.Runs.{Step, Runs, Does, Answer, Close, Pass, Tell, Unwatch, Watch, WatchAll, is_next, is_told, response_to}
use Rattle.floor_clients.specs.Wanted.{Told}
use Rattle.floor_clients.specs.Watched.{next_of}
use Rattle.floor_clients.specs.declared.standing.CloseReason.{CloseReason}
use Rattle.floor_clients.specs.declared.standing.CloseReason.TheVariants as reason
use Rattle.floor_rpc.specs.declared.answer.Answer.{Answer as Said}
use Rattle.floor_rpc.specs.declared.failure.Failure.{Failure}
use Rattle.floor_desk.specs.Attending.{Attends, Each, GoesOn, GoesOnAt, beside, carried, is_beside, is_carried}
use Rattle.floor_desk.specs.Callers.{EndsTask, GoesOnBy, OthersStay, Same, caller_at}
use Rattle.floor_desk.specs.Clients.{OrCloses, PassesOrStays, TellsOrCloses, Watches}
use Rattle.floor_desk.specs.declared.caller.Caller.{Caller}
use Rattle.floor_desk.specs.declared.caller.PlaceOf.{PlaceOf}
use Rattle.floor_desk.specs.declared.caller.Task.{Task}
use Rattle.floor_desk.specs.declared.callers.Callers.{Callers}

-- two runs, one behind the other, are one
pub runs_then : (xs ys : List Step) (a b c : Client) → Runs xs a b → Runs ys b c → Runs (xs ++ ys) a c
runs_then [] ys a b c r s = subst (λ (x : Client). Runs ys x c) r s
runs_then (x ∷ xs) ys a b c r s = (r.0, r.1, runs_then xs ys r.0 b c r.2 s)

each_then : (may : Step → Bool) (xs ys : List Step) → Each may xs → Each may ys → Each may (xs ++ ys)
each_then may [] ys e f = f
each_then may (x ∷ xs) ys e f = (e.0, each_then may xs ys e.1 f)

each_weaker : (may more : Step → Bool) → ((s : Step) → may s ≡ true → more s ≡ true) → (xs : List Step) → Each may xs → Each more xs
each_weaker may more w [] e = e
each_weaker may more w (x ∷ xs) e = (w x e.0, each_weaker may more w xs e.1)

-- nothing was done
pub stays_at : (may : Step → Bool) (o : Option Caller) → GoesOnAt may o o
stays_at may None = refl
stays_at may (Some c) = (c, refl, record { steps = []; run = refl; each = tt; number = refl })

pub attends_same : (may : ℕ → Step → Bool) (a : Callers) → Attends may a a
attends_same may a = record { here = λ slot. stays_at (may slot) (caller_at a slot) }

-- of a client that is there
pub goes_on_then : (may : Step → Bool) (c d e : Caller) → GoesOn may c d → GoesOn may d e → GoesOn may c e
goes_on_then may c d e f g = record {
  steps = f.steps ++ g.steps;
  run = runs_then f.steps g.steps c.client d.client e.client f.run g.run;
  each = each_then may f.steps g.steps f.each g.each;
  number = g.number ∙ f.number;
}

pub then_at : (may : Step → Bool) (o p q : Option Caller) → GoesOnAt may o p → GoesOnAt may p q → GoesOnAt may o q
then_at may None p q f g = subst (λ (x : Option Caller). GoesOnAt may x q) f g
then_at may (Some c) p q f g =
    let h = subst (λ (x : Option Caller). GoesOnAt may x q) f.1 g in
    (h.0, h.1, goes_on_then may c f.0 h.0 f.2 h.2)

-- one behind another
pub attends_then : (may : ℕ → Step → Bool) (a b c : Callers) → Attends may a b → Attends may b c → Attends may a c
attends_then may a b c f g = record { here = λ slot. then_at (may slot) (caller_at a slot) (caller_at b slot) (caller_at c slot) (f.here slot) (g.here slot) }

-- where more may be
more_at : (may more : Step → Bool) → ((s : Step) → may s ≡ true → more s ≡ true) → (o p : Option Caller) → GoesOnAt may o p → GoesOnAt more o p
more_at may more w None p f = f
more_at may more w (Some c) p f = (f.0, f.1, record { steps = f.2.steps; run = f.2.run; each = each_weaker may more w f.2.steps f.2.each; number = f.2.number })

or_more : (a b : Bool) → a ≡ true → (a || b) ≡ true
or_more a b e = ap (λ (x : Bool). x || b) e

pub beside_is_carried : (socket : ℕ) (a b : Callers) → Attends beside a b → Attends (carried socket) a b
beside_is_carried socket a b f = record {
  here = λ slot. more_at is_beside (carried socket slot) (λ s e. or_more (is_beside s) (nat_eq socket slot && is_carried s) e) (caller_at a slot) (caller_at b slot) (f.here slot);
}

-- where one client alone went on
pub attends_at : (may : ℕ → Step → Bool) (slot : ℕ) (a b : Callers) → OthersStay slot a b → GoesOnAt (may slot) (caller_at a slot) (caller_at b slot) → Attends may a b
attends_at may slot a b others here = record { here = λ k. by k (eqb_tells slot k) }
  where
    by : (k : ℕ) → (((nat_eq slot k ≡ true) × (slot ≡ k)) ⊎ ((nat_eq slot k ≡ false) × (slot ≢ k))) → GoesOnAt (may k) (caller_at a k) (caller_at b k)
    by k (inl u) = subst (λ (z : ℕ). GoesOnAt (may z) (caller_at a z) (caller_at b z)) u.1 here
    by k (inr u) = subst (λ (x : Option Caller). GoesOnAt (may k) (caller_at a k) x) (sym (others k u.0)) (stays_at (may k) (caller_at a k))

pub attends_stay : (may : ℕ → Step → Bool) (a b : Callers) → Same a b → Attends may a b
attends_stay may a b same = record { here = λ slot. subst (λ (x : Option Caller). GoesOnAt (may slot) (caller_at a slot) x) (sym (same slot)) (stays_at (may slot) (caller_at a slot)) }

-- ---- who is at a socket, once its caller has gone on

pub goes_on_one : (by : Client → Client → Type 0) (o p : Option Caller) (c d : Caller) → o ≡ Some c → p ≡ Some d → d.number ≡ c.number → d.task ≡ c.task → by c.client d.client → GoesOnBy by o p
goes_on_one by o p c d there after number task client =
    subst (λ (x : Option Caller). GoesOnBy by x p) (sym there) (d, after, number, task, client)

pub ends_task_one : (t : Task) (by : Client → Client → Type 0) (o p : Option Caller) (c d : Caller) → o ≡ Some c → p ≡ Some d → d.number ≡ c.number → d.task ≡ t → by c.client d.client → EndsTask t by o p
ends_task_one t by o p c d there after number task client =
    subst (λ (x : Option Caller). EndsTask t by x p) (sym there) (d, after, number, task, client)

-- ---- one call of one client

-- the calls that a relation of clients is
record IsCalls (may : Step → Bool) (old new : Client) : Type 0 where
  pub steps : List Step
  pub run : Runs steps old new
  pub each : Each may steps

no_calls : (may : Step → Bool) (c d : Client) → d ≡ c → IsCalls may c d
no_calls may c d same = record { steps = []; run = same; each = tt }

one_call : (may : Step → Bool) (s : Step) (c d : Client) → may s ≡ true → Does s c d → IsCalls may c d
one_call may s c d allowed does = record { steps = s ∷ []; run = (d, does, refl); each = (allowed, tt) }

goes_on_by : (may : Step → Bool) (by : Client → Client → Type 0) → ((c d : Client) → by c d → IsCalls may c d) → (o p : Option Caller) → GoesOnBy by o p → GoesOnAt may o p
goes_on_by may by is None p g = g
goes_on_by may by is (Some c) p g =
    let k = is c.client g.0.client g.4 in
    (g.0, g.1, record { steps = k.steps; run = k.run; each = k.each; number = g.2 })

ends_task_by : (may : Step → Bool) (t : Task) (by : Client → Client → Type 0) → ((c d : Client) → by c d → IsCalls may c d) → (o p : Option Caller) → EndsTask t by o p → GoesOnAt may o p
ends_task_by may t by is None p g = g
ends_task_by may t by is (Some c) p g =
    let k = is c.client g.0.client g.4 in
    (g.0, g.1, record { steps = k.steps; run = k.run; each = k.each; number = g.2 })

tells_or_closes : (t : Told) (c d : Client) → TellsOrCloses t c d → IsCalls is_beside c d
tells_or_closes t c d (inl u) = one_call is_beside (Tell t (is_told t c)) c d refl (u, refl)
tells_or_closes t c d (inr u) = one_call is_beside (Close reason.Memory) c d refl u

passes_or_stays : (p : PlaceOf) (c d : Client) → PassesOrStays p c d → IsCalls is_beside c d
passes_or_stays p c d (inl u) = no_calls is_beside c d u
passes_or_stays p c d (inr u) = one_call is_beside (Pass p.conference p.place (is_next (next_of c.watched p.conference) p.place)) c d refl (u.0, u.1, refl)

answers_or_closes : (o : Result Said Failure) (c d : Client) → OrCloses (answered_by o) c d → IsCalls is_beside c d
answers_or_closes o c d (inl u) = one_call is_beside (Answer o (response_to o c)) c d refl (u, refl)
answers_or_closes o c d (inr u) = one_call is_beside (Close reason.Memory) c d refl u

pub told_beside : (t : Told) (slot : ℕ) (a b : Callers) → GoesOnBy (TellsOrCloses t) (caller_at a slot) (caller_at b slot) → OthersStay slot a b → Attends beside a b
told_beside t slot a b here others = attends_at beside slot a b others (goes_on_by is_beside (TellsOrCloses t) (tells_or_closes t) (caller_at a slot) (caller_at b slot) here)

pub passed_beside : (p : PlaceOf) (slot : ℕ) (a b : Callers) → GoesOnBy (PassesOrStays p) (caller_at a slot) (caller_at b slot) → OthersStay slot a b → Attends beside a b
passed_beside p slot a b here others = attends_at beside slot a b others (goes_on_by is_beside (PassesOrStays p) (passes_or_stays p) (caller_at a slot) (caller_at b slot) here)

pub closed_beside : (why : CloseReason) (slot : ℕ) (a b : Callers) → GoesOnBy (λ old new. new ≡ closed why old) (caller_at a slot) (caller_at b slot) → OthersStay slot a b → Attends beside a b
closed_beside why slot a b here others =
    attends_at beside slot a b others (goes_on_by is_beside (λ old new. new ≡ closed why old) (λ c d e. one_call is_beside (Close why) c d refl e) (caller_at a slot) (caller_at b slot) here)

pub answered_beside : (o : Result Said Failure) (t : Task) (slot : ℕ) (a b : Callers) → EndsTask t (OrCloses (answered_by o)) (caller_at a slot) (caller_at b slot) → OthersStay slot a b → Attends beside a b
answered_beside o t slot a b here others =
    attends_at beside slot a b others (ends_task_by is_beside t (OrCloses (answered_by o)) (answers_or_closes o) (caller_at a slot) (caller_at b slot) here)

pub waits_beside : (t : Task) (slot : ℕ) (a b : Callers) → EndsTask t (λ old new. new ≡ old) (caller_at a slot) (caller_at b slot) → OthersStay slot a b → Attends beside a b
waits_beside t slot a b here others =
    attends_at beside slot a b others (ends_task_by is_beside t (λ old new. new ≡ old) (no_calls is_beside) (caller_at a slot) (caller_at b slot) here)

pub stays_beside : (slot : ℕ) (a b : Callers) → GoesOnBy (λ old new. new ≡ old) (caller_at a slot) (caller_at b slot) → OthersStay slot a b → Attends beside a b
stays_beside slot a b here others =
    attends_at beside slot a b others (goes_on_by is_beside (λ old new. new ≡ old) (no_calls is_beside) (caller_at a slot) (caller_at b slot) here)

pub unwatched_beside : (conference slot : ℕ) (a b : Callers) → GoesOnBy (Watches conference None) (caller_at a slot) (caller_at b slot) → OthersStay slot a b → Attends beside a b
unwatched_beside conference slot a b here others =
    attends_at beside slot a b others (goes_on_by is_beside (Watches conference None) (λ c d u. one_call is_beside (Unwatch conference) c d refl u) (caller_at a slot) (caller_at b slot) here)

-- ---- the same of the client whose request is carried out

own_is : (socket : ℕ) → (false || (nat_eq socket socket && true)) ≡ true
own_is socket = by (eqb_tells socket socket)
  where
    by : (((nat_eq socket socket ≡ true) × (socket ≡ socket)) ⊎ ((nat_eq socket socket ≡ false) × (socket ≢ socket))) → (false || (nat_eq socket socket && true)) ≡ true
    by (inl u) = ap (λ (x : Bool). false || (x && true)) u.0
    by (inr u) = absurd (u.1 refl)

pub watched_carried : (conference place slot : ℕ) (a b : Callers) → GoesOnBy (Watches conference (Some place)) (caller_at a slot) (caller_at b slot) → OthersStay slot a b → Attends (carried slot) a b
watched_carried conference place slot a b here others =
    attends_at (carried slot) slot a b others (goes_on_by (carried slot slot) (Watches conference (Some place)) (λ c d u. one_call (carried slot slot) (Watch conference place) c d (own_is slot) u) (caller_at a slot) (caller_at b slot) here)

pub watched_all_carried : (all : Bool) (slot : ℕ) (a b : Callers) → GoesOnBy (λ old new. new ≡ record old { watched = record old.watched { all = all } }) (caller_at a slot) (caller_at b slot) → OthersStay slot a b → Attends (carried slot) a b
watched_all_carried all slot a b here others =
    attends_at (carried slot) slot a b others (goes_on_by (carried slot slot) (λ old new. new ≡ record old { watched = record old.watched { all = all } }) (λ c d u. one_call (carried slot slot) (WatchAll all) c d (own_is slot) u) (caller_at a slot) (caller_at b slot) here)

pub watch_carried : {T E : Type 0} (conference place slot : ℕ) (a b : Callers) (r : Result T E)
    → OnOk r (GoesOnBy (Watches conference (Some place)) (caller_at a slot) (caller_at b slot)) → OnErr r (Same a b) → OthersStay slot a b → Attends (carried slot) a b
watch_carried conference place slot a b (Ok x) here left others = watched_carried conference place slot a b here others
watch_carried conference place slot a b (Err x) here left others = attends_stay (carried slot) a b left
