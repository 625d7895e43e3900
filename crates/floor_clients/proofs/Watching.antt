-- What is watched is told in order.
use Rattle.std.proofs.Common.{◌≡◌, ◌+◌, ℕ, Bool, true, false, cond, ◌⊎◌, inl, inr, List, [], ◌∷◌, ◌++◌, length, refl, sym, subst, ◌∙◌, ap}
use Rattle.std.specs.Prelude.{Option, Some, None, Result, nat_eq, nat_le, not, ◌&&◌}
use Rattle.std.proofs.lemmas.Bool.{false≢true}
use Rattle.std.proofs.lemmas.Bool.Decides.{eqb_tells}
use Rattle.floor_rpc.specs.declared.answer.Answer.{Answer as Said}
use Rattle.floor_rpc.specs.declared.failure.Failure.{Failure}
use Rattle.floor_rpc.specs.declared.notification.EventTold.{EventTold}
use Rattle.floor_rpc.specs.declared.notification.Notification.{Notification}
use Rattle.floor_rpc.specs.declared.notification.Notification.TheVariants.{Event, Server}
use Rattle.floor_clients.specs.declared.standing.Asked.{Asked}
use Rattle.floor_clients.specs.declared.standing.Asked.TheVariants as asked
use Rattle.floor_clients.specs.declared.standing.Standing.{Standing}
use Rattle.floor_clients.specs.declared.standing.Standing.TheVariants as standing
use Rattle.floor_clients.specs.Clients.{Client, answered_at, came_at, closed_at, ended_at, is_over, put_told, room, told_if}
use Rattle.floor_clients.specs.Laws.{AreFrom, WatchedIsTold}
use Rattle.floor_clients.specs.Runs.{Came, Ended, Close, Line, TooLong, Answer, Tell, Pass, Watch, Unwatch, WatchAll, Took, AllLeave, Does, Leaves, Runs, Step, is_next, is_told, past_by, past_of, place_of, told_line}
use Rattle.floor_clients.specs.Served.{Passes}
use Rattle.floor_clients.specs.Wanted.{Told, hears_at, is_wanted}
use Rattle.floor_clients.specs.Watched.{Sets, Watched, next_of, passed_at}
use Rattle.floor_clients.proofs.Running.{chosen}

-- ---- whoever is to be closed stays so

over_came : (st : Standing) (bytes : List ℕ) (c : Client) → (came_at st bytes c).standing ≡ c.standing
over_came standing.Serving bytes c = refl
over_came standing.Ended bytes c = refl
over_came (standing.Over reason) bytes c = refl

over_ended : (st : Standing) → is_over st ≡ true → is_over (ended_at st) ≡ true
over_ended standing.Serving e = absurd (false≢true e)
over_ended standing.Ended e = absurd (false≢true e)
over_ended (standing.Over reason) e = refl

over_answered : (a : Asked) (outcome : Result Said Failure) (c : Client) → (answered_at a outcome c).standing ≡ c.standing
over_answered asked.Nothing outcome c = refl
over_answered asked.Silent outcome c = refl
over_answered (asked.Answer id) outcome c = refl

over_told : (t : Told) (c : Client) → is_over c.standing ≡ true → is_over (told_if t c).standing ≡ true
over_told t c e = on (is_over c.standing) (is_wanted c.mode c.watched t) e
  where
    on : (over wanted : Bool) → over ≡ true → is_over (cond (not over && wanted) (put_told t c) c).standing ≡ true
    on true wanted h = e
    on false wanted h = absurd (false≢true h)

is_same : (old new : Client) → new.standing ≡ old.standing → is_over old.standing ≡ true → is_over new.standing ≡ true
is_same old new same e = ap is_over same ∙ e

over_step : (s : Step) (old new : Client) → Does s old new → is_over old.standing ≡ true → is_over new.standing ≡ true
over_step (Came bytes is_taken) old new d e = is_same old new (ap (λ (c : Client). c.standing) d.0 ∙ over_came old.standing bytes old) e
over_step Ended old new d e = ap (λ (c : Client). is_over c.standing) d ∙ over_ended old.standing e
over_step (Close why) old new d e = ap (λ (c : Client). is_over c.standing) d ∙ on old.standing
  where
    on : (st : Standing) → is_over (closed_at why st) ≡ true
    on standing.Serving = refl
    on standing.Ended = refl
    on (standing.Over reason) = refl
over_step (Line draining line reply) old new d e = is_same old new (ap (λ (c : Client). c.standing) d.next) e
over_step TooLong old new d e = ap (λ (c : Client). is_over c.standing) d.next
over_step (Answer outcome response) old new d e =
    is_same old new (ap (λ (c : Client). c.standing) d.0
    ∙ chosen (λ (c : Client). c.standing) (is_over old.standing) old (answered_at old.asked outcome old) old.standing refl (over_answered old.asked outcome old)) e
over_step (Tell t is) old new d e = ap (λ (c : Client). is_over c.standing) d.0.told ∙ over_told t old e
over_step (Pass conference place is) old new d e = is_same old new (ap (λ (c : Client). c.standing) d.0) e
over_step (Watch conference place) old new d e = is_same old new (ap (λ (c : Client). c.standing) d.0) e
over_step (Unwatch conference) old new d e = is_same old new (ap (λ (c : Client). c.standing) d.0) e
over_step (WatchAll all) old new d e = is_same old new (ap (λ (c : Client). c.standing) d) e
over_step (Took bytes) old new d e = is_same old new (ap (λ (c : Client). c.standing) d.next) e

over_run : (ss : List Step) (first last : Client) → Runs ss first last → is_over first.standing ≡ true → is_over last.standing ≡ true
over_run [] first last r e = ap (λ (c : Client). is_over c.standing) r ∙ e
over_run (s ∷ ss) first last r e = over_run ss r.0 last r.2 (over_step s first r.0 r.1 e)

not_over : (ss : List Step) (first last : Client) → Runs ss first last → is_over last.standing ≡ false → is_over first.standing ≡ false
not_over ss first last r e = on (is_over first.standing) refl
  where
    on : (b : Bool) → is_over first.standing ≡ b → is_over first.standing ≡ false
    on true h = absurd (false≢true (sym e ∙ over_run ss first last r h))
    on false h = h

-- ---- the place that is told next

abbrev Goes : ℕ → ℕ → List ℕ → Client → Type 0
Goes c n places new = (m : ℕ) × (next_of new.watched c ≡ Some m) × AreFrom n places m

stays : (c n : ℕ) (old new : Client) → next_of new.watched c ≡ next_of old.watched c → next_of old.watched c ≡ Some n → Goes c n [] new
stays c n old new same e = (n, same ∙ e, refl)

-- a conference other than this
abbrev Tells_apart : ℕ → ℕ → Type 0
Tells_apart a b = ((nat_eq a b ≡ true) × (a ≡ b)) ⊎ ((nat_eq a b ≡ false) × (a ≡ b → ⊥))

-- what was wanted and isn't told closes the client, or it was to be closed
closes : (t : Told) (c : Client) → is_wanted c.mode c.watched t ≡ true → false ≡ is_told t c → is_over (told_if t c).standing ≡ true
closes t c w e = on (is_over c.standing) (is_wanted c.mode c.watched t) (nat_le (length (told_line t)) (room c)) _ _ refl w e refl
  where
    on : (over wanted fits : Bool) (x y : Client) → is_over c.standing ≡ over → wanted ≡ true → false ≡ ((not over && wanted) && fits) → is_over y.standing ≡ true
        → is_over (cond (not over && wanted) (cond fits x y) c).standing ≡ true
    on true wanted fits x y o v f z = o
    on false true true x y o v f z = absurd (false≢true f)
    on false true false x y o v f z = z
    on false false fits x y o v f z = absurd (false≢true v)

told_wants : (t : Told) (c : Client) → true ≡ is_told t c → is_wanted c.mode c.watched t ≡ true
told_wants t c e = on (is_over c.standing) (is_wanted c.mode c.watched t) (nat_le (length (told_line t)) (room c)) e
  where
    on : (over wanted fits : Bool) → true ≡ ((not over && wanted) && fits) → wanted ≡ true
    on over true fits e = refl
    on true false fits e = absurd (false≢true (sym e))
    on false false fits e = absurd (false≢true (sym e))

-- who is told this place next moves on behind it, and nobody else does
moved : (n place : ℕ) (o : Option ℕ) → nat_eq n place ≡ true → o ≡ passed_at place (Some n) → (o ≡ Some (place + 1)) × (place ≡ n)
moved n place o e is = (is ∙ ap (λ (b : Bool). Some (cond b (place + 1) n)) e, same (eqb_tells n place))
  where
    same : Tells_apart n place → place ≡ n
    same (inl t) = sym t.1
    same (inr t) = absurd (false≢true (sym t.0 ∙ e))

unmoved : (n place : ℕ) (o : Option ℕ) → nat_eq n place ≡ false → o ≡ passed_at place (Some n) → o ≡ Some n
unmoved n place o e is = is ∙ ap (λ (b : Bool). Some (cond b (place + 1) n)) e

module _ (c n : ℕ) (t : Told) (e : EventTold) (old new : Client) (what : t.what ≡ Event e) (sets : Sets e.conference (passed_at t.place (next_of old.watched e.conference)) old.watched new.watched)
    (told : new ≡ record (told_if t old) { watched = new.watched }) (serving : is_over new.standing ≡ false) (is : next_of old.watched c ≡ Some n) where
  module _ (same : e.conference ≡ c) where
    next_is : next_of new.watched c ≡ passed_at t.place (Some n)
    next_is = ap (next_of new.watched) (sym same) ∙ sets.here ∙ ap (passed_at t.place) (ap (next_of old.watched) same ∙ is)

    -- it hears of the place exactly where that is the one that it is told next
    hears_it : is_wanted old.mode old.watched t ≡ nat_eq n t.place
    hears_it = ap (λ (w : Notification). is_wanted old.mode old.watched (record { what = w; place = t.place })) what
        ∙ ap (λ (o : Option ℕ). hears_at o old.watched.all t.place) (ap (next_of old.watched) same ∙ is)

    here_true : true ≡ is_told t old → Goes c n (t.place ∷ []) new
    here_true e' = let m = moved n t.place (next_of new.watched c) (sym hears_it ∙ told_wants t old e') next_is in (t.place + 1, m.0, (m.1, ap (λ (k : ℕ). k + 1) m.1))

    here_false : false ≡ is_told t old → Goes c n [] new
    here_false e' = (n, unmoved n t.place (next_of new.watched c) (not_next (nat_eq n t.place) refl) next_is, refl)
      where
        not_next : (b : Bool) → nat_eq n t.place ≡ b → nat_eq n t.place ≡ false
        not_next true h = absurd (false≢true (sym serving ∙ ap (λ (x : Client). is_over x.standing) told ∙ closes t old (hears_it ∙ h) e'))
        not_next false h = h

  event_true : true ≡ is_told t old → Goes c n (cond (nat_eq e.conference c) (t.place ∷ []) []) new
  event_true e' = on (eqb_tells e.conference c)
    where
      on : Tells_apart e.conference c → Goes c n (cond (nat_eq e.conference c) (t.place ∷ []) []) new
      on (inl s) = subst (λ (b : Bool). Goes c n (cond b (t.place ∷ []) []) new) (sym s.0) (here_true s.1 e')
      on (inr s) = subst (λ (b : Bool). Goes c n (cond b (t.place ∷ []) []) new) (sym s.0) (stays c n old new (sets.others c s.0) is)

  event_false : false ≡ is_told t old → Goes c n [] new
  event_false e' = on (eqb_tells e.conference c)
    where
      on : Tells_apart e.conference c → Goes c n [] new
      on (inl s) = here_false s.1 e'
      on (inr s) = stays c n old new (sets.others c s.0) is

tell_on : (c n : ℕ) (t : Told) (b : Bool) (what : Notification) (old new : Client) → t.what ≡ what → Passes what t.place old.watched new.watched
    → new ≡ record (told_if t old) { watched = new.watched } → is_over new.standing ≡ false → next_of old.watched c ≡ Some n → b ≡ is_told t old
    → Goes c n (cond b (place_of c t.place what) []) new
tell_on c n t true (Event e) old new w p told serving is b = event_true c n t e old new w p told serving is b
tell_on c n t false (Event e) old new w p told serving is b = event_false c n t e old new w p told serving is b
tell_on c n t true (Server s) old new w p told serving is b = stays c n old new (ap (λ (x : Watched). next_of x c) p) is
tell_on c n t false (Server s) old new w p told serving is b = stays c n old new (ap (λ (x : Watched). next_of x c) p) is

pass_on : (c n k place : ℕ) (b : Bool) (old new : Client) → Sets k (passed_at place (next_of old.watched k)) old.watched new.watched → next_of old.watched c ≡ Some n
    → b ≡ is_next (next_of old.watched k) place → Goes c n (cond b (cond (nat_eq k c) (place ∷ []) []) []) new
pass_on c n k place b old new sets is e = on (eqb_tells k c)
  where
    here : k ≡ c → next_of new.watched c ≡ passed_at place (Some n)
    here same = ap (next_of new.watched) (sym same) ∙ sets.here ∙ ap (passed_at place) (ap (next_of old.watched) same ∙ is)

    next : k ≡ c → b ≡ nat_eq n place
    next same = e ∙ ap (λ (o : Option ℕ). is_next o place) (ap (next_of old.watched) same ∙ is)

    passes : (v : Bool) → k ≡ c → nat_eq n place ≡ v → Goes c n (cond v (place ∷ []) []) new
    passes true same h = let m = moved n place (next_of new.watched c) h (here same) in (place + 1, m.0, (m.1, ap (λ (k : ℕ). k + 1) m.1))
    passes false same h = (n, unmoved n place (next_of new.watched c) h (here same), refl)

    other : (v : Bool) → nat_eq k c ≡ false → Goes c n (cond v [] []) new
    other true h = stays c n old new (sets.others c h) is
    other false h = stays c n old new (sets.others c h) is

    on : Tells_apart k c → Goes c n (cond b (cond (nat_eq k c) (place ∷ []) []) []) new
    on (inl s) = subst (λ (v : Bool). Goes c n (cond b (cond v (place ∷ []) []) []) new) (sym s.0) (passes b s.1 (sym (next s.1)))
    on (inr s) = subst (λ (v : Bool). Goes c n (cond b (cond v (place ∷ []) []) []) new) (sym s.0) (other b s.0)

watched_same : (c n : ℕ) (old new : Client) → new.watched ≡ old.watched → next_of old.watched c ≡ Some n → Goes c n [] new
watched_same c n old new same is = stays c n old new (ap (λ (x : Watched). next_of x c) same) is

next_step : (c n : ℕ) (s : Step) (old new : Client) → Does s old new → Leaves c s → is_over new.standing ≡ false → next_of old.watched c ≡ Some n → Goes c n (past_of c s) new
next_step c n (Came bytes is_taken) old new d l o is = watched_same c n old new (ap (λ (x : Client). x.watched) d.0 ∙ kept old.standing) is
  where
    kept : (st : Standing) → (came_at st bytes old).watched ≡ old.watched
    kept standing.Serving = refl
    kept standing.Ended = refl
    kept (standing.Over reason) = refl
next_step c n Ended old new d l o is = watched_same c n old new (ap (λ (x : Client). x.watched) d) is
next_step c n (Close why) old new d l o is = watched_same c n old new (ap (λ (x : Client). x.watched) d) is
next_step c n (Line draining line reply) old new d l o is = watched_same c n old new (ap (λ (x : Client). x.watched) d.next) is
next_step c n TooLong old new d l o is = watched_same c n old new (ap (λ (x : Client). x.watched) d.next) is
next_step c n (Answer outcome response) old new d l o is =
    watched_same c n old new (ap (λ (x : Client). x.watched) d.0
    ∙ chosen (λ (x : Client). x.watched) (is_over old.standing) old (answered_at old.asked outcome old) old.watched refl (kept old.asked)) is
  where
    kept : (a : Asked) → (answered_at a outcome old).watched ≡ old.watched
    kept asked.Nothing = refl
    kept asked.Silent = refl
    kept (asked.Answer id) = refl
next_step c n (Tell t true) old new d l o is = tell_on c n t true t.what old new refl d.0.watched d.0.told o is d.1
next_step c n (Tell t false) old new d l o is = tell_on c n t false t.what old new refl d.0.watched d.0.told o is d.1
next_step c n (Pass k place true) old new d l o is = pass_on c n k place true old new d.1 is d.2
next_step c n (Pass k place false) old new d l o is = pass_on c n k place false old new d.1 is d.2
next_step c n (Watch k place) old new d l o is = stays c n old new (d.1.others c l) is
next_step c n (Unwatch k) old new d l o is = stays c n old new (d.1.others c l) is
next_step c n (WatchAll all) old new d l o is = stays c n old new (ap (λ (x : Client). next_of x.watched c) d) is
next_step c n (Took bytes) old new d l o is = watched_same c n old new (ap (λ (x : Client). x.watched) d.next) is

from_both : (n m next : ℕ) (xs ys : List ℕ) → AreFrom n xs m → AreFrom m ys next → AreFrom n (xs ++ ys) next
from_both n m next [] ys f g = subst (λ k. AreFrom k ys next) f g
from_both n m next (x ∷ xs) ys f g = (f.0, from_both (n + 1) m next xs ys f.1 g)

pub watched_is_told : WatchedIsTold
watched_is_told c from [] first last is l r o = (from, ap (λ (x : Client). next_of x.watched c) r ∙ is, refl)
watched_is_told c from (s ∷ ss) first last is l r o =
    let one = next_step c from s first r.0 r.1 l.0 (not_over ss r.0 last r.2 o) is in
    let rest = watched_is_told c one.0 ss r.0 last one.1 l.1 r.2 o in
    (rest.0, rest.1, from_both from one.0 rest.0 (past_of c s) (past_by c ss) one.2 rest.2)
