-- When a peer is lost.
use Rattle.std.proofs.Common.{◌≡◌, inl, inr, ℕ, ◌*◌, ◌-◌, ◌^◌, ◌<◌, ◌≤◌, ◌==◌, Bool, true, false, ◌&&◌, List, [], ◌∷◌, ◌++◌, Option, Some, None, is_some, nat_le, nat_lt, refl, sym, ap, subst, ◌∙◌, if◌then◌else◌, arith}
use Rattle.std.specs.Prelude.{◌↔◌}
use Rattle.std.proofs.lemmas.Bool.{le-leb, le-ltb}
use Rattle.std.proofs.lemmas.Bool.Decides.{leb_tells}
use Rattle.floor_wire.specs.Message.{messages, rest}
use Rattle.floor_datagram.specs.Datagrams.{id_of}
use Rattle.floor_datagram.specs.Fragments.{held_since}
use Rattle.floor_datagram.specs.Requests as asks
use Rattle.floor_datagram.specs.Requests.{forgotten}
use Rattle.floor_datagram.specs.Notices as notes
use Rattle.floor_datagram.specs.Notices.{Notices, Out, put, waits, told, crossed, pumped, pumped_with, begun, closed_with, is_out_as, acknowledged, again, again_with, given_up, pace_with, is_due, is_lost, tries_of, has_subject, is_out}
use Rattle.floor_datagram.specs.Pace.{t2_of, Pace, due_after}
use Rattle.floor_datagram.specs.Session.{Session, Effect, Terms, nothing, begins, hears, noted, tells, answers, message, messages_take, parts as parts_with, loses, shuts_out, unless_ended, refused, server_ends, expires, expired, last_of, probes, waits_for, is_late}
use Rattle.floor_datagram.specs.Run.{Input, datagram, piece, ends, shut, lost, late, step, run}
use Rattle.floor_datagram.specs.Losing.{IsOverdue, Loses}
use Rattle.floor_datagram.specs.declared.heard.Heard.{Heard}
use Rattle.floor_datagram.specs.declared.heard.Heard.TheVariants as Was
use Rattle.floor_datagram.specs.declared.end.End.{End}
use Rattle.floor_datagram.specs.declared.end.End.TheVariants as Why

-- ---- a notice that is out was sent one to four times

abbrev IsSentSome : Option Out → Type 0
IsSentSome None = Unit {0}
IsSentSome (Some o) = (1 ≤ o.tries) × (o.tries ≤ 4)

choose-sends : (b : Bool) (p q : notes.Sends) → IsSentSome p.after.out → IsSentSome q.after.out → IsSentSome (if b then p else q).after.out
choose-sends true p q x y = x
choose-sends false p q x y = y

pumped-some : (n : Notices) (last : Option ℕ) (limit now : ℕ) (o : Option Out) (ws : List (List ℕ)) → IsSentSome n.out → IsSentSome (pumped_with o ws n last limit now).after.out
pumped-some n last limit now (Some o) ws h = h
pumped-some n last limit now None [] h = h
pumped-some n last limit now None (m ∷ ms) h = (omega arith, omega arith)

crossed-some : (n : Notices) (m : List ℕ) → IsSentSome n.out → IsSentSome (crossed n m).out
crossed-some n m h = by (has_subject m && is_out n.out)
  where
    by : (b : Bool) → let q : Notices = if b then waits n m else n in IsSentSome q.out
    by true = h
    by false = h

closed-some : (n : Notices) (last : Option ℕ) (limit now : ℕ) (pace : Pace) (c : Bool) → IsSentSome n.out
    → IsSentSome (if c then pumped (if c then record n { out = None; pace = pace } else n) last limit now else notes.keeps_still n).after.out
closed-some n last limit now pace true h = pumped-some (record n { out = None; pace = pace }) last limit now None n.waiting tt
closed-some n last limit now pace false h = h

acknowledged-by : (n : Notices) (last : Option ℕ) (limit now id : ℕ) (o : Option Out) → IsSentSome n.out
    → IsSentSome (if is_out_as id o then pumped (closed_with o n now id) last limit now else notes.keeps_still n).after.out
acknowledged-by n last limit now id None h = h
acknowledged-by n last limit now id (Some o) h = closed-some n last limit now (pace_with n.pace o now) (o.id == id) h

fewer : (o : Option Out) → (n : Notices) → IsSentSome o → IsSentSome n.out → nat_lt (tries_of o) 4 ≡ true → IsSentSome (again_with o n).after.out
fewer None n h other less = other
fewer (Some o) n h other less = elim (leb_tells 4 o.tries) [
  | inl w ↦ absurd (cc (sym less ∙ le-ltb o.tries 4 w.1))
  | inr w ↦ let small : o.tries < 4 = w.1 in (omega arith, omega (arith, small))
]

again-some : (n : Notices) (now : ℕ) → IsSentSome n.out → IsSentSome (again n now).after.out
again-some n now h = by (is_due n.out now) (nat_lt (tries_of n.out) 4) refl
  where
    by : (a b : Bool) → nat_lt (tries_of n.out) 4 ≡ b → IsSentSome (if a && b then again_with n.out n else notes.keeps_still n).after.out
    by true true is = fewer n.out n h h is
    by true false is = h
    by false b is = h

choose-some : (b : Bool) (e f : Effect) → IsSentSome e.after.notices.out → IsSentSome f.after.notices.out → IsSentSome (if b then e else f).after.notices.out
choose-some true e f p q = p
choose-some false e f p q = q

hears-some : (heard : Heard) (now : ℕ) (s : Session) → IsSentSome s.notices.out → IsSentSome (hears heard now s).after.notices.out
hears-some Was.Nothing now s h = h
hears-some (Was.Acknowledgement id) now s h = acknowledged-by s.notices s.requests.last s.terms.limit now id s.notices.out h
hears-some (Was.Request primitive) now s h = h
hears-some Was.Goodbye now s h = tt

message-by : (s : Session) (now : ℕ) (m : List ℕ) (b : Bool) → IsSentSome s.notices.out
    → IsSentSome (if b then tells (noted s m) now m else answers (noted s m) m).after.notices.out
message-by s now m true h = pumped-some (waits s.notices m) s.requests.last s.terms.limit now s.notices.out (put m s.notices.waiting) h
message-by s now m false h = crossed-some s.notices m h

messages-some : (s : Session) (now : ℕ) (ms : List (List ℕ)) → IsSentSome s.notices.out → IsSentSome (messages_take s now ms).after.notices.out
messages-some s now [] h = h
messages-some s now (m ∷ ms) h = messages-some (message s now m).after now ms (message-by s now m (id_of m == 0) h)

one-try : (end : End) (now : ℕ) (s : Session) → IsSentSome (parts_with end now s).after.notices.out
one-try end now s = (omega arith, omega arith)

refused-some : (now : ℕ) (s : Session) (last : Option ℕ) → IsSentSome (refused last now s).after.notices.out
refused-some now s None = tt
refused-some now s (Some id) = tt

expired-some : (s : Session) (now : ℕ) → IsSentSome s.notices.out → IsSentSome (expired s now).notices.out
expired-some s now h = by (expires (held_since s.requests.held) now (t2_of s.notices.pace.t1))
  where
    by : (b : Bool) → let t : Session = if b then record s { requests = forgotten s.requests } else s in IsSentSome t.notices.out
    by true = h
    by false = h

probes-some : (o : Option (List ℕ)) (s : Session) (now : ℕ) → IsSentSome s.notices.out → IsSentSome (probes o s now).after.notices.out
probes-some None s now h = h
probes-some (Some m) s now h = choose-some (nat_le s.terms.probe (now - s.heard)) _ (nothing s) (omega arith, omega arith) h

late-some : (s : Session) (now : ℕ) → IsSentSome s.notices.out → IsSentSome (is_late s now).after.notices.out
late-some s now h =
    choose-some (is_out s.notices.out) (waits_for s now) (probes (last_of s.own) s now)
    (choose-some (is_lost s.notices.out now) (if is_some s.end then nothing (record s { notices = given_up s.notices }) else loses Why.Lost now s) _
    (choose-some (is_some s.end) (nothing (record s { notices = given_up s.notices })) (loses Why.Lost now s) tt tt)
    (again-some s.notices now h))
    (probes-some (last_of s.own) s now h)

step-some : (s : Session) (i : Input) → IsSentSome s.notices.out → IsSentSome (step s i).after.notices.out
step-some s (datagram waiting now d) h =
    let e = asks.effect s.requests waiting now d in hears-some e.heard now (record s { requests = e.after; heard = now }) h
step-some s (piece now p) h =
    choose-some (is_some s.end) (nothing s) (messages_take (record s { stream = rest (s.stream ++ p) }) now (messages (s.stream ++ p))) h
    (messages-some (record s { stream = rest (s.stream ++ p) }) now (messages (s.stream ++ p)) h)
step-some s (ends now) h =
    choose-some (is_some s.end) (nothing s) (server_ends now s) h
    (choose-some s.answered (parts_with Why.ServerGone now s) (refused s.requests.last now s) (one-try Why.ServerGone now s) (refused-some now s s.requests.last))
step-some s (shut end now) h = choose-some (is_some s.end) (nothing s) (shuts_out end now s) h (one-try end now s)
step-some s (lost end now) h = choose-some (is_some s.end) (nothing s) (loses end now s) h tt
step-some s (late now) h = late-some (expired s now) now (expired-some s now h)

pub run-some : (s : Session) (is : List Input) → IsSentSome s.notices.out → IsSentSome (run s is).after.notices.out
run-some s [] h = h
run-some s (i ∷ is) h = run-some (step s i).after is (step-some s i h)

-- ---- how an input ends a session

-- what makes it end so
abbrev Ends : Option End → Type 0 → Type 0
Ends end why = (end ≡ Some Why.Lost) ↔ why

is-lost : (e : End) → ◌≡◌ {A = Option End} (Some e) (Some Why.Lost) → e ≡ Why.Lost
is-lost e h = cc

never : (end : Option End) → (end ≡ Some Why.Lost → ⊥) → Ends end ⊥
never end refused_ = (refused_, λ h. absurd h)

open-never : (end : Option End) → end ≡ None → Ends end ⊥
open-never end is = never end (λ h. cc (sym is ∙ h))

choose-ends : (why : Type 0) (b : Bool) (e f : Effect) → (b ≡ true → Ends e.after.end why) → (b ≡ false → Ends f.after.end why) → Ends (if b then e else f).after.end why
choose-ends why true e f p q = p refl
choose-ends why false e f p q = q refl

-- while it hasn't ended
open-ends : (why : Type 0) (s : Session) (e : Effect) → s.end ≡ None → Ends e.after.end why → Ends (unless_ended s e).after.end why
open-ends why s e open_ h =
    choose-ends why (is_some s.end) (nothing s) e (λ ended. absurd (cc (sym ended ∙ ap (λ o. is_some o) open_))) (λ g. h)

hears-ends : (heard : Heard) (now : ℕ) (s : Session) → s.end ≡ None → Ends (hears heard now s).after.end ⊥
hears-ends Was.Nothing now s open_ = open-never s.end open_
hears-ends (Was.Acknowledgement id) now s open_ = open-never s.end open_
hears-ends (Was.Request primitive) now s open_ = open-never s.end open_
hears-ends Was.Goodbye now s open_ = never (Some Why.Goodbye) (λ h. cc h)

message-end : (s : Session) (now : ℕ) (m : List ℕ) (b : Bool) → (if b then tells (noted s m) now m else answers (noted s m) m).after.end ≡ s.end
message-end s now m true = refl
message-end s now m false = refl

pub messages-end : (s : Session) (now : ℕ) (ms : List (List ℕ)) → (messages_take s now ms).after.end ≡ s.end
messages-end s now [] = refl
messages-end s now (m ∷ ms) = messages-end (message s now m).after now ms ∙ message-end s now m (id_of m == 0)

refused-ends : (now : ℕ) (s : Session) (last : Option ℕ) → Ends (refused last now s).after.end ⊥
refused-ends now s None = never (Some Why.NoServer) (λ h. cc h)
refused-ends now s (Some id) = never (Some Why.NoServer) (λ h. cc h)

pub probes-end : (o : Option (List ℕ)) (s : Session) (now : ℕ) → (probes o s now).after.end ≡ s.end
probes-end None s now = refl
probes-end (Some m) s now = by (nat_le s.terms.probe (now - s.heard))
  where
    by : (b : Bool) → let e : Effect = if b then record { after = record s { notices = (begun s.notices s.requests.last s.terms.limit now m).after }; up = []; down = (begun s.notices s.requests.last s.terms.limit now m).down } else nothing s in e.after.end ≡ s.end
    by true = refl
    by false = refl

expired-same : (s : Session) (now : ℕ) → ((expired s now).end ≡ s.end) × ((expired s now).notices.out ≡ s.notices.out)
expired-same s now = by (expires (held_since s.requests.held) now (t2_of s.notices.pace.t1))
  where
    by : (b : Bool) → let t : Session = if b then record s { requests = forgotten s.requests } else s in (t.end ≡ s.end) × (t.notices.out ≡ s.notices.out)
    by true = (refl, refl)
    by false = (refl, refl)

-- the test that one is lost
due-four : (t1 tries : ℕ) → tries ≡ 4 → due_after t1 tries ≡ 15 * t1
due-four t1 tries is = ap (λ k. t1 * (2 ^ k - 1)) is ∙ computed
  where
    computed : t1 * (2 ^ 4 - 1) ≡ 15 * t1
    computed = omega arith

overdue-test : (o : Option Out) (now : ℕ) → IsSentSome o → (is_lost o now ≡ true) ↔ IsOverdue o now
overdue-test None now some = (λ h. absurd (cc h), λ h. absurd h)
overdue-test (Some o) now some = (to, from)
  where
    both : (a b : Bool) → (a && b) ≡ true → (a ≡ true) × (b ≡ true)
    both true b h = (refl, h)
    both false b h = absurd (cc h)

    le-of : (a b : ℕ) → nat_le a b ≡ true → a ≤ b
    le-of a b h = elim (leb_tells a b) [ inl w ↦ w.1 | inr w ↦ absurd (cc (sym h ∙ w.0)) ]

    to : is_lost (Some o) now ≡ true → IsOverdue (Some o) now
    to h =
        let parts = both (nat_le 4 o.tries) (nat_le (due_after o.t1 o.tries) (now - o.first)) h in
        let four : o.tries ≡ 4 = let least = le-of 4 o.tries parts.0 in let most = some.1 in omega (arith, least, most) in
        let late_by = le-of (due_after o.t1 o.tries) (now - o.first) parts.1 in
        (four, subst (λ (k : ℕ). k ≤ now - o.first) (due-four o.t1 o.tries four) late_by)

    from : IsOverdue (Some o) now → is_lost (Some o) now ≡ true
    from h =
        let least : nat_le 4 o.tries ≡ true = le-leb 4 o.tries (let four = h.0 in omega (arith, four)) in
        let over : nat_le (due_after o.t1 o.tries) (now - o.first) ≡ true =
        le-leb (due_after o.t1 o.tries) (now - o.first) (subst (λ (k : ℕ). k ≤ now - o.first) (sym (due-four o.t1 o.tries h.0)) h.1) in
        ap (λ b. b && nat_le (due_after o.t1 o.tries) (now - o.first)) least ∙ over

out-none : (o : Option Out) (now : ℕ) → is_out o ≡ false → IsOverdue o now → ⊥
out-none None now h overdue = overdue
out-none (Some o) now h overdue = cc h

late-ends : (s : Session) (now : ℕ) → s.end ≡ None → IsSentSome s.notices.out → Ends (is_late s now).after.end (IsOverdue s.notices.out now)
late-ends s now open_ some =
    let test = overdue-test s.notices.out now some in
    choose-ends (IsOverdue s.notices.out now) (is_out s.notices.out) (waits_for s now) (probes (last_of s.own) s now)
    (λ out. choose-ends (IsOverdue s.notices.out now) (is_lost s.notices.out now) (if is_some s.end then nothing (record s { notices = given_up s.notices }) else loses Why.Lost now s) _
    (λ lost_. choose-ends (IsOverdue s.notices.out now) (is_some s.end) (nothing (record s { notices = given_up s.notices })) (loses Why.Lost now s)
    (λ ended. absurd (cc (sym ended ∙ ap (λ o. is_some o) open_)))
    (λ h. (λ is. test.0 lost_, λ is. refl)))
    (λ not_lost. (λ is. absurd (cc (sym open_ ∙ is)), λ is. absurd (cc (sym not_lost ∙ test.1 is)))))
    (λ none. (λ is. absurd (cc (sym (probes-end (last_of s.own) s now ∙ open_) ∙ is)), λ is. absurd (out-none s.notices.out now none is)))

pub step-ends : (s : Session) (i : Input) → s.end ≡ None → IsSentSome s.notices.out → Ends (step s i).after.end (Loses s i)
step-ends s (datagram waiting now d) open_ some =
    let e = asks.effect s.requests waiting now d in hears-ends e.heard now (record s { requests = e.after; heard = now }) open_
step-ends s (piece now p) open_ some =
    choose-ends ⊥ (is_some s.end) (nothing s) (messages_take (record s { stream = rest (s.stream ++ p) }) now (messages (s.stream ++ p)))
    (λ h. open-never s.end open_)
    (λ h. open-never (messages_take (record s { stream = rest (s.stream ++ p) }) now (messages (s.stream ++ p))).after.end
    (messages-end (record s { stream = rest (s.stream ++ p) }) now (messages (s.stream ++ p)) ∙ open_))
step-ends s (ends now) open_ some =
    open-ends ⊥ s (server_ends now s) open_
    (choose-ends ⊥ s.answered (parts_with Why.ServerGone now s) (refused s.requests.last now s)
    (λ h. never (Some Why.ServerGone) (λ g. cc g)) (λ h. refused-ends now s s.requests.last))
step-ends s (shut end now) open_ some = open-ends (end ≡ Why.Lost) s (shuts_out end now s) open_ (is-lost end, λ h. ap (λ e. Some e) h)
step-ends s (lost end now) open_ some = open-ends (end ≡ Why.Lost) s (loses end now s) open_ (is-lost end, λ h. ap (λ e. Some e) h)
step-ends s (late now) open_ some =
    let same = expired-same s now in
    let some_still : IsSentSome (expired s now).notices.out = expired-some s now some in
    subst (λ (o : Option Out). Ends (is_late (expired s now) now).after.end (IsOverdue o now)) same.1
    (late-ends (expired s now) now (same.0 ∙ open_) some_still)

-- behind any run
pub lost-so : (terms : Terms) (first now : ℕ) (is : List Input) (i : Input) → (run (begins terms first now) is).after.end ≡ None
    → Ends (step (run (begins terms first now) is).after i).after.end (Loses (run (begins terms first now) is).after i)
lost-so terms first now is i open_ = step-ends (run (begins terms first now) is).after i open_ (run-some (begins terms first now) is tt)
