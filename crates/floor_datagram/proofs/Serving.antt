-- What a session sends the server over a whole run.
use Rattle.std.proofs.Common.{◌≡◌, ℕ, ◌-◌, ◌≤◌, ◌==◌, Bool, true, false, List, [], ◌∷◌, ◌++◌, length, Option, Some, None, is_some, inl, inr, nat_le, refl, sym, ap, subst, ◌∙◌, append-nil, append_assoc, if◌then◌else◌}
use Rattle.floor_wire.specs.Message.{messages, rest}
use Rattle.floor_datagram.specs.Datagrams.{id_of, kind_of}
use Rattle.floor_datagram.specs.Numbering.{age_of}
use Rattle.floor_datagram.specs.Fragments.{placed, fragment_of, held_since}
use Rattle.floor_datagram.specs.Requests as asks
use Rattle.floor_datagram.specs.Requests.{Requests, replied, silent, passed_on, parted, taken, asked, judged, put_together, aged, parts, does, effect, answered, is_last, forgotten, refused_by, max_waiting}
use Rattle.floor_datagram.specs.Taken.{Carried}
use Rattle.floor_datagram.specs.Notices as notes
use Rattle.floor_datagram.specs.Pace.{t2_of}
use Rattle.floor_datagram.specs.HelloAck.{extended}
use Rattle.floor_datagram.specs.Session as session
use Rattle.floor_datagram.specs.Session.{Session, Effect, Terms, nothing, begins, finished, hears, took, noted, tells, answers, message, messages_take, server, parts as parts_with, loses, shuts_out, unless_ended, refused, server_ends, expires, expired, last_of, probes, waits_for, is_late, time}
use Rattle.floor_datagram.specs.Run.{Input, datagram, piece, ends, shut, lost, late, step, run, came_by, came, IsWhole, AreWhole, IsLast, Serves}
use Rattle.floor_datagram.proofs.Carrying.{effect-kept}
use Rattle.floor_datagram.specs.declared.kind.Kind.{Kind}
use Rattle.floor_datagram.specs.declared.kind.Kind.TheVariants as Kinds
use Rattle.floor_datagram.specs.declared.numbering.Age.{Age}
use Rattle.floor_datagram.specs.declared.numbering.Age.TheVariants.{Copy, Older, Newer}
use Rattle.floor_datagram.specs.declared.fragments.Fragment.{Fragment}
use Rattle.floor_datagram.specs.declared.fragments.Fragment.TheVariants as Fragment_is
use Rattle.floor_datagram.specs.declared.heard.Heard.{Heard}
use Rattle.floor_datagram.specs.declared.heard.Heard.TheVariants as Was
use Rattle.floor_datagram.specs.declared.end.End.{End}
use Rattle.floor_datagram.specs.declared.end.End.TheVariants as Why

-- ---- no request is taken behind the end

-- nothing goes to the server, and it stays so
Closed : asks.Effect → Type 0
Closed e = (e.up ≡ []) × (e.after.over ≡ true)

choose-closed : (b : Bool) (e f : asks.Effect) → Closed e → Closed f → Closed (if b then e else f)
unfolding Closed
choose-closed true e f p q = p
choose-closed false e f p q = q

-- what is chosen where no request is taken
over-closed : (b : Bool) (e f : asks.Effect) → b ≡ true → Closed e → Closed (if b then e else f)
unfolding Closed
over-closed true e f is p = p
over-closed false e f is p = absurd (cc is)

asked-closed : (a : Age) (r : Requests) (waiting : ℕ) (m : List ℕ) → r.over ≡ true → Closed (asked a r waiting m)
unfolding Closed
asked-closed Copy r waiting m over = (refl, over)
asked-closed Older r waiting m over = (refl, over)
asked-closed Newer r waiting m over = over-closed r.over (silent r) (taken r waiting m) over (refl, over)

judged-closed : (k : Kind) (r : Requests) (waiting : ℕ) (m : List ℕ) → r.over ≡ true → Closed (judged k r waiting m)
unfolding Closed
judged-closed Kinds.Fragment r waiting m over = (refl, over)
judged-closed Kinds.Misfit r waiting m over = (refl, over)
judged-closed Kinds.Acknowledgement r waiting m over = (refl, over)
judged-closed Kinds.Request r waiting m over = asked-closed (age_of r.last (id_of m)) r waiting m over
judged-closed Kinds.Nothing r waiting m over = (refl, over)

aged-closed : (a : Age) (r : Requests) (waiting now : ℕ) (d : List ℕ) → r.over ≡ true → Closed (aged a r waiting now d)
unfolding Closed
aged-closed Copy r waiting now d over = (refl, over)
aged-closed Older r waiting now d over = (refl, over)
aged-closed Newer r waiting now d over =
    over-closed r.over (silent r) (put_together (placed r.held now d).held (placed r.held now d).message r waiting) over (refl, over)

parts-closed : (f : Fragment) (r : Requests) (waiting now : ℕ) (d : List ℕ) → r.over ≡ true → Closed (parts f r waiting now d)
unfolding Closed
parts-closed Fragment_is.Nothing r waiting now d over = (refl, over)
parts-closed Fragment_is.Beyond r waiting now d over = (refl, over)
parts-closed Fragment_is.Part r waiting now d over = aged-closed (age_of r.last (id_of d)) r waiting now d over

does-closed : (k : Kind) (r : Requests) (waiting now : ℕ) (d : List ℕ) → r.over ≡ true → Closed (does k r waiting now d)
unfolding Closed
does-closed Kinds.Fragment r waiting now d over = parts-closed (fragment_of d) r waiting now d over
does-closed Kinds.Misfit r waiting now d over = judged-closed Kinds.Misfit r waiting d over
does-closed Kinds.Acknowledgement r waiting now d over = judged-closed Kinds.Acknowledgement r waiting d over
does-closed Kinds.Request r waiting now d over = judged-closed Kinds.Request r waiting d over
does-closed Kinds.Nothing r waiting now d over = judged-closed Kinds.Nothing r waiting d over

effect-closed : (r : Requests) (waiting now : ℕ) (d : List ℕ) → r.over ≡ true → ((effect r waiting now d).up ≡ []) × ((effect r waiting now d).after.over ≡ true)
unfolding Closed
effect-closed r waiting now d over = does-closed (kind_of d) r waiting now d over

-- ---- what leaves the requests as they were taken

ended-carried : (came : List (List ℕ)) (up : List ℕ) (r : Requests) → Carried came up r → Carried came up (asks.ended r)
ended-carried came up r c = record { taken = c.taken; made = c.made; ascend = c.ascend; last = c.last; sent = c.sent; held = tt }

forgotten-carried : (came : List (List ℕ)) (up : List ℕ) (r : Requests) → Carried came up r → Carried came up (forgotten r)
forgotten-carried came up r c = record { taken = c.taken; made = c.made; ascend = c.ascend; last = c.last; sent = c.sent; held = tt }

answer-carried : (came : List (List ℕ)) (up : List ℕ) (r : Requests) (answer : List (List ℕ)) → Carried came up r → Carried came up (record r { answer = answer })
answer-carried came up r answer c = record { taken = c.taken; made = c.made; ascend = c.ascend; last = c.last; sent = c.sent; held = c.held }

-- what a message of the server's leaves: the requests that were taken, how it ended, and whether no request is taken
record Keeps (came : List (List ℕ)) (up : List ℕ) (end : Option End) (over : Bool) (s : Session) : Type 0 where
  carried : Carried came up s.requests
  end_is : s.end ≡ end
  over_is : s.requests.over ≡ over

answered-keeps : (came : List (List ℕ)) (up : List ℕ) (over : Bool) (r : Requests) (answer : List (List ℕ)) (b : Bool) → Carried came up r → r.over ≡ over
    → let q : Requests = if b then record r { answer = answer } else r in Carried came up q × (q.over ≡ over)
answered-keeps came up over r answer true c o = (answer-carried came up r answer c, o)
answered-keeps came up over r answer false c o = (c, o)

message-keeps : (came : List (List ℕ)) (up : List ℕ) (end : Option End) (over : Bool) (s : Session) (now : ℕ) (m : List ℕ) (b : Bool) → Keeps came up end over s
    → Keeps came up end over (if b then tells (noted s m) now m else answers (noted s m) m).after
message-keeps came up end over s now m true k = record { carried = k.carried; end_is = k.end_is; over_is = k.over_is }
message-keeps came up end over s now m false k =
    let q = answered-keeps came up over s.requests (asks.answer_of s.terms.limit (extended m)) (is_last s.requests.last (id_of (extended m))) k.carried k.over_is in
    record { carried = q.0; end_is = k.end_is; over_is = q.1 }

messages-keep : (came : List (List ℕ)) (up : List ℕ) (end : Option End) (over : Bool) (s : Session) (now : ℕ) (ms : List (List ℕ)) → Keeps came up end over s
    → Keeps came up end over (messages_take s now ms).after
messages-keep came up end over s now [] k = k
messages-keep came up end over s now (m ∷ ms) k =
    messages-keep came up end over (message s now m).after now ms (message-keeps came up end over s now m (id_of m == 0) k)

messages-up : (s : Session) (now : ℕ) (ms : List (List ℕ)) → (messages_take s now ms).up ≡ []
messages-up s now [] = refl
messages-up s now (m ∷ ms) = refl

-- ---- one input

-- what is served and what an effect adds to it
abbrev Goes : List (List ℕ) → List ℕ → Effect → Type 0
Goes came up e = Serves came (up ++ e.up) e.after

choose-goes : (came : List (List ℕ)) (up : List ℕ) (b : Bool) (e f : Effect) → (b ≡ true → Goes came up e) → (b ≡ false → Goes came up f) → Goes came up (if b then e else f)
choose-goes came up true e f p q = p refl
choose-goes came up false e f p q = q refl

-- nothing goes to the server
quiet : (came : List (List ℕ)) (up : List ℕ) (s : Session) (down : List (List ℕ)) → Serves came up s → Goes came up (record { after = s; up = []; down = down })
quiet came up s down c = subst (λ (l : List ℕ). Serves came l s) (sym (append-nil up)) c

-- while it hasn't ended nothing stands behind what was asked
unended : (came : List (List ℕ)) (up : List ℕ) (s : Session) → Serves came up s → is_some s.end ≡ false → Carried came up s.requests
unended came up s c open_ = subst (λ (l : List ℕ). Carried came l s.requests) (sym (c.up_is ∙ by c.ending)) c.carried
  where
    by : IsLast c.last s → c.asked ++ c.last ≡ c.asked
    by (inl none) = ap (λ l. c.asked ++ l) none ∙ append-nil c.asked
    by (inr last) = absurd (cc (sym open_ ∙ last.1))

-- it ends, and nothing more goes to the server
ends-quietly : (came : List (List ℕ)) (up : List ℕ) (s t : Session) → Carried came up s.requests → t.requests ≡ asks.ended s.requests → Serves came up t
ends-quietly came up s t c is = record {
  asked = up;
  carried = subst (λ (r : Requests). Carried came up r) (sym is) (ended-carried came up s.requests c);
  last = [];
  up_is = sym (append-nil up);
  ending = inl refl;
  over = λ h. ap (λ (r : Requests). r.over) is;
}

-- it ends, and one byte goes to the server
ends-lost : (came : List (List ℕ)) (up : List ℕ) (s t : Session) → Carried came up s.requests → t.requests ≡ asks.ended s.requests → is_some t.end ≡ true
    → Serves came (up ++ 0x20 ∷ []) t
ends-lost came up s t c is ended = record {
  asked = up;
  carried = subst (λ (r : Requests). Carried came up r) (sym is) (ended-carried came up s.requests c);
  last = 0x20 ∷ [];
  up_is = refl;
  ending = inr (refl, ended);
  over = λ h. ap (λ (r : Requests). r.over) is;
}

-- the notices alone change, or when something was heard
same-requests : (came : List (List ℕ)) (up : List ℕ) (s t : Session) → t.requests ≡ s.requests → t.end ≡ s.end → Serves came up s → Serves came up t
same-requests came up s t r e c = record {
  asked = c.asked;
  carried = subst (λ (q : Requests). Carried came c.asked q) (sym r) c.carried;
  last = c.last;
  up_is = c.up_is;
  ending = by c.ending;
  over = λ h. ap (λ (q : Requests). q.over) r ∙ c.over (ap (λ o. is_some o) (sym e) ∙ h);
}
  where
    by : IsLast c.last s → IsLast c.last t
    by (inl none) = inl none
    by (inr last) = inr (last.0, ap (λ o. is_some o) e ∙ last.1)

-- it ends, and what was asked stays
finished-serves : (came : List (List ℕ)) (up : List ℕ) (end : End) (now : ℕ) (s : Session) → Serves came up s → Serves came up (finished end now s)
finished-serves came up end now s c = record {
  asked = c.asked;
  carried = ended-carried came c.asked s.requests c.carried;
  last = c.last;
  up_is = c.up_is;
  ending = by c.ending;
  over = λ h. refl;
}
  where
    by : IsLast c.last s → IsLast c.last (finished end now s)
    by (inl none) = inl none
    by (inr last) = inr (last.0, refl)

-- it ends, and a Goodbye is sent
parted-serves : (came : List (List ℕ)) (up : List ℕ) (end : End) (now : ℕ) (s : Session) → Serves came up s → Serves came up (parts_with end now s).after
parted-serves came up end now s c = same-requests came up (finished end now s) (parts_with end now s).after refl refl (finished-serves came up end now s c)

hears-serves : (came : List (List ℕ)) (up : List ℕ) (h : Heard) (now : ℕ) (s : Session) → Serves came up s → Serves came up (hears h now s).after
hears-serves came up Was.Nothing now s c = c
hears-serves came up (Was.Acknowledgement id) now s c = same-requests came up s (hears (Was.Acknowledgement id) now s).after refl refl c
hears-serves came up (Was.Request primitive) now s c = same-requests came up s (hears (Was.Request primitive) now s).after refl refl c
hears-serves came up Was.Goodbye now s c = finished-serves came up Why.Goodbye now s c

-- the requests of a datagram
asks-serves : (came : List (List ℕ)) (up : List ℕ) (s : Session) (waiting now : ℕ) (d : List ℕ) (b : Bool) → is_some s.end ≡ b → 12 ≤ length d → Serves came up s
    → Serves (came ++ d ∷ []) (up ++ (effect s.requests waiting now d).up) (record s { requests = (effect s.requests waiting now d).after; heard = now })
asks-serves came up s waiting now d false open_ long c = record {
  asked = up ++ (effect s.requests waiting now d).up;
  carried = effect-kept came up s.requests waiting now d long (unended came up s c open_);
  last = [];
  up_is = sym (append-nil (up ++ (effect s.requests waiting now d).up));
  ending = inl refl;
  over = λ h. absurd (cc (sym open_ ∙ h));
}
asks-serves came up s waiting now d true closed long c =
    let e = effect-closed s.requests waiting now d (c.over closed) in
    record {
      asked = c.asked;
      carried = subst (λ (l : List ℕ). Carried (came ++ d ∷ []) l (effect s.requests waiting now d).after)
          (ap (λ l. c.asked ++ l) e.0 ∙ append-nil c.asked) (effect-kept came c.asked s.requests waiting now d long c.carried);
      last = c.last;
      up_is = ap (λ l. up ++ l) e.0 ∙ append-nil up ∙ c.up_is;
      ending = c.ending;
      over = λ h. e.1;
    }

datagram-serves : (came : List (List ℕ)) (up : List ℕ) (s : Session) (waiting now : ℕ) (d : List ℕ) → 12 ≤ length d → Serves came up s
    → Goes (came ++ d ∷ []) up (session.datagram s waiting now d)
datagram-serves came up s waiting now d long c =
    hears-serves (came ++ d ∷ []) (up ++ (effect s.requests waiting now d).up) (effect s.requests waiting now d).heard now
    (record s { requests = (effect s.requests waiting now d).after; heard = now })
    (asks-serves came up s waiting now d (is_some s.end) refl long c)

open-serves : (came : List (List ℕ)) (up : List ℕ) (s : Session) (now : ℕ) (stream : List ℕ) (ms : List (List ℕ)) → Serves came up s → is_some s.end ≡ false
    → Goes came up (messages_take (record s { stream = stream }) now ms)
open-serves came up s now stream ms c open_ =
    let s0 : Session = record s { stream = stream } in
    let k : Keeps came up s.end s.requests.over (messages_take s0 now ms).after =
    messages-keep came up s.end s.requests.over s0 now ms (record { carried = unended came up s c open_; end_is = refl; over_is = refl }) in
    let none : up ++ (messages_take s0 now ms).up ≡ up = ap (λ l. up ++ l) (messages-up s0 now ms) ∙ append-nil up in
    record {
      asked = up;
      carried = k.carried;
      last = [];
      up_is = none ∙ sym (append-nil up);
      ending = inl refl;
      over = λ h. absurd (cc (sym open_ ∙ ap (λ o. is_some o) (sym k.end_is) ∙ h));
    }

server-serves : (came : List (List ℕ)) (up : List ℕ) (s : Session) (now : ℕ) (p : List ℕ) → Serves came up s → Goes came up (server s now p)
server-serves came up s now p c =
    choose-goes came up (is_some s.end) (nothing s) (messages_take (record s { stream = rest (s.stream ++ p) }) now (messages (s.stream ++ p)))
    (λ h. quiet came up s [] c) (λ open_. open-serves came up s now (rest (s.stream ++ p)) (messages (s.stream ++ p)) c open_)

unless-ended-serves : (came : List (List ℕ)) (up : List ℕ) (s : Session) (e : Effect) → Serves came up s → (is_some s.end ≡ false → Goes came up e) → Goes came up (unless_ended s e)
unless-ended-serves came up s e c f = choose-goes came up (is_some s.end) (nothing s) e (λ h. quiet came up s [] c) f

refused-serves : (came : List (List ℕ)) (up : List ℕ) (s : Session) (now : ℕ) (last : Option ℕ) → Serves came up s → Goes came up (refused last now s)
refused-serves came up s now None c = quiet came up (finished Why.NoServer now s) [] (finished-serves came up Why.NoServer now s c)
refused-serves came up s now (Some id) c =
    let f = finished-serves came up Why.NoServer now s c in
    quiet came up (refused (Some id) now s).after (refused (Some id) now s).down (record {
      asked = f.asked;
      carried = answer-carried came f.asked (finished Why.NoServer now s).requests (refused (Some id) now s).down f.carried;
      last = f.last;
      up_is = f.up_is;
      ending = f.ending;
      over = f.over;
    })

loses-serves : (came : List (List ℕ)) (up : List ℕ) (s : Session) (end : End) (now : ℕ) → Serves came up s → is_some s.end ≡ false → Goes came up (loses end now s)
loses-serves came up s end now c open_ = ends-lost came up s (finished end now s) (unended came up s c open_) refl refl

shuts-out-serves : (came : List (List ℕ)) (up : List ℕ) (s : Session) (end : End) (now : ℕ) → Serves came up s → is_some s.end ≡ false → Goes came up (shuts_out end now s)
shuts-out-serves came up s end now c open_ = ends-lost came up s (parts_with end now s).after (unended came up s c open_) refl refl

-- ---- times

expired-serves : (came : List (List ℕ)) (up : List ℕ) (s : Session) (b : Bool) → Serves came up s
    → Serves came up (if b then record s { requests = forgotten s.requests } else s)
expired-serves came up s true c = record {
  asked = c.asked;
  carried = forgotten-carried came c.asked s.requests c.carried;
  last = c.last;
  up_is = c.up_is;
  ending = c.ending;
  over = c.over;
}
expired-serves came up s false c = c

-- other notices
noted-serves : (came : List (List ℕ)) (up : List ℕ) (s : Session) (n : notes.Notices) → Serves came up s → Serves came up (record s { notices = n })
noted-serves came up s n c = same-requests came up s (record s { notices = n }) refl refl c

waits-for-serves : (came : List (List ℕ)) (up : List ℕ) (s : Session) (now : ℕ) → Serves came up s → Goes came up (waits_for s now)
waits-for-serves came up s now c =
    choose-goes came up (notes.is_lost s.notices.out now)
    (if is_some s.end then nothing (record s { notices = notes.given_up s.notices }) else loses Why.Lost now s)
    (record { after = record s { notices = (notes.again s.notices now).after }; up = []; down = (notes.again s.notices now).down })
    (λ h. choose-goes came up (is_some s.end) (nothing (record s { notices = notes.given_up s.notices })) (loses Why.Lost now s)
    (λ h. quiet came up (record s { notices = notes.given_up s.notices }) [] (noted-serves came up s (notes.given_up s.notices) c))
    (λ open_. loses-serves came up s Why.Lost now c open_))
    (λ h. quiet came up (record s { notices = (notes.again s.notices now).after }) (notes.again s.notices now).down (noted-serves came up s (notes.again s.notices now).after c))

probes-serves : (came : List (List ℕ)) (up : List ℕ) (o : Option (List ℕ)) (s : Session) (now : ℕ) → Serves came up s → Goes came up (probes o s now)
probes-serves came up None s now c = quiet came up s [] c
probes-serves came up (Some m) s now c =
    let b = notes.begun s.notices s.requests.last s.terms.limit now m in
    choose-goes came up (nat_le s.terms.probe (now - s.heard)) (record { after = record s { notices = b.after }; up = []; down = b.down }) (nothing s)
    (λ h. quiet came up (record s { notices = b.after }) b.down (noted-serves came up s b.after c))
    (λ h. quiet came up s [] c)

late-serves : (came : List (List ℕ)) (up : List ℕ) (s : Session) (now : ℕ) → Serves came up s → Goes came up (is_late s now)
late-serves came up s now c =
    choose-goes came up (notes.is_out s.notices.out) (waits_for s now) (probes (last_of s.own) s now)
    (λ h. waits-for-serves came up s now c) (λ h. probes-serves came up (last_of s.own) s now c)

-- ---- runs

none-came : (came : List (List ℕ)) (up : List ℕ) (s : Session) → Serves came up s → Serves (came ++ []) up s
none-came came up s c = subst (λ (l : List (List ℕ)). Serves l up s) (sym (append-nil came)) c

step-serves : (came : List (List ℕ)) (up : List ℕ) (s : Session) (i : Input) → IsWhole i → Serves came up s
    → Serves (came ++ came_by i) (up ++ (step s i).up) (step s i).after
step-serves came up s (datagram waiting now d) long c = datagram-serves came up s waiting now d long c
step-serves came up s (piece now p) long c = none-came came _ _ (server-serves came up s now p c)
step-serves came up s (ends now) long c =
    none-came came _ _ (unless-ended-serves came up s (server_ends now s) c
    (λ open_. choose-goes came up s.answered (parts_with Why.ServerGone now s) (refused s.requests.last now s)
    (λ h. quiet came up (parts_with Why.ServerGone now s).after (parts_with Why.ServerGone now s).down (parted-serves came up Why.ServerGone now s c))
    (λ h. refused-serves came up s now s.requests.last c)))
step-serves came up s (shut end now) long c =
    none-came came _ _ (unless-ended-serves came up s (shuts_out end now s) c (λ open_. shuts-out-serves came up s end now c open_))
step-serves came up s (lost end now) long c =
    none-came came _ _ (unless-ended-serves came up s (loses end now s) c (λ open_. loses-serves came up s end now c open_))
step-serves came up s (late now) long c =
    none-came came _ _ (late-serves came up (expired s now) now
    (expired-serves came up s (expires (held_since s.requests.held) now (t2_of s.notices.pace.t1)) c))

run-serves : (came_before : List (List ℕ)) (up : List ℕ) (s : Session) (is : List Input) → AreWhole is → Serves came_before up s
    → Serves (came_before ++ came is) (up ++ (run s is).up) (run s is).after
run-serves came_before up s [] whole c =
    none-came came_before (up ++ []) s (subst (λ (l : List ℕ). Serves came_before l s) (sym (append-nil up)) c)
run-serves came_before up s (i ∷ is) whole c =
    let rest_of = run-serves (came_before ++ came_by i) (up ++ (step s i).up) (step s i).after is whole.1 (step-serves came_before up s i whole.0 c) in
    subst (λ (l : List (List ℕ)). Serves l (up ++ ((step s i).up ++ (run (step s i).after is).up)) (run (step s i).after is).after) (append_assoc came_before (came_by i) (came is))
    (subst (λ (l : List ℕ). Serves ((came_before ++ came_by i) ++ came is) l (run (step s i).after is).after) (append_assoc up (step s i).up (run (step s i).after is).up) rest_of)

begins-serves : (terms : Terms) (first now : ℕ) → Serves [] [] (begins terms first now)
begins-serves terms first now = record {
  asked = [];
  carried = record { taken = []; made = tt; ascend = tt; last = refl; sent = refl; held = tt };
  last = [];
  up_is = refl;
  ending = inl refl;
  over = λ h. absurd (cc h);
}

-- of any run
pub serves : (terms : Terms) (first now : ℕ) (is : List Input) → AreWhole is
    → Serves (came is) (run (begins terms first now) is).up (run (begins terms first now) is).after
serves terms first now is whole = run-serves [] [] (begins terms first now) is whole (begins-serves terms first now)
