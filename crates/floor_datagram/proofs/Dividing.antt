-- The server's messages are those of its stream, however that was cut; and the terms of a session stay.
use Rattle.std.proofs.Common.{◌≡◌, ◌⊎◌, inl, inr, ℕ, ◌-◌, ◌==◌, Bool, true, false, List, [], ◌∷◌, ◌++◌, Option, Some, None, is_some, nat_le, refl, sym, ap, subst, ◌∙◌, append-nil, append_assoc, if◌then◌else◌, arith}
use Rattle.floor_wire.specs.Message.{messages, rest}
use Rattle.floor_wire.proofs.Messages.{messages-append, messages-none, messages-rest, rest-whole}
use Rattle.floor_datagram.specs.Datagrams.{id_of}
use Rattle.floor_datagram.specs.Fragments.{held_since}
use Rattle.floor_datagram.specs.Requests as asks
use Rattle.floor_datagram.specs.Requests.{forgotten}
use Rattle.floor_datagram.specs.Notices as notes
use Rattle.floor_datagram.specs.Notices.{begun, given_up, is_lost, is_out}
use Rattle.floor_datagram.specs.Pace.{t2_of}
use Rattle.floor_datagram.specs.Session.{Session, Effect, Terms, nothing, begins, hears, noted, tells, answers, message, messages_take, parts, loses, shuts_out, unless_ended, refused, server_ends, expires, expired, last_of, probes, waits_for, is_late}
use Rattle.floor_datagram.specs.Run.{Input, datagram, piece, ends, shut, lost, late, step, run}
use Rattle.floor_datagram.specs.Sending.{said, said_by}
use Rattle.floor_datagram.specs.declared.heard.Heard.{Heard}
use Rattle.floor_datagram.specs.declared.heard.Heard.TheVariants as Was
use Rattle.floor_datagram.specs.declared.end.End.TheVariants as Why
use Rattle.floor_datagram.proofs.Losing.{messages-end}

-- the messages of the server's that are whole with an input, while the session goes on
abbrev pub whole_by : Session → Input → List (List ℕ)
whole_by s (datagram waiting now d) = []
whole_by s (piece now p) = if is_some s.end then [] else messages (s.stream ++ p)
whole_by s (ends now) = []
whole_by s (shut end now) = []
whole_by s (lost end now) = []
whole_by s (late now) = []

-- those of a run
abbrev pub whole : Session → List Input → List (List ℕ)
whole s [] = []
whole s (i ∷ is) = whole_by s i ++ whole (step s i).after is

-- how it ended, if it has, is as it was, and this is held of the stream; or it has ended, and holds nothing
abbrev Ends : List ℕ → Session → Session → Type 0
Ends stream s t = ((t.end ≡ s.end) × (t.stream ≡ stream)) ⊎ ((is_some t.end ≡ true) × (t.stream ≡ []))

-- what an input leaves: the terms, and what is held of the stream, as it was
abbrev Stays : Session → Session → Type 0
Stays s t = (t.terms ≡ s.terms) × Ends s.stream s t

choose-stays : (s : Session) (b : Bool) (e f : Effect) → Stays s e.after → Stays s f.after → Stays s (if b then e else f).after
choose-stays s true e f p q = p
choose-stays s false e f p q = q

same : (s : Session) → Stays s s
same s = (refl, inl (refl, refl))

hears-stays : (heard : Heard) (now : ℕ) (s : Session) → Stays s (hears heard now s).after
hears-stays Was.Nothing now s = same s
hears-stays (Was.Acknowledgement id) now s = (refl, inl (refl, refl))
hears-stays (Was.Request primitive) now s = (refl, inl (refl, refl))
hears-stays Was.Goodbye now s = (refl, inr (refl, refl))

-- both are as they were
abbrev Keeps : Session → Session → Type 0
Keeps s t = (t.terms ≡ s.terms) × (t.stream ≡ s.stream)

message-keeps : (s : Session) (now : ℕ) (m : List ℕ) (b : Bool) → Keeps s (if b then tells (noted s m) now m else answers (noted s m) m).after
message-keeps s now m true = (refl, refl)
message-keeps s now m false = (refl, refl)

messages-keep : (s : Session) (now : ℕ) (ms : List (List ℕ)) → Keeps s (messages_take s now ms).after
messages-keep s now [] = (refl, refl)
messages-keep s now (m ∷ ms) =
    let one = message-keeps s now m (id_of m == 0) in
    let others = messages-keep (message s now m).after now ms in
    (others.0 ∙ one.0, others.1 ∙ one.1)

refused-stays : (now : ℕ) (s : Session) (last : Option ℕ) → Stays s (refused last now s).after
refused-stays now s None = (refl, inr (refl, refl))
refused-stays now s (Some id) = (refl, inr (refl, refl))

probes-stays : (o : Option (List ℕ)) (s : Session) (now : ℕ) → Stays s (probes o s now).after
probes-stays None s now = same s
probes-stays (Some m) s now =
    choose-stays s (nat_le s.terms.probe (now - s.heard)) (record {
      after = record s { notices = (begun s.notices s.requests.last s.terms.limit now m).after };
      up = [];
      down = (begun s.notices s.requests.last s.terms.limit now m).down;
    }) (nothing s) (refl, inl (refl, refl)) (same s)

late-stays : (s : Session) (now : ℕ) → Stays s (is_late s now).after
late-stays s now =
    choose-stays s (is_out s.notices.out) (waits_for s now) (probes (last_of s.own) s now)
    (choose-stays s (is_lost s.notices.out now) (if is_some s.end then nothing (record s { notices = given_up s.notices }) else loses Why.Lost now s)
    (record { after = record s { notices = (notes.again s.notices now).after }; up = []; down = (notes.again s.notices now).down })
    (choose-stays s (is_some s.end) (nothing (record s { notices = given_up s.notices })) (loses Why.Lost now s) (refl, inl (refl, refl)) (refl, inr (refl, refl)))
    (refl, inl (refl, refl)))
    (probes-stays (last_of s.own) s now)

expired-stays : (s t : Session) (now : ℕ) → Stays (expired s now) t → Stays s t
expired-stays s t now = by (expires (held_since s.requests.held) now (t2_of s.notices.pace.t1))
  where
    by : (b : Bool) → Stays (if b then record s { requests = forgotten s.requests } else s) t → Stays s t
    by true h = h
    by false h = h

-- the same, with what is left of the stream
abbrev Goes : Session → List ℕ → Session → Type 0
Goes s p t = (t.terms ≡ s.terms) × Ends (rest (s.stream ++ p)) s t

-- nothing was said
goes-on : (s t : Session) → messages s.stream ≡ [] → Stays s t → Goes s [] t
goes-on s t none stays = (stays.0, subst (λ (l : List ℕ). Ends l s t) (sym (ap (λ l. rest l) (append-nil s.stream) ∙ rest-whole s.stream none)) stays.1)

piece-goes : (s : Session) (now : ℕ) (p : List ℕ) (b : Bool) → messages s.stream ≡ []
    → Goes s (if b then [] else p) (if b then nothing s else messages_take (record s { stream = rest (s.stream ++ p) }) now (messages (s.stream ++ p))).after
piece-goes s now p true none = goes-on s s none (same s)
piece-goes s now p false none =
    let kept = messages-keep (record s { stream = rest (s.stream ++ p) }) now (messages (s.stream ++ p)) in
    (kept.0, inl (messages-end (record s { stream = rest (s.stream ++ p) }) now (messages (s.stream ++ p)), kept.1))

step-goes : (s : Session) (i : Input) → messages s.stream ≡ [] → Goes s (said_by s i) (step s i).after
step-goes s (datagram waiting now d) none =
    let e = asks.effect s.requests waiting now d in
    goes-on s (step s (datagram waiting now d)).after none (hears-stays e.heard now (record s { requests = e.after; heard = now }))
step-goes s (piece now p) none = piece-goes s now p (is_some s.end) none
step-goes s (ends now) none =
    goes-on s (unless_ended s (server_ends now s)).after none
    (choose-stays s (is_some s.end) (nothing s) (server_ends now s) (same s)
    (choose-stays s s.answered (parts Why.ServerGone now s) (refused s.requests.last now s) (refl, inr (refl, refl)) (refused-stays now s s.requests.last)))
step-goes s (shut end now) none = goes-on s (unless_ended s (shuts_out end now s)).after none (choose-stays s (is_some s.end) (nothing s) (shuts_out end now s) (same s) (refl, inr (refl, refl)))
step-goes s (lost end now) none = goes-on s (unless_ended s (loses end now s)).after none (choose-stays s (is_some s.end) (nothing s) (loses end now s) (same s) (refl, inr (refl, refl)))
step-goes s (late now) none = goes-on s (step s (late now)).after none (expired-stays s (is_late (expired s now) now).after now (late-stays (expired s now) now))

-- no message is held back
held-none : (s t : Session) (p : List ℕ) → Ends (rest (s.stream ++ p)) s t → messages t.stream ≡ []
held-none s t p (inl same) = ap (λ l. messages l) same.1 ∙ messages-rest (s.stream ++ p)
held-none s t p (inr ended) = ap (λ l. messages l) ended.1 ∙ messages-none [] (omega arith)

-- what has ended stays so
stays-ended : (s t : Session) (p : List ℕ) → Ends (rest (s.stream ++ p)) s t → is_some s.end ≡ true → is_some t.end ≡ true
stays-ended s t p (inl same) ended = ap (λ o. is_some o) same.0 ∙ ended
stays-ended s t p (inr now_ended) ended = now_ended.0

-- and nothing is said then
nothing-said : (s : Session) (i : Input) → is_some s.end ≡ true → (said_by s i ≡ []) × (whole_by s i ≡ [])
nothing-said s (datagram waiting now d) ended = (refl, refl)
nothing-said s (piece now p) ended = (ap (λ b. if b then [] else p) ended, ap (λ b. if b then [] else messages (s.stream ++ p)) ended)
nothing-said s (ends now) ended = (refl, refl)
nothing-said s (shut end now) ended = (refl, refl)
nothing-said s (lost end now) ended = (refl, refl)
nothing-said s (late now) ended = (refl, refl)

none-behind : (s : Session) (is : List Input) → messages s.stream ≡ [] → is_some s.end ≡ true → (said s is ≡ []) × (whole s is ≡ [])
none-behind s [] none ended = (refl, refl)
none-behind s (i ∷ is) none ended =
    let here = nothing-said s i ended in
    let t = (step s i).after in
    let goes = (step-goes s i none).1 in
    let later_ = none-behind t is (held-none s t (said_by s i) goes) (stays-ended s t (said_by s i) goes ended) in
    (ap (λ l. l ++ said t is) here.0 ∙ later_.0, ap (λ l. l ++ whole t is) here.1 ∙ later_.1)

-- what is whole with an input
whole-here : (s : Session) (i : Input) → messages s.stream ≡ [] → whole_by s i ≡ messages (s.stream ++ said_by s i)
whole-here s (datagram waiting now d) none = sym (ap (λ l. messages l) (append-nil s.stream) ∙ none)
whole-here s (piece now p) none = by (is_some s.end)
  where
    by : (b : Bool) → (if b then [] else messages (s.stream ++ p)) ≡ messages (s.stream ++ (if b then [] else p))
    by true = sym (ap (λ l. messages l) (append-nil s.stream) ∙ none)
    by false = refl
whole-here s (ends now) none = sym (ap (λ l. messages l) (append-nil s.stream) ∙ none)
whole-here s (shut end now) none = sym (ap (λ l. messages l) (append-nil s.stream) ∙ none)
whole-here s (lost end now) none = sym (ap (λ l. messages l) (append-nil s.stream) ∙ none)
whole-here s (late now) none = sym (ap (λ l. messages l) (append-nil s.stream) ∙ none)

-- the messages of a run, where those of what comes behind an input are known
whole-then : (s t : Session) (p more : List ℕ) (here later_ : List (List ℕ)) → here ≡ messages (s.stream ++ p) → Ends (rest (s.stream ++ p)) s t
    → later_ ≡ messages (t.stream ++ more) → (is_some t.end ≡ true → (more ≡ []) × (later_ ≡ [])) → here ++ later_ ≡ messages (s.stream ++ (p ++ more))
whole-then s t p more here later_ is (inl same) rest_is ended =
    ap (λ l. l ++ later_) is ∙ ap (λ l. messages (s.stream ++ p) ++ l) (rest_is ∙ ap (λ l. messages (l ++ more)) same.1)
    ∙ sym (messages-append (s.stream ++ p) more) ∙ ap (λ l. messages l) (append_assoc s.stream p more)
whole-then s t p more here later_ is (inr over) rest_is ended =
    let none = ended over.0 in
    ap (λ l. here ++ l) none.1 ∙ append-nil here ∙ is ∙ sym (ap (λ l. messages (s.stream ++ (p ++ l))) none.0 ∙ ap (λ l. messages (s.stream ++ l)) (append-nil p))

whole-from : (s : Session) (is : List Input) → messages s.stream ≡ [] → whole s is ≡ messages (s.stream ++ said s is)
whole-from s [] none = sym (ap (λ l. messages l) (append-nil s.stream) ∙ none)
whole-from s (i ∷ is) none =
    let t = (step s i).after in
    let goes = (step-goes s i none).1 in
    let held = held-none s t (said_by s i) goes in
    whole-then s t (said_by s i) (said t is) (whole_by s i) (whole t is) (whole-here s i none) goes (whole-from t is held) (λ ended. none-behind t is held ended)

-- of any run
pub whole-is : (terms : Terms) (first now : ℕ) (is : List Input) → whole (begins terms first now) is ≡ messages (said (begins terms first now) is)
whole-is terms first now is = whole-from (begins terms first now) is (messages-none [] (omega arith))

-- the terms stay
run-terms : (s : Session) (is : List Input) → messages s.stream ≡ [] → (run s is).after.terms ≡ s.terms
run-terms s [] none = refl
run-terms s (i ∷ is) none =
    let goes = step-goes s i none in
    run-terms (step s i).after is (held-none s (step s i).after (said_by s i) goes.1) ∙ goes.0

pub terms-stay : (terms : Terms) (first now : ℕ) (is : List Input) → (run (begins terms first now) is).after.terms ≡ terms
terms-stay terms first now is = run-terms (begins terms first now) is (messages-none [] (omega arith))
