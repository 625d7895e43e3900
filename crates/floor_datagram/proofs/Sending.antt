-- What the peer is sent over a whole run.
use Rattle.std.proofs.Common.{◌≡◌, ◌⊎◌, inl, inr, ℕ, ◌+◌, ◌-◌, ◌==◌, Bool, true, false, not, ◌&&◌, List, [], ◌∷◌, ◌++◌, length, Option, Some, None, is_some, nat_le, nat_lt, refl, sym, ap, subst, ◌∙◌, append-nil, append_assoc, if◌then◌else◌}
use Rattle.std.specs.List.{AllByRecursion}
use Rattle.std.proofs.lemmas.Grind.{flat_map-append}
use Rattle.std.proofs.lemmas.List.Elements.{filter-append}
use Rattle.floor_wire.specs.Message.{messages, rest}
use Rattle.floor_datagram.specs.Datagrams.{id_of, primitive_of, kind_of}
use Rattle.floor_datagram.specs.Numbering.{age_of}
use Rattle.floor_datagram.specs.Written.{goodbye_ack, error, raised, pieces}
use Rattle.floor_datagram.specs.Fragments.{Fragments, placed, without, offset_of, fragment_of, held_since}
use Rattle.floor_datagram.specs.Requests as asks
use Rattle.floor_datagram.specs.Requests.{Requests, silent, replied, passed_on, parted, taken, asked, judged, put_together, aged, parts, does, effect, answered, answer_of, is_last, forgotten, max_waiting}
use Rattle.floor_datagram.specs.Notices as notes
use Rattle.floor_datagram.specs.Notices.{Notices, Out, put, waits, told, crossed, pumped, pumped_with, begun, closed_with, is_out_as, acknowledged, again_with, given_up, pace_with, fresh_id, is_due, tries_of, has_subject, is_out}
use Rattle.floor_datagram.specs.Pace.{t2_of, Pace}
use Rattle.floor_datagram.specs.HelloAck.{extended}
use Rattle.floor_datagram.specs.Taken.{IsAmong}
use Rattle.floor_datagram.specs.Session as session
use Rattle.floor_datagram.specs.Session.{Session, Effect, Terms, nothing, begins, finished, hears, noted, tells, message, messages_take, server, parts as parts_with, loses, shuts_out, unless_ended, refused, refusal_of, server_ends, expires, expired, last_of, probes, waits_for, is_late, goodbye}
use Rattle.floor_datagram.specs.Run.{Input, datagram, piece, ends, shut, lost, late, step, run}
use Rattle.floor_datagram.specs.Sending.{said, Said, answer, notice, own, datagrams_of, Sent, first, again, datagrams, answers_in, is_answer, answers, WasSent, IsOwnAnswer, IsCalledFor, IsSentSo, AreSentSo, Sends}
use Rattle.floor_datagram.specs.declared.kind.Kind.{Kind}
use Rattle.floor_datagram.specs.declared.kind.Kind.TheVariants as Kinds
use Rattle.floor_datagram.specs.declared.numbering.Age.{Age}
use Rattle.floor_datagram.specs.declared.numbering.Age.TheVariants.{Copy, Older, Newer}
use Rattle.floor_datagram.specs.declared.fragments.Fragment.{Fragment}
use Rattle.floor_datagram.specs.declared.fragments.Fragment.TheVariants as Fragment_is
use Rattle.floor_datagram.specs.declared.heard.Heard.{Heard}
use Rattle.floor_datagram.specs.declared.heard.Heard.TheVariants as Was
use Rattle.floor_datagram.specs.declared.end.End.{End}
use Rattle.floor_datagram.specs.declared.end.End.TheVariants as Why
use Rattle.floor_datagram.proofs.Carrying.{among-more, among-last}
use Rattle.floor_datagram.proofs.Dividing.{terms-stay, whole, whole_by, whole-is}
use Rattle.floor_datagram.proofs.Each.{each-at, each-map, each-own, each-put}

-- ---- what was sent stays so, behind more

was-more : (sent more : List Sent) (x : Said) → WasSent sent x → WasSent (sent ++ more) x
was-more [] more x w = absurd w
was-more (first y ∷ sent) more x (inl e) = inl e
was-more (first y ∷ sent) more x (inr w) = inr (was-more sent more x w)
was-more (again y ∷ sent) more x w = was-more sent more x w

was-last : (sent : List Sent) (x : Said) → WasSent (sent ++ first x ∷ []) x
was-last [] x = inl refl
was-last (first y ∷ sent) x = inr (was-last sent x)
was-last (again y ∷ sent) x = was-last sent x

called-more : (terms : Terms) (ms more : List (List ℕ)) (x : Said) → IsCalledFor terms ms x → IsCalledFor terms (ms ++ more) x
called-more terms ms more (answer m) c = among-more ms more m c
called-more terms ms more (notice id m) (inl c) = inl (among-more ms more m c)
called-more terms ms more (notice id m) (inr c) = inr c
called-more terms ms more (own d) c = c

so-more : (terms : Terms) (ms more : List (List ℕ)) (before : List Sent) (x : Sent) → IsSentSo terms ms before x → IsSentSo terms (ms ++ more) before x
so-more terms ms more before (first x) c = called-more terms ms more x c
so-more terms ms more before (again x) w = w

all-more : (terms : Terms) (ms more : List (List ℕ)) (before sent : List Sent) → AreSentSo terms ms before sent → AreSentSo terms (ms ++ more) before sent
all-more terms ms more before [] s = tt
all-more terms ms more before (x ∷ sent) s = (so-more terms ms more before x s.0, all-more terms ms more (before ++ x ∷ []) sent s.1)

all-append : (terms : Terms) (ms : List (List ℕ)) (before sent more : List Sent) → AreSentSo terms ms before sent → AreSentSo terms ms (before ++ sent) more
    → AreSentSo terms ms before (sent ++ more)
all-append terms ms before [] more s t = let P : List Sent → Type 0 = λ l. AreSentSo terms ms l more in subst P (append-nil before) t
all-append terms ms before (x ∷ sent) more s t =
    let P : List Sent → Type 0 = λ l. AreSentSo terms ms l more in
    (s.0, all-append terms ms (before ++ x ∷ []) sent more s.1 (subst P (sym (append_assoc before (x ∷ []) sent)) t))

-- what stands in a log
record Base (terms : Terms) (ms down : List (List ℕ)) (sent : List Sent) : Type 0 where
  down_is : down ≡ datagrams terms.limit sent
  answered_is : answers_in sent ≡ answers ms
  so : AreSentSo terms ms [] sent

datagrams-append : (limit : ℕ) (a b : List Sent) → datagrams limit (a ++ b) ≡ datagrams limit a ++ datagrams limit b
datagrams-append limit a b = flat_map-append _ a b

answers-append : (a b : List Sent) → answers_in (a ++ b) ≡ answers_in a ++ answers_in b
answers-append a b = flat_map-append _ a b

both-append : (a b c d : List (List ℕ)) → a ≡ c → b ≡ d → a ++ b ≡ c ++ d
both-append a b c d p q = ap (λ l. l ++ b) p ∙ ap (λ l. c ++ l) q

base-add : (terms : Terms) (ms more_ms down more_down : List (List ℕ)) (sent more : List Sent) → Base terms ms down sent → more_down ≡ datagrams terms.limit more
    → answers_in more ≡ answers more_ms → AreSentSo terms (ms ++ more_ms) sent more → Base terms (ms ++ more_ms) (down ++ more_down) (sent ++ more)
base-add terms ms more_ms down more_down sent more b d a s = record {
  down_is = both-append down more_down (datagrams terms.limit sent) (datagrams terms.limit more) b.down_is d ∙ sym (datagrams-append terms.limit sent more);
  answered_is = answers-append sent more ∙ both-append (answers_in sent) (answers_in more) (answers ms) (answers more_ms) b.answered_is a
      ∙ sym (filter-append is_answer ms more_ms);
  so = all-append terms (ms ++ more_ms) [] sent more (all-more terms ms more_ms [] sent b.so) s;
}

-- with no message more
base-more : (terms : Terms) (ms down more_down : List (List ℕ)) (sent more : List Sent) → Base terms ms down sent → more_down ≡ datagrams terms.limit more
    → answers_in more ≡ [] → AreSentSo terms ms sent more → Base terms ms (down ++ more_down) (sent ++ more)
base-more terms ms down more_down sent more b d a s = record {
  down_is = both-append down more_down (datagrams terms.limit sent) (datagrams terms.limit more) b.down_is d ∙ sym (datagrams-append terms.limit sent more);
  answered_is = answers-append sent more ∙ both-append (answers_in sent) (answers_in more) (answers ms) [] b.answered_is a ∙ append-nil (answers ms);
  so = all-append terms ms [] sent more b.so s;
}

-- ---- the notice that is out, and the answer that is kept, were sent

abbrev OutWas : Terms → List Sent → Option Out → Type 0
OutWas terms sent None = Unit {0}
OutWas terms sent (Some o) = (m : List ℕ) × WasSent sent (notice o.id m) × (o.datagrams ≡ pieces terms.limit (raised false o.id m))

abbrev KeptWas : (limit : ℕ) → List Sent → List (List ℕ) → Type 0
KeptWas limit sent ds = (ds ≡ []) ⊎ ((x : Said) × WasSent sent x × (ds ≡ datagrams_of limit x))

out-more : (terms : Terms) (sent more : List Sent) (o : Option Out) → OutWas terms sent o → OutWas terms (sent ++ more) o
out-more terms sent more None w = tt
out-more terms sent more (Some o) w = (w.0, was-more sent more (notice o.id w.0) w.1, w.2)

kept-more : (limit : ℕ) (sent more : List Sent) (ds : List (List ℕ)) → KeptWas limit sent ds → KeptWas limit (sent ++ more) ds
kept-more limit sent more ds (inl e) = inl e
kept-more limit sent more ds (inr k) = inr (k.0, was-more sent more k.0 k.1, k.2)

-- a session, and what its peer was sent
record Log (ms down : List (List ℕ)) (s : Session) : Type 0 where
  sent : List Sent
  base : Base s.terms ms down sent
  out : OutWas s.terms sent s.notices.out
  kept : KeptWas s.terms.limit sent s.requests.answer
  waiting : AllByRecursion (IsAmong ms) s.notices.waiting
  own_are : AllByRecursion (IsAmong ms) s.own

-- ---- what notices add

record Adds (terms : Terms) (ms : List (List ℕ)) (sent : List Sent) (e : notes.Sends) : Type 0 where
  more : List Sent
  down_is : e.down ≡ datagrams terms.limit more
  none : answers_in more ≡ []
  so : AreSentSo terms ms sent more
  out : OutWas terms (sent ++ more) e.after.out
  waiting : AllByRecursion (IsAmong ms) e.after.waiting

adds-nothing : (terms : Terms) (ms : List (List ℕ)) (sent : List Sent) (n : Notices) → OutWas terms sent n.out → AllByRecursion (IsAmong ms) n.waiting → Adds terms ms sent (notes.keeps_still n)
adds-nothing terms ms sent n out waiting = record { more = []; down_is = refl; none = refl; so = tt; out = out-more terms sent [] n.out out; waiting = waiting }

adds-begun : (terms : Terms) (ms : List (List ℕ)) (sent : List Sent) (n : Notices) (last : Option ℕ) (now : ℕ) (m : List ℕ) → IsAmong ms m ⊎ (m ≡ goodbye terms)
    → AllByRecursion (IsAmong ms) n.waiting → Adds terms ms sent (begun n last terms.limit now m)
adds-begun terms ms sent n last now m is waiting =
    let id = fresh_id last n.next in
    record {
      more = first (notice id m) ∷ [];
      down_is = sym (append-nil (pieces terms.limit (raised false id m)));
      none = refl;
      so = (is, tt);
      out = (m, was-last sent (notice id m), refl);
      waiting = waiting;
    }

adds-pumped : (terms : Terms) (ms : List (List ℕ)) (sent : List Sent) (n : Notices) (last : Option ℕ) (now : ℕ) (o : Option Out) (ws : List (List ℕ)) → n.waiting ≡ ws
    → OutWas terms sent n.out → AllByRecursion (IsAmong ms) n.waiting → Adds terms ms sent (pumped_with o ws n last terms.limit now)
adds-pumped terms ms sent n last now (Some o) ws is out waiting = adds-nothing terms ms sent n out waiting
adds-pumped terms ms sent n last now None [] is out waiting = adds-nothing terms ms sent n out waiting
adds-pumped terms ms sent n last now None (w ∷ ws) is out waiting =
    let front : AllByRecursion (IsAmong ms) (w ∷ ws) = subst (λ (l : List (List ℕ)). AllByRecursion (IsAmong ms) l) is waiting in
    adds-begun terms ms sent (record n { waiting = ws }) last now w (inl front.0) front.1

adds-closed : (terms : Terms) (ms : List (List ℕ)) (sent : List Sent) (n : Notices) (last : Option ℕ) (now : ℕ) (pace : Pace) (c : Bool) → OutWas terms sent n.out
    → AllByRecursion (IsAmong ms) n.waiting
    → Adds terms ms sent (if c then pumped (if c then record n { out = None; pace = pace } else n) last terms.limit now else notes.keeps_still n)
adds-closed terms ms sent n last now pace true out waiting = adds-pumped terms ms sent (record n { out = None; pace = pace }) last now None n.waiting refl tt waiting
adds-closed terms ms sent n last now pace false out waiting = adds-nothing terms ms sent n out waiting

adds-acknowledged : (terms : Terms) (ms : List (List ℕ)) (sent : List Sent) (n : Notices) (last : Option ℕ) (now id : ℕ) (o : Option Out) → OutWas terms sent n.out
    → AllByRecursion (IsAmong ms) n.waiting
    → Adds terms ms sent (if is_out_as id o then pumped (closed_with o n now id) last terms.limit now else notes.keeps_still n)
adds-acknowledged terms ms sent n last now id None out waiting = adds-nothing terms ms sent n out waiting
adds-acknowledged terms ms sent n last now id (Some o) out waiting = adds-closed terms ms sent n last now (pace_with n.pace o now) (o.id == id) out waiting

adds-again : (terms : Terms) (ms : List (List ℕ)) (sent : List Sent) (n : Notices) (o : Option Out) → OutWas terms sent o → OutWas terms sent n.out → AllByRecursion (IsAmong ms) n.waiting
    → Adds terms ms sent (again_with o n)
adds-again terms ms sent n None w out waiting = adds-nothing terms ms sent n out waiting
adds-again terms ms sent n (Some o) w out waiting = record {
  more = again (notice o.id w.0) ∷ [];
  down_is = w.2 ∙ sym (append-nil (pieces terms.limit (raised false o.id w.0)));
  none = refl;
  so = (w.1, tt);
  out = (w.0, was-more sent (again (notice o.id w.0) ∷ []) (notice o.id w.0) w.1, w.2);
  waiting = waiting;
}

-- the notices alone go on
log-notices : (ms down : List (List ℕ)) (s : Session) (e : notes.Sends) → (l : Log ms down s) → Adds s.terms ms l.sent e → Log ms (down ++ e.down) (record s { notices = e.after })
log-notices ms down s e l a = record {
  sent = l.sent ++ a.more;
  base = base-more s.terms ms down e.down l.sent a.more l.base a.down_is a.none a.so;
  out = a.out;
  kept = kept-more s.terms.limit l.sent a.more s.requests.answer l.kept;
  waiting = a.waiting;
  own_are = l.own_are;
}

-- ---- what requests add

record AddsAsked (terms : Terms) (ms : List (List ℕ)) (sent : List Sent) (e : asks.Effect) : Type 0 where
  more : List Sent
  down_is : e.down ≡ datagrams terms.limit more
  none : answers_in more ≡ []
  so : AreSentSo terms ms sent more
  kept : KeptWas terms.limit (sent ++ more) e.after.answer

asked-nothing : (terms : Terms) (ms : List (List ℕ)) (sent : List Sent) (e : asks.Effect) → e.down ≡ [] → KeptWas terms.limit sent e.after.answer → AddsAsked terms ms sent e
asked-nothing terms ms sent e none k = record { more = []; down_is = none; none = refl; so = tt; kept = kept-more terms.limit sent [] e.after.answer k }

-- what was sent for the last request is sent once more
asked-copy : (terms : Terms) (ms : List (List ℕ)) (sent : List Sent) (r : Requests) → KeptWas terms.limit sent r.answer → AddsAsked terms ms sent (replied r r.answer)
asked-copy terms ms sent r (inl e) = asked-nothing terms ms sent (replied r r.answer) e (inl e)
asked-copy terms ms sent r (inr k) = record {
  more = again k.0 ∷ [];
  down_is = k.2 ∙ sym (append-nil (datagrams_of terms.limit k.0));
  none = refl;
  so = (k.1, tt);
  kept = kept-more terms.limit sent (again k.0 ∷ []) r.answer (inr k);
}

asked-own : (terms : Terms) (ms : List (List ℕ)) (sent : List Sent) (e : asks.Effect) (d : List ℕ) → e.down ≡ d ∷ [] → IsOwnAnswer terms d
    → KeptWas terms.limit (sent ++ first (own d) ∷ []) e.after.answer → AddsAsked terms ms sent e
asked-own terms ms sent e d down is k = record { more = first (own d) ∷ []; down_is = down; none = refl; so = (is, tt); kept = k }

choose-asked : (terms : Terms) (ms : List (List ℕ)) (sent : List Sent) (b : Bool) (e f : asks.Effect) → AddsAsked terms ms sent e → AddsAsked terms ms sent f → AddsAsked terms ms sent (if b then e else f)
choose-asked terms ms sent true e f p q = p
choose-asked terms ms sent false e f p q = q

error-adds : (terms : Terms) (ms : List (List ℕ)) (sent : List Sent) (r : Requests) (d : List ℕ) → KeptWas terms.limit sent r.answer → AddsAsked terms ms sent (replied r (error 13 d ∷ []))
error-adds terms ms sent r d k =
    asked-own terms ms sent (replied r (error 13 d ∷ [])) (error 13 d) refl (inr (inl (d, refl))) (kept-more terms.limit sent (first (own (error 13 d)) ∷ []) r.answer k)

age-adds : (terms : Terms) (ms : List (List ℕ)) (sent : List Sent) (a : Age) (r : Requests) (waiting : ℕ) (m : List ℕ) → KeptWas terms.limit sent r.answer → AddsAsked terms ms sent (asked a r waiting m)
age-adds terms ms sent Copy r waiting m k = asked-copy terms ms sent r k
age-adds terms ms sent Older r waiting m k = asked-nothing terms ms sent (silent r) refl k
age-adds terms ms sent Newer r waiting m k =
    choose-asked terms ms sent r.over (silent r) (taken r waiting m) (asked-nothing terms ms sent (silent r) refl k)
    (choose-asked terms ms sent (primitive_of m == 16) (parted r m) (passed_on r waiting m)
    (asked-own terms ms sent (parted r m) (goodbye_ack m) refl (inl (m, refl)) (inr (own (goodbye_ack m), was-last sent (own (goodbye_ack m)), refl)))
    (choose-asked terms ms sent (nat_lt max_waiting (waiting + length m)) (silent r) _ (asked-nothing terms ms sent (silent r) refl k)
    (asked-nothing terms ms sent _ refl (inl refl))))

judged-adds : (terms : Terms) (ms : List (List ℕ)) (sent : List Sent) (k : Kind) (r : Requests) (waiting : ℕ) (m : List ℕ) → KeptWas terms.limit sent r.answer
    → AddsAsked terms ms sent (judged k r waiting m)
judged-adds terms ms sent Kinds.Fragment r waiting m k = asked-nothing terms ms sent (silent r) refl k
judged-adds terms ms sent Kinds.Misfit r waiting m k = error-adds terms ms sent r m k
judged-adds terms ms sent Kinds.Acknowledgement r waiting m k = asked-nothing terms ms sent _ refl k
judged-adds terms ms sent Kinds.Request r waiting m k = age-adds terms ms sent (age_of r.last (id_of m)) r waiting m k
judged-adds terms ms sent Kinds.Nothing r waiting m k = asked-nothing terms ms sent (silent r) refl k

together-adds : (terms : Terms) (ms : List (List ℕ)) (sent : List Sent) (held : Fragments) (o : Option (List ℕ)) (r : Requests) (waiting : ℕ) → KeptWas terms.limit sent r.answer
    → AddsAsked terms ms sent (put_together held o r waiting)
together-adds terms ms sent held None r waiting k = asked-nothing terms ms sent _ refl k
together-adds terms ms sent held (Some m) r waiting k = judged-adds terms ms sent (kind_of m) (record r { held = held }) waiting m k

aged-adds : (terms : Terms) (ms : List (List ℕ)) (sent : List Sent) (a : Age) (r : Requests) (waiting now : ℕ) (d : List ℕ) → KeptWas terms.limit sent r.answer
    → AddsAsked terms ms sent (aged a r waiting now d)
aged-adds terms ms sent Copy r waiting now d k = by (offset_of d == 0)
  where
    by : (b : Bool) → AddsAsked terms ms sent (replied r (if b then r.answer else []))
    by true = asked-copy terms ms sent r k
    by false = asked-nothing terms ms sent (replied r []) refl k
aged-adds terms ms sent Older r waiting now d k = asked-nothing terms ms sent (silent r) refl k
aged-adds terms ms sent Newer r waiting now d k =
    choose-asked terms ms sent r.over (silent r) _ (asked-nothing terms ms sent (silent r) refl k)
    (together-adds terms ms sent (placed r.held now d).held (placed r.held now d).message r waiting k)

parts-adds : (terms : Terms) (ms : List (List ℕ)) (sent : List Sent) (f : Fragment) (r : Requests) (waiting now : ℕ) (d : List ℕ) → KeptWas terms.limit sent r.answer
    → AddsAsked terms ms sent (parts f r waiting now d)
parts-adds terms ms sent Fragment_is.Nothing r waiting now d k = asked-nothing terms ms sent (silent r) refl k
parts-adds terms ms sent Fragment_is.Beyond r waiting now d k = error-adds terms ms sent (record r { held = without r.held d }) d k
parts-adds terms ms sent Fragment_is.Part r waiting now d k = aged-adds terms ms sent (age_of r.last (id_of d)) r waiting now d k

does-adds : (terms : Terms) (ms : List (List ℕ)) (sent : List Sent) (kind : Kind) (r : Requests) (waiting now : ℕ) (d : List ℕ) → KeptWas terms.limit sent r.answer
    → AddsAsked terms ms sent (does kind r waiting now d)
does-adds terms ms sent Kinds.Fragment r waiting now d k = parts-adds terms ms sent (fragment_of d) r waiting now d k
does-adds terms ms sent Kinds.Misfit r waiting now d k = judged-adds terms ms sent Kinds.Misfit r waiting d k
does-adds terms ms sent Kinds.Acknowledgement r waiting now d k = judged-adds terms ms sent Kinds.Acknowledgement r waiting d k
does-adds terms ms sent Kinds.Request r waiting now d k = judged-adds terms ms sent Kinds.Request r waiting d k
does-adds terms ms sent Kinds.Nothing r waiting now d k = judged-adds terms ms sent Kinds.Nothing r waiting d k

-- ---- what an input adds

abbrev Goes : List (List ℕ) → List (List ℕ) → Effect → Type 0
Goes ms down e = Log ms (down ++ e.down) e.after

choose-log : (ms down : List (List ℕ)) (b : Bool) (e f : Effect) → Goes ms down e → Goes ms down f → Goes ms down (if b then e else f)
choose-log ms down true e f p q = p
choose-log ms down false e f p q = q

-- nothing is sent
quiet : (ms down : List (List ℕ)) (s : Session) (up : List ℕ) → Log ms down s → Goes ms down (record { after = s; up = up; down = [] })
quiet ms down s up l = subst (λ (d : List (List ℕ)). Log ms d s) (sym (append-nil down)) l

finished-log : (ms down : List (List ℕ)) (end : End) (now : ℕ) (s : Session) → Log ms down s → Log ms down (finished end now s)
finished-log ms down end now s l = record { sent = l.sent; base = l.base; out = tt; kept = l.kept; waiting = tt; own_are = tt }

hears-log : (ms down : List (List ℕ)) (heard : Heard) (now : ℕ) (s : Session) → Log ms down s → Goes ms down (hears heard now s)
hears-log ms down Was.Nothing now s l = quiet ms down s [] l
hears-log ms down (Was.Acknowledgement id) now s l =
    log-notices ms down s (acknowledged s.notices s.requests.last s.terms.limit now id) l
    (adds-acknowledged s.terms ms l.sent s.notices s.requests.last now id s.notices.out l.out l.waiting)
hears-log ms down (Was.Request primitive) now s l =
    quiet ms down (record s { asked = primitive; taken = now }) [] (record { sent = l.sent; base = l.base; out = l.out; kept = l.kept; waiting = l.waiting; own_are = l.own_are })
hears-log ms down Was.Goodbye now s l = quiet ms down (finished Why.Goodbye now s) [] (finished-log ms down Why.Goodbye now s l)

asks-log : (ms down : List (List ℕ)) (s : Session) (now : ℕ) (e : asks.Effect) → (l : Log ms down s) → AddsAsked s.terms ms l.sent e
    → Log ms (down ++ e.down) (record s { requests = e.after; heard = now })
asks-log ms down s now e l a = record {
  sent = l.sent ++ a.more;
  base = base-more s.terms ms down e.down l.sent a.more l.base a.down_is a.none a.so;
  out = out-more s.terms l.sent a.more s.notices.out l.out;
  kept = a.kept;
  waiting = l.waiting;
  own_are = l.own_are;
}

datagram-log : (ms down : List (List ℕ)) (s : Session) (waiting now : ℕ) (d : List ℕ) → Log ms down s → Goes ms down (session.datagram s waiting now d)
datagram-log ms down s waiting now d l =
    let e = effect s.requests waiting now d in
    let t : Session = record s { requests = e.after; heard = now } in
    let next = hears e.heard now t in
    subst (λ (x : List (List ℕ)). Log ms x next.after) (append_assoc down e.down next.down)
    (hears-log ms (down ++ e.down) e.heard now t (asks-log ms down s now e l (does-adds s.terms ms l.sent (kind_of d) s.requests waiting now d l.kept)))

-- ---- a message of the server's

among-all : (ms : List (List ℕ)) (m : List ℕ) (ws : List (List ℕ)) → AllByRecursion (IsAmong ms) ws → AllByRecursion (IsAmong (ms ++ m ∷ [])) ws
among-all ms m ws h = each-map (IsAmong ms) (IsAmong (ms ++ m ∷ [])) (among-more ms (m ∷ [])) ws h

no-answer : (m : List ℕ) → (id_of m == 0) ≡ true → answers (m ∷ []) ≡ []
no-answer m is = ap (λ c. if not c then m ∷ [] else []) is

message-log : (ms down : List (List ℕ)) (s : Session) (now : ℕ) (m : List ℕ) (b : Bool) → (id_of m == 0) ≡ b → Log ms down s
    → Goes (ms ++ m ∷ []) down (if b then tells (noted s m) now m else session.answers (noted s m) m)
message-log ms down s now m true is l =
    let ms2 = ms ++ m ∷ [] in
    let waiting : AllByRecursion (IsAmong ms2) (put m s.notices.waiting) =
    each-put (IsAmong ms2) _ m s.notices.waiting (among-all ms m s.notices.waiting l.waiting) (among-last ms m) in
    let a : Adds s.terms ms2 l.sent (told s.notices s.requests.last s.terms.limit now m) =
    adds-pumped s.terms ms2 l.sent (waits s.notices m) s.requests.last now s.notices.out (put m s.notices.waiting) refl l.out waiting in
    record {
      sent = l.sent ++ a.more;
      base = base-add s.terms ms (m ∷ []) down (told s.notices s.requests.last s.terms.limit now m).down l.sent a.more l.base a.down_is (a.none ∙ sym (no-answer m is)) a.so;
      out = a.out;
      kept = kept-more s.terms.limit l.sent a.more s.requests.answer l.kept;
      waiting = a.waiting;
      own_are = each-own (IsAmong ms2) s.requests.last s.asked s.own m (among-all ms m s.own l.own_are) (among-last ms m);
    }
message-log ms down s now m false is l =
    let ms2 = ms ++ m ∷ [] in
    record {
      sent = l.sent ++ first (answer m) ∷ [];
      base = base-add s.terms ms (m ∷ []) down (answer_of s.terms.limit (extended m)) l.sent (first (answer m) ∷ []) l.base (sym (append-nil (answer_of s.terms.limit (extended m))))
          (sym (some-answer m is)) (among-last ms m, tt);
      out = crossed-out;
      kept = kept-answer (is_last s.requests.last (id_of (extended m)));
      waiting = crossed-waiting (has_subject m && is_out s.notices.out);
      own_are = each-own (IsAmong ms2) s.requests.last s.asked s.own m (among-all ms m s.own l.own_are) (among-last ms m);
    }
  where
    some-answer : (m : List ℕ) → (id_of m == 0) ≡ false → answers (m ∷ []) ≡ m ∷ []
    some-answer m is = ap (λ c. if not c then m ∷ [] else []) is

    crossed-with : (c : Bool) → let n : Notices = if c then waits s.notices m else s.notices in OutWas s.terms (l.sent ++ first (answer m) ∷ []) n.out
    crossed-with true = out-more s.terms l.sent (first (answer m) ∷ []) s.notices.out l.out
    crossed-with false = out-more s.terms l.sent (first (answer m) ∷ []) s.notices.out l.out

    crossed-out : OutWas s.terms (l.sent ++ first (answer m) ∷ []) (crossed s.notices m).out
    crossed-out = crossed-with (has_subject m && is_out s.notices.out)

    crossed-waiting : (c : Bool) → let n : Notices = if c then waits s.notices m else s.notices in AllByRecursion (IsAmong (ms ++ m ∷ [])) n.waiting
    crossed-waiting true = each-put (IsAmong (ms ++ m ∷ [])) _ m s.notices.waiting (among-all ms m s.notices.waiting l.waiting) (among-last ms m)
    crossed-waiting false = among-all ms m s.notices.waiting l.waiting

    kept-answer : (c : Bool) → let r : Requests = if c then record s.requests { answer = answer_of s.terms.limit (extended m) } else s.requests in KeptWas s.terms.limit (l.sent ++ first (answer m) ∷ []) r.answer
    kept-answer true = inr (answer m, was-last l.sent (answer m), refl)
    kept-answer false = kept-more s.terms.limit l.sent (first (answer m) ∷ []) s.requests.answer l.kept

messages-log : (ms down : List (List ℕ)) (s : Session) (now : ℕ) (ws : List (List ℕ)) → Log ms down s → Goes (ms ++ ws) down (messages_take s now ws)
messages-log ms down s now [] l =
    subst (λ (x : List (List ℕ)). Log x (down ++ []) s) (sym (append-nil ms)) (subst (λ (d : List (List ℕ)). Log ms d s) (sym (append-nil down)) l)
messages-log ms down s now (m ∷ ws) l =
    let one = message s now m in
    let others = messages_take one.after now ws in
    let rest_of = messages-log (ms ++ m ∷ []) (down ++ one.down) one.after now ws (message-log ms down s now m (id_of m == 0) refl l) in
    subst (λ (x : List (List ℕ)). Log x (down ++ (one.down ++ others.down)) others.after) (append_assoc ms (m ∷ []) ws)
    (subst (λ (d : List (List ℕ)). Log ((ms ++ m ∷ []) ++ ws) d others.after) (append_assoc down one.down others.down) rest_of)

-- no message is whole with it
same : (ms down : List (List ℕ)) (e : Effect) → Goes ms down e → Goes (ms ++ []) down e
same ms down e l = subst (λ (x : List (List ℕ)). Log x (down ++ e.down) e.after) (sym (append-nil ms)) l

server-log : (ms down : List (List ℕ)) (s : Session) (now : ℕ) (p : List ℕ) (b : Bool) → Log ms down s
    → Goes (ms ++ (if b then [] else messages (s.stream ++ p))) down (if b then nothing s else messages_take (record s { stream = rest (s.stream ++ p) }) now (messages (s.stream ++ p)))
server-log ms down s now p true l = same ms down (nothing s) (quiet ms down s [] l)
server-log ms down s now p false l =
    messages-log ms down (record s { stream = rest (s.stream ++ p) }) now (messages (s.stream ++ p))
    (record { sent = l.sent; base = l.base; out = l.out; kept = l.kept; waiting = l.waiting; own_are = l.own_are })

-- ---- ends

parted-log : (ms down : List (List ℕ)) (end : End) (now : ℕ) (s : Session) → Log ms down s → Log ms (down ++ (parts_with end now s).down) (parts_with end now s).after
parted-log ms down end now s l =
    let f = finished-log ms down end now s l in
    log-notices ms down (finished end now s) (notes.parted s.notices s.requests.last s.terms.limit now (goodbye s.terms)) f
    (adds-begun s.terms ms f.sent (given_up s.notices) s.requests.last now (goodbye s.terms) (inr refl) tt)

refused-log : (ms down : List (List ℕ)) (now : ℕ) (s : Session) (last : Option ℕ) → Log ms down s → Goes ms down (refused last now s)
refused-log ms down now s None l = quiet ms down (finished Why.NoServer now s) [] (finished-log ms down Why.NoServer now s l)
refused-log ms down now s (Some id) l =
    let d = refusal_of s.terms id in
    record {
      sent = l.sent ++ first (own d) ∷ [];
      base = base-more s.terms ms down (d ∷ []) l.sent (first (own d) ∷ []) l.base refl refl (inr (inr (id, refl)), tt);
      out = tt;
      kept = inr (own d, was-last l.sent (own d), refl);
      waiting = tt;
      own_are = tt;
    }

-- ---- times

expired-log : (ms down : List (List ℕ)) (s : Session) (now : ℕ) → Log ms down s → Log ms down (expired s now)
expired-log ms down s now l = by (expires (held_since s.requests.held) now (t2_of s.notices.pace.t1))
  where
    by : (b : Bool) → Log ms down (if b then record s { requests = forgotten s.requests } else s)
    by true = record { sent = l.sent; base = l.base; out = l.out; kept = l.kept; waiting = l.waiting; own_are = l.own_are }
    by false = l

probes-log : (ms down : List (List ℕ)) (o : Option (List ℕ)) (s : Session) (now : ℕ) → last_of s.own ≡ o → Log ms down s → Goes ms down (probes o s now)
probes-log ms down None s now is l = quiet ms down s [] l
probes-log ms down (Some m) s now is l =
    choose-log ms down (nat_le s.terms.probe (now - s.heard)) _ (nothing s)
    (log-notices ms down s (begun s.notices s.requests.last s.terms.limit now m) l
    (adds-begun s.terms ms l.sent s.notices s.requests.last now m (inl (each-at (IsAmong ms) s.own (length s.own - 1) m is l.own_are)) l.waiting))
    (quiet ms down s [] l)

again-log : (ms down : List (List ℕ)) (s : Session) (now : ℕ) → Log ms down s → Log ms (down ++ (notes.again s.notices now).down) (record s { notices = (notes.again s.notices now).after })
again-log ms down s now l = by (is_due s.notices.out now && nat_lt (tries_of s.notices.out) 4)
  where
    by : (b : Bool) → let e : notes.Sends = if b then again_with s.notices.out s.notices else notes.keeps_still s.notices in Log ms (down ++ e.down) (record s { notices = e.after })
    by true = log-notices ms down s (again_with s.notices.out s.notices) l (adds-again s.terms ms l.sent s.notices s.notices.out l.out l.out l.waiting)
    by false = log-notices ms down s (notes.keeps_still s.notices) l (adds-nothing s.terms ms l.sent s.notices l.out l.waiting)

given-up-log : (ms down : List (List ℕ)) (s : Session) → Log ms down s → Log ms down (record s { notices = given_up s.notices })
given-up-log ms down s l = record { sent = l.sent; base = l.base; out = tt; kept = l.kept; waiting = tt; own_are = l.own_are }

late-log : (ms down : List (List ℕ)) (s : Session) (now : ℕ) → Log ms down s → Goes ms down (is_late s now)
late-log ms down s now l =
    choose-log ms down (is_out s.notices.out) (waits_for s now) (probes (last_of s.own) s now)
    (choose-log ms down (notes.is_lost s.notices.out now) (if is_some s.end then nothing (record s { notices = given_up s.notices }) else loses Why.Lost now s) _
    (choose-log ms down (is_some s.end) (nothing (record s { notices = given_up s.notices })) (loses Why.Lost now s)
    (quiet ms down (record s { notices = given_up s.notices }) [] (given-up-log ms down s l))
    (quiet ms down (finished Why.Lost now s) (0x20 ∷ []) (finished-log ms down Why.Lost now s l)))
    (again-log ms down s now l))
    (probes-log ms down (last_of s.own) s now refl l)

-- ---- runs

step-log : (ms down : List (List ℕ)) (s : Session) (i : Input) → Log ms down s → Goes (ms ++ whole_by s i) down (step s i)
step-log ms down s (datagram waiting now d) l = same ms down (session.datagram s waiting now d) (datagram-log ms down s waiting now d l)
step-log ms down s (piece now p) l = server-log ms down s now p (is_some s.end) l
step-log ms down s (ends now) l =
    same ms down (unless_ended s (server_ends now s))
    (choose-log ms down (is_some s.end) (nothing s) (server_ends now s) (quiet ms down s [] l)
    (choose-log ms down s.answered (parts_with Why.ServerGone now s) (refused s.requests.last now s)
    (parted-log ms down Why.ServerGone now s l) (refused-log ms down now s s.requests.last l)))
step-log ms down s (shut end now) l =
    same ms down (unless_ended s (shuts_out end now s)) (choose-log ms down (is_some s.end) (nothing s) (shuts_out end now s) (quiet ms down s [] l) (parted-log ms down end now s l))
step-log ms down s (lost end now) l =
    same ms down (unless_ended s (loses end now s))
    (choose-log ms down (is_some s.end) (nothing s) (loses end now s) (quiet ms down s [] l) (quiet ms down (finished end now s) (0x20 ∷ []) (finished-log ms down end now s l)))
step-log ms down s (late now) l = same ms down (is_late (expired s now) now) (late-log ms down (expired s now) now (expired-log ms down s now l))

run-log : (ms down : List (List ℕ)) (s : Session) (is : List Input) → Log ms down s → Log (ms ++ whole s is) (down ++ (run s is).down) (run s is).after
run-log ms down s [] l = subst (λ (x : List (List ℕ)). Log x (down ++ []) s) (sym (append-nil ms)) (quiet ms down s [] l)
run-log ms down s (i ∷ is) l =
    let t = step s i in
    let rest_of = run-log (ms ++ whole_by s i) (down ++ t.down) t.after is (step-log ms down s i l) in
    subst (λ (x : List (List ℕ)). Log x (down ++ (t.down ++ (run t.after is).down)) (run t.after is).after) (append_assoc ms (whole_by s i) (whole t.after is))
    (subst (λ (d : List (List ℕ)). Log ((ms ++ whole_by s i) ++ whole t.after is) d (run t.after is).after) (append_assoc down t.down (run t.after is).down) rest_of)

begins-log : (terms : Terms) (first_id now : ℕ) → Log [] [] (begins terms first_id now)
begins-log terms first_id now = record {
  sent = [];
  base = record { down_is = refl; answered_is = refl; so = tt };
  out = tt;
  kept = inl refl;
  waiting = tt;
  own_are = tt;
}

-- of any run
pub sends : (terms : Terms) (first_id now : ℕ) (is : List Input) → Sends terms (messages (said (begins terms first_id now) is)) (run (begins terms first_id now) is).down
sends terms first_id now is =
    let s = begins terms first_id now in
    let l : Log (whole s is) (run s is).down (run s is).after = run-log [] [] s is (begins-log terms first_id now) in
    let b : Base terms (whole s is) (run s is).down l.sent = subst (λ (t : Terms). Base t (whole s is) (run s is).down l.sent) (terms-stay terms first_id now is) l.base in
    subst (λ (ms : List (List ℕ)). Sends terms ms (run s is).down) (whole-is terms first_id now is)
    (record { sent = l.sent; down_is = b.down_is; answered = b.answered_is; so = b.so })
