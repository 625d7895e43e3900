-- What a session holds stays bounded, whatever comes.
use Rattle.std.proofs.Common.{◌≡◌, ◌⊎◌, inl, inr, ℕ, ◌+◌, ◌-◌, ◌≤◌, ◌==◌, Bool, true, false, cond, not, ◌&&◌, List, [], ◌∷◌, ◌++◌, length, drop, Option, Some, None, is_some, nat_le, nat_lt, refl, sym, ap, subst, ◌∙◌, append_assoc, if◌then◌else◌, arith, length-append}
use Rattle.std.specs.Prelude.{All}
use Rattle.std.specs.List.{position_from, remove}
use Rattle.std.proofs.lemmas.List.{length-take}
use Rattle.std.proofs.lemmas.List.Elements.{All-head, All-tail}
use Rattle.std.proofs.lemmas.List.Edits.{remove-append_right}
use Rattle.std.proofs.lemmas.Iterator.Adapters.{position_from-zero}
use Rattle.floor_wire.specs.Message.{IsMessage, messages, rest}
use Rattle.floor_wire.proofs.Messages.{messages_are_messages, messages-none, messages-rest}
use Rattle.floor_datagram.specs.Datagrams.{id_of, primitive_of, kind_of}
use Rattle.floor_datagram.specs.Numbering.{age_of}
use Rattle.floor_datagram.specs.Written.{ids_of, goodbye_ack, refusal}
use Rattle.floor_datagram.specs.Fragments.{Fragments, placed, held_of, since_of, without, fragment_of, held_since}
use Rattle.floor_datagram.specs.Requests as asks
use Rattle.floor_datagram.specs.Requests.{Requests, replied, silent, passed_on, parted, taken, asked, judged, put_together, aged, parts, does, effect, answered, answer_of, is_last, forgotten, max_waiting}
use Rattle.floor_datagram.specs.Notices as notes
use Rattle.floor_datagram.specs.Notices.{Notices, Out, is_same_subject, put, waits, told, crossed, pumped, pumped_with, begun, closed_with, is_out_as, acknowledged, again, again_with, given_up, pace_with, fresh_id, is_due, tries_of, has_subject, is_out}
use Rattle.floor_datagram.specs.Newest.{first_of, IsDistinct}
use Rattle.floor_datagram.specs.Own.{has_status, is_own, is_ongoing, own_after, place_in, removed}
use Rattle.floor_datagram.specs.Pace.{t2_of, Pace}
use Rattle.floor_datagram.specs.HelloAck.{extended}
use Rattle.floor_datagram.specs.Session as session
use Rattle.floor_datagram.specs.Session.{Session, Effect, Terms, nothing, begins, finished, hears, noted, tells, answers, message, messages_take, server, parts as parts_with, loses, shuts_out, unless_ended, refused, refusal_of, server_ends, expires, expired, last_of, probes, waits_for, is_late, goodbye}
use Rattle.floor_datagram.specs.Run.{Input, datagram, piece, ends, shut, lost, late, step, run, came_by, came}
use Rattle.floor_datagram.specs.Holding.{total, IsAnswer, IsOneOut, AreApart, Holds}
use Rattle.floor_datagram.specs.declared.kind.Kind.{Kind}
use Rattle.floor_datagram.specs.declared.kind.Kind.TheVariants as Kinds
use Rattle.floor_datagram.specs.declared.numbering.Age.{Age}
use Rattle.floor_datagram.specs.declared.numbering.Age.TheVariants.{Copy, Older, Newer}
use Rattle.floor_datagram.specs.declared.fragments.Fragment.{Fragment}
use Rattle.floor_datagram.specs.declared.fragments.Fragment.TheVariants as Fragment_is
use Rattle.floor_datagram.specs.declared.heard.Heard.{Heard}
use Rattle.floor_datagram.specs.declared.heard.Heard.TheVariants as Was
use Rattle.floor_datagram.specs.declared.end.End.{End}
use Rattle.floor_datagram.specs.declared.end.End.TheVariants as Why
use Rattle.floor_datagram.proofs.Each.{each-append, each-at, each-put, each-removed}
use Rattle.floor_datagram.proofs.Fitting.{Fits, fits-nothing, fits-more, fits-len, placed-fits, held_of-fits, without-fits}
use Rattle.floor_datagram.proofs.Telling.{put-placed, distinct-placed, same-turned, first_of-same}

-- ---- requests and their answers

-- the fragments that are held, and the answer that is kept
record HeldRequests (came : List (List ℕ)) (limit : ℕ) (r : Requests) : Type 0 where
  fits : Fits came r.held.ranges
  answer : IsAnswer limit r.answer

choose-requests : (came : List (List ℕ)) (limit : ℕ) (b : Bool) (e f : asks.Effect) → HeldRequests came limit e.after → HeldRequests came limit f.after
    → HeldRequests came limit (if b then e else f).after
choose-requests came limit true e f p q = p
choose-requests came limit false e f p q = q

no-answer : (limit : ℕ) → IsAnswer limit []
no-answer limit = inl (omega arith)

ids-len : (d : List ℕ) → length (ids_of d) ≤ 8
ids-len d = let len = length-take 8 (drop 4 d) in omega (arith, len)

ack-answer : (limit : ℕ) (m : List ℕ) → IsAnswer limit (goodbye_ack m ∷ [])
ack-answer limit m = let ids = ids-len m in inl (omega (arith, ids))

more-requests : (came more : List (List ℕ)) (limit : ℕ) (r : Requests) → HeldRequests came limit r → HeldRequests (came ++ more) limit r
more-requests came more limit r h = record { fits = fits-more came more r.held.ranges h.fits; answer = h.answer }

taken-held : (came : List (List ℕ)) (limit : ℕ) (r : Requests) (waiting : ℕ) (m : List ℕ) → HeldRequests came limit r → HeldRequests came limit (taken r waiting m).after
taken-held came limit r waiting m h =
    choose-requests came limit (primitive_of m == 16) (parted r m) (passed_on r waiting m)
    (record { fits = fits-nothing came; answer = ack-answer limit m })
    (choose-requests came limit (nat_lt max_waiting (waiting + length m)) (silent r) _ h (record { fits = h.fits; answer = no-answer limit }))

asked-held : (came : List (List ℕ)) (limit : ℕ) (r : Requests) (waiting : ℕ) (m : List ℕ) (a : Age) → HeldRequests came limit r → HeldRequests came limit (asked a r waiting m).after
asked-held came limit r waiting m Copy h = h
asked-held came limit r waiting m Older h = h
asked-held came limit r waiting m Newer h = choose-requests came limit r.over (silent r) (taken r waiting m) h (taken-held came limit r waiting m h)

judged-held : (came : List (List ℕ)) (limit : ℕ) (r : Requests) (waiting : ℕ) (m : List ℕ) (k : Kind) → HeldRequests came limit r → HeldRequests came limit (judged k r waiting m).after
judged-held came limit r waiting m Kinds.Fragment h = h
judged-held came limit r waiting m Kinds.Misfit h = h
judged-held came limit r waiting m Kinds.Acknowledgement h = h
judged-held came limit r waiting m Kinds.Request h = asked-held came limit r waiting m (age_of r.last (id_of m)) h
judged-held came limit r waiting m Kinds.Nothing h = h

put_together-held : (came : List (List ℕ)) (limit : ℕ) (r : Requests) (waiting : ℕ) (held : Fragments) (o : Option (List ℕ)) → Fits came held.ranges → IsAnswer limit r.answer
    → HeldRequests came limit (put_together held o r waiting).after
put_together-held came limit r waiting held None f a = record { fits = f; answer = a }
put_together-held came limit r waiting held (Some m) f a = judged-held came limit (record r { held = held }) waiting m (kind_of m) (record { fits = f; answer = a })

aged-held : (came : List (List ℕ)) (limit : ℕ) (r : Requests) (waiting now : ℕ) (d : List ℕ) (a : Age) → fragment_of d ≡ Fragment_is.Part → HeldRequests came limit r
    → HeldRequests (came ++ d ∷ []) limit (aged a r waiting now d).after
aged-held came limit r waiting now d Copy part h = more-requests came (d ∷ []) limit r h
aged-held came limit r waiting now d Older part h = more-requests came (d ∷ []) limit r h
aged-held came limit r waiting now d Newer part h =
    choose-requests (came ++ d ∷ []) limit r.over (silent r) _ (more-requests came (d ∷ []) limit r h)
    (put_together-held (came ++ d ∷ []) limit r waiting (placed r.held now d).held (placed r.held now d).message
    (placed-fits came d (since_of r.held now d) (held_of r.held d) part (held_of-fits came d r.held h.fits)) h.answer)

parts-held : (came : List (List ℕ)) (limit : ℕ) (r : Requests) (waiting now : ℕ) (d : List ℕ) (f : Fragment) → fragment_of d ≡ f → HeldRequests came limit r
    → HeldRequests (came ++ d ∷ []) limit (parts f r waiting now d).after
parts-held came limit r waiting now d Fragment_is.Nothing is h = more-requests came (d ∷ []) limit r h
parts-held came limit r waiting now d Fragment_is.Beyond is h =
    record { fits = fits-more came (d ∷ []) (without r.held d).ranges (without-fits came d r.held h.fits); answer = h.answer }
parts-held came limit r waiting now d Fragment_is.Part is h = aged-held came limit r waiting now d (age_of r.last (id_of d)) is h

does-held : (came : List (List ℕ)) (limit : ℕ) (r : Requests) (waiting now : ℕ) (d : List ℕ) (k : Kind) → HeldRequests came limit r
    → HeldRequests (came ++ d ∷ []) limit (does k r waiting now d).after
does-held came limit r waiting now d Kinds.Fragment h = parts-held came limit r waiting now d (fragment_of d) refl h
does-held came limit r waiting now d Kinds.Misfit h = more-requests came (d ∷ []) limit r h
does-held came limit r waiting now d Kinds.Acknowledgement h = more-requests came (d ∷ []) limit r h
does-held came limit r waiting now d Kinds.Request h = judged-held (came ++ d ∷ []) limit r waiting d Kinds.Request (more-requests came (d ∷ []) limit r h)
does-held came limit r waiting now d Kinds.Nothing h = more-requests came (d ∷ []) limit r h

-- an answer of the server's is kept
answered-held : (came : List (List ℕ)) (limit : ℕ) (r : Requests) (m : List ℕ) → IsMessage m → HeldRequests came limit r → HeldRequests came limit (answered r limit (extended m))
answered-held came limit r m is h = by (is_last r.last (id_of (extended m)))
  where
    by : (b : Bool) → let q : Requests = if b then record r { answer = answer_of limit (extended m) } else r in HeldRequests came limit q
    by true = record { fits = h.fits; answer = inr (m, is, refl) }
    by false = h

-- ---- of each subject one message

-- without the message of this one's subject
abbrev dropped : List ℕ → List (List ℕ) → List (List ℕ)
dropped m [] = []
dropped m (w ∷ ws) = if is_same_subject m w then ws else w ∷ dropped m ws

removed-step : (m w : List ℕ) (before ws : List (List ℕ)) (b : Bool)
    → removed (position_from (λ n. is_same_subject m n) (length (before ++ w ∷ [])) ws) ((before ++ w ∷ []) ++ ws) ≡ (before ++ w ∷ []) ++ dropped m ws
    → removed (cond b (Some (length before)) (position_from (λ n. is_same_subject m n) (length before + 1) ws)) (before ++ w ∷ ws) ≡ before ++ (if b then ws else w ∷ dropped m ws)
removed-step m w before ws true rest =
    let none : length before - length before ≡ 0 = omega arith in
    remove-append_right before (w ∷ ws) (length before) (length before) refl (omega arith) ∙ ap (λ n. before ++ remove (w ∷ ws) n) none
removed-step m w before ws false rest =
    let next : length (before ++ w ∷ []) ≡ length before + 1 = length-append before (w ∷ []) in
    ap (λ k. removed (position_from (λ n. is_same_subject m n) k ws) (before ++ w ∷ ws)) (sym next)
    ∙ ap (λ l. removed (position_from (λ n. is_same_subject m n) (length (before ++ w ∷ [])) ws) l) (sym (append_assoc before (w ∷ []) ws))
    ∙ rest ∙ append_assoc before (w ∷ []) (dropped m ws)

removed-from : (m : List ℕ) (before ws : List (List ℕ)) → removed (position_from (λ n. is_same_subject m n) (length before) ws) (before ++ ws) ≡ before ++ dropped m ws
removed-from m before [] = refl
removed-from m before (w ∷ ws) = removed-step m w before ws (is_same_subject m w) (removed-from m (before ++ w ∷ []) ws)

removed-dropped : (m : List ℕ) (ws : List (List ℕ)) → removed (place_in m ws) ws ≡ dropped m ws
removed-dropped m ws = ap (λ p. removed p ws) (position_from-zero (λ n. is_same_subject m n) ws) ∙ removed-from m [] ws

-- what isn't among them isn't among fewer
none-step : (q w : List ℕ) (ws : List (List ℕ)) (b : Bool) → is_same_subject q w ≡ b → (if b then Some w else first_of q ws) ≡ None → (b ≡ false) × (first_of q ws ≡ None)
none-step q w ws true is h = absurd (cc h)
none-step q w ws false is h = (refl, h)

none-front : (q w : List ℕ) (ws : List (List ℕ)) → first_of q (w ∷ ws) ≡ None → (is_same_subject q w ≡ false) × (first_of q ws ≡ None)
none-front q w ws h = none-step q w ws (is_same_subject q w) refl h

none-cons : (q w : List ℕ) (ws : List (List ℕ)) → is_same_subject q w ≡ false → first_of q ws ≡ None → first_of q (w ∷ ws) ≡ None
none-cons q w ws apart none = ap (λ b. if b then Some w else first_of q ws) apart ∙ none

none-dropped : (q m : List ℕ) (ws : List (List ℕ)) → first_of q ws ≡ None → first_of q (dropped m ws) ≡ None
none-dropped q m [] none = refl
none-dropped q m (w ∷ ws) none =
    let n = none-front q w ws none in by (is_same_subject m w) n.0 n.1 (none-dropped q m ws n.1)
  where
    by : (b : Bool) → is_same_subject q w ≡ false → first_of q ws ≡ None → first_of q (dropped m ws) ≡ None → first_of q (if b then ws else w ∷ dropped m ws) ≡ None
    by true apart all rest = all
    by false apart all rest = none-cons q w (dropped m ws) apart rest

distinct-dropped : (m : List ℕ) (ws : List (List ℕ)) → IsDistinct ws → IsDistinct (dropped m ws)
distinct-dropped m [] d = tt
distinct-dropped m (w ∷ ws) d = by (is_same_subject m w) (distinct-dropped m ws d.1)
  where
    by : (b : Bool) → IsDistinct (dropped m ws) → IsDistinct (if b then ws else w ∷ dropped m ws)
    by true rest = d.1
    by false rest = (none-dropped w m ws d.0, rest)

dropped-none : (m : List ℕ) (ws : List (List ℕ)) → IsDistinct ws → first_of m (dropped m ws) ≡ None
dropped-none m [] d = refl
dropped-none m (w ∷ ws) d = by (is_same_subject m w) refl (dropped-none m ws d.1)
  where
    by : (b : Bool) → is_same_subject m w ≡ b → first_of m (dropped m ws) ≡ None → first_of m (if b then ws else w ∷ dropped m ws) ≡ None
    by true is rest = sym (first_of-same m w ws is) ∙ d.0
    by false is rest = none-cons m w (dropped m ws) is rest

none-snoc : (q m : List ℕ) (ws : List (List ℕ)) → first_of q ws ≡ None → is_same_subject q m ≡ false → first_of q (ws ++ m ∷ []) ≡ None
none-snoc q m [] none apart = none-cons q m [] apart refl
none-snoc q m (w ∷ ws) none apart = let n = none-front q w ws none in none-cons q w (ws ++ m ∷ []) n.0 (none-snoc q m ws n.1 apart)

distinct-snoc : (m : List ℕ) (ws : List (List ℕ)) → IsDistinct ws → first_of m ws ≡ None → IsDistinct (ws ++ m ∷ [])
distinct-snoc m [] d none = (refl, tt)
distinct-snoc m (w ∷ ws) d none =
    let n = none-front m w ws none in
    (none-snoc w m ws d.0 (same-turned w m n.0), distinct-snoc m ws d.1 n.1)

put-apart : (m : List ℕ) (ws : List (List ℕ)) → AreApart ws → IsMessage m → AreApart (put m ws)
put-apart m ws a is = record {
  distinct = (let P : List (List ℕ) → Type 0 = λ l. IsDistinct l in subst P (sym (put-placed m ws)) (distinct-placed m ws a.distinct));
  messages = each-put IsMessage (place_in m ws) m ws a.messages is;
}

no-apart : AreApart []
no-apart = record { distinct = tt; messages = tt }

removed-apart : (m : List ℕ) (ws : List (List ℕ)) → AreApart ws → AreApart (removed (place_in m ws) ws)
removed-apart m ws a = record {
  distinct = (let P : List (List ℕ) → Type 0 = λ l. IsDistinct l in subst P (sym (removed-dropped m ws)) (distinct-dropped m ws a.distinct));
  messages = each-removed IsMessage (place_in m ws) ws a.messages;
}

moved-apart : (m : List ℕ) (ws : List (List ℕ)) → AreApart ws → IsMessage m → AreApart (removed (place_in m ws) ws ++ m ∷ [])
moved-apart m ws a is = record {
  distinct =
      (let P : List (List ℕ) → Type 0 = λ l. IsDistinct (l ++ m ∷ []) in
      subst P (sym (removed-dropped m ws)) (distinct-snoc m (dropped m ws) (distinct-dropped m ws a.distinct) (dropped-none m ws a.distinct)));
  messages = each-append IsMessage (removed (place_in m ws) ws) (m ∷ []) (each-removed IsMessage (place_in m ws) ws a.messages) (is, tt);
}

choose-apart : (b : Bool) (x y : List (List ℕ)) → AreApart x → AreApart y → AreApart (if b then x else y)
choose-apart true x y p q = p
choose-apart false x y p q = q

own-apart : (last : Option ℕ) (primitive : ℕ) (own : List (List ℕ)) (m : List ℕ) → AreApart own → IsMessage m → AreApart (own_after last primitive own m)
own-apart last primitive own m a is =
    choose-apart (not (has_status m)) own _ a
    (choose-apart (not (is_own last primitive own m)) own _ a
    (choose-apart (is_ongoing m) (removed (place_in m own) own ++ m ∷ []) (removed (place_in m own) own) (moved-apart m own a is) (removed-apart m own a)))

-- ---- notices

-- the one that is out, and those that wait
record HeldNotices (terms : Terms) (n : Notices) : Type 0 where
  out : IsOneOut terms n.out
  waiting : AreApart n.waiting

-- a notice is begun, of a message of the server's or the session's own
begun-held : (terms : Terms) (n : Notices) (last : Option ℕ) (now : ℕ) (m : List ℕ) → IsMessage m ⊎ (m ≡ goodbye terms) → AreApart n.waiting
    → HeldNotices terms (begun n last terms.limit now m).after
begun-held terms n last now m is a = record { out = (m, is, refl); waiting = a }

pumped-held : (terms : Terms) (n : Notices) (last : Option ℕ) (now : ℕ) (o : Option Out) (ws : List (List ℕ)) → n.out ≡ o → n.waiting ≡ ws → HeldNotices terms n
    → HeldNotices terms (pumped_with o ws n last terms.limit now).after
pumped-held terms n last now (Some o) ws out is h = h
pumped-held terms n last now None [] out is h = h
pumped-held terms n last now None (m ∷ ms) out is h =
    let P : List (List ℕ) → Type 0 = λ l. AreApart l in
    let front : AreApart (m ∷ ms) = subst P is h.waiting in
    begun-held terms (record n { waiting = ms }) last now m (inl front.messages.0) (record { distinct = front.distinct.1; messages = front.messages.1 })

waits-held : (terms : Terms) (n : Notices) (m : List ℕ) → IsMessage m → HeldNotices terms n → HeldNotices terms (waits n m)
waits-held terms n m is h = record { out = h.out; waiting = put-apart m n.waiting h.waiting is }

told-held : (terms : Terms) (n : Notices) (last : Option ℕ) (now : ℕ) (m : List ℕ) → IsMessage m → HeldNotices terms n → HeldNotices terms (told n last terms.limit now m).after
told-held terms n last now m is h = pumped-held terms (waits n m) last now n.out (put m n.waiting) refl refl (waits-held terms n m is h)

crossed-held : (terms : Terms) (n : Notices) (m : List ℕ) → IsMessage m → HeldNotices terms n → HeldNotices terms (crossed n m)
crossed-held terms n m is h = by (has_subject m && is_out n.out)
  where
    by : (b : Bool) → HeldNotices terms (if b then waits n m else n)
    by true = waits-held terms n m is h
    by false = h

closed-held : (terms : Terms) (n : Notices) (last : Option ℕ) (now : ℕ) (pace : Pace) (c : Bool) → HeldNotices terms n
    → HeldNotices terms (if c then pumped (if c then record n { out = None; pace = pace } else n) last terms.limit now else notes.keeps_still n).after
closed-held terms n last now pace true h =
    pumped-held terms (record n { out = None; pace = pace }) last now None n.waiting refl refl (record { out = tt; waiting = h.waiting })
closed-held terms n last now pace false h = h

acknowledged-by : (terms : Terms) (n : Notices) (last : Option ℕ) (now id : ℕ) (o : Option Out) → HeldNotices terms n
    → HeldNotices terms (if is_out_as id o then pumped (closed_with o n now id) last terms.limit now else notes.keeps_still n).after
acknowledged-by terms n last now id None h = h
acknowledged-by terms n last now id (Some o) h = closed-held terms n last now (pace_with n.pace o now) (o.id == id) h

acknowledged-held : (terms : Terms) (n : Notices) (last : Option ℕ) (now id : ℕ) → HeldNotices terms n → HeldNotices terms (acknowledged n last terms.limit now id).after
acknowledged-held terms n last now id h = acknowledged-by terms n last now id n.out h

again-by : (terms : Terms) (n : Notices) (o : Option Out) → IsOneOut terms o → HeldNotices terms n → HeldNotices terms (again_with o n).after
again-by terms n None out h = h
again-by terms n (Some o) out h = record { out = out; waiting = h.waiting }

again-held : (terms : Terms) (n : Notices) (now : ℕ) → HeldNotices terms n → HeldNotices terms (again n now).after
again-held terms n now h = by (is_due n.out now && nat_lt (tries_of n.out) 4)
  where
    by : (b : Bool) → HeldNotices terms (if b then again_with n.out n else notes.keeps_still n).after
    by true = again-by terms n n.out h.out h
    by false = h

given-up-held : (terms : Terms) (n : Notices) → HeldNotices terms (given_up n)
given-up-held terms n = record { out = tt; waiting = no-apart }

-- ---- a session

record Held (came : List (List ℕ)) (s : Session) : Type 0 where
  requests : HeldRequests came s.terms.limit s.requests
  notices : HeldNotices s.terms s.notices
  own : AreApart s.own
  stream : messages s.stream ≡ []

choose-held : (came : List (List ℕ)) (b : Bool) (e f : Effect) → Held came e.after → Held came f.after → Held came (if b then e else f).after
choose-held came true e f p q = p
choose-held came false e f p q = q

nothing-whole : messages [] ≡ []
nothing-whole = messages-none [] (omega arith)

finished-held : (came : List (List ℕ)) (end : End) (now : ℕ) (s : Session) → Held came s → Held came (finished end now s)
finished-held came end now s h = record {
  requests = record { fits = fits-nothing came; answer = h.requests.answer };
  notices = given-up-held s.terms s.notices;
  own = no-apart;
  stream = nothing-whole;
}

more-held : (came more : List (List ℕ)) (s : Session) → Held came s → Held (came ++ more) s
more-held came more s h = record { requests = more-requests came more s.terms.limit s.requests h.requests; notices = h.notices; own = h.own; stream = h.stream }

-- other notices
notes-held : (came : List (List ℕ)) (s : Session) (n : Notices) → HeldNotices s.terms n → Held came s → Held came (record s { notices = n })
notes-held came s n is h = record { requests = h.requests; notices = is; own = h.own; stream = h.stream }

hears-held : (came : List (List ℕ)) (heard : Heard) (now : ℕ) (s : Session) → Held came s → Held came (hears heard now s).after
hears-held came Was.Nothing now s h = h
hears-held came (Was.Acknowledgement id) now s h =
    notes-held came s (acknowledged s.notices s.requests.last s.terms.limit now id).after (acknowledged-held s.terms s.notices s.requests.last now id h.notices) h
hears-held came (Was.Request primitive) now s h = record { requests = h.requests; notices = h.notices; own = h.own; stream = h.stream }
hears-held came Was.Goodbye now s h = finished-held came Why.Goodbye now s h

datagram-held : (came : List (List ℕ)) (s : Session) (waiting now : ℕ) (d : List ℕ) → Held came s → Held (came ++ d ∷ []) (session.datagram s waiting now d).after
datagram-held came s waiting now d h =
    let e = effect s.requests waiting now d in
    hears-held (came ++ d ∷ []) e.heard now (record s { requests = e.after; heard = now })
    (record { requests = does-held came s.terms.limit s.requests waiting now d (kind_of d) h.requests; notices = h.notices; own = h.own; stream = h.stream })

message-by : (came : List (List ℕ)) (s : Session) (now : ℕ) (m : List ℕ) (b : Bool) → IsMessage m → Held came s
    → Held came (if b then tells (noted s m) now m else answers (noted s m) m).after
message-by came s now m true is h = record {
  requests = h.requests;
  notices = told-held s.terms s.notices s.requests.last now m is h.notices;
  own = own-apart s.requests.last s.asked s.own m h.own is;
  stream = h.stream;
}
message-by came s now m false is h = record {
  requests = answered-held came s.terms.limit s.requests m is h.requests;
  notices = crossed-held s.terms s.notices m is h.notices;
  own = own-apart s.requests.last s.asked s.own m h.own is;
  stream = h.stream;
}

messages-held : (came : List (List ℕ)) (s : Session) (now : ℕ) (ms : List (List ℕ)) → All IsMessage ms → Held came s → Held came (messages_take s now ms).after
messages-held came s now [] each h = h
messages-held came s now (m ∷ ms) each h =
    messages-held came (message s now m).after now ms (All-tail IsMessage m ms each)
    (message-by came s now m (id_of m == 0) (All-head IsMessage m ms each) h)

server-held : (came : List (List ℕ)) (s : Session) (now : ℕ) (p : List ℕ) → Held came s → Held came (server s now p).after
server-held came s now p h =
    choose-held came (is_some s.end) (nothing s) (messages_take (record s { stream = rest (s.stream ++ p) }) now (messages (s.stream ++ p))) h
    (messages-held came (record s { stream = rest (s.stream ++ p) }) now (messages (s.stream ++ p)) (messages_are_messages (s.stream ++ p))
    (record { requests = h.requests; notices = h.notices; own = h.own; stream = messages-rest (s.stream ++ p) }))

parted-held : (came : List (List ℕ)) (end : End) (now : ℕ) (s : Session) → Held came s → Held came (parts_with end now s).after
parted-held came end now s h =
    notes-held came (finished end now s) (notes.parted s.notices s.requests.last s.terms.limit now (goodbye s.terms)).after
    (begun-held s.terms (given_up s.notices) s.requests.last now (goodbye s.terms) (inr refl) no-apart) (finished-held came end now s h)

refusal-len : (conference id user : ℕ) → total (refusal conference id user ∷ []) ≤ 16
unfolding refusal
refusal-len conference id user = omega arith

refused-held : (came : List (List ℕ)) (now : ℕ) (s : Session) (last : Option ℕ) → Held came s → Held came (refused last now s).after
refused-held came now s None h = finished-held came Why.NoServer now s h
refused-held came now s (Some id) h = record {
  requests = record { fits = fits-nothing came; answer = inl (refusal-len s.terms.conference id s.terms.user) };
  notices = given-up-held s.terms s.notices;
  own = no-apart;
  stream = nothing-whole;
}

unless-ended-held : (came : List (List ℕ)) (s : Session) (e : Effect) → Held came s → Held came e.after → Held came (unless_ended s e).after
unless-ended-held came s e h after = choose-held came (is_some s.end) (nothing s) e h after

-- ---- times

expired-held : (came : List (List ℕ)) (s : Session) (now : ℕ) → Held came s → Held came (expired s now)
expired-held came s now h = by (expires (held_since s.requests.held) now (t2_of s.notices.pace.t1))
  where
    by : (b : Bool) → Held came (if b then record s { requests = forgotten s.requests } else s)
    by true = record { requests = record { fits = fits-nothing came; answer = h.requests.answer }; notices = h.notices; own = h.own; stream = h.stream }
    by false = h

probes-held : (came : List (List ℕ)) (o : Option (List ℕ)) (s : Session) (now : ℕ) → last_of s.own ≡ o → Held came s → Held came (probes o s now).after
probes-held came None s now is h = h
probes-held came (Some m) s now is h =
    choose-held came (nat_le s.terms.probe (now - s.heard)) _ (nothing s)
    (notes-held came s (begun s.notices s.requests.last s.terms.limit now m).after
    (begun-held s.terms s.notices s.requests.last now m (inl (each-at IsMessage s.own (length s.own - 1) m is h.own.messages)) h.notices.waiting) h)
    h

waits-for-held : (came : List (List ℕ)) (s : Session) (now : ℕ) → Held came s → Held came (waits_for s now).after
waits-for-held came s now h =
    choose-held came (notes.is_lost s.notices.out now) (if is_some s.end then nothing (record s { notices = given_up s.notices }) else loses Why.Lost now s) _
    (choose-held came (is_some s.end) (nothing (record s { notices = given_up s.notices })) (loses Why.Lost now s)
    (notes-held came s (given_up s.notices) (given-up-held s.terms s.notices) h) (finished-held came Why.Lost now s h))
    (notes-held came s (again s.notices now).after (again-held s.terms s.notices now h.notices) h)

late-held : (came : List (List ℕ)) (s : Session) (now : ℕ) → Held came s → Held came (is_late s now).after
late-held came s now h =
    choose-held came (notes.is_out s.notices.out) (waits_for s now) (probes (last_of s.own) s now)
    (waits-for-held came s now h) (probes-held came (last_of s.own) s now refl h)

-- ---- runs

none-came : (came : List (List ℕ)) (s : Session) → Held came s → Held (came ++ []) s
none-came came s h = more-held came [] s h

step-held : (came : List (List ℕ)) (s : Session) (i : Input) → Held came s → Held (came ++ came_by i) (step s i).after
step-held came s (datagram waiting now d) h = datagram-held came s waiting now d h
step-held came s (piece now p) h = none-came came _ (server-held came s now p h)
step-held came s (ends now) h =
    none-came came _ (unless-ended-held came s (server_ends now s) h
    (choose-held came s.answered (parts_with Why.ServerGone now s) (refused s.requests.last now s)
    (parted-held came Why.ServerGone now s h) (refused-held came now s s.requests.last h)))
step-held came s (shut end now) h = none-came came _ (unless-ended-held came s (shuts_out end now s) h (parted-held came end now s h))
step-held came s (lost end now) h = none-came came _ (unless-ended-held came s (loses end now s) h (finished-held came end now s h))
step-held came s (late now) h = none-came came _ (late-held came (expired s now) now (expired-held came s now h))

run-held : (before : List (List ℕ)) (s : Session) (is : List Input) → Held before s → Held (before ++ came is) (run s is).after
run-held before s [] h = none-came before s h
run-held before s (i ∷ is) h =
    let P : List (List ℕ) → Type 0 = λ l. Held l (run (step s i).after is).after in
    subst P (append_assoc before (came_by i) (came is)) (run-held (before ++ came_by i) (step s i).after is (step-held before s i h))

begins-held : (terms : Terms) (first now : ℕ) → Held [] (begins terms first now)
begins-held terms first now = record {
  requests = record { fits = fits-nothing []; answer = no-answer terms.limit };
  notices = record { out = tt; waiting = no-apart };
  own = no-apart;
  stream = nothing-whole;
}

-- of any run
pub holds : (terms : Terms) (first now : ℕ) (is : List Input) → Holds (came is) (run (begins terms first now) is).after
holds terms first now is =
    let s = (run (begins terms first now) is).after in
    let h : Held (came is) s = run-held [] (begins terms first now) is (begins-held terms first now) in
    record {
      came_before = h.requests.fits.came_before;
      fragments = fits-len (came is) s.requests.held.ranges h.requests.fits;
      answer = h.requests.answer;
      out = h.notices.out;
      waiting = h.notices.waiting;
      own = h.own;
      stream = h.stream;
    }
