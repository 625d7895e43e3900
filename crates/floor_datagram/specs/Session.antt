-- One peer's session: what each input does (RFC 8855, sections 6.2 and 8.3).
use Rattle.std.specs.Prelude.{◌≡◌, ℕ, ◌-◌, ◌==◌, Bool, true, false, List, [], ◌∷◌, ◌++◌, length, Option, Some, None, nat_le, slice_get, option_map, min, is_some, if◌then◌else◌}
use Rattle.floor_wire.specs.Message.{messages, rest}
use Rattle.floor_datagram.specs.Datagrams.{id_of}
use Rattle.floor_datagram.specs.Written.{goodbye_to, refusal}
use Rattle.floor_datagram.specs.Fragments.{held_since}
use Rattle.floor_datagram.specs.Requests as asks
use Rattle.floor_datagram.specs.Pace.{t2_of, later}
use Rattle.floor_datagram.specs.Notices as notes
use Rattle.floor_datagram.specs.Own.{own_after}
use Rattle.floor_datagram.specs.HelloAck.{extended}
use Rattle.floor_datagram.specs.declared.heard.Heard.{Heard}
use Rattle.floor_datagram.specs.declared.heard.Heard.TheVariants as Was
use Rattle.floor_datagram.specs.declared.end.End.{End}
use Rattle.floor_datagram.specs.declared.end.End.TheVariants as Why

-- what holds of a session from its beginning: the peer's Conference ID and User ID, how long its datagrams are, and after how
-- many milliseconds of silence it is asked
pub record Terms : Type 0 where
  pub conference : ℕ
  pub user : ℕ
  pub limit : ℕ
  pub probe : ℕ

-- the requests and notices; the server's bytes that no message was taken of yet, and whether one was; the user's own ongoing
-- requests; the primitive of the request taken last, and when it was taken; when a datagram came last; and how it ended, if it has, and when
pub record Session : Type 0 where
  pub terms : Terms
  pub requests : asks.Requests
  pub notices : notes.Notices
  pub stream : List ℕ
  pub answered : Bool
  pub own : List (List ℕ)
  pub asked : ℕ
  pub taken : ℕ
  pub heard : ℕ
  pub end : Option End
  pub ended : ℕ

-- what an input does: the session after it, what the server is sent, and what the peer is sent
pub record Effect : Type 0 where
  pub after : Session
  pub up : List ℕ
  pub down : List (List ℕ)

abbrev pub nothing : Session → Effect
nothing s = record { after = s; up = []; down = [] }

-- a session of a peer that asked nothing, whose first request will have this Transaction ID
abbrev pub begins : Terms → (first now : ℕ) → Session
begins terms first now = record {
  terms = terms;
  requests = asks.no_requests;
  notices = notes.first_notices first;
  stream = [];
  answered = false;
  own = [];
  asked = 0;
  taken = now;
  heard = now;
  end = None;
  ended = 0;
}

-- It ended: no request is taken, nothing is told, and what was held is given up.
abbrev pub finished : End → (now : ℕ) → Session → Session
finished end now s = record s {
  requests = asks.ended s.requests;
  notices = notes.given_up s.notices;
  stream = [];
  own = [];
  end = Some end;
  ended = now;
}

abbrev pub has_ended : Session → Bool
has_ended s = is_some s.end

-- ---- datagrams

-- what was heard goes on: an acknowledgement to the notices, and a Goodbye ends the session
abbrev pub hears : Heard → (now : ℕ) → Session → Effect
hears Was.Nothing now s = nothing s
hears (Was.Acknowledgement id) now s =
    let sends = notes.acknowledged s.notices s.requests.last s.terms.limit now id in
    record { after = record s { notices = sends.after }; up = []; down = sends.down }
hears (Was.Request primitive) now s = nothing (record s { asked = primitive; taken = now })
hears Was.Goodbye now s = nothing (finished Why.Goodbye now s)

-- an effect of the peer's requests, and then of what was heard
abbrev pub took : asks.Effect → (now : ℕ) → Session → Effect
took e now s =
    let next = hears e.heard now (record s { requests = e.after; heard = now }) in
    record { after = next.after; up = e.up; down = e.down ++ next.down }

abbrev pub datagram : Session → (waiting now : ℕ) → List ℕ → Effect
datagram s waiting now d = took (asks.effect s.requests waiting now d) now s

-- ---- the server's messages

-- a message is noted: one came, and it may tell of an own request
abbrev pub noted : Session → List ℕ → Session
noted s m = record s { answered = true; own = own_after s.requests.last s.asked s.own m }

-- A notice waits for its turn.
abbrev pub tells : Session → (now : ℕ) → List ℕ → Effect
tells s now m =
    let sends = notes.told s.notices s.requests.last s.terms.limit now m in
    record { after = record s { notices = sends.after }; up = []; down = sends.down }

-- An answer is sent at once; one that has a subject waits too, where a notice is out.
abbrev pub answers : Session → List ℕ → Effect
answers s m = record {
  after = record s {
    notices = notes.crossed s.notices m;
    requests = asks.answered s.requests s.terms.limit (extended m);
  };
  up = [];
  down = asks.answer_of s.terms.limit (extended m);
}

abbrev pub message : Session → (now : ℕ) → List ℕ → Effect
message s now m = if id_of m == 0 then tells (noted s m) now m else answers (noted s m) m

-- messages, one behind another
abbrev pub messages_take : Session → (now : ℕ) → List (List ℕ) → Effect
messages_take s now [] = nothing s
messages_take s now (m ∷ ms) =
    let first = message s now m in
    let others = messages_take first.after now ms in
    record { after = others.after; up = []; down = first.down ++ others.down }

-- a piece of the server's stream
abbrev pub server : Session → (now : ℕ) → List ℕ → Effect
server s now piece =
    if is_some s.end then nothing s
    else messages_take (record s { stream = rest (s.stream ++ piece) }) now (messages (s.stream ++ piece))

-- ---- ends

-- the Goodbye that the peer is sent
abbrev pub goodbye : Terms → List ℕ
goodbye terms = goodbye_to terms.conference terms.user

-- It ended, and the peer is sent a Goodbye.
abbrev pub parts : End → (now : ℕ) → Session → Effect
parts end now s =
    let sends = notes.parted s.notices s.requests.last s.terms.limit now (goodbye s.terms) in
    record { after = record (finished end now s) { notices = sends.after }; up = []; down = sends.down }

-- It ended without a word to the peer, who is lost to the server: a byte of a message that doesn't come.
abbrev pub loses : End → (now : ℕ) → Session → Effect
loses end now s = record { after = finished end now s; up = 0x20 ∷ []; down = [] }

-- Both: the peer is sent a Goodbye, and is lost to the server.
abbrev pub shuts_out : End → (now : ℕ) → Session → Effect
shuts_out end now s = record { after = (parts end now s).after; up = 0x20 ∷ []; down = (parts end now s).down }

-- only where it hasn't ended
abbrev pub unless_ended : Session → Effect → Effect
unless_ended s e = if is_some s.end then nothing s else e

abbrev pub refusal_of : Terms → (id : ℕ) → List ℕ
refusal_of terms id = refusal terms.conference id terms.user

-- the request that waits for its answer is refused
abbrev pub refused : Option ℕ → (now : ℕ) → Session → Effect
refused None now s = nothing (finished Why.NoServer now s)
refused (Some id) now s =
    record {
      after = record (finished Why.NoServer now s) { requests = asks.refused_by (refusal_of s.terms id) s.requests };
      up = [];
      down = refusal_of s.terms id ∷ [];
    }

-- The server's stream ended, or can't be had: before it said anything the request that waits is refused.
abbrev pub server_ends : (now : ℕ) → Session → Effect
server_ends now s = if s.answered then parts Why.ServerGone now s else refused s.requests.last now s

-- ---- times

-- the fragments that are held are given up, once they are held as long as an answer
abbrev pub expires : Option ℕ → (now t2 : ℕ) → Bool
expires None now t2 = false
expires (Some since) now t2 = nat_le t2 (now - since)

abbrev pub expired : Session → (now : ℕ) → Session
expired s now =
    if expires (held_since s.requests.held) now (t2_of s.notices.pace.t1) then record s { requests = asks.forgotten s.requests } else s

-- the last of a list
abbrev pub last_of : List (List ℕ) → Option (List ℕ)
last_of ms = slice_get ms (length ms - 1)

-- A peer that holds something and was silent is told the latest of it again.
abbrev pub probes : Option (List ℕ) → Session → (now : ℕ) → Effect
probes None s now = nothing s
probes (Some m) s now =
    if nat_le s.terms.probe (now - s.heard)
    then record {
      after = record s { notices = (notes.begun s.notices s.requests.last s.terms.limit now m).after };
      up = [];
      down = (notes.begun s.notices s.requests.last s.terms.limit now m).down;
    }
    else nothing s

-- A notice that is out is sent again where it is due; whoever doesn't acknowledge it is lost, or was told Goodbye in vain.
abbrev pub waits_for : Session → (now : ℕ) → Effect
waits_for s now =
    if notes.is_lost s.notices.out now
    then (if is_some s.end then nothing (record s { notices = notes.given_up s.notices }) else loses Why.Lost now s)
    else record { after = record s { notices = (notes.again s.notices now).after }; up = []; down = (notes.again s.notices now).down }

abbrev pub is_late : Session → (now : ℕ) → Effect
is_late s now = if notes.is_out s.notices.out then waits_for s now else probes (last_of s.own) s now

abbrev pub time : Session → (now : ℕ) → Effect
time s now = is_late (expired s now) now

-- the earlier of two times, where there are any
abbrev pub earlier : Option ℕ → Option ℕ → Option ℕ
earlier None other = other
earlier (Some a) None = Some a
earlier (Some a) (Some b) = Some (min a b)

-- when fragments are given up, and when a peer that holds something is asked
abbrev pub expiry : Session → Option ℕ
expiry s = option_map (λ since. later since (t2_of s.notices.pace.t1)) (held_since s.requests.held)

abbrev pub probe_due : Session → Option ℕ
probe_due s = option_map (λ m. later s.heard s.terms.probe) (last_of s.own)

-- when something is due
abbrev pub due : Session → Option ℕ
due s = earlier (expiry s) (if notes.is_out s.notices.out then notes.due_of s.notices.out else probe_due s)

-- ---- what a call does

-- The effect took place.
pub record Took (e : Effect) (new : Session) (up_old up_new : List ℕ) (down_old down_new : List (List ℕ)) : Type 0 where
  pub after : new ≡ e.after
  pub up : up_new ≡ up_old ++ e.up
  pub down : down_new ≡ down_old ++ e.down

-- The effect, which has nothing for the server, took place.
pub record Sent (e : Effect) (new : Session) (down_old down_new : List (List ℕ)) : Type 0 where
  pub after : new ≡ e.after
  pub down : down_new ≡ down_old ++ e.down

-- Memory ran out: the session ended, the server is sent nothing, and the peer neither.
pub record Left (new : Session) (up_old up_new : List ℕ) (down_new : List (List ℕ)) : Type 0 where
  pub end : new.end ≡ Some Why.Memory
  pub up : up_new ≡ up_old
  pub down : down_new ≡ []
