-- What each call of a relay does, out of its parts.
use Rattle.std.proofs.Common.{◌≡◌, ℕ, Bool, true, List, [], ◌∷◌, ◌++◌, map, None, Some, refl, sym, ap, subst, ◌∙◌, inl, inr, ◌⊎◌, append-nil, append_assoc}
use Rattle.std.proofs.lemmas.List.Elements.{All-nil}
use Rattle.floor_wire.specs.Message.{messages}
use Rattle.websocket.specs.declared.protocol.config.Role.{Role}
use Rattle.websocket.specs.Content.{binary, ping}
use Rattle.websocket.specs.Connection.{Connection, Outgoing, Sends, write_step}
use Rattle.websocket.specs.View.{Leaves}
use Rattle.floor_web.specs.declared.end.End.{End}
use Rattle.floor_web.specs.declared.end.End.TheVariants as Why
use Rattle.floor_web.specs.Frames.{start, frame_of, bytes_of, data_frame, farewell, OutOfMemory}
use Rattle.floor_web.specs.Relay.{Relay, ended, Front, GoesOn, Stops, Hears, Tells, Finishes, ping_frame}
use Rattle.floor_web.specs.steps.Hearing.{Closes, HearsAll}
use Rattle.floor_web.specs.steps.Telling.{PassesOn}
use Rattle.floor_web.proofs.Closing.{Sends-server, bytes_of-append}

-- ---- what is written to the browser

sent_by_start : (after : Connection) (o : Outgoing) (old new : List ℕ) → after ≡ start → Sends after.role (Some o) old new → new ≡ old ++ bytes_of (o ∷ [])
sent_by_start after o old new is sends =
    Sends-server (Some o) old new (subst (λ (r : Role). Sends r (Some o) old new) (ap (λ (c : Connection). c.role) is) sends)

pub data_sent : (before after : Connection) (m old new : List ℕ) → before ≡ start → Leaves (write_step before (binary m)) after old new → (after ≡ start) × (new ≡ old ++ frame_of (data_frame m))
data_sent before after m old new is leaves =
    let l = subst (λ (c : Connection). Leaves (write_step c (binary m)) after old new) is leaves in (
      l.0,
      sent_by_start after (data_frame m) old new l.0 l.1 ∙ ap (λ (bs : List ℕ). old ++ bs) (append-nil (frame_of (data_frame m))),
    )

pub ping_sent : (before after : Connection) (old new : List ℕ) → before ≡ start → Leaves (write_step before (ping [])) after old new → (after ≡ start) × (new ≡ old ++ bytes_of (ping_frame ∷ []))
ping_sent before after old new is leaves =
    let l = subst (λ (c : Connection). Leaves (write_step c (ping [])) after old new) is leaves in
    (l.0, sent_by_start after ping_frame old new l.0 l.1)

-- ---- ends

pub finishes : (end result : End) (new : Relay) (old_bytes new_bytes : List ℕ) → Closes end old_bytes new_bytes result → new ≡ ended result → Finishes end new old_bytes new_bytes
finishes end result new old_bytes new_bytes (inl closed) is =
    record { last = farewell end; down = closed.1; stops = inl (is ∙ ap ended closed.0, refl) }
finishes end result new old_bytes new_bytes (inr failed) is =
    record { last = []; down = failed.1 ∙ sym (append-nil old_bytes); stops = inr (is ∙ ap ended failed.0, refl) }

memory_over : (new : Relay) (last : List Outgoing) → ((new ≡ ended Why.Memory) × (last ≡ farewell Why.Memory)) ⊎ ((new ≡ ended Why.Memory) × (last ≡ [])) → (new ≡ ended Why.Memory) × OutOfMemory Why.Memory last
memory_over new last (inl s) = (s.0, (refl, inr s.1))
memory_over new last (inr s) = (s.0, (refl, inl s.1))

-- ---- the browser's pieces

pub hears_pushed : (old mid new : Relay) (piece up_old up_new down_old down_new : List ℕ) → mid ≡ record { end = old.end; unread = old.unread ++ piece; held = old.held } → Hears mid [] new up_old up_new down_old down_new
    → Hears old piece new up_old up_new down_old down_new
hears_pushed old mid new piece up_old up_new down_old down_new is h =
    let unread : mid.unread ++ [] ≡ old.unread ++ piece = append-nil mid.unread ∙ ap (λ (r : Relay). r.unread) is in
    record {
      taken = h.taken;
      left = h.left;
      last = h.last;
      front = subst (λ (l : List ℕ). Front h.taken l h.left) unread h.front;
      go_on = h.go_on;
      up = h.up;
      down = h.down;
      stops = subst (λ (l : List ℕ). Stops h.left l new h.last) (ap (λ (r : Relay). r.held) is) h.stops;
    }

pub hears_refused : (old new : Relay) (piece up down_old down_new : List ℕ) → Finishes Why.Memory new down_old down_new → Hears old piece new up up down_old down_new
hears_refused old new piece up down_old down_new f =
    let over = memory_over new f.last f.stops in
    record {
      taken = [];
      left = old.unread ++ piece;
      last = f.last;
      front = refl;
      go_on = All-nil GoesOn;
      up = sym (append-nil up);
      down = f.down;
      stops = inr (Why.Memory, over.0, inr over.1);
    }

pub hears_open : (context : Connection) (old new : Relay) (left up_old up_new down_old down_new : List ℕ) → HearsAll context old.unread left up_old up_new down_old down_new None
    → new ≡ record { end = None; unread = left; held = old.held } → Hears old [] new up_old up_new down_old down_new
hears_open context old new left up_old up_new down_old down_new h is =
    record {
      taken = h.taken;
      left = h.behind;
      last = h.last;
      front = subst (λ (l : List ℕ). Front h.taken l h.behind) (sym (append-nil old.unread)) h.front;
      go_on = h.go_on;
      up = h.up;
      down = h.down;
      stops = inl (h.stops.2, is ∙ ap (λ (l : List ℕ). record { end = None; unread = l; held = old.held }) h.stops.1, h.stops.3);
    }

pub hears_ended : (context : Connection) (old new : Relay) (left up_old up_new down_old down_new : List ℕ) (end : End) → HearsAll context old.unread left up_old up_new down_old down_new (Some end)
    → new ≡ ended end → Hears old [] new up_old up_new down_old down_new
hears_ended context old new left up_old up_new down_old down_new end h is =
    record {
      taken = h.taken;
      left = h.behind;
      last = h.last;
      front = subst (λ (l : List ℕ). Front h.taken l h.behind) (sym (append-nil old.unread)) h.front;
      go_on = h.go_on;
      up = h.up;
      down = h.down;
      stops = inr (end, is, h.stops);
    }

-- ---- the server's pieces

pub tells_all : (context : Connection) (old new : Relay) (piece left down_old down_new : List ℕ) (granted : Bool) → granted ≡ true → PassesOn context (old.held ++ piece) left down_old down_new granted
    → new ≡ record { end = old.end; unread = old.unread; held = left } → Tells old piece new down_old down_new
tells_all context old new piece left down_old down_new granted is_granted p is =
    let all = p.all is_granted in
    record {
      passed = p.passed;
      others = p.others;
      last = [];
      front = p.front;
      down = p.down ∙ ap (λ (l : List Outgoing). down_old ++ bytes_of l) (sym (append-nil (map data_frame p.passed)));
      stops = inl (is ∙ ap (λ (l : List ℕ). record { end = old.end; unread = old.unread; held = l }) all.1, all.0, refl);
    }

pub tells_some : (context : Connection) (old new : Relay) (piece left down_old down_mid down_new : List ℕ) (granted : Bool) → PassesOn context (old.held ++ piece) left down_old down_mid granted
    → Finishes Why.Memory new down_mid down_new → Tells old piece new down_old down_new
tells_some context old new piece left down_old down_mid down_new granted p f =
    record {
      passed = p.passed;
      others = p.others;
      last = f.last;
      front = p.front;
      down = f.down ∙ ap (λ (l : List ℕ). l ++ bytes_of f.last) p.down ∙ append_assoc down_old (bytes_of (map data_frame p.passed)) (bytes_of f.last)
          ∙ ap (λ (l : List ℕ). down_old ++ l) (sym (bytes_of-append (map data_frame p.passed) f.last));
      stops = inr (memory_over new f.last f.stops);
    }

pub tells_refused : (old new : Relay) (piece down_old down_new : List ℕ) → Finishes Why.Memory new down_old down_new → Tells old piece new down_old down_new
tells_refused old new piece down_old down_new f =
    record {
      passed = [];
      others = messages (old.held ++ piece);
      last = f.last;
      front = refl;
      down = f.down;
      stops = inr (memory_over new f.last f.stops);
    }
