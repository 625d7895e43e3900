-- What a relay has carried, after each call.
use Rattle.std.proofs.Common.{◌≡◌, ℕ, List, [], ◌∷◌, ◌++◌, map, All, Option, None, Some, IsSome, Ok, refl, sym, ap, subst, ◌∙◌, inl, inr, ◌⊎◌, append-nil, append_assoc}
use Rattle.std.specs.List.{concat}
use Rattle.std.proofs.lemmas.List.Concat.{flat_map-append}
use Rattle.std.proofs.lemmas.List.Elements.{All-nil, All-append, All-same}
use Rattle.floor_wire.specs.Message.{IsMessage, messages, messages_of_at_most, rest}
use Rattle.floor_wire.proofs.Messages.{messages-append, messages-rest, rest-append}
use Rattle.websocket.specs.declared.protocol.frame.codec.FrameStatus.TheVariants.{Partial}
use Rattle.websocket.specs.Connection.{Effect, Outgoing, read_step}
use Rattle.websocket.specs.Frame.{decode_frame}
use Rattle.websocket.specs.FrameHeader.{decode_header}
use Rattle.floor_web.specs.declared.end.End.{End}
use Rattle.floor_web.specs.declared.end.End.TheVariants as Why
use Rattle.floor_web.specs.declared.relay.Side.{Side}
use Rattle.floor_web.specs.declared.relay.Side.TheVariants.{Browser, Server}
use Rattle.floor_web.specs.Frames.{read_front, bytes_of, data_frame, farewell, carried, OutOfMemory}
use Rattle.floor_web.specs.Relay.{Relay, ended, Front, GoesOn, carried_by, replies_to, Stops, Hears, Tells, Finishes, Closes, ping_frame, Pings, Silent, IsBeforeClose, IsLast, data_in, pinged, pings_in, IsWhole, Relayed, KeepsRelayed}
use Rattle.floor_web.proofs.Fronts.{Front-append, Front-then}
use Rattle.floor_web.proofs.Closing.{bytes_of-append, farewell_is_last, stop_is_last}
use Rattle.floor_web.proofs.Heard.{IsSending, sending-nil, sending-append, data_sending, ping_sending, replies_sending, each_carried}

concat-append : (xs ys : List (List ℕ)) → concat (xs ++ ys) ≡ concat xs ++ concat ys
concat-append [] ys = refl
concat-append (x ∷ xs) ys = ap (λ (l : List ℕ). x ++ l) (concat-append xs ys) ∙ sym (append_assoc x (concat xs) (concat ys))

abbrev carried_at : Effect → List (List ℕ)
carried_at e = carried e.message

abbrev pinged_at : Effect → List (List ℕ)
pinged_at e = pinged e.message

-- what is carried by a call of a relay that hasn't ended
record Adds (old new : Relay) (browser server said : List ℕ) (more : List Effect) (sent last : List Outgoing) : Type 0 where
  left : List ℕ
  contents : List (List ℕ)
  others : List (List ℕ)
  front : Front more (old.unread ++ browser) left
  go_on : All GoesOn more
  sending : IsSending sent contents (pings_in more)
  closes : IsLast last
  passed : messages (old.held ++ server) ≡ contents ++ others
  whole : new.end ≡ None → IsWhole left others last (said ++ server) new

extend : (heard said to_server to_browser browser server : List ℕ) (old new : Relay) (more : List Effect) (sent last : List Outgoing)
    → Relayed heard said to_server to_browser old → old.end ≡ None → Adds old new browser server said more sent last
    → Relayed (heard ++ browser) (said ++ server) (to_server ++ concat (carried_by more)) (to_browser ++ bytes_of (sent ++ last)) new
extend heard said to_server to_browser browser server old new more sent last r is_open a =
    let w = r.whole is_open in
    let all = sending-append r.frames sent (data_in r.frames) a.contents (pings_in r.taken) (pings_in more) (record { kinds = r.kinds; data_is = refl; pongs_are = r.pongs }) a.sending in
    record {
      taken = r.taken ++ more;
      left = a.left;
      front = Front-then r.taken more (heard ++ browser) (r.left ++ browser) a.left (Front-append r.taken heard r.left browser r.front)
          (subst (λ (l : List ℕ). Front more (l ++ browser) a.left) w.unread a.front);
      go_on = All-append GoesOn r.taken more r.go_on a.go_on;
      up = ap (λ (l : List ℕ). l ++ concat (carried_by more)) r.up ∙ sym (concat-append (carried_by r.taken) (carried_by more)) ∙ ap concat (sym (flat_map-append carried_at r.taken more));
      each = All-same IsMessage (carried_by (r.taken ++ more)) (carried_by r.taken ++ carried_by more) (flat_map-append carried_at r.taken more)
          (All-append IsMessage (carried_by r.taken) (carried_by more) r.each (each_carried more a.go_on));
      frames = r.frames ++ sent;
      last = last;
      down = ap (λ (l : List ℕ). l ++ bytes_of (sent ++ last)) (r.down ∙ ap (λ (l : List Outgoing). bytes_of (r.frames ++ l)) w.no_last ∙ ap bytes_of (append-nil r.frames))
          ∙ sym (bytes_of-append r.frames (sent ++ last)) ∙ ap bytes_of (sym (append_assoc r.frames sent last));
      kinds = all.kinds;
      closes = a.closes;
      others = a.others;
      passed = messages-append said server
          ∙ ap (λ (l : List (List ℕ)). l ++ messages (rest said ++ server)) (r.passed ∙ ap (λ (l : List (List ℕ)). data_in r.frames ++ l) w.no_others ∙ append-nil (data_in r.frames))
          ∙ ap (λ (l : List (List ℕ)). data_in r.frames ++ l) (ap (λ (l : List ℕ). messages (l ++ server)) (sym w.held) ∙ a.passed)
          ∙ sym (append_assoc (data_in r.frames) a.contents a.others)
          ∙ ap (λ (l : List (List ℕ)). l ++ a.others) (sym all.data_is);
      pongs = all.pongs_are ∙ sym (flat_map-append pinged_at r.taken more);
      whole = a.whole;
    }

-- after an end nothing is carried, whatever comes
silent : (heard said to_server to_browser browser server : List ℕ) (old new : Relay) → Relayed heard said to_server to_browser old → IsSome old.end → new ≡ old
    → Relayed (heard ++ browser) (said ++ server) (to_server ++ []) (to_browser ++ []) new
silent heard said to_server to_browser browser server old new r is_ended same =
    record {
      taken = r.taken;
      left = r.left ++ browser;
      front = Front-append r.taken heard r.left browser r.front;
      go_on = r.go_on;
      up = append-nil to_server ∙ r.up;
      each = r.each;
      frames = r.frames;
      last = r.last;
      down = append-nil to_browser ∙ r.down;
      kinds = r.kinds;
      closes = r.closes;
      others = r.others ++ messages (rest said ++ server);
      passed = messages-append said server ∙ ap (λ (l : List (List ℕ)). l ++ messages (rest said ++ server)) r.passed ∙ append_assoc (data_in r.frames) r.others (messages (rest said ++ server));
      pongs = r.pongs;
      whole = λ still. absurd (not_open old.end is_ended (sym (ap (λ (x : Relay). x.end) same) ∙ still));
    }
  where
    not_open : (e : Option End) → IsSome e → e ≡ None → ⊥
    not_open None some none = cc some
    not_open (Some e) some none = cc none

-- either it has ended, or it hasn't
by_end : {A : Type 0} (e : Option End) → (e ≡ None → A) → (IsSome e → A) → A
by_end None still over = still refl
by_end (Some e) still over = over refl

pub silent_keeps : (browser server : List ℕ) (old new : Relay) (up_old up_new down_old down_new : List ℕ) → IsSome old.end → Silent old new up_old up_new down_old down_new → KeepsRelayed browser server old new up_old up_new down_old down_new
silent_keeps browser server old new up_old up_new down_old down_new is_ended s = λ heard said to_server to_browser r. (
  [],
  [],
  s.1 ∙ sym (append-nil up_old),
  s.2 ∙ sym (append-nil down_old),
  silent heard said to_server to_browser browser server old new r is_ended s.0,
)

-- what is held of the server's stream has no whole message
held_none : (old : Relay) (left : List ℕ) (others : List (List ℕ)) (last : List Outgoing) (said : List ℕ) → IsWhole left others last said old → messages (old.held ++ []) ≡ []
held_none old left others last said w = ap messages (append-nil old.held ∙ w.held) ∙ messages-rest said

-- a call that takes nothing of the browser
idle_front : (old : Relay) → Front [] (old.unread ++ []) old.unread
idle_front old = sym (append-nil old.unread)

hears_open : (old new : Relay) (left : List ℕ) (last : List Outgoing) (said : List ℕ) (others : List (List ℕ)) → Stops left old.held new last → old.held ≡ rest said → others ≡ [] → new.end ≡ None → IsWhole left others last (said ++ []) new
hears_open old new left last said others (inl s) held none still =
    record {
      unread = ap (λ (x : Relay). x.unread) s.1;
      waits = s.0;
      held = ap (λ (x : Relay). x.held) s.1 ∙ held ∙ ap rest (sym (append-nil said));
      no_others = none;
      no_last = s.2;
    }
hears_open old new left last said others (inr s) held none still = absurd (cc (sym (ap (λ (x : Relay). x.end) s.1) ∙ still))

hears_last : (old new : Relay) (left : List ℕ) (last : List Outgoing) → Stops left old.held new last → IsLast last
hears_last old new left last (inl s) = inl s.2
hears_last old new left last (inr s) = stop_is_last left s.0 last s.2

pub browser_keeps : (piece : List ℕ) (old new : Relay) (up_old up_new down_old down_new : List ℕ)
    → old.end ≡ None → Hears old piece new up_old up_new down_old down_new → KeepsRelayed piece [] old new up_old up_new down_old down_new
browser_keeps piece old new up_old up_new down_old down_new is_open h = λ heard said to_server to_browser r. (
  concat (carried_by h.taken),
  bytes_of (replies_to h.taken ++ h.last),
  h.up,
  h.down,
  extend heard said to_server to_browser piece [] old new h.taken (replies_to h.taken) h.last r is_open (record {
    left = h.left;
    contents = [];
    others = messages (old.held ++ []);
    front = h.front;
    go_on = h.go_on;
    sending = replies_sending h.taken (old.unread ++ piece) h.left h.front h.go_on;
    closes = hears_last old new h.left h.last h.stops;
    passed = refl;
    whole = λ still. hears_open old new h.left h.last said (messages (old.held ++ [])) h.stops (r.whole is_open).held (held_none old _ _ _ said (r.whole is_open)) still;
  }),
)

tells_last : (old new : Relay) (piece : List ℕ) (others : List (List ℕ)) (last : List Outgoing)
    → ((new ≡ record old { held = rest (old.held ++ piece) }) × (others ≡ []) × (last ≡ [])) ⊎ ((new ≡ ended Why.Memory) × OutOfMemory Why.Memory last) → IsLast last
tells_last old new piece others last (inl s) = inl s.2
tells_last old new piece others last (inr s) = stop_is_last [] Why.Memory last (inr s.1)

tells_open : (old new : Relay) (piece : List ℕ) (others others_old : List (List ℕ)) (last last_old : List Outgoing) (said left : List ℕ)
    → ((new ≡ record old { held = rest (old.held ++ piece) }) × (others ≡ []) × (last ≡ [])) ⊎ ((new ≡ ended Why.Memory) × OutOfMemory Why.Memory last)
    → IsWhole left others_old last_old said old → new.end ≡ None → IsWhole old.unread others last (said ++ piece) new
tells_open old new piece others others_old last last_old said left (inl s) w still =
    record {
      unread = ap (λ (x : Relay). x.unread) s.0;
      waits = subst (λ (l : List ℕ). (wanted : ℕ) × (read_front l ≡ Ok (Partial wanted))) (sym w.unread) w.waits;
      held = ap (λ (x : Relay). x.held) s.0 ∙ ap (λ (l : List ℕ). rest (l ++ piece)) w.held ∙ sym (rest-append said piece);
      no_others = s.1;
      no_last = s.2;
    }
tells_open old new piece others others_old last last_old said left (inr s) w still = absurd (cc (sym (ap (λ (x : Relay). x.end) s.0) ∙ still))

pub server_keeps : (piece : List ℕ) (old new : Relay) (down_old down_new : List ℕ) → old.end ≡ None → Tells old piece new down_old down_new → KeepsRelayed [] piece old new [] [] down_old down_new
server_keeps piece old new down_old down_new is_open t = λ heard said to_server to_browser r. (
  [],
  bytes_of (map data_frame t.passed ++ t.last),
  refl,
  t.down,
  extend heard said to_server to_browser [] piece old new [] (map data_frame t.passed) t.last r is_open (record {
    left = old.unread;
    contents = t.passed;
    others = t.others;
    front = idle_front old;
    go_on = All-nil GoesOn;
    sending = data_sending t.passed;
    closes = tells_last old new piece t.others t.last t.stops;
    passed = t.front;
    whole = λ still. tells_open old new piece t.others r.others t.last r.last said r.left t.stops (r.whole is_open) still;
  }),
)

finish_last : (end : End) (new : Relay) (last : List Outgoing) → ((new ≡ ended end) × (last ≡ farewell end)) ⊎ ((new ≡ ended Why.Memory) × (last ≡ [])) → IsLast last
finish_last end new last (inl s) = subst IsLast (sym s.1) (farewell_is_last end)
finish_last end new last (inr s) = inl s.1

finish_over : (end : End) (new : Relay) (last : List Outgoing) → ((new ≡ ended end) × (last ≡ farewell end)) ⊎ ((new ≡ ended Why.Memory) × (last ≡ [])) → new.end ≡ None → ⊥
finish_over end new last (inl s) still = cc (sym (ap (λ (x : Relay). x.end) s.0) ∙ still)
finish_over end new last (inr s) still = cc (sym (ap (λ (x : Relay). x.end) s.0) ∙ still)

pub finish_keeps : (end : End) (old new : Relay) (down_old down_new : List ℕ) → old.end ≡ None → Finishes end new down_old down_new → KeepsRelayed [] [] old new [] [] down_old down_new
finish_keeps end old new down_old down_new is_open f = λ heard said to_server to_browser r. (
  [],
  bytes_of f.last,
  refl,
  f.down,
  extend heard said to_server to_browser [] [] old new [] [] f.last r is_open (record {
    left = old.unread;
    contents = [];
    others = messages (old.held ++ []);
    front = idle_front old;
    go_on = All-nil GoesOn;
    sending = sending-nil;
    closes = finish_last end new f.last f.stops;
    passed = refl;
    whole = λ still. absurd (finish_over end new f.last f.stops still);
  }),
)

pub close_keeps : (side : Side) (old new : Relay) (down_old down_new : List ℕ) → old.end ≡ None → Closes old side new down_old down_new → KeepsRelayed [] [] old new [] [] down_old down_new
close_keeps Browser old new down_old down_new is_open f = finish_keeps Why.Gone old new down_old down_new is_open f
close_keeps Server old new down_old down_new is_open f = finish_keeps Why.ServerGone old new down_old down_new is_open f

ping_open : (old new : Relay) (others_old : List (List ℕ)) (last_old : List Outgoing) (said left : List ℕ) → new ≡ old → IsWhole left others_old last_old said old → IsWhole old.unread (messages (old.held ++ [])) [] (said ++ []) new
ping_open old new others_old last_old said left same w =
    record {
      unread = ap (λ (x : Relay). x.unread) same;
      waits = subst (λ (l : List ℕ). (wanted : ℕ) × (read_front l ≡ Ok (Partial wanted))) (sym w.unread) w.waits;
      held = ap (λ (x : Relay). x.held) same ∙ w.held ∙ ap rest (sym (append-nil said));
      no_others = held_none old left others_old last_old said w;
      no_last = refl;
    }

pub ping_keeps : (old new : Relay) (down_old down_new : List ℕ) → old.end ≡ None → Pings old new down_old down_new → KeepsRelayed [] [] old new [] [] down_old down_new
ping_keeps old new down_old down_new is_open (inl p) = λ heard said to_server to_browser r. (
  [],
  bytes_of (ping_frame ∷ []),
  refl,
  p.1,
  extend heard said to_server to_browser [] [] old new [] (ping_frame ∷ []) [] r is_open (record {
    left = old.unread;
    contents = [];
    others = messages (old.held ++ []);
    front = idle_front old;
    go_on = All-nil GoesOn;
    sending = ping_sending;
    closes = inl refl;
    passed = refl;
    whole = λ still. ping_open old new r.others r.last said r.left p.0 (r.whole is_open);
  }),
)
ping_keeps old new down_old down_new is_open (inr f) = finish_keeps Why.Memory old new down_old down_new is_open f

-- a relay keeps what it carried: an ended one does nothing, and another keeps it by each call
pub keeps_by_end : (browser server : List ℕ) (old new : Relay) (up_old up_new down_old down_new : List ℕ)
    → (old.end ≡ None → KeepsRelayed browser server old new up_old up_new down_old down_new)
    → (IsSome old.end → Silent old new up_old up_new down_old down_new)
    → KeepsRelayed browser server old new up_old up_new down_old down_new
keeps_by_end browser server old new up_old up_new down_old down_new still over =
    by_end old.end still (λ some. silent_keeps browser server old new up_old up_new down_old down_new some (over some))

pub relayed-new : Relayed [] [] [] [] (record { end = None; unread = []; held = [] })
unfolding messages messages_of_at_most rest read_step decode_frame decode_header
relayed-new =
    record {
      taken = [];
      left = [];
      front = refl;
      go_on = All-nil GoesOn;
      up = refl;
      each = All-nil IsMessage;
      frames = [];
      last = [];
      down = refl;
      kinds = All-nil IsBeforeClose;
      closes = inl refl;
      others = [];
      passed = refl;
      pongs = refl;
      whole = λ _. record { unread = refl; waits = (1, refl); held = refl; no_others = refl; no_last = refl };
    }
