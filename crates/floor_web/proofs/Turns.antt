-- What comes of one read of a browser's bytes.
use Rattle.std.proofs.Common.{◌≡◌, ℕ, true, List, [], ◌∷◌, ◌++◌, length, drop, All, Option, None, Some, IsSome, Ok, Err, refl, sym, ap, subst, ◌∙◌, inl, inr, ◌⊎◌, append-nil, append_assoc, length-drop, ◌<◌, arith}
use Rattle.std.specs.Prelude.{option_map}
use Rattle.std.specs.List.{concat}
use Rattle.std.proofs.lemmas.List.Concat.{flat_map-append}
use Rattle.std.proofs.lemmas.List.Elements.{All-nil, All-push}
use Rattle.websocket.specs.declared.error.Error.{Error}
use Rattle.websocket.specs.declared.protocol.config.Role.{Role}
use Rattle.websocket.specs.declared.protocol.config.Role.TheVariants.{Server}
use Rattle.websocket.specs.declared.protocol.context.Step.{Step}
use Rattle.websocket.specs.declared.protocol.frame.codec.FrameStatus.TheVariants.{Partial, Complete}
use Rattle.websocket.specs.Content.{Content, text, binary, ping, pong, close, received_content}
use Rattle.websocket.specs.Connection.{Connection, Effect, Outgoing, Sends, closing_state, failed_connection}
use Rattle.websocket.specs.View.{Returns, ReadLeaves, KeepsRest, GivesError}
use Rattle.websocket.proofs.StreamLemmas.{TookFrame_from_read}
use Rattle.floor_web.specs.declared.end.End.{End}
use Rattle.floor_web.specs.declared.end.End.TheVariants as Why
use Rattle.floor_web.specs.End.{code_of, end_of_close, end_of_error}
use Rattle.floor_web.specs.Frames.{Read, read_front, start, bytes_of, farewell, replies, carried, end_of_message, StoppedBy}
use Rattle.floor_web.specs.Relay.{Front, GoesOn, carried_by, replies_to}
use Rattle.floor_web.specs.steps.Hearing.{is_binary, Carries, CanClose, Closes, Follows, Takes, Waiting, Ending, HearsAll}
use Rattle.floor_web.proofs.Effects.{read_follows}
use Rattle.floor_web.proofs.Closing.{Sends-server, bytes_of-append, silent_close}
use Rattle.floor_web.proofs.Fronts.{Front-then}

-- ---- what a read returned

abbrev waiting_for : ℕ → Read
waiting_for n = Ok (Partial n)

waits_so : (r : Read) (input : List ℕ) (n : ℕ) → Returns r input (Partial n) → r ≡ Ok (Partial n)
waits_so (Err e) input n returns = absurd returns
waits_so (Ok (Partial m)) input n returns = let same : m ≡ n = cc returns in ap waiting_for same
waits_so (Ok (Complete p)) input n returns = absurd returns

-- a frame that was read, with what it does
record Got (r : Read) (input : List ℕ) (step : Step) : Type 0 where
  size : ℕ
  effect : Effect
  is : r ≡ Ok (Complete (size, effect))
  consumed : step.consumed ≡ size
  message : option_map (received_content input) step.message ≡ effect.message

got : (r : Read) (input : List ℕ) (step : Step) → Returns r input (Complete step) → Got r input step
got (Err e) input step returns = absurd returns
got (Ok (Partial n)) input step returns = absurd (cc returns)
got (Ok (Complete p)) input step returns = record { size = p.0; effect = p.1; is = refl; consumed = returns.0; message = returns.1.0 }

left_by : (r : Read) (after : Connection) (old new : List ℕ) (size : ℕ) (e : Effect) → r ≡ Ok (Complete (size, e)) → ReadLeaves r start after old new → (after ≡ e.next) × Sends after.role e.reply old new
left_by r after old new size e is leaves = subst (λ (x : Read). ReadLeaves x start after old new) is leaves

role_behind : (m : Option Content) (reply : Option Outgoing) (next : Connection) → Follows m reply next → next.role ≡ Server
role_behind None reply next follows = follows.1
role_behind (Some (text t)) reply next follows = follows.1
role_behind (Some (binary b)) reply next follows = ap (λ (c : Connection). c.role) follows.1
role_behind (Some (ping b)) reply next follows = ap (λ (c : Connection). c.role) follows.1
role_behind (Some (pong b)) reply next follows = ap (λ (c : Connection). c.role) follows.1
role_behind (Some (close c)) reply next follows = follows.1

start_behind : (m : Option Content) (reply : Option Outgoing) (next : Connection) → Follows m reply next → end_of_message m ≡ None → next ≡ start
start_behind None reply next follows goes = absurd (cc goes)
start_behind (Some (text t)) reply next follows goes = absurd (cc goes)
start_behind (Some (binary b)) reply next follows goes = follows.1
start_behind (Some (ping b)) reply next follows goes = follows.1
start_behind (Some (pong b)) reply next follows goes = follows.1
start_behind (Some (close c)) reply next follows goes = absurd (cc goes)

-- the reply of a frame, as it stands in what is sent
reply_sent : (bytes : List ℕ) (after : Connection) (old new : List ℕ) (size : ℕ) (e : Effect) → read_front bytes ≡ Ok (Complete (size, e)) → ReadLeaves (read_front bytes) start after old new
    → new ≡ old ++ bytes_of (replies e.reply)
reply_sent bytes after old new size e is leaves =
    let by = left_by (read_front bytes) after old new size e is leaves in
    let server : after.role ≡ Server = ap (λ (c : Connection). c.role) by.0 ∙ role_behind e.message e.reply e.next (read_follows bytes (size, e) is) in
    Sends-server e.reply old new (subst (λ (r : Role). Sends r e.reply old new) server by.1)

-- ---- the three turns

pub turn_waits : (bytes input left : List ℕ) (n : ℕ) (after : Connection) (up down_old down_new : List ℕ)
    → Returns (read_front bytes) input (Partial n) → ReadLeaves (read_front bytes) start after down_old down_new → KeepsRest (Partial n) bytes input → left ≡ input
    → Waiting (read_front bytes) after bytes left up up down_old down_new
turn_waits bytes input left n after up down_old down_new returns leaves keeps left_is =
    let is = waits_so (read_front bytes) input n returns in
    let by = subst (λ (x : Read). ReadLeaves x start after down_old down_new) is leaves in
    record { wanted = n; is = is; context_is = by.0; left_is = left_is ∙ keeps; up = refl; down = by.1 }

pub turn_takes : (bytes input left : List ℕ) (step : Step) (after : Connection) (up_old up_new down_old down_new : List ℕ)
    → Returns (read_front bytes) input (Complete step) → ReadLeaves (read_front bytes) start after down_old down_new → KeepsRest (Complete step) bytes input
    → Carries (option_map (received_content input) step.message) up_old up_new None → left ≡ drop step.consumed input
    → Takes (read_front bytes) after bytes left up_old up_new down_old down_new
turn_takes bytes input left step after up_old up_new down_old down_new returns leaves keeps carries left_is =
    let g = got (read_front bytes) input step returns in
    let c = subst (λ (m : Option Content). Carries m up_old up_new None) g.message carries in
    let by = left_by (read_front bytes) after down_old down_new g.size g.effect g.is leaves in
    record {
      size = g.size;
      effect = g.effect;
      is = g.is;
      goes_on = c.0;
      context_is = by.0 ∙ start_behind g.effect.message g.effect.reply g.effect.next (read_follows bytes (g.size, g.effect) g.is) c.0;
      left_is = left_is ∙ keeps.1 ∙ ap (λ (n : ℕ). drop n bytes) g.consumed;
      up = c.1;
      down = reply_sent bytes after down_old down_new g.size g.effect g.is leaves;
    }

-- a close can be sent behind what ends the relay
active_closes : (m : Option Content) (reply : Option Outgoing) (next : Connection) (end : End) → Follows m reply next
    → (end_of_message m ≡ Some end) ⊎ ((end ≡ Why.Memory) × (is_binary m ≡ true)) → IsSome (code_of end) → IsSome (closing_state next.state)
active_closes None reply next end follows why some = rw follows.2 refl
active_closes (Some (text t)) reply next end follows why some = rw follows.2 refl
active_closes (Some (binary b)) reply next end follows why some = rw follows.1 refl
active_closes (Some (ping b)) reply next end follows why some = rw follows.1 refl
active_closes (Some (pong b)) reply next end follows why some = rw follows.1 refl
active_closes (Some (close c)) reply next end follows (inl why) some =
    let same : end_of_close c ≡ end = cc why in
    absurd (cc (rw (subst (λ (e : End). code_of e ≡ None) same (silent_close c)) at some))
active_closes (Some (close c)) reply next end follows (inr why) some = absurd (cc why.1)

pub can_close : (bytes input : List ℕ) (step : Step) (after : Connection) (up_old up_new down_old down_new : List ℕ) (end : End)
    → Returns (read_front bytes) input (Complete step) → ReadLeaves (read_front bytes) start after down_old down_new
    → Carries (option_map (received_content input) step.message) up_old up_new (Some end) → CanClose after end
can_close bytes input step after up_old up_new down_old down_new end returns leaves carries =
    let g = got (read_front bytes) input step returns in
    let c = subst (λ (m : Option Content). Carries m up_old up_new (Some end)) g.message carries in
    let by = left_by (read_front bytes) after down_old down_new g.size g.effect g.is leaves in
    let follows = read_follows bytes (g.size, g.effect) g.is in (
      ap (λ (x : Connection). x.role) by.0 ∙ role_behind g.effect.message g.effect.reply g.effect.next follows,
      λ some. subst (λ (x : Connection). IsSome (closing_state x.state)) (sym by.0) (active_closes g.effect.message g.effect.reply g.effect.next end follows c.1 some),
    )

pub can_close_failed : (after : Connection) (end : End) → after ≡ failed_connection start → CanClose after end
can_close_failed after end is = (ap (λ (x : Connection). x.role) is, λ some. subst (λ (x : Connection). IsSome (closing_state x.state)) (sym is) refl)

pub can_close_open : (conn : Connection) (end : End) → conn ≡ start → CanClose conn end
can_close_open conn end is = (ap (λ (x : Connection). x.role) is, λ some. subst (λ (x : Connection). IsSome (closing_state x.state)) (sym is) refl)

two_parts : (old mid new : List ℕ) (first second : List Outgoing) → mid ≡ old ++ bytes_of first → new ≡ mid ++ bytes_of second → new ≡ old ++ bytes_of (first ++ second)
two_parts old mid new first second before behind =
    behind ∙ ap (λ (l : List ℕ). l ++ bytes_of second) before ∙ append_assoc old (bytes_of first) (bytes_of second) ∙ ap (λ (l : List ℕ). old ++ l) (sym (bytes_of-append first second))

-- nothing is sent where memory was refused to a binary message
no_reply : (m : Option Content) (reply : Option Outgoing) (next : Connection) → Follows m reply next → is_binary m ≡ true → reply ≡ None
no_reply None reply next follows is = absurd (cc is)
no_reply (Some (text t)) reply next follows is = absurd (cc is)
no_reply (Some (binary b)) reply next follows is = follows.0
no_reply (Some (ping b)) reply next follows is = absurd (cc is)
no_reply (Some (pong b)) reply next follows is = absurd (cc is)
no_reply (Some (close c)) reply next follows is = absurd (cc is)

-- nor where it was refused to a close: only a frame without a reply has one
unanswered : (m : Option Content) (reply : Option Outgoing) (next : Connection) (end : End) → Follows m reply next → end_of_message m ≡ Some end → (reply ≡ None) ⊎ (code_of end ≡ None)
unanswered None reply next end follows why = inl follows.0
unanswered (Some (text t)) reply next end follows why = inl follows.0
unanswered (Some (binary b)) reply next end follows why = inl follows.0
unanswered (Some (ping b)) reply next end follows why = absurd (cc why)
unanswered (Some (pong b)) reply next end follows why = absurd (cc why)
unanswered (Some (close c)) reply next end follows why =
    let same : end_of_close c ≡ end = cc why in inr (subst (λ (e : End). code_of e ≡ None) same (silent_close c))

ending_with : (r : Read) (end result : End) (up_old up_new down_old down_mid down_new : List ℕ) (reply : Option Outgoing) → up_new ≡ up_old → down_mid ≡ down_old ++ bytes_of (replies reply)
    → (StoppedBy r end (replies reply ++ farewell end)) ⊎ ((end ≡ Why.Memory) × (reply ≡ None)) → (reply ≡ None) ⊎ (code_of end ≡ None)
    → Closes end down_mid down_new result → Ending r result up_old up_new down_old down_new
ending_with r end result up_old up_new down_old down_mid down_new reply up down (inl why) none (inl closed) =
    record {
      last = replies reply ++ farewell end;
      why = inl (subst (λ (e : End). StoppedBy r e (replies reply ++ farewell end)) (sym closed.0) why);
      up = up;
      down = two_parts down_old down_mid down_new (replies reply) (farewell end) down closed.1;
    }
ending_with r end result up_old up_new down_old down_mid down_new reply up down (inr why) none (inl closed) =
    record {
      last = farewell Why.Memory;
      why = inr (closed.0 ∙ why.0, inr refl);
      up = up;
      down = two_parts down_old down_mid down_new (replies reply) (farewell end) down closed.1 ∙ ap (λ (x : Option Outgoing). down_old ++ bytes_of (replies x ++ farewell end)) why.1 ∙ ap (λ (e : End). down_old ++ bytes_of (farewell e)) why.0;
    }
ending_with r end result up_old up_new down_old down_mid down_new reply up down why (inl none) (inr failed) =
    record {
      last = [];
      why = inr (failed.0, inl refl);
      up = up;
      down = failed.1 ∙ down ∙ ap (λ (x : Option Outgoing). down_old ++ bytes_of (replies x)) none;
    }
ending_with r end result up_old up_new down_old down_mid down_new reply up down why (inr is_silent) (inr failed) =
    absurd (cc (rw is_silent at failed.2))

-- a frame that ends the relay
pub turn_ends : (bytes input : List ℕ) (step : Step) (after : Connection) (up_old up_new down_old down_mid down_new : List ℕ) (end result : End)
    → Returns (read_front bytes) input (Complete step) → ReadLeaves (read_front bytes) start after down_old down_mid
    → Carries (option_map (received_content input) step.message) up_old up_new (Some end) → Closes end down_mid down_new result
    → Ending (read_front bytes) result up_old up_new down_old down_new
turn_ends bytes input step after up_old up_new down_old down_mid down_new end result returns leaves carries closes =
    let g = got (read_front bytes) input step returns in
    let c = subst (λ (m : Option Content). Carries m up_old up_new (Some end)) g.message carries in
    let follows = read_follows bytes (g.size, g.effect) g.is in
    ending_by bytes end result up_old up_new down_old down_mid down_new g.size g.effect g.is follows c.0 c.1 (reply_sent bytes after down_old down_mid g.size g.effect g.is leaves) closes
  where
    ending_by : (bytes : List ℕ) (end result : End) (up_old up_new down_old down_mid down_new : List ℕ) (size : ℕ) (e : Effect) → read_front bytes ≡ Ok (Complete (size, e)) → Follows e.message e.reply e.next
        → up_new ≡ up_old → (end_of_message e.message ≡ Some end) ⊎ ((end ≡ Why.Memory) × (is_binary e.message ≡ true)) → down_mid ≡ down_old ++ bytes_of (replies e.reply)
        → Closes end down_mid down_new result → Ending (read_front bytes) result up_old up_new down_old down_new
    ending_by bytes end result up_old up_new down_old down_mid down_new size e is follows up (inl why) down closes =
        let stopped : StoppedBy (read_front bytes) end (replies e.reply ++ farewell end) = subst (λ (x : Read). StoppedBy x end (replies e.reply ++ farewell end)) (sym is) (why, refl) in
        ending_with (read_front bytes) end result up_old up_new down_old down_mid down_new e.reply up down (inl stopped) (unanswered e.message e.reply e.next end follows why) closes
    ending_by bytes end result up_old up_new down_old down_mid down_new size e is follows up (inr why) down closes =
        let none = no_reply e.message e.reply e.next follows why.1 in
        ending_with (read_front bytes) end result up_old up_new down_old down_mid down_new e.reply up down (inr (why.0, none)) (inl none) closes

fails_with : (r : Read) (e : Error) → GivesError r e → StoppedBy r (end_of_error e) (farewell (end_of_error e)) ⊎ (end_of_error e ≡ Why.Memory)
fails_with r e (inl memory) = inr (ap end_of_error memory)
fails_with r e (inr is) = inl (subst (λ (x : Read). StoppedBy x (end_of_error e) (farewell (end_of_error e))) (sym is) (refl, refl))

failing : (r : Read) (end result : End) (up_old up_new down_old down_mid down_new : List ℕ) → StoppedBy r end (farewell end) ⊎ (end ≡ Why.Memory) → up_new ≡ up_old → down_mid ≡ down_old → Closes end down_mid down_new result
    → Ending r result up_old up_new down_old down_new
failing r end result up_old up_new down_old down_mid down_new why up down (inr failed) =
    record { last = []; why = inr (failed.0, inl refl); up = up; down = failed.1 ∙ down ∙ sym (append-nil down_old) }
failing r end result up_old up_new down_old down_mid down_new (inl why) up down (inl closed) =
    record {
      last = farewell end;
      why = inl (subst (λ (e : End). StoppedBy r e (farewell end)) (sym closed.0) why);
      up = up;
      down = closed.1 ∙ ap (λ (l : List ℕ). l ++ bytes_of (farewell end)) down;
    }
failing r end result up_old up_new down_old down_mid down_new (inr why) up down (inl closed) =
    record {
      last = farewell Why.Memory;
      why = inr (closed.0 ∙ why, inr refl);
      up = up;
      down = closed.1 ∙ ap (λ (l : List ℕ). l ++ bytes_of (farewell end)) down ∙ ap (λ (e : End). down_old ++ bytes_of (farewell e)) why;
    }

-- a read that failed
pub turn_fails : (bytes : List ℕ) (e : Error) (result : End) (up_old up_new down_old down_mid down_new : List ℕ)
    → GivesError (read_front bytes) e → up_new ≡ up_old → down_mid ≡ down_old → Closes (end_of_error e) down_mid down_new result
    → Ending (read_front bytes) result up_old up_new down_old down_new
turn_fails bytes e result up_old up_new down_old down_mid down_new gives up down closes =
    failing (read_front bytes) (end_of_error e) result up_old up_new down_old down_mid down_new (fails_with (read_front bytes) e gives) up down closes

-- ---- many turns

-- Frames that were taken, one after another, and these bytes are left.
pub record Taking (context : Connection) (unread left up_old up_new down_old down_new : List ℕ) : Type 0 where
  pub taken : List Effect
  pub front : Front taken unread left
  pub go_on : All GoesOn taken
  pub context_is : context ≡ start
  pub up : up_new ≡ up_old ++ concat (carried_by taken)
  pub down : down_new ≡ down_old ++ bytes_of (replies_to taken)

pub taking-none : (context : Connection) (unread up down : List ℕ) → context ≡ start → Taking context unread unread up up down down
taking-none context unread up down is = record { taken = []; front = refl; go_on = All-nil GoesOn; context_is = is; up = sym (append-nil up); down = sym (append-nil down) }

concat-append : (xs ys : List (List ℕ)) → concat (xs ++ ys) ≡ concat xs ++ concat ys
concat-append [] ys = refl
concat-append (x ∷ xs) ys = ap (λ (l : List ℕ). x ++ l) (concat-append xs ys) ∙ sym (append_assoc x (concat xs) (concat ys))

pub taking-more : (context after : Connection) (unread mid left up_old up_mid up_new down_old down_mid down_new : List ℕ)
    → Taking context unread mid up_old up_mid down_old down_mid → Takes (read_front mid) after mid left up_mid up_new down_mid down_new
    → Taking after unread left up_old up_new down_old down_new
taking-more context after unread mid left up_old up_mid up_new down_old down_mid down_new t one =
    let carried_at : Effect → List (List ℕ) = λ (e : Effect). carried e.message in
    let reply_at : Effect → List Outgoing = λ (e : Effect). replies e.reply in
    record {
      taken = t.taken ++ one.effect ∷ [];
      front = Front-then t.taken (one.effect ∷ []) unread mid left t.front (one.size, one.is, one.left_is);
      go_on = All-push GoesOn t.taken one.effect t.go_on one.goes_on;
      context_is = one.context_is;
      up = one.up ∙ ap (λ (l : List ℕ). l ++ concat (carried one.effect.message)) t.up ∙ append_assoc up_old (concat (carried_by t.taken)) (concat (carried one.effect.message))
          ∙ ap (λ (l : List ℕ). up_old ++ l) (ap (λ (l : List (List ℕ)). concat (carried_by t.taken) ++ concat l) (sym (append-nil (carried one.effect.message)))
          ∙ sym (concat-append (carried_by t.taken) (carried_by (one.effect ∷ []))) ∙ ap concat (sym (flat_map-append carried_at t.taken (one.effect ∷ []))));
      down = two_parts down_old down_mid down_new (replies_to t.taken) (replies one.effect.reply) t.down one.down
          ∙ ap (λ (l : List Outgoing). down_old ++ bytes_of (replies_to t.taken ++ l)) (sym (append-nil (replies one.effect.reply)))
          ∙ ap (λ (l : List Outgoing). down_old ++ bytes_of l) (sym (flat_map-append reply_at t.taken (one.effect ∷ [])));
    }

-- how much is left falls with each frame
pub taken_shrinks : (after : Connection) (unread left up_old up_new down_old down_new : List ℕ) → Takes (read_front unread) after unread left up_old up_new down_old down_new → length left < length unread
taken_shrinks after unread left up_old up_new down_old down_new t =
    let took = TookFrame_from_read start unread (t.size, t.effect) t.is in
    rw t.left_is (omega (arith, length-drop t.size unread, took.not_empty, took.inside))

pub all_wait : (context after : Connection) (unread mid left up_old up_mid up_new down_old down_mid down_new : List ℕ)
    → Taking context unread mid up_old up_mid down_old down_mid → Waiting (read_front mid) after mid left up_mid up_new down_mid down_new
    → HearsAll after unread left up_old up_new down_old down_new None
all_wait context after unread mid left up_old up_mid up_new down_old down_mid down_new t w =
    record {
      taken = t.taken;
      behind = mid;
      last = [];
      front = t.front;
      go_on = t.go_on;
      up = w.up ∙ t.up;
      down = w.down ∙ t.down ∙ ap (λ (l : List Outgoing). down_old ++ bytes_of l) (sym (append-nil (replies_to t.taken)));
      stops = (w.context_is, w.left_is, (w.wanted, w.is), refl);
    }

pub all_end : (context after : Connection) (unread mid left up_old up_mid up_new down_old down_mid down_new : List ℕ) (end : End)
    → Taking context unread mid up_old up_mid down_old down_mid → Ending (read_front mid) end up_mid up_new down_mid down_new
    → HearsAll after unread left up_old up_new down_old down_new (Some end)
all_end context after unread mid left up_old up_mid up_new down_old down_mid down_new end t e =
    record {
      taken = t.taken;
      behind = mid;
      last = e.last;
      front = t.front;
      go_on = t.go_on;
      up = e.up ∙ t.up;
      down = two_parts down_old down_mid down_new (replies_to t.taken) e.last t.down e.down;
      stops = e.why;
    }
