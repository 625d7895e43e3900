-- The frames that a server sends, and the close that an end has.
use Rattle.std.proofs.Common.{◌≡◌, ℕ, Bool, true, false, List, [], ◌∷◌, ◌++◌, Option, None, Some, IsSome, Ok, Err, refl, sym, ap, subst, ◌∙◌, inl, inr, ◌⊎◌, append-nil, append_assoc}
use Rattle.std.specs.Prelude.{◌==◌, if◌then◌else◌}
use Rattle.websocket.specs.declared.protocol.config.Role.{Role}
use Rattle.websocket.specs.declared.protocol.config.Role.TheVariants.{Server}
use Rattle.websocket.specs.declared.protocol.frame.coding.CloseCode.{CloseCode}
use Rattle.websocket.specs.declared.protocol.frame.coding.OpCode.TheVariants as Op
use Rattle.websocket.specs.declared.protocol.frame.coding.Control.TheVariants.{Close}
use Rattle.websocket.specs.declared.protocol.frame.codec.FrameStatus.TheVariants.{Partial, Complete}
use Rattle.websocket.specs.Content.{Content, text, binary, ping, pong, close, close_payload}
use Rattle.websocket.specs.Connection.{Connection, Outgoing, Sends, IsMaskOf, whole_header, check_close, close_to, close_step, closing_state}
use Rattle.websocket.specs.Frame.{encode_frame}
use Rattle.websocket.specs.declared.protocol.state.WebSocketState.{WebSocketState}
use Rattle.websocket.specs.declared.protocol.frame.coding.CloseCode.TheVariants as Code
use Rattle.websocket.specs.CloseCode.{close_code_number, close_code_of, is_allowed}
use Rattle.websocket.specs.View.{Leaves}
use Rattle.floor_web.specs.declared.end.End.{End}
use Rattle.floor_web.specs.declared.end.End.TheVariants as Why
use Rattle.floor_web.specs.End.{code_of, end_of_close}
use Rattle.floor_web.specs.Frames.{Read, read_front, frame_of, bytes_of, close_frame, closing, farewell, replies, end_of_message, StoppedBy, OutOfMemory}
use Rattle.floor_web.specs.Relay.{IsLast}
use Rattle.floor_web.specs.steps.Hearing.{CanClose, Closes, Follows}
use Rattle.floor_web.proofs.Effects.{read_follows}

sent_unmasked : (o : Outgoing) (mask : Option (List ℕ)) (old new : List ℕ) → IsMaskOf Server mask → new ≡ old ++ encode_frame (whole_header o.opcode mask) o.payload → new ≡ old ++ bytes_of (o ∷ [])
sent_unmasked o None old new is_mask is = is ∙ ap (λ (l : List ℕ). old ++ l) (sym (append-nil (frame_of o)))
sent_unmasked o (Some key) old new is_mask is = absurd (cc (is_mask.0))

-- what a server sends has no mask
pub Sends-server : (reply : Option Outgoing) (old new : List ℕ) → Sends Server reply old new → new ≡ old ++ bytes_of (replies reply)
Sends-server None old new sends = sends ∙ sym (append-nil old)
Sends-server (Some o) old new sends = sent_unmasked o sends.0 old new sends.1 sends.2

pub bytes_of-append : (xs ys : List Outgoing) → bytes_of (xs ++ ys) ≡ bytes_of xs ++ bytes_of ys
bytes_of-append [] ys = refl
bytes_of-append (x ∷ xs) ys = ap (λ (l : List ℕ). frame_of x ++ l) (bytes_of-append xs ys) ∙ sym (append_assoc (frame_of x) (bytes_of xs) (bytes_of ys))

closing_is_last : (code : Option CloseCode) → IsLast (closing code)
closing_is_last None = inl refl
closing_is_last (Some code) = inr (close_payload (Some (code, [])), refl)

pub farewell_is_last : (end : End) → IsLast (farewell end)
farewell_is_last end = closing_is_last (code_of end)

silent_code : (b : Bool) → code_of (if b then Why.Closed else Why.GoingAway) ≡ None
silent_code true = refl
silent_code false = refl

-- a browser's own close is answered by no second one
pub silent_close : (c : Option (CloseCode × List ℕ)) → code_of (end_of_close c) ≡ None
silent_close None = refl
silent_close (Some p) = silent_code (close_code_number p.0 == 1000)

no_reply : (reply : Option Outgoing) (end : End) (last : List Outgoing) → reply ≡ None → last ≡ replies reply ++ farewell end → IsLast last
no_reply reply end last none is = subst IsLast (sym (is ∙ ap (λ (r : Option Outgoing). replies r ++ farewell end) none)) (farewell_is_last end)

-- the last frames of a frame that ends the relay are one close
stopping_frame : (m : Option Content) (reply : Option Outgoing) (next : Connection) (end : End) (last : List Outgoing) → Follows m reply next → end_of_message m ≡ Some end → last ≡ replies reply ++ farewell end → IsLast last
stopping_frame None reply next end last follows why is = no_reply reply end last follows.0 is
stopping_frame (Some (text t)) reply next end last follows why is = no_reply reply end last follows.0 is
stopping_frame (Some (binary b)) reply next end last follows why is = no_reply reply end last follows.0 is
stopping_frame (Some (ping b)) reply next end last follows why is = absurd (cc why)
stopping_frame (Some (pong b)) reply next end last follows why is = absurd (cc why)
stopping_frame (Some (close c)) reply next end last follows why is =
    let same : end_of_close c ≡ end = cc why in
    let silent = subst (λ (e : End). code_of e ≡ None) same (silent_close c) in
    inr (follows.0.0, is ∙ ap (λ (r : Option Outgoing). replies r ++ farewell end) follows.0.1 ∙ ap (λ (code : Option CloseCode). replies (Some (record { opcode = Op.Control Close; payload = follows.0.0 })) ++ closing code) silent)

stopped_read : (bytes : List ℕ) (r : Read) (end : End) (last : List Outgoing) → read_front bytes ≡ r → StoppedBy r end last → IsLast last
stopped_read bytes (Err e) end last is why = subst IsLast (sym why.1) (farewell_is_last end)
stopped_read bytes (Ok (Partial n)) end last is why = absurd why
stopped_read bytes (Ok (Complete p)) end last is why = stopping_frame p.1.message p.1.reply p.1.next end last (read_follows bytes p is) why.0 why.1

memory_is_last : (last : List Outgoing) → (last ≡ []) ⊎ (last ≡ farewell Why.Memory) → IsLast last
memory_is_last last (inl none) = inl none
memory_is_last last (inr is) = subst IsLast (sym is) (farewell_is_last Why.Memory)

pub stop_is_last : (bytes : List ℕ) (end : End) (last : List Outgoing) → StoppedBy (read_front bytes) end last ⊎ OutOfMemory end last → IsLast last
stop_is_last bytes end last (inl why) = stopped_read bytes _ end last refl why
stop_is_last bytes end last (inr why) = memory_is_last last why.1

-- ---- sending the close

codes_allowed : (end : End) (code : CloseCode) → code_of end ≡ Some code → is_allowed (close_code_of (close_code_number code)) ≡ true
codes_allowed Why.Closed code is = absurd (cc is)
codes_allowed Why.GoingAway code is = absurd (cc is)
codes_allowed Why.Gone code is = absurd (cc is)
codes_allowed Why.ServerGone code is = let e : code ≡ Code.Away = cc is in rw e refl
codes_allowed Why.NoServer code is = let e : code ≡ Code.Library 4404 = cc is in rw e refl
codes_allowed Why.Refused code is = let e : code ≡ Code.Library 4403 = cc is in rw e refl
codes_allowed Why.Broken code is = let e : code ≡ Code.Protocol = cc is in rw e refl
codes_allowed Why.Fragment code is = let e : code ≡ Code.Protocol = cc is in rw e refl
codes_allowed Why.Text code is = let e : code ≡ Code.Unsupported = cc is in rw e refl
codes_allowed Why.NoUtf8 code is = let e : code ≡ Code.Invalid = cc is in rw e refl
codes_allowed Why.NoMessage code is = let e : code ≡ Code.Invalid = cc is in rw e refl
codes_allowed Why.TooLong code is = let e : code ≡ Code.Size = cc is in rw e refl
codes_allowed Why.Memory code is = let e : code ≡ Code.Error = cc is in rw e refl

check_close_passes : (code : CloseCode) → is_allowed (close_code_of (close_code_number code)) ≡ true → check_close (Some (code, [])) ≡ Ok tt
check_close_passes code allowed = rw allowed refl

leaves_close : (conn after : Connection) (code : CloseCode) (s : Option WebSocketState) (old new : List ℕ) → conn.role ≡ Server → IsSome s → check_close (Some (code, [])) ≡ Ok tt
    → Leaves (close_to conn (Some (code, [])) s) after old new → new ≡ old ++ bytes_of (close_frame code ∷ [])
leaves_close conn after code None old new role some passes leaves = absurd (cc some)
leaves_close conn after code (Some state) old new role some passes leaves =
    let sent = rw passes at leaves in
    let server : after.role ≡ Server = ap (λ (c : Connection). c.role) sent.0 ∙ role in
    Sends-server (Some (close_frame code)) old new (subst (λ (r : Role). Sends r (Some (close_frame code)) old new) server sent.1)

-- a close that was sent is the end's
pub closes_ok : (conn after : Connection) (end : End) (code : CloseCode) (old new : List ℕ) → code_of end ≡ Some code → CanClose conn end
    → Leaves (close_step conn (Some (code, []))) after old new → Closes end old new end
closes_ok conn after end code old new is can leaves =
    inl (
      refl,
      leaves_close conn after code (closing_state conn.state) old new can.0 (can.1 (subst IsSome (sym is) refl)) (check_close_passes code (codes_allowed end code is)) leaves
          ∙ ap (λ (c : Option CloseCode). old ++ bytes_of (closing c)) (sym is),
    )

-- an end that has no close sends none
pub closes_none : (end : End) (old : List ℕ) → code_of end ≡ None → Closes end old old end
closes_none end old is = inl (refl, sym (append-nil old) ∙ ap (λ (c : Option CloseCode). old ++ bytes_of (closing c)) (sym is))
