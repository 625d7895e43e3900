-- What a frame of a browser is answered by, and how the WebSocket stands behind it.
use Rattle.std.proofs.Common.{◌≡◌, ℕ, Bool, true, false, List, ◌∷◌, length, Option, Result, Ok, Err, refl, inl, inr}
use Rattle.std.specs.Prelude.{codes}
use Rattle.std.proofs.lemmas.Bool.Decides.{leb_tells}
use Rattle.websocket.specs.declared.error.Error.{Error}
use Rattle.websocket.specs.declared.protocol.incomplete.MessageType.TheVariants as Kind
use Rattle.websocket.specs.declared.protocol.frame.coding.CloseCode.{CloseCode}
use Rattle.websocket.specs.declared.protocol.frame.coding.OpCode.{OpCode}
use Rattle.websocket.specs.declared.protocol.frame.coding.OpCode.TheVariants as Op
use Rattle.websocket.specs.declared.protocol.frame.coding.Data.{Data}
use Rattle.websocket.specs.declared.protocol.frame.coding.Data.TheVariants.{Continue, Text, Binary}
use Rattle.websocket.specs.declared.protocol.frame.coding.Control.{Control}
use Rattle.websocket.specs.declared.protocol.frame.coding.Control.TheVariants.{Close, Ping, Pong}
use Rattle.websocket.specs.declared.protocol.frame.codec.FrameStatus.TheVariants.{Complete}
use Rattle.websocket.specs.Frame.{check_size}
use Rattle.websocket.specs.Text.{is_utf8}
use Rattle.websocket.specs.Connection.{Effect, has_allowed_code, on_close, on_short_control, on_control, complete_message, check_so_far, deliver, on_message_bytes, on_data, check_header, on_opcode, on_frame, read_step}
use Rattle.websocket.proofs.DecodeLemmas.{ltb_false, ltb_true}
use Rattle.websocket.proofs.StreamLemmas.{after_check_passed, TookFrame_from_read}
use Rattle.floor_web.specs.Frames.{start}
use Rattle.floor_web.specs.steps.Hearing.{Follows}

abbrev pub FollowsEffect : Effect → Type 0
FollowsEffect e = Follows e.message e.reply e.next

ok_is : {A : Type 0} {a b : A} → ◌≡◌ {A = Result A Error} (Ok a) (Ok b) → b ≡ a
ok_is e = cc e

-- ---- control frames

close_follows : (payload : List ℕ) (frame : Option (CloseCode × List ℕ)) (allowed : Bool) (e : Effect) → has_allowed_code frame ≡ allowed → on_close start payload (Ok frame) ≡ Ok e → FollowsEffect e
close_follows payload frame true e code is = rw (ok_is is, code) ((payload, refl), refl)
close_follows payload frame false e code is = rw (ok_is is, code) ((3 ∷ 234 ∷ codes "Protocol violation", refl), refl)

on_close_follows : (payload : List ℕ) (r : Result (Option (CloseCode × List ℕ)) Error) (e : Effect) → on_close start payload r ≡ Ok e → FollowsEffect e
on_close_follows payload (Err x) e is = absurd (cc is)
on_close_follows payload (Ok frame) e is = close_follows payload frame _ e refl is

short_control_follows : (control : Control) (payload : List ℕ) (e : Effect) → on_short_control start control payload ≡ Ok e → FollowsEffect e
short_control_follows Close payload e is = on_close_follows payload _ e is
short_control_follows Pong payload e is = rw (ok_is is) (refl, refl)
short_control_follows Ping payload e is = rw (ok_is is) (refl, refl)

on_control_follows : (control : Control) (is_final : Bool) (payload : List ℕ) (e : Effect) → on_control start control is_final payload ≡ Ok e → FollowsEffect e
unfolding on_control
on_control_follows control false payload e is = absurd (cc is)
on_control_follows control true payload e is =
    elim (leb_tells (length payload) 125) [
      | inl p ↦ short_control_follows control payload e (rw (ltb_false 125 (length payload) p.1) at is)
      | inr p ↦ absurd (cc (rw (ltb_true 125 (length payload) p.1) at is))
    ]

-- ---- data frames

text_follows : (bytes : List ℕ) (valid : Bool) (e : Effect) → is_utf8 bytes ≡ valid → deliver start (complete_message Kind.Text bytes) ≡ Ok e → FollowsEffect e
text_follows bytes false e test is = absurd (cc (rw test at is))
text_follows bytes true e test is = rw (ok_is (rw test at is)) (refl, refl, refl)

text_bytes_follow : (is_final : Bool) (bytes : List ℕ) (e : Effect) → on_message_bytes start Kind.Text is_final bytes ≡ Ok e → FollowsEffect e
unfolding on_message_bytes
text_bytes_follow true bytes e is = text_follows bytes _ e refl (after_check_passed (check_size (length bytes) start.config.max_message_size) _ e is)
text_bytes_follow false bytes e is =
    let kept = after_check_passed (check_so_far Kind.Text bytes) _ e (after_check_passed (check_size (length bytes) start.config.max_message_size) _ e is) in
    rw (ok_is kept) (refl, refl, refl)

binary_bytes_follow : (is_final : Bool) (bytes : List ℕ) (e : Effect) → on_message_bytes start Kind.Binary is_final bytes ≡ Ok e → FollowsEffect e
unfolding on_message_bytes
binary_bytes_follow true bytes e is = rw (ok_is (after_check_passed (check_size (length bytes) start.config.max_message_size) _ e is)) (refl, refl)
binary_bytes_follow false bytes e is = rw (ok_is (after_check_passed (check_size (length bytes) start.config.max_message_size) _ e is)) (refl, refl, refl)

on_data_follows : (kind : Data) (is_final : Bool) (payload : List ℕ) (e : Effect) → on_data start kind is_final payload ≡ Ok e → FollowsEffect e
unfolding on_data
on_data_follows Continue is_final payload e is = absurd (cc is)
on_data_follows Text is_final payload e is = text_bytes_follow is_final payload e is
on_data_follows Binary is_final payload e is = binary_bytes_follow is_final payload e is

on_opcode_follows : (op : OpCode) (is_final : Bool) (payload : List ℕ) (e : Effect) → on_opcode start op is_final payload ≡ Ok e → FollowsEffect e
on_opcode_follows (Op.Control control) is_final payload e is = on_control_follows control is_final payload e is
on_opcode_follows (Op.Data kind) is_final payload e is = on_data_follows kind is_final payload e is

-- ---- a read

pub read_follows : (bytes : List ℕ) (p : ℕ × Effect) → read_step start bytes ≡ Ok (Complete p) → FollowsEffect p.1
unfolding on_frame
read_follows bytes p read =
    let took = TookFrame_from_read start bytes p read in
    on_opcode_follows took.header.opcode took.header.is_final took.payload p.1 (after_check_passed (check_header start took.header) _ p.1 took.does)
