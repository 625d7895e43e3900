-- What frames that go on carry to the server, and what is sent for them.
use Rattle.std.proofs.Common.{◌≡◌, ℕ, Bool, true, false, List, [], ◌∷◌, ◌++◌, map, length, drop, All, Option, None, Some, refl, sym, ap, subst, ◌∙◌, eqb-true}
use Rattle.std.specs.Prelude.{◌==◌}
use Rattle.std.proofs.lemmas.List.Concat.{flat_map-append}
use Rattle.std.proofs.lemmas.List.Elements.{All-nil, All-cons, All-head, All-tail, All-append}
use Rattle.floor_wire.specs.Message.{IsMessage, message_len}
use Rattle.websocket.specs.declared.protocol.frame.coding.OpCode.TheVariants as Op
use Rattle.websocket.specs.declared.protocol.frame.coding.Control.TheVariants.{Pong}
use Rattle.websocket.specs.Content.{Content, text, binary, ping, pong, close}
use Rattle.websocket.specs.Connection.{Connection, Effect, Outgoing}
use Rattle.floor_web.specs.Frames.{data_frame, replies, carried, end_of_message}
use Rattle.floor_web.specs.Relay.{Front, GoesOn, carried_by, replies_to, is_data, is_pong, payload_where, IsBeforeClose, data_in, pongs_in, pinged, pings_in, ping_frame}
use Rattle.floor_web.specs.steps.Hearing.{Follows}
use Rattle.floor_web.proofs.Effects.{read_follows}

-- Frames that stand before a close, with the payloads of their data and of their pongs.
pub record IsSending (frames : List Outgoing) (contents pongs : List (List ℕ)) : Type 0 where
  pub kinds : All IsBeforeClose frames
  pub data_is : data_in frames ≡ contents
  pub pongs_are : pongs_in frames ≡ pongs

abbrev data_at : Outgoing → List (List ℕ)
data_at o = payload_where (is_data o.opcode) o.payload

abbrev pong_at : Outgoing → List (List ℕ)
pong_at o = payload_where (is_pong o.opcode) o.payload

pub sending-nil : IsSending [] [] []
sending-nil = record { kinds = All-nil IsBeforeClose; data_is = refl; pongs_are = refl }

pub sending-append : (fs gs : List Outgoing) (cs ds ps qs : List (List ℕ)) → IsSending fs cs ps → IsSending gs ds qs → IsSending (fs ++ gs) (cs ++ ds) (ps ++ qs)
sending-append fs gs cs ds ps qs f g =
    record {
      kinds = All-append IsBeforeClose fs gs f.kinds g.kinds;
      data_is = flat_map-append data_at fs gs ∙ ap (λ (l : List (List ℕ)). l ++ data_in gs) f.data_is ∙ ap (λ (l : List (List ℕ)). cs ++ l) g.data_is;
      pongs_are = flat_map-append pong_at fs gs ∙ ap (λ (l : List (List ℕ)). l ++ pongs_in gs) f.pongs_are ∙ ap (λ (l : List (List ℕ)). ps ++ l) g.pongs_are;
    }

pub data_sending : (ms : List (List ℕ)) → IsSending (map data_frame ms) ms []
data_sending [] = sending-nil
data_sending (m ∷ ms) =
    let later = data_sending ms in
    record {
      kinds = All-cons IsBeforeClose (data_frame m) (map data_frame ms) refl later.kinds;
      data_is = ap (λ (l : List (List ℕ)). m ∷ l) later.data_is;
      pongs_are = later.pongs_are;
    }

pub ping_sending : IsSending (ping_frame ∷ []) [] []
ping_sending = record { kinds = All-cons IsBeforeClose ping_frame [] refl (All-nil IsBeforeClose); data_is = refl; pongs_are = refl }

no_reply : (reply : Option Outgoing) → reply ≡ None → IsSending (replies reply) [] []
no_reply reply none = subst (λ (r : Option Outgoing). IsSending (replies r) [] []) (sym none) sending-nil

pong_sending : (b : List ℕ) → IsSending (record { opcode = Op.Control Pong; payload = b } ∷ []) [] (b ∷ [])
pong_sending b = record { kinds = All-cons IsBeforeClose _ [] refl (All-nil IsBeforeClose); data_is = refl; pongs_are = refl }

-- a frame that goes on is answered where it is a ping, by a pong
reply_sending : (m : Option Content) (reply : Option Outgoing) (next : Connection) → Follows m reply next → end_of_message m ≡ None → IsSending (replies reply) [] (pinged m)
reply_sending None reply next follows goes = absurd (cc goes)
reply_sending (Some (text t)) reply next follows goes = absurd (cc goes)
reply_sending (Some (binary b)) reply next follows goes = no_reply reply follows.0
reply_sending (Some (ping b)) reply next follows goes = subst (λ (r : Option Outgoing). IsSending (replies r) [] (b ∷ [])) (sym follows.0) (pong_sending b)
reply_sending (Some (pong b)) reply next follows goes = no_reply reply follows.0
reply_sending (Some (close c)) reply next follows goes = absurd (cc goes)

pub replies_sending : (taken : List Effect) (bytes left : List ℕ) → Front taken bytes left → All GoesOn taken → IsSending (replies_to taken) [] (pings_in taken)
replies_sending [] bytes left front go_on = sending-nil
replies_sending (e ∷ es) bytes left front go_on =
    sending-append (replies e.reply) (replies_to es) [] [] (pinged e.message) (pings_in es)
    (reply_sending e.message e.reply e.next (read_follows bytes (front.0, e) front.1) (All-head GoesOn e es go_on))
    (replies_sending es (drop front.0 bytes) left front.2 (All-tail GoesOn e es go_on))

carried_binary : (b : List ℕ) (test : Bool) → (length b == message_len b) ≡ test → end_of_message (Some (binary b)) ≡ None → All IsMessage (b ∷ [])
carried_binary b true is goes = All-cons IsMessage b [] (eqb-true (length b) (message_len b) is) (All-nil IsMessage)
carried_binary b false is goes = absurd (cc (rw is at goes))

carried_each : (m : Option Content) → end_of_message m ≡ None → All IsMessage (carried m)
carried_each None goes = All-nil IsMessage
carried_each (Some (text t)) goes = All-nil IsMessage
carried_each (Some (binary b)) goes = carried_binary b _ refl goes
carried_each (Some (ping b)) goes = All-nil IsMessage
carried_each (Some (pong b)) goes = All-nil IsMessage
carried_each (Some (close c)) goes = All-nil IsMessage

-- each message that is carried is one
pub each_carried : (taken : List Effect) → All GoesOn taken → All IsMessage (carried_by taken)
each_carried [] go_on = All-nil IsMessage
each_carried (e ∷ es) go_on =
    All-append IsMessage (carried e.message) (carried_by es)
    (carried_each e.message (All-head GoesOn e es go_on)) (each_carried es (All-tail GoesOn e es go_on))
