-- What comes of the frame at the front of a browser's bytes.
use Rattle.std.specs.Prelude.{◌≡◌, ◌⊎◌, ℕ, Bool, true, false, List, [], ◌++◌, drop, All, Option, Some, None, IsSome, Ok}
use Rattle.std.specs.List.{concat}
use Rattle.websocket.specs.declared.protocol.config.Role.TheVariants.{Server}
use Rattle.websocket.specs.declared.protocol.frame.coding.OpCode.TheVariants as Op
use Rattle.websocket.specs.declared.protocol.frame.coding.Control.TheVariants.{Close}
use Rattle.websocket.specs.declared.protocol.state.WebSocketState.TheVariants.{Active}
use Rattle.websocket.specs.declared.protocol.frame.codec.FrameStatus.TheVariants.{Partial, Complete}
use Rattle.websocket.specs.Content.{Content, text, binary, ping, pong, close}
use Rattle.websocket.specs.Connection.{Connection, Effect, Outgoing, closing_state}
use Rattle.floor_web.specs.Frames.{Read, read_front, start, bytes_of, pong_frame, farewell, replies, carried, end_of_message, StoppedBy, OutOfMemory}
use Rattle.floor_web.specs.Relay.{Front, GoesOn, carried_by, replies_to}
use Rattle.floor_web.specs.End.{code_of}
use Rattle.floor_web.specs.declared.end.End.{End}
use Rattle.floor_web.specs.declared.end.End.TheVariants as Why
use Rattle.floor_web.specs.declared.hear.Turn.{Turn}
use Rattle.floor_web.specs.declared.hear.Turn.TheVariants.{Taken, Waits, Ends}

abbrev pub is_binary : Option Content → Bool
is_binary None = false
is_binary (Some (text t)) = false
is_binary (Some (binary b)) = true
is_binary (Some (ping b)) = false
is_binary (Some (pong b)) = false
is_binary (Some (close c)) = false

-- the message was added, or it ends the relay and nothing was
abbrev pub Carries : Option Content → (old new : List ℕ) → Option End → Type 0
Carries content old new None = (end_of_message content ≡ None) × (new ≡ old ++ concat (carried content))
Carries content old new (Some end) =
    (new ≡ old) × ((end_of_message content ≡ Some end) ⊎ ((end ≡ Why.Memory) × (is_binary content ≡ true)))

-- a close can be sent, where the end has one
abbrev pub CanClose : Connection → End → Type 0
CanClose conn end = (conn.role ≡ Server) × ((IsSome (code_of end)) → IsSome (closing_state conn.state))

-- the close was sent, or memory was refused and nothing was
abbrev pub Closes : End → (old new : List ℕ) → End → Type 0
Closes end old new result =
    ((result ≡ end) × (new ≡ old ++ bytes_of (farewell end))) ⊎ ((result ≡ Why.Memory) × (new ≡ old) × IsSome (code_of end))

-- what a frame is asked to be answered by, and how the WebSocket stands behind it
abbrev pub Follows : Option Content → Option Outgoing → Connection → Type 0
Follows None reply next = (reply ≡ None) × (next.role ≡ Server) × (next.state ≡ Active)
Follows (Some (text t)) reply next = (reply ≡ None) × (next.role ≡ Server) × (next.state ≡ Active)
Follows (Some (binary b)) reply next = (reply ≡ None) × (next ≡ start)
Follows (Some (ping b)) reply next = (reply ≡ Some (pong_frame b)) × (next ≡ start)
Follows (Some (pong b)) reply next = (reply ≡ None) × (next ≡ start)
Follows (Some (close c)) reply next =
    ((payload : List ℕ) × (reply ≡ Some (record { opcode = Op.Control Close; payload = payload }))) × (next.role ≡ Server)

-- The frame was taken: its message is added, and its reply is sent.
pub record Takes (read : Read) (context : Connection) (unread left up_old up_new down_old down_new : List ℕ) : Type 0 where
  pub size : ℕ
  pub effect : Effect
  pub is : read ≡ Ok (Complete (size, effect))
  pub goes_on : end_of_message effect.message ≡ None
  pub context_is : context ≡ start
  pub left_is : left ≡ drop size unread
  pub up : up_new ≡ up_old ++ concat (carried effect.message)
  pub down : down_new ≡ down_old ++ bytes_of (replies effect.reply)

-- No frame is whole, and nothing changed.
pub record Waiting (read : Read) (context : Connection) (unread left up_old up_new down_old down_new : List ℕ) : Type 0 where
  pub wanted : ℕ
  pub is : read ≡ Ok (Partial wanted)
  pub context_is : context ≡ start
  pub left_is : left ≡ unread
  pub up : up_new ≡ up_old
  pub down : down_new ≡ down_old

-- The relay ends: nothing is added, and the last frames are sent.
pub record Ending (read : Read) (end : End) (up_old up_new down_old down_new : List ℕ) : Type 0 where
  pub last : List Outgoing
  pub why : StoppedBy read end last ⊎ OutOfMemory end last
  pub up : up_new ≡ up_old
  pub down : down_new ≡ down_old ++ bytes_of last

abbrev pub Hears : Read → Connection → (unread left up_old up_new down_old down_new : List ℕ) → Turn → Type 0
Hears read context unread left up_old up_new down_old down_new Taken = Takes read context unread left up_old up_new down_old down_new
Hears read context unread left up_old up_new down_old down_new Waits = Waiting read context unread left up_old up_new down_old down_new
Hears read context unread left up_old up_new down_old down_new (Ends end) = Ending read end up_old up_new down_old down_new

-- why no more frames are taken: none is whole, or the relay ends
abbrev pub StopsSo : Connection → (behind left : List ℕ) → Option End → List Outgoing → Type 0
StopsSo context behind left None last =
    (context ≡ start) × (left ≡ behind) × ((wanted : ℕ) × (read_front behind ≡ Ok (Partial wanted))) × (last ≡ [])
StopsSo context behind left (Some end) last = StoppedBy (read_front behind) end last ⊎ OutOfMemory end last

-- Frames were taken, one after another, and then none is whole or the relay ends.
pub record HearsAll (context : Connection) (unread left up_old up_new down_old down_new : List ℕ) (result : Option End) : Type 0 where
  pub taken : List Effect
  pub behind : List ℕ
  pub last : List Outgoing
  pub front : Front taken unread behind
  pub go_on : All GoesOn taken
  pub up : up_new ≡ up_old ++ concat (carried_by taken)
  pub down : down_new ≡ down_old ++ bytes_of (replies_to taken ++ last)
  pub stops : StopsSo context behind left result last
