-- The frames of a browser's WebSocket, and what each is to the relay (RFC 8857, section 4.2).
use Rattle.std.specs.Prelude.{◌≡◌, ℕ, false, ◌==◌, List, [], ◌∷◌, ◌++◌, length, map, Option, Some, None, Result, Ok, Err, if◌then◌else◌, ◌⊎◌}
use Rattle.std.specs.List.{concat}
use Rattle.floor_wire.specs.Message.{message_len}
use Rattle.websocket.specs.declared.error.Error.{Error}
use Rattle.websocket.specs.declared.protocol.config.Role.TheVariants.{Server}
use Rattle.websocket.specs.declared.protocol.config.WebSocketConfig.{WebSocketConfig}
use Rattle.websocket.specs.declared.protocol.state.WebSocketState.TheVariants.{Active}
use Rattle.websocket.specs.declared.protocol.frame.coding.CloseCode.{CloseCode}
use Rattle.websocket.specs.declared.protocol.frame.coding.OpCode.TheVariants as Op
use Rattle.websocket.specs.declared.protocol.frame.coding.Data.TheVariants.{Binary}
use Rattle.websocket.specs.declared.protocol.frame.coding.Control.TheVariants.{Close, Pong}
use Rattle.websocket.specs.declared.protocol.frame.codec.FrameStatus.{FrameStatus}
use Rattle.websocket.specs.declared.protocol.frame.codec.FrameStatus.TheVariants.{Partial, Complete}
use Rattle.websocket.specs.Content.{Content, text, binary, ping, pong, close, close_payload}
use Rattle.websocket.specs.Connection.{Connection, Effect, Outgoing, read_step, whole_header}
use Rattle.websocket.specs.Frame.{encode_frame}
use Rattle.floor_web.specs.declared.end.End.{End}
use Rattle.floor_web.specs.declared.end.End.TheVariants as Why
use Rattle.floor_web.specs.End.{code_of, end_of_close, end_of_error}

-- what a WebSocket takes: frames and messages as long as the longest BFCP message, of 12 bytes and 65,535 units of 4
abbrev pub limits : WebSocketConfig
limits = record { max_message_size = Some 262152; max_frame_size = Some 262152; accept_unmasked_frames = false }

-- a server's side of a WebSocket between two messages, while nothing is closed
abbrev pub start : Connection
start = record { role = Server; state = Active; config = limits; fragments = None }

-- the bytes of a frame that a server sends: whole, and without a mask
abbrev pub frame_of : Outgoing → List ℕ
frame_of o = encode_frame (whole_header o.opcode None) o.payload

-- the bytes of frames, one after another
abbrev pub bytes_of : List Outgoing → List ℕ
bytes_of frames = concat (map frame_of frames)

-- a message of the floor control server, as one binary frame
abbrev pub data_frame : List ℕ → Outgoing
data_frame m = record { opcode = Op.Data Binary; payload = m }

abbrev pub pong_frame : List ℕ → Outgoing
pong_frame b = record { opcode = Op.Control Pong; payload = b }

abbrev pub close_frame : CloseCode → Outgoing
close_frame code = record { opcode = Op.Control Close; payload = close_payload (Some (code, [])) }

-- the close that is sent at an end, if one is
abbrev pub closing : Option CloseCode → List Outgoing
closing None = []
closing (Some code) = close_frame code ∷ []

abbrev pub farewell : End → List Outgoing
farewell end = closing (code_of end)

-- the reply that a frame asks for, if it asks for one
abbrev pub replies : Option Outgoing → List Outgoing
replies None = []
replies (Some o) = o ∷ []

-- a binary message that is exactly one BFCP message goes on, as do a ping and a pong; anything else ends the relay
abbrev pub end_of_message : Option Content → Option End
end_of_message None = Some Why.Fragment
end_of_message (Some (text t)) = Some Why.Text
end_of_message (Some (binary b)) = if length b == message_len b then None else Some Why.NoMessage
end_of_message (Some (ping b)) = None
end_of_message (Some (pong b)) = None
end_of_message (Some (close c)) = Some (end_of_close c)

-- what the floor control server is sent for a message that goes on: a binary message
abbrev pub carried : Option Content → List (List ℕ)
carried None = []
carried (Some (text t)) = []
carried (Some (binary b)) = b ∷ []
carried (Some (ping b)) = []
carried (Some (pong b)) = []
carried (Some (close c)) = []

-- what one read of a browser's bytes gives: a frame with what it does, a wait, or an error
abbrev pub Read : Type 0
Read = Result (FrameStatus (ℕ × Effect)) Error

-- the read at the front of these bytes, while nothing is closed
abbrev pub read_front : List ℕ → Read
read_front bytes = read_step start bytes

-- the read ends the relay so, and these frames are sent for it
abbrev pub StoppedBy : Read → End → List Outgoing → Type 0
StoppedBy (Err e) end last = (end ≡ end_of_error e) × (last ≡ farewell end)
StoppedBy (Ok (Partial n)) end last = ⊥
StoppedBy (Ok (Complete p)) end last = (end_of_message p.1.message ≡ Some end) × (last ≡ replies p.1.reply ++ farewell end)

-- memory was refused, and the close of that is sent or isn't
abbrev pub OutOfMemory : End → List Outgoing → Type 0
OutOfMemory end last = (end ≡ Why.Memory) × ((last ≡ []) ⊎ (last ≡ farewell Why.Memory))
