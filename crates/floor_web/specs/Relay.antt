-- A relay between a browser's WebSocket and a floor control server, and what it carries (RFC 8857, section 4.2).
use Rattle.std.specs.Prelude.{◌≡◌, ℕ, Bool, true, false, List, [], ◌∷◌, ◌++◌, drop, map, All, Option, Some, None, Ok, ◌⊎◌}
use Rattle.std.specs.List.{concat, flat_map}
use Rattle.floor_wire.specs.Message.{IsMessage, messages, rest}
use Rattle.websocket.specs.declared.protocol.frame.coding.OpCode.{OpCode}
use Rattle.websocket.specs.declared.protocol.frame.coding.OpCode.TheVariants as Op
use Rattle.websocket.specs.declared.protocol.frame.coding.Data.TheVariants.{Continue, Text, Binary}
use Rattle.websocket.specs.declared.protocol.frame.coding.Control.TheVariants.{Close, Ping, Pong}
use Rattle.websocket.specs.declared.protocol.frame.codec.FrameStatus.TheVariants.{Partial, Complete}
use Rattle.websocket.specs.Content.{Content, text, binary, ping, pong, close}
use Rattle.websocket.specs.Connection.{Effect, Outgoing}
use Rattle.floor_web.specs.Frames.{read_front, bytes_of, data_frame, farewell, replies, carried, end_of_message, StoppedBy, OutOfMemory}
use Rattle.floor_web.specs.declared.end.End.{End}
use Rattle.floor_web.specs.declared.end.End.TheVariants as Why
use Rattle.floor_web.specs.declared.relay.Side.{Side}
use Rattle.floor_web.specs.declared.relay.Side.TheVariants.{Browser, Server}

-- how a relay ended, if it has; the browser's bytes that no frame was taken of yet, and the server's that no message was
pub record Relay : Type 0 where
  pub end : Option End
  pub unread : List ℕ
  pub held : List ℕ

-- a relay that ended, which holds nothing
abbrev pub ended : End → Relay
ended end = record { end = Some end; unread = []; held = [] }

-- ---- what each call does

-- These frames stand at the front of the bytes, one after another, and these bytes behind them.
abbrev pub Front : List Effect → (bytes left : List ℕ) → Type 0
Front [] bytes left = left ≡ bytes
Front (e ∷ es) bytes left = (size : ℕ) × (read_front bytes ≡ Ok (Complete (size, e))) × Front es (drop size bytes) left

-- the frame goes on: the relay doesn't end by it
abbrev pub GoesOn : Effect → Type 0
GoesOn e = end_of_message e.message ≡ None

-- the messages that these frames carry to the server, and the replies that they ask for
abbrev pub carried_by : List Effect → List (List ℕ)
carried_by es = flat_map (λ (e : Effect). carried e.message) es

abbrev pub replies_to : List Effect → List Outgoing
replies_to es = flat_map (λ (e : Effect). replies e.reply) es

-- why no more frames are taken of these bytes, and what is sent last: none is whole, or the relay ends by the next or for want of memory
abbrev pub Stops : (left : List ℕ) → (held : List ℕ) → Relay → (last : List Outgoing) → Type 0
Stops left held new last =
    (((wanted : ℕ) × (read_front left ≡ Ok (Partial wanted))) × (new ≡ record { end = None; unread = left; held = held }) × (last ≡ []))
    ⊎ ((end : End) × (new ≡ ended end) × (StoppedBy (read_front left) end last ⊎ OutOfMemory end last))

-- The frames at the front of the unread bytes with the piece behind them were taken, up to one that isn't whole or that ends the relay.
pub record Hears (old : Relay) (piece : List ℕ) (new : Relay) (up_old up_new down_old down_new : List ℕ) : Type 0 where
  pub taken : List Effect
  pub left : List ℕ
  pub last : List Outgoing
  pub front : Front taken (old.unread ++ piece) left
  pub go_on : All GoesOn taken
  pub up : up_new ≡ up_old ++ concat (carried_by taken)
  pub down : down_new ≡ down_old ++ bytes_of (replies_to taken ++ last)
  pub stops : Stops left old.held new last

-- The messages that are whole by now were sent to the browser, a binary frame each; all of them, unless memory was refused.
pub record Tells (old : Relay) (piece : List ℕ) (new : Relay) (down_old down_new : List ℕ) : Type 0 where
  pub passed : List (List ℕ)
  pub others : List (List ℕ)
  pub last : List Outgoing
  pub front : messages (old.held ++ piece) ≡ passed ++ others
  pub down : down_new ≡ down_old ++ bytes_of (map data_frame passed ++ last)
  pub stops : ((new ≡ record old { held = rest (old.held ++ piece) }) × (others ≡ []) × (last ≡ []))
      ⊎ ((new ≡ ended Why.Memory) × OutOfMemory Why.Memory last)

-- The relay ended, and the close of that end was sent, or memory was refused for it.
pub record Finishes (end : End) (new : Relay) (down_old down_new : List ℕ) : Type 0 where
  pub last : List Outgoing
  pub down : down_new ≡ down_old ++ bytes_of last
  pub stops : ((new ≡ ended end) × (last ≡ farewell end)) ⊎ ((new ≡ ended Why.Memory) × (last ≡ []))

abbrev pub Closes : Relay → Side → Relay → (down_old down_new : List ℕ) → Type 0
Closes old Browser new down_old down_new = Finishes Why.Gone new down_old down_new
Closes old Server new down_old down_new = Finishes Why.ServerGone new down_old down_new

abbrev pub ping_frame : Outgoing
ping_frame = record { opcode = Op.Control Ping; payload = [] }

-- A ping was sent, or memory was refused.
abbrev pub Pings : (old new : Relay) → (down_old down_new : List ℕ) → Type 0
Pings old new down_old down_new =
    ((new ≡ old) × (down_new ≡ down_old ++ bytes_of (ping_frame ∷ []))) ⊎ Finishes Why.Memory new down_old down_new

-- Nothing happened.
abbrev pub Silent : (old new : Relay) → (up_old up_new down_old down_new : List ℕ) → Type 0
Silent old new up_old up_new down_old down_new = (new ≡ old) × (up_new ≡ up_old) × (down_new ≡ down_old)

-- ---- what a relay has carried

abbrev pub payload_where : Bool → List ℕ → List (List ℕ)
payload_where true payload = payload ∷ []
payload_where false payload = []

abbrev pub is_data : OpCode → Bool
is_data (Op.Data d) = true
is_data (Op.Control c) = false

abbrev pub is_pong : OpCode → Bool
is_pong (Op.Data d) = false
is_pong (Op.Control Close) = false
is_pong (Op.Control Ping) = false
is_pong (Op.Control Pong) = true

-- a frame that stands before a close: a binary message, a ping or a pong
abbrev pub is_before_close : OpCode → Bool
is_before_close (Op.Data Continue) = false
is_before_close (Op.Data Text) = false
is_before_close (Op.Data Binary) = true
is_before_close (Op.Control Close) = false
is_before_close (Op.Control Ping) = true
is_before_close (Op.Control Pong) = true

abbrev pub IsBeforeClose : Outgoing → Type 0
IsBeforeClose o = is_before_close o.opcode ≡ true

-- nothing, or one close
abbrev pub IsLast : List Outgoing → Type 0
IsLast last = (last ≡ []) ⊎ ((payload : List ℕ) × (last ≡ record { opcode = Op.Control Close; payload = payload } ∷ []))

-- the payloads of the frames of data, and of the pongs
abbrev pub data_in : List Outgoing → List (List ℕ)
data_in frames = flat_map (λ (o : Outgoing). payload_where (is_data o.opcode) o.payload) frames

abbrev pub pongs_in : List Outgoing → List (List ℕ)
pongs_in frames = flat_map (λ (o : Outgoing). payload_where (is_pong o.opcode) o.payload) frames

-- the payload of a ping
abbrev pub pinged : Option Content → List (List ℕ)
pinged None = []
pinged (Some (text t)) = []
pinged (Some (binary b)) = []
pinged (Some (ping b)) = b ∷ []
pinged (Some (pong b)) = []
pinged (Some (close c)) = []

abbrev pub pings_in : List Effect → List (List ℕ)
pings_in es = flat_map (λ (e : Effect). pinged e.message) es

-- no whole frame and no whole message is held back, and what is held is what follows them
pub record IsWhole (left : List ℕ) (others : List (List ℕ)) (last : List Outgoing) (said : List ℕ) (r : Relay) : Type 0 where
  pub unread : r.unread ≡ left
  pub waits : (wanted : ℕ) × (read_front left ≡ Ok (Partial wanted))
  pub held : r.held ≡ rest said
  pub no_others : others ≡ []
  pub no_last : last ≡ []

-- Of a browser that sent `heard` so far and a server that sent `said`, the server was sent these bytes and the browser those.
pub record Relayed (heard said to_server to_browser : List ℕ) (r : Relay) : Type 0 where
  -- these frames stand at the front of the browser's stream, and none is a text, a part of a message or a close
  pub taken : List Effect
  pub left : List ℕ
  pub front : Front taken heard left
  pub go_on : All GoesOn taken
  -- the server was sent what the binary ones hold, in order, and each holds exactly one message
  pub up : to_server ≡ concat (carried_by taken)
  pub each : All IsMessage (carried_by taken)
  -- the browser was sent frames, each whole: binary ones, pings and pongs, and then one close at most
  pub frames : List Outgoing
  pub last : List Outgoing
  pub down : to_browser ≡ bytes_of (frames ++ last)
  pub kinds : All IsBeforeClose frames
  pub closes : IsLast last
  -- the binary ones hold the first messages of the server's stream, in order, one each
  pub others : List (List ℕ)
  pub passed : messages said ≡ data_in frames ++ others
  -- the pongs answer the browser's pings, in order
  pub pongs : pongs_in frames ≡ pings_in taken
  -- while it hasn't ended nothing is left out, and no close was sent
  pub whole : r.end ≡ None → IsWhole left others last said r

-- What was carried so far and what this call adds is what is carried of the streams with these pieces behind them.
abbrev pub KeepsRelayed : (piece_of_browser piece_of_server : List ℕ) → (old new : Relay) → (up_old up_new down_old down_new : List ℕ) → Type 0
KeepsRelayed browser server old new up_old up_new down_old down_new =
    (heard said to_server to_browser : List ℕ) → Relayed heard said to_server to_browser old
    → (up : List ℕ) × (down : List ℕ) × (up_new ≡ up_old ++ up) × (down_new ≡ down_old ++ down)
    × Relayed (heard ++ browser) (said ++ server) (to_server ++ up) (to_browser ++ down) new
