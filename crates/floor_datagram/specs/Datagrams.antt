-- What a datagram is to a session (RFC 8855, sections 5.1 and 6.2).
use Rattle.std.specs.Prelude.{ℕ, ◌==◌, Bool, not, ◌||◌, List, length, if◌then◌else◌}
use Rattle.floor_wire.specs.Message.{message_len}
use Rattle.floor_wire.specs.Header.{header_of}
use Rattle.floor_datagram.specs.declared.kind.Kind.{Kind}
use Rattle.floor_datagram.specs.declared.kind.Kind.TheVariants.{Fragment, Misfit, Acknowledgement, Request, Nothing}

-- its Transaction ID, and its primitive
abbrev pub id_of : List ℕ → ℕ
id_of datagram = (header_of datagram).transaction

abbrev pub primitive_of : List ℕ → ℕ
primitive_of datagram = (header_of datagram).primitive

-- FloorRequestStatusAck, FloorStatusAck, GoodbyeAck
abbrev pub is_acknowledging : ℕ → Bool
is_acknowledging primitive = primitive == 14 || primitive == 15 || primitive == 17

-- a fragment, if F is set; a misfit, if it isn't as long as it announces, and no response; an acknowledgement, if it is a response
-- or its primitive acknowledges; nothing, if it is an Error or its Transaction ID is 0; else a request
abbrev pub kind_of : List ℕ → Kind
kind_of datagram =
    if (header_of datagram).fragmentation then Fragment
    else if not (length datagram == message_len datagram) then (if (header_of datagram).transaction_responder then Nothing else Misfit)
    else if (header_of datagram).transaction_responder || is_acknowledging (primitive_of datagram) then Acknowledgement
    else if primitive_of datagram == 13 || id_of datagram == 0 then Nothing
    else Request
