-- Which octets a value of them holds, and which bytes a message has, wherever they lie in memory.
use Rattle.std.specs.Prelude.{◌≡◌, ℕ, zero, suc, List, [], ◌∷◌, ◌++◌, length}
use Rattle.floor_wire.specs.Message.{IsMessage}
use Rattle.floor_wire.specs.declared.octets.Held.{Held}
use Rattle.floor_wire.specs.declared.octets.Held.TheVariants.{Own, UpTo}
use Rattle.floor_wire.specs.declared.shared.Form.{Form}
use Rattle.floor_wire.specs.declared.shared.Form.TheVariants.{Alone, Shared}

-- so many numbers, one after another, from one on
unfoldable pub counted : ℕ → ℕ → List ℕ
counted zero from = []
counted (suc n) from = from ∷ counted n (suc from)

-- the octets
abbrev pub octets_held : Held → List ℕ
octets_held (Own items) = items.items
octets_held (UpTo last) = counted last 1

-- the bytes of a message (RFC 8855, section 5.1): all in one place, or its header and then its payload
abbrev pub message_of : Form → List ℕ
message_of (Alone bytes) = bytes.items
message_of (Shared header payload) = header ++ payload

-- they are those of a message, and of a payload that is shared the header is the 12 bytes before it
abbrev pub IsWhole : Form → Type 0
IsWhole (Alone bytes) = IsMessage bytes.items
IsWhole (Shared header payload) = (length header ≡ 12) × IsMessage (header ++ payload)
