-- What a session writes (RFC 8855, sections 5.1, 5.2.6 and 6.2.3).
use Rattle.std.specs.Prelude.{ℕ, ◌+◌, ◌-◌, ◌*◌, ◌/◌, Bool, true, false, List, [], ◌∷◌, ◌++◌, length, take, drop, map, slice_index, nat_le, if◌then◌else◌}
use Rattle.std.specs.List.{range_with_len}
use Rattle.std.specs.Int.{w16, w32, to_be_bytes}
use Rattle.floor_wire.specs.Header.{header_bytes}

-- a request as it goes to the server: version 1, and all else as it is
abbrev pub lowered : List ℕ → List ℕ
lowered message = 0x20 ∷ drop 1 message

-- the first byte of version 2, with R set or clear
abbrev pub first_byte : (responds : Bool) → ℕ
first_byte true = 0x50
first_byte false = 0x40

-- a message as it goes to the peer: version 2, R, and this Transaction ID
abbrev pub raised : (responds : Bool) → (id : ℕ) → List ℕ → List ℕ
raised responds id message = first_byte responds ∷ (take 7 (drop 1 message) ++ to_be_bytes w16 id ++ drop 10 message)

-- the Conference ID, the Transaction ID and the User ID, which a response copies
abbrev pub ids_of : List ℕ → List ℕ
ids_of datagram = take 8 (drop 4 datagram)

-- the GoodbyeAck to a Goodbye
abbrev pub goodbye_ack : List ℕ → List ℕ
goodbye_ack message = 0x50 ∷ 17 ∷ 0 ∷ 0 ∷ ids_of message

-- the Error with this code, which its one attribute holds
abbrev pub error : (code : ℕ) → List ℕ → List ℕ
error code datagram = 0x50 ∷ 13 ∷ 0 ∷ 1 ∷ (ids_of datagram ++ 12 ∷ 3 ∷ code ∷ 0 ∷ [])

-- a Goodbye of the server's, in version 1 as all that the server says
unfoldable pub goodbye_to : (conference user : ℕ) → List ℕ
goodbye_to conference user = header_bytes 16 0 conference 0 user

-- the Error 14 to a request with these IDs: the server can't serve it
unfoldable pub refusal : (conference id user : ℕ) → List ℕ
refusal conference id user = 0x50 ∷ 13 ∷ 0 ∷ 1 ∷ (to_be_bytes w32 conference ++ to_be_bytes w16 id ++ to_be_bytes w16 user ++ 12 ∷ 3 ∷ 14 ∷ 0 ∷ [])

-- a fragment of a message: its payload from this unit on, so many units at most
abbrev pub fragment_from : (units offset : ℕ) → List ℕ → List ℕ
fragment_from units offset message =
    let body = take (4 * units) (drop (12 + 4 * offset) message) in
    (slice_index message 0 + 8) ∷ (take 11 (drop 1 message) ++ to_be_bytes w16 offset ++ to_be_bytes w16 (length body / 4) ++ body)

-- how many fragments of so many units a message of that many bytes takes
abbrev pub fragments_in : (units len : ℕ) → ℕ
fragments_in units len = ((len - 12) / 4 + (units - 1)) / units

-- the fragments of a message, one behind another
abbrev pub fragments : (units : ℕ) → List ℕ → List (List ℕ)
fragments units message = map (λ (k : ℕ). fragment_from units (units * k) message) (range_with_len 0 (fragments_in units (length message)))

-- the datagrams of a message, of so many bytes at most: the message alone, or its fragments
abbrev pub pieces : (limit : ℕ) → List ℕ → List (List ℕ)
pieces limit message = if nat_le (length message) limit then message ∷ [] else fragments ((limit - 16) / 4) message
