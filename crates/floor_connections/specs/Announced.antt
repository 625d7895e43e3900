-- How long the messages of a stream say that they are, before they have come (RFC 8855, section 5.1).
use Rattle.std.specs.Prelude.{ℕ, zero, suc, ◌+◌, ◌*◌, Bool, true, false, List, [], ◌∷◌, Option, Some, None, if◌then◌else◌, length, nat_lt, take}
use Rattle.floor_connections.specs.declared.announced.Announced.{Announced}
use Rattle.floor_connections.specs.declared.announced.Announced.TheVariants.{Before, Inside, Behind, TooLong}

-- how many bytes a payload has whose Payload Length has these two bytes, in units of 4 bytes
abbrev pub payload_len : ℕ → ℕ → ℕ
payload_len high low = 4 * (256 * high + low)

-- where the byte behind the Payload Length of a message stands whose payload has so many bytes: nowhere where the message has more than the longest may
abbrev pub behind_length : ℕ → ℕ → Announced
behind_length longest payload = if nat_lt longest (12 + payload) then TooLong else Behind (8 + payload)

-- where in its message the byte behind this one stands
abbrev pub next : ℕ → Announced → ℕ → Announced
next longest (Before zero) byte = Inside byte
next longest (Before (suc left)) byte = Before left
next longest (Inside high) byte = behind_length longest (payload_len high byte)
next longest (Behind zero) byte = Before 2
next longest (Behind (suc zero)) byte = Before 2
next longest (Behind (suc (suc left))) byte = Behind (suc left)
next longest TooLong byte = TooLong

-- the byte behind all of these
abbrev pub behind : ℕ → Announced → List ℕ → Announced
behind longest a [] = a
behind longest a (byte ∷ bytes) = behind longest (next longest a byte) bytes

-- a message has said that it is longer than may be
abbrev pub is_too_long : Announced → Bool
is_too_long (Before left) = false
is_too_long (Inside high) = false
is_too_long (Behind left) = false
is_too_long TooLong = true

-- how many of these bytes stand in front of the first by which one says so
abbrev pub served_len : ℕ → Announced → List ℕ → ℕ
served_len longest a [] = 0
served_len longest a (byte ∷ bytes) = if is_too_long (next longest a byte) then 0 else suc (served_len longest (next longest a byte) bytes)

-- the same of whom there is a message of, where there is a longest
abbrev pub announcing : Option ℕ → List ℕ → Option Announced → Option Announced
announcing None bytes o = o
announcing (Some longest) bytes None = None
announcing (Some longest) bytes (Some a) = Some (behind longest a bytes)

abbrev pub own_len : Option ℕ → Option Announced → List ℕ → ℕ
own_len None o bytes = length bytes
own_len (Some longest) None bytes = length bytes
own_len (Some longest) (Some a) bytes = served_len longest a bytes

-- what is served of these bytes: all, or what stands in front of that
abbrev pub own_of : Option ℕ → Option Announced → List ℕ → List ℕ
own_of longest o bytes = take (own_len longest o bytes) bytes

-- a message of it is longer than may be
abbrev pub has_too_long : Option Announced → Bool
has_too_long None = false
has_too_long (Some a) = is_too_long a
