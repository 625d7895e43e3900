-- How long the messages of a stream say that they are, before they have come (RFC 8855, section 5.1).
use Rattle.std.specs.Prelude.{ℕ, zero, suc, ◌+◌, ◌*◌}
use Rattle.floor_poll.specs.declared.announced.Announced.{Announced}
use Rattle.floor_poll.specs.declared.announced.Announced.TheVariants.{Before, Inside, Behind}

-- how many bytes a payload has whose Payload Length has these two bytes, in units of 4 bytes
abbrev pub payload_len : ℕ → ℕ → ℕ
payload_len high low = 4 * (256 * high + low)

-- where in its message the byte behind this one stands
abbrev pub next : Announced → ℕ → Announced
next (Before zero) byte = Inside byte
next (Before (suc left)) byte = Before left
next (Inside high) byte = Behind (8 + payload_len high byte)
next (Behind zero) byte = Before 2
next (Behind (suc zero)) byte = Before 2
next (Behind (suc (suc left))) byte = Behind (suc left)

-- how many bytes a message has whose Payload Length ends with this byte; 0 of any other byte
abbrev pub announced : Announced → ℕ → ℕ
announced (Before left) byte = 0
announced (Inside high) byte = 12 + payload_len high byte
announced (Behind left) byte = 0
