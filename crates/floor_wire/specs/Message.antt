-- Messages, and where a stream of bytes divides into them (RFC 8855, section 5.1).
use Rattle.std.specs.Prelude.{◌≡◌, ℕ, zero, suc, ◌+◌, ◌*◌, ◌≤◌, List, [], ◌∷◌, ◌++◌, length, take, drop, slice_index, nat_le, if◌then◌else◌, All}
use Rattle.std.specs.List.{concat}

-- the number in the two bytes from place i on, the higher byte first
abbrev pub number_at : List ℕ → ℕ → ℕ
number_at s i = 256 * slice_index s i + slice_index s (i + 1)

-- how long a message is that begins so: 12 bytes of header, and the payload in units of 4 bytes
abbrev pub message_len : List ℕ → ℕ
message_len s = 12 + 4 * number_at s 2

-- a message is exactly as long as its header announces
abbrev pub IsMessage : List ℕ → Type 0
IsMessage m = length m ≡ message_len m

-- The stream begins with these messages, and no run of messages at its front is longer.
pub record Divides (stream : List ℕ) (messages : List (List ℕ)) (rest : List ℕ) : Type 0 where
  pub whole : stream ≡ concat messages ++ rest
  pub each : All IsMessage messages
  pub longest : (others : List (List ℕ)) (more : List ℕ) → All IsMessage others → stream ≡ concat others ++ more → length (concat others) ≤ length (concat messages)

-- at most n messages from the front
unfoldable pub messages_of_at_most : ℕ → List ℕ → List (List ℕ)
messages_of_at_most zero s = []
messages_of_at_most (suc n) s =
    if nat_le (message_len s) (length s) then take (message_len s) s ∷ messages_of_at_most n (drop (message_len s) s) else []

-- the messages that a stream begins with
unfoldable pub messages : List ℕ → List (List ℕ)
messages s = messages_of_at_most (length s) s

-- what follows the messages that a stream begins with
unfoldable pub rest : List ℕ → List ℕ
rest s = drop (length (concat (messages s))) s
