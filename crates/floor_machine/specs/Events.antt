-- What an event says of itself: who joins by it, whose message it is, how many messages to whom it acknowledges, and whether the conference ends by it. Nobody joins by
-- any other, no other is a message, and no other acknowledges any.
use Rattle.std.specs.Prelude.{ℕ, ◌==◌, if◌then◌else◌, Bool, true, false, List, Option, Some, None}
use Rattle.floor_machine.specs.declared.event.Event.{Event}
use Rattle.floor_machine.specs.declared.event.Event.TheVariants.{Join, Message, Took, Close}

-- the user that joins
abbrev pub joiner : Event → Option ℕ
joiner (Join user) = Some user
joiner _ = None

-- the conference ends by it
abbrev pub is_close : Event → Bool
is_close Close = true
is_close _ = false

-- the message
abbrev pub message : Event → Option (List ℕ)
message (Message n bytes) = Some bytes
message _ = None

-- the message, where it is one of n
abbrev pub message_of : ℕ → Event → Option (List ℕ)
message_of n (Message m bytes) = if m == n then Some bytes else None
message_of n _ = None

-- how many messages to n are acknowledged
abbrev pub acknowledged_by : ℕ → Event → ℕ
acknowledged_by n (Took m k) = if m == n then k else 0
acknowledged_by n _ = 0
