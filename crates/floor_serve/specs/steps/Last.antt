-- The last message of a journal.
use Rattle.std.specs.Prelude.{ℕ, ◌-◌, List, length, slice_get, Option, option_and_then}
use Rattle.floor_machine.specs.declared.event.Event.{Event}
use Rattle.floor_machine.specs.Events.{message}

-- the message that the last event of a journal is
abbrev pub last_message : List Event → Option (List ℕ)
last_message es = option_and_then message (slice_get es (length es - 1))
