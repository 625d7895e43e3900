-- What an event of a conference is, as it is told.
use Rattle.std.specs.Prelude.{Bool, true, false}
use Rattle.floor_machine.specs.declared.event.Event.{Event}
use Rattle.floor_machine.specs.declared.event.Event.TheVariants.{Join, Message, Took, Leave, Revoke, Close, AddUser, AddFloor, SetChair, Say}

-- it is told, whatever it changes
abbrev pub is_told_always : Event → Bool
is_told_always (Join user) = true
is_told_always (Leave n) = true
is_told_always Close = true
is_told_always (AddUser user) = true
is_told_always (AddFloor floor) = true
is_told_always (SetChair floor chair) = true
is_told_always (Message n frame) = false
is_told_always (Took n k) = false
is_told_always (Revoke request) = false
is_told_always (Say user frame) = false
