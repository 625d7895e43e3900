-- How a floor request ends, by who ends it.
use Rattle.std.specs.Prelude.{ℕ}
use Rattle.floor_queue.specs.declared.request.Request.{Request}
use Rattle.floor_machine.specs.declared.decision.EndedBy.{EndedBy}
use Rattle.floor_machine.specs.declared.decision.EndedBy.TheVariants.{Chair, Participant}
use Rattle.floor_message.specs.declared.status.RequestStatus.{RequestStatus}
use Rattle.floor_machine.specs.Conference.{Conference}
use Rattle.floor_machine.specs.Change.{Change, dismissed, ending, ends_at, no_change, released}

-- the status with which it ends
abbrev pub ending_by : EndedBy → Request → RequestStatus
ending_by Participant r = released r
ending_by Chair r = dismissed r

-- what such an ending changes
abbrev pub change_ending : Conference → ℕ → EndedBy → Change
change_ending s request by = record (no_change s) { entries = ending s (ends_at request (ending_by by)) }
