-- What is answered where a loop refuses.
use Rattle.floor_console.specs.declared.board.BoardRefusal.{BoardRefusal}
use Rattle.floor_console.specs.declared.board.BoardRefusal.TheVariants as board
use Rattle.floor_control.specs.declared.refusal.ControlRefusal.{ControlRefusal}
use Rattle.floor_control.specs.declared.refusal.ControlRefusal.TheVariants as control
use Rattle.floor_hub.specs.declared.refusal.HubRefusal.{HubRefusal}
use Rattle.floor_hub.specs.declared.refusal.HubRefusal.TheVariants as hub
use Rattle.floor_kept.specs.declared.head.HeadFault.{HeadFault}
use Rattle.floor_kept.specs.declared.head.HeadFault.TheVariants as head
use Rattle.floor_machine.specs.declared.machine.Refusal.TheVariants as machine
use Rattle.floor_room.specs.declared.refusal.RoomRefusal.TheVariants as room

-- where the hub refuses so
abbrev pub refusal_of : HubRefusal → ControlRefusal
refusal_of hub.Used = control.ByBoard board.Used
refusal_of hub.NoConference = control.ByBoard board.NoConference
refusal_of hub.NoConnection = control.ByBoard board.NoConference
refusal_of hub.BadMessage = control.ByBoard board.NoConference
refusal_of hub.Forgotten = control.Forgotten
refusal_of hub.Running = control.Running
refusal_of hub.Memory = control.ByBoard board.Memory
refusal_of (hub.ByRoom refusal) = control.ByBoard (board.ByRoom refusal)

-- where a conference that is to be kept has no head
abbrev pub refusal_of_head : HeadFault → BoardRefusal
refusal_of_head (head.Refused fault) = board.ByConfiguration fault
refusal_of_head head.Memory = board.Memory
refusal_of_head head.FirstLine = board.CannotRead
refusal_of_head head.Divider = board.CannotRead
refusal_of_head head.Conferences = board.CannotRead

-- where a conference is closed
abbrev pub ended : ControlRefusal
ended = control.ByBoard (board.ByRoom (room.Refused machine.Ended))

-- where a conference is broken off
abbrev pub broken : ControlRefusal
broken = control.ByBoard (board.ByRoom (room.Refused machine.Broken))

-- where memory was refused
abbrev pub out_of_memory : ControlRefusal
out_of_memory = control.ByBoard board.Memory

-- where the hub refuses to act upon a conference: a forgotten one is a closed one
abbrev pub refusal_of_act : HubRefusal → ControlRefusal
refusal_of_act hub.Forgotten = ended
refusal_of_act hub.Used = refusal_of hub.Used
refusal_of_act hub.NoConference = refusal_of hub.NoConference
refusal_of_act hub.NoConnection = refusal_of hub.NoConnection
refusal_of_act hub.BadMessage = refusal_of hub.BadMessage
refusal_of_act hub.Running = refusal_of hub.Running
refusal_of_act hub.Memory = refusal_of hub.Memory
refusal_of_act (hub.ByRoom refusal) = refusal_of (hub.ByRoom refusal)

-- what the console is answered without a control socket, where no conference is forgotten
abbrev pub board_refusal : ControlRefusal → BoardRefusal
board_refusal (control.ByBoard refusal) = refusal
board_refusal control.Running = board.NoConference
board_refusal control.Forgotten = board.NoConference
board_refusal control.Watching = board.NoConference
board_refusal control.BadPlace = board.NoConference
board_refusal control.Draining = board.NoConference
board_refusal control.Full = board.NoConference
board_refusal control.TooLong = board.NoConference
board_refusal control.NotText = board.NoConference
