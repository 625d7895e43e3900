-- A command that is printed is read back.
use Rattle.std.specs.Prelude.{◌≡◌, ◌++◌, ℕ, Ok, List, [], codes}
use Rattle.std.specs.Fmt.{decimal}
use Rattle.floor_machine.specs.declared.act.Act.TheVariants as act
use Rattle.floor_acts.specs.Laws.{printed_act}
use Rattle.floor_console.specs.Command.{command_of}
use Rattle.floor_console.specs.declared.command.Command.{Command}
use Rattle.floor_console.specs.declared.command.Command.TheVariants.{Empty, Open, Close, Revoke, AddUser, AddFloor, SetChair, Status, Journal, Stop}

-- the line of a command
abbrev pub printed : Command → List ℕ
printed Empty = []
printed (Open path) = codes "open " ++ path
printed (Close conference) = printed_act conference act.Close
printed (Revoke conference request) = printed_act conference (act.Revoke request)
printed (AddUser conference user) = printed_act conference (act.AddUser user)
printed (AddFloor conference floor) = printed_act conference (act.AddFloor floor)
printed (SetChair conference floor chair) = printed_act conference (act.SetChair floor chair)
printed (Status conference) = codes "status " ++ decimal conference
printed (Journal conference) = codes "journal " ++ decimal conference
printed Stop = codes "stop"

-- the command of any line, printed, is read as that command
abbrev pub PrintedIsReadBack : Type 0
PrintedIsReadBack = (line : List ℕ) (command : Command) → command_of line ≡ Ok command → command_of (printed command) ≡ Ok command
