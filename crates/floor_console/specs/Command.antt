-- What a line of the console asks for.
use Rattle.std.specs.Prelude.{◌≡◌, ◌⊎◌, ◌^◌, ℕ, Option, Some, None, Result, Ok, Err, List, [], ◌∷◌, codes, if◌then◌else◌}
use Rattle.std.specs.Str.{bytes_eq}
use Rattle.floor_machine.specs.declared.act.Act.{Act}
use Rattle.floor_machine.specs.declared.act.Act.TheVariants as act
use Rattle.floor_words.specs.Words.{number, words}
use Rattle.floor_acts.specs.Acts.{act_of}
use Rattle.floor_acts.specs.declared.act.ActLine.{ActLine}
use Rattle.floor_acts.specs.declared.fault.ActFault.{ActFault}
use Rattle.floor_acts.specs.declared.fault.ActFault.TheVariants as fault
use Rattle.floor_console.specs.declared.command.Command.{Command}
use Rattle.floor_console.specs.declared.command.Command.TheVariants.{Empty, Open, Close, Revoke, AddUser, AddFloor, SetChair, Status, Journal, Stop}
use Rattle.floor_console.specs.declared.command.ConsoleFault.{ConsoleFault}
use Rattle.floor_console.specs.declared.command.ConsoleFault.TheVariants.{UnknownCommand, BadNumber, Memory}

-- a number below the limit
abbrev pub number_or_fault : Option ℕ → Result ℕ ConsoleFault
number_or_fault (Some n) = Ok n
number_or_fault None = Err BadNumber

abbrev pub number_of : ℕ → List ℕ → Result ℕ ConsoleFault
number_of limit word = number_or_fault (number limit word)

-- what a number makes, where it is one
abbrev pub of_number : (ℕ → Command) → Result ℕ ConsoleFault → Result Command ConsoleFault
of_number make (Ok n) = Ok (make n)
of_number make (Err fault) = Err fault

-- `stop`
abbrev pub one_word : List ℕ → Result Command ConsoleFault
one_word name = if bytes_eq name (codes "stop") then Ok Stop else Err UnknownCommand

-- `open <path>`, `status <conference>`, `journal <conference>`
abbrev pub two_words : List ℕ → List ℕ → Result Command ConsoleFault
two_words name word =
    if bytes_eq name (codes "open") then Ok (Open word)
    else if bytes_eq name (codes "status") then of_number Status (number_of (2 ^ 32) word)
    else if bytes_eq name (codes "journal") then of_number Journal (number_of (2 ^ 32) word)
    else Err UnknownCommand

-- what words ask for, of which the first is no act's name
abbrev pub of_words : List (List ℕ) → Result Command ConsoleFault
of_words [] = Err UnknownCommand
of_words (name ∷ []) = one_word name
of_words (name ∷ word ∷ []) = two_words name word
of_words (_ ∷ _ ∷ _ ∷ _) = Err UnknownCommand

-- an act upon a conference, as a command
abbrev pub of_act_upon : ℕ → Act → Command
of_act_upon c (act.Revoke request) = Revoke c request
of_act_upon c act.Close = Close c
of_act_upon c (act.AddUser user) = AddUser c user
of_act_upon c (act.AddFloor floor) = AddFloor c floor
of_act_upon c (act.SetChair floor chair) = SetChair c floor chair

abbrev pub of_act : ActLine → Command
of_act line = of_act_upon line.conference line.act

-- the fault of a line that begins with an act's name
abbrev pub of_act_fault : ActFault → ConsoleFault
of_act_fault fault.UnknownCommand = UnknownCommand
of_act_fault fault.BadNumber = BadNumber
of_act_fault fault.Memory = Memory

-- what an act asks for, where the line begins with the name of one, and else what its words do
abbrev pub act_or_words : Result (Option ActLine) ActFault → List (List ℕ) → Result Command ConsoleFault
act_or_words (Ok (Some line)) ws = Ok (of_act line)
act_or_words (Ok None) ws = of_words ws
act_or_words (Err fault) ws = Err (of_act_fault fault)

-- what a line asks for: nothing where it is empty
abbrev pub command_of : List ℕ → Result Command ConsoleFault
command_of [] = Ok Empty
command_of (b ∷ line) = act_or_words (act_of (b ∷ line)) (words (b ∷ line))

-- a reading gives what is meant, or memory was refused
abbrev pub Reads : Result Command ConsoleFault → Result Command ConsoleFault → Type 0
Reads meant result = (result ≡ meant) ⊎ (result ≡ Err Memory)
