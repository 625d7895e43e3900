-- What a line of a script asks for.
use Rattle.std.specs.Prelude.{◌≡◌, ◌⊎◌, ◌^◌, ℕ, Option, Some, None, Result, Ok, Err, List, [], ◌∷◌, codes, if◌then◌else◌}
use Rattle.std.specs.Str.{bytes_eq}
use Rattle.floor_words.specs.Words.{number, spelled, words}
use Rattle.floor_words.specs.declared.hexadecimal.HexadecimalFault.{HexadecimalFault}
use Rattle.floor_words.specs.declared.hexadecimal.HexadecimalFault.TheVariants as hexadecimal
use Rattle.floor_acts.specs.Acts.{act_of}
use Rattle.floor_acts.specs.declared.act.ActLine.{ActLine}
use Rattle.floor_acts.specs.declared.fault.ActFault.{ActFault}
use Rattle.floor_acts.specs.declared.fault.ActFault.TheVariants as fault
use Rattle.floor_machine.specs.declared.act.Act.{Act}
use Rattle.floor_machine.specs.declared.act.Act.TheVariants.{Revoke, Close, AddUser, AddFloor, SetChair}
use Rattle.floor_script.specs.declared.line.Command.{Command}
use Rattle.floor_script.specs.declared.line.Command.TheVariants.{Attach, Piece, Serve, Send, Leave, Slow, Fast, Admin, Say}
use Rattle.floor_script.specs.declared.line.LineFault.{LineFault}
use Rattle.floor_script.specs.declared.line.LineFault.TheVariants.{UnknownCommand, BadNumber, BadHex, Memory}

-- a number below the limit
abbrev pub number_or_fault : Option ℕ → Result ℕ LineFault
number_or_fault (Some n) = Ok n
number_or_fault None = Err BadNumber

abbrev pub number_of : ℕ → List ℕ → Result ℕ LineFault
number_of limit word = number_or_fault (number limit word)

-- the bytes that the joined words spell
abbrev pub bytes_or_fault : Option (List ℕ) → Result (List ℕ) LineFault
bytes_or_fault (Some bytes) = Ok bytes
bytes_or_fault None = Err BadHex

abbrev pub bytes_of : List (List ℕ) → Result (List ℕ) LineFault
bytes_of hex = bytes_or_fault (spelled hex)

-- a fault of hexadecimal as the line's
abbrev pub of_hexadecimal_fault : HexadecimalFault → LineFault
of_hexadecimal_fault hexadecimal.BadHex = BadHex
of_hexadecimal_fault hexadecimal.Memory = Memory

-- what a part of a line makes, where it is good
abbrev pub of_part : {A : Type 0} → (A → Command) → Result A LineFault → Result Command LineFault
of_part make (Ok part) = Ok (make part)
of_part make (Err fault) = Err fault

-- what two parts of a line make: the fault of the first counts
abbrev pub of_parts : {A B : Type 0} → (A → B → Command) → Result A LineFault → Result B LineFault → Result Command LineFault
of_parts make (Ok part) other = of_part (make part) other
of_parts make (Err fault) other = Err fault

-- what three parts of a line make: the fault of the first counts
abbrev pub of_three_parts : {A B C : Type 0} → (A → B → C → Command) → Result A LineFault → Result B LineFault → Result C LineFault → Result Command LineFault
of_three_parts make (Ok part) other last = of_parts (make part) other last
of_three_parts make (Err fault) other last = Err fault

-- `serve <connection>`, `leave <connection>`, `slow <connection>`, `fast <connection>`
abbrev pub two_words : List ℕ → List ℕ → Result Command LineFault
two_words name word =
    if bytes_eq name (codes "serve") then of_part Serve (number_of (10 ^ 10) word)
    else if bytes_eq name (codes "leave") then of_part Leave (number_of (10 ^ 10) word)
    else if bytes_eq name (codes "slow") then of_part Slow (number_of (10 ^ 10) word)
    else if bytes_eq name (codes "fast") then of_part Fast (number_of (10 ^ 10) word)
    else Err UnknownCommand

-- `attach <conference> <user>`
abbrev pub three_words : List ℕ → List ℕ → List ℕ → Result Command LineFault
three_words name conference user =
    if bytes_eq name (codes "attach") then of_parts Attach (number_of (2 ^ 32) conference) (number_of (2 ^ 16) user)
    else Err UnknownCommand

-- `say <conference> <user> <hex ..>`, by the words behind the name
abbrev pub say_words : List ℕ → List (List ℕ) → Result Command LineFault
say_words conference [] = Err UnknownCommand
say_words conference (_ ∷ []) = Err UnknownCommand
say_words conference (user ∷ digits ∷ more) = of_three_parts Say (number_of (2 ^ 32) conference) (number_of (2 ^ 16) user) (bytes_of (digits ∷ more))

-- the line of three words, where there are no more
abbrev pub three_words_alone : List ℕ → List ℕ → List (List ℕ) → Result Command LineFault
three_words_alone name conference [] = Err UnknownCommand
three_words_alone name conference (user ∷ []) = three_words name conference user
three_words_alone name conference (_ ∷ _ ∷ _) = Err UnknownCommand

-- `piece <connection> <hex ..>`, `send <connection> <hex ..>`, `say ..`, or a line of three words
abbrev pub three_words_or_more : List ℕ → List ℕ → List (List ℕ) → Result Command LineFault
three_words_or_more name word rest =
    if bytes_eq name (codes "piece") then of_parts Piece (number_of (10 ^ 10) word) (bytes_of rest)
    else if bytes_eq name (codes "send") then of_parts Send (number_of (10 ^ 10) word) (bytes_of rest)
    else if bytes_eq name (codes "say") then say_words word rest
    else three_words_alone name word rest

-- what words ask for, of which the first is no act's name
abbrev pub of_words : List (List ℕ) → Result Command LineFault
of_words [] = Err UnknownCommand
of_words (_ ∷ []) = Err UnknownCommand
of_words (name ∷ word ∷ []) = two_words name word
of_words (name ∷ word ∷ third ∷ more) = three_words_or_more name word (third ∷ more)

-- an act, of which a user that is added has no port
abbrev pub without_port : Act → Act
without_port (AddUser user) = AddUser (record user { port = None })
without_port (Revoke request) = Revoke request
without_port Close = Close
without_port (AddFloor floor) = AddFloor floor
without_port (SetChair floor chair) = SetChair floor chair

abbrev pub of_act : ActLine → Command
of_act line = Admin line.conference (without_port line.act)

-- the fault of a line that begins with an act's name
abbrev pub of_act_fault : ActFault → LineFault
of_act_fault fault.UnknownCommand = UnknownCommand
of_act_fault fault.BadNumber = BadNumber
of_act_fault fault.Memory = Memory

-- what an act asks for, where the line begins with the name of one, and else what its words do
abbrev pub act_or_words : Result (Option ActLine) ActFault → List (List ℕ) → Result Command LineFault
act_or_words (Ok (Some line)) ws = Ok (of_act line)
act_or_words (Ok None) ws = of_words ws
act_or_words (Err fault) ws = Err (of_act_fault fault)

-- what a line asks for
abbrev pub command_of : List ℕ → Result Command LineFault
command_of line = act_or_words (act_of line) (words line)

-- what is read is what is meant, or memory was refused
abbrev pub Reads : {A : Type 0} → Result A LineFault → Result A LineFault → Type 0
Reads meant result = (result ≡ meant) ⊎ (result ≡ Err Memory)
