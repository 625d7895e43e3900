-- What a line of a program asks for.
use Rattle.std.specs.Prelude.{◌≡◌, ◌⊎◌, ◌==◌, ◌^◌, ℕ, cond, Option, Some, None, Result, Ok, Err, List, [], ◌∷◌, codes, if◌then◌else◌}
use Rattle.std.specs.List.{after_first, before_first}
use Rattle.std.specs.Str.{bytes_eq}
use Rattle.floor_words.specs.Words.{behind_word, first_word, is_space, number, spelled, words}
use Rattle.floor_words.specs.declared.hexadecimal.HexadecimalFault.{HexadecimalFault}
use Rattle.floor_words.specs.declared.hexadecimal.HexadecimalFault.TheVariants as hexadecimal
use Rattle.floor_console.specs.Command.{command_of}
use Rattle.floor_console.specs.declared.command.Command.{Command as Asked}
use Rattle.floor_console.specs.declared.command.Command.TheVariants as asked
use Rattle.floor_console.specs.declared.command.ConsoleFault.{ConsoleFault}
use Rattle.floor_console.specs.declared.command.ConsoleFault.TheVariants as console
use Rattle.floor_control.specs.Tag.{tag_of}
use Rattle.floor_control.specs.declared.line.Asking.{Asking}
use Rattle.floor_control.specs.declared.line.Line.{Line}
use Rattle.floor_control.specs.declared.line.Line.TheVariants.{Command, OpenHere, List as Listing, Users, Members, Floors, Leave, Forget, Journal, Watch, Unwatch, Word, Words, Metrics, Drain}
use Rattle.floor_control.specs.declared.line.LineFault.{LineFault}
use Rattle.floor_control.specs.declared.line.LineFault.TheVariants.{UnknownCommand, BadNumber, BadHex, Memory}
use Rattle.floor_control.specs.declared.reading.From.{From}

-- what follows from a part of a line: where the part is bad its fault counts, and nothing behind it
abbrev pub and_then : {A B : Type 0} → Result A LineFault → (A → Result B LineFault) → Result B LineFault
and_then (Ok part) next = next part
and_then (Err fault) next = Err fault

abbrev pub number_or_fault : Option ℕ → Result ℕ LineFault
number_or_fault (Some n) = Ok n
number_or_fault None = Err BadNumber

-- a number below the limit
abbrev pub number_of : ℕ → List ℕ → Result ℕ LineFault
number_of limit word = number_or_fault (number limit word)

abbrev pub some : Result Line LineFault → Result (Option Line) LineFault
some line = and_then line (λ l. Ok (Some l))

-- a line of one word
abbrev pub alone : Line → List (List ℕ) → Result Line LineFault
alone line [] = Ok line
alone line (_ ∷ _) = Err UnknownCommand

-- the conference that is the only word
abbrev pub only : List (List ℕ) → Result ℕ LineFault
only (conference ∷ []) = number_of (2 ^ 32) conference
only _ = Err UnknownCommand

-- `leave <conference> <n>`
abbrev pub leave_line : List (List ℕ) → Result Line LineFault
leave_line (conference ∷ n ∷ []) = and_then (number_of (2 ^ 32) conference) (λ c. and_then (number_of (2 ^ 32) n) (λ m. Ok (Leave c m)))
leave_line _ = Err UnknownCommand

-- a conference and the place behind `from`
abbrev pub with_place : List ℕ → List ℕ → Result From LineFault
with_place conference place =
    and_then (number_of (2 ^ 32) conference) (λ c.
    and_then (number_of (10 ^ 10) place) (λ p. Ok record { conference = c; from = Some p }))

-- `<conference> [from <place>]`
abbrev pub from_words : List (List ℕ) → Result From LineFault
from_words (conference ∷ []) = and_then (number_of (2 ^ 32) conference) (λ c. Ok record { conference = c; from = None })
from_words (conference ∷ word ∷ place ∷ []) = if bytes_eq word (codes "from") then with_place conference place else Err UnknownCommand
from_words _ = Err UnknownCommand

-- the bytes that a word spells in hexadecimal
abbrev pub bytes_or_fault : Option (List ℕ) → Result (Option (List ℕ)) LineFault
bytes_or_fault (Some bytes) = Ok (Some bytes)
bytes_or_fault None = Err BadHex

-- what is to be kept; `-` for nothing
abbrev pub value_of : List ℕ → Result (Option (List ℕ)) LineFault
value_of word = if bytes_eq word (codes "-") then Ok None else bytes_or_fault (spelled (word ∷ []))

-- `word <conference> <key> <hexadecimal or ->`
abbrev pub word_line : List (List ℕ) → Result Line LineFault
word_line (conference ∷ key ∷ word ∷ []) =
    and_then (number_of (2 ^ 32) conference) (λ c. and_then (value_of word) (λ value. Ok (Word c key value)))
word_line _ = Err UnknownCommand

-- a line that a conference alone follows
abbrev pub of_conference : (ℕ → Line) → List (List ℕ) → Result (Option Line) LineFault
of_conference make ws = and_then (only ws) (λ c. Ok (Some (make c)))

-- the line of this name, which a conference alone follows
abbrev pub of_name_upon : List ℕ → List (List ℕ) → Result (Option Line) LineFault
of_name_upon name ws =
    if bytes_eq name (codes "users") then of_conference Users ws
    else if bytes_eq name (codes "members") then of_conference Members ws
    else if bytes_eq name (codes "floors") then of_conference Floors ws
    else if bytes_eq name (codes "forget") then of_conference Forget ws
    else if bytes_eq name (codes "unwatch") then of_conference Unwatch ws
    else if bytes_eq name (codes "words") then of_conference Words ws
    else Ok None

-- the line of this name, with the words behind it; nothing where the socket has none of the name
abbrev pub of_name : List ℕ → List (List ℕ) → Result (Option Line) LineFault
of_name name ws =
    if bytes_eq name (codes "list") then some (alone Listing ws)
    else if bytes_eq name (codes "metrics") then some (alone Metrics ws)
    else if bytes_eq name (codes "drain") then some (alone Drain ws)
    else if bytes_eq name (codes "leave") then some (leave_line ws)
    else if bytes_eq name (codes "word") then some (word_line ws)
    else if bytes_eq name (codes "journal") then and_then (from_words ws) (λ f. Ok (Some (Journal f.conference f.from)))
    else if bytes_eq name (codes "watch") then and_then (from_words ws) (λ f. Ok (Some (Watch f.conference f.from)))
    else of_name_upon name ws

-- what a line of the socket's own asks for
abbrev pub own_of : List ℕ → Result (Option Line) LineFault
own_of line = of_name (first_word line) (words (behind_word line))

-- the fault of a line of the console
abbrev pub of_console_fault : ConsoleFault → LineFault
of_console_fault console.UnknownCommand = UnknownCommand
of_console_fault console.BadNumber = BadNumber
of_console_fault console.Memory = Memory

-- the fault of words of hexadecimal
abbrev pub of_hexadecimal_fault : HexadecimalFault → LineFault
of_hexadecimal_fault hexadecimal.BadHex = BadHex
of_hexadecimal_fault hexadecimal.Memory = Memory

-- a configuration that follows, where no file's name is said
abbrev pub open_line : List ℕ → Line
open_line path = if bytes_eq path (codes ".") then OpenHere else Command (asked.Open path)

-- the line of a command of the console's
abbrev pub of_command : Asked → Line
of_command (asked.Open path) = open_line path
of_command (asked.Journal conference) = Journal conference None
of_command asked.Empty = Command asked.Empty
of_command (asked.Close conference) = Command (asked.Close conference)
of_command (asked.Revoke conference request) = Command (asked.Revoke conference request)
of_command (asked.AddUser conference user) = Command (asked.AddUser conference user)
of_command (asked.AddFloor conference floor) = Command (asked.AddFloor conference floor)
of_command (asked.SetChair conference floor chair) = Command (asked.SetChair conference floor chair)
of_command (asked.Status conference) = Command (asked.Status conference)
of_command asked.Stop = Command asked.Stop

-- what a line of the console asks for
abbrev pub of_commanded : Result Asked ConsoleFault → Result Line LineFault
of_commanded (Ok command) = Ok (of_command command)
of_commanded (Err fault) = Err (of_console_fault fault)

abbrev pub own_or_command : Result (Option Line) LineFault → List ℕ → Result Line LineFault
own_or_command (Ok (Some own)) line = Ok own
own_or_command (Ok None) line = of_commanded (command_of line)
own_or_command (Err fault) line = Err fault

-- what a line without a tag asks for: as the socket's own, where it begins with the name of one, and else as the console's
abbrev pub line_of : List ℕ → Result Line LineFault
line_of line = own_or_command (own_of line) line

-- what stands behind a tag asks for: nothing, where it is empty
abbrev pub line_behind : List ℕ → Result Line LineFault
line_behind [] = Err UnknownCommand
line_behind (b ∷ rest) = line_of (b ∷ rest)

-- what is behind `@` asks for: a tag, up to the first space, and a line behind that
abbrev pub with_tag : Option (List ℕ) → List ℕ → Asking
with_tag (Some tag) rest = record { tag = Some tag; line = line_behind rest }
with_tag None rest = record { tag = None; line = Err UnknownCommand }

abbrev pub asking_behind : List ℕ → Asking
asking_behind text = with_tag (tag_of (before_first is_space text)) (after_first is_space text)

-- what a line asks for, and its tag
abbrev pub asking_of : List ℕ → Asking
asking_of [] = record { tag = None; line = line_of [] }
asking_of (b ∷ line) = cond (b == 64) (asking_behind line) record { tag = None; line = line_of (b ∷ line) }

-- a reading gives what is meant, or memory was refused
abbrev pub Reads : {A : Type 0} → Result A LineFault → Result A LineFault → Type 0
Reads meant result = (result ≡ meant) ⊎ (result ≡ Err Memory)
