-- A line that is printed is read back, a tag stands before each line, and what is answered as the console answers is its text.
use Rattle.std.specs.Prelude.{◌≡◌, ◌++◌, ◌==◌, ℕ, false, Option, Some, None, Ok, List, [], ◌∷◌, codes, flat_map}
use Rattle.std.specs.Fmt.{decimal}
use Rattle.std.specs.List.{list_any}
use Rattle.hex.specs.Hex.{encode_lower}
use Rattle.floor_room.specs.declared.status.Status.{Status}
use Rattle.floor_console.specs.Answer as console
use Rattle.floor_console.specs.Laws as commands
use Rattle.floor_console.specs.declared.board.BoardRefusal.{BoardRefusal}
use Rattle.floor_console.specs.declared.command.ConsoleFault.{ConsoleFault}
use Rattle.floor_control.specs.Answer.{done, refused, standing_line, unread}
use Rattle.floor_control.specs.Line.{asking_of, of_console_fault}
use Rattle.floor_control.specs.Tag.{lines_behind, mark}
use Rattle.floor_control.specs.declared.answer.Done.TheVariants.{Closed, Revoked, UserAdded, FloorAdded, ChairSet}
use Rattle.floor_control.specs.declared.line.Line.{Line}
use Rattle.floor_control.specs.declared.line.Line.TheVariants.{Command, OpenHere, List as Listing, Users, Members, Floors, Leave, Forget, Journal, Watch, Unwatch, Word, Words, Metrics, Drain}
use Rattle.floor_control.specs.declared.refusal.ControlRefusal.TheVariants.{ByBoard}

-- the place that is said, where one is
abbrev pub printed_from : Option ℕ → List ℕ
printed_from (Some place) = codes " from " ++ decimal place
printed_from None = []

-- what is to be kept
abbrev pub printed_value : Option (List ℕ) → List ℕ
printed_value (Some bytes) = encode_lower bytes
printed_value None = codes "-"

-- the line of what is asked for
abbrev pub printed : Line → List ℕ
printed (Command command) = commands.printed command
printed OpenHere = codes "open ."
printed Listing = codes "list"
printed (Users c) = codes "users " ++ decimal c
printed (Members c) = codes "members " ++ decimal c
printed (Floors c) = codes "floors " ++ decimal c
printed (Leave c n) = codes "leave " ++ (decimal c ++ (codes " " ++ decimal n))
printed (Forget c) = codes "forget " ++ decimal c
printed (Journal c from) = codes "journal " ++ (decimal c ++ printed_from from)
printed (Watch c from) = codes "watch " ++ (decimal c ++ printed_from from)
printed (Unwatch c) = codes "unwatch " ++ decimal c
printed (Word c key value) = codes "word " ++ (decimal c ++ (codes " " ++ (key ++ (codes " " ++ printed_value value))))
printed (Words c) = codes "words " ++ decimal c
printed Metrics = codes "metrics"
printed Drain = codes "drain"

-- a line behind its tag, where it has one
abbrev pub printed_behind : Option (List ℕ) → List ℕ → List ℕ
printed_behind (Some tag) line = mark tag ++ line
printed_behind None line = line

-- what any line asks for, printed behind the line's tag, is read as that, with that tag
abbrev pub LinesAreReadBack : Type 0
LinesAreReadBack =
    (text : List ℕ) (tag : Option (List ℕ)) (line : Line)
    → asking_of text ≡ record { tag = tag; line = Ok line }
    → asking_of (printed_behind tag (printed line)) ≡ record { tag = tag; line = Ok line }

-- lines, none of which has a line feed, each with its line feed
abbrev pub lined : List (List ℕ) → List ℕ
lined lines = flat_map (λ line. line ++ 10 ∷ []) lines

-- of a text of lines each stands behind the tag, whole
abbrev pub TagsStandBeforeLines : Type 0
TagsStandBeforeLines =
    (tag : List ℕ) (lines : List (List ℕ)) → list_any (λ line. list_any (λ b. b == 10) line) lines ≡ false
    → lines_behind tag (lined lines) ≡ flat_map (λ line. mark tag ++ (line ++ 10 ∷ [])) lines

-- without a place, and in a conference that is kept or was not to be, the texts are the console's
pub record AnswersAreTheConsoles : Type 0 where
  pub unread : (fault : ConsoleFault) → unread (of_console_fault fault) ≡ console.faulty fault
  pub refused : (refusal : BoardRefusal) → refused (ByBoard refusal) ≡ console.refused refusal
  pub closed : (c : ℕ) → done c Closed None ≡ console.closed c (Ok tt)
  pub revoked : (c request : ℕ) → done c (Revoked request) None ≡ console.revoked c request (Ok tt)
  pub user_added : (c id : ℕ) → done c (UserAdded id) None ≡ console.user_added c id (Ok tt)
  pub floor_added : (c id : ℕ) → done c (FloorAdded id) None ≡ console.floor_added c id (Ok tt)
  pub chair_set : (c floor : ℕ) → done c (ChairSet floor) None ≡ console.chair_set c floor (Ok tt)
  pub standing : (c : ℕ) (status : Status) → standing_line record { conference = c; status = status; is_unkept = false } ≡ console.standing c status
