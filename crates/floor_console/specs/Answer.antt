-- The text that answers a line.
use Rattle.std.specs.Prelude.{◌≡◌, ◌++◌, ℕ, Bool, true, not, Option, Result, Ok, Err, List, [], codes}
use Rattle.std.specs.Fmt.{decimal}
use Rattle.floor_config.specs.declared.floors.Floor.{Floor}
use Rattle.floor_config.specs.declared.users.User.{User}
use Rattle.floor_room.specs.Names.{phase_name}
use Rattle.floor_room.specs.declared.status.Status.{Status as Standing}
use Rattle.floor_console.specs.Names.{is_memory, name_of_fault, name_of_refusal}
use Rattle.floor_console.specs.declared.board.BoardRefusal.{BoardRefusal}
use Rattle.floor_console.specs.declared.board.StopRefusal.{StopRefusal}
use Rattle.floor_console.specs.declared.board.StopRefusal.TheVariants.{Broken, Mismatch}
use Rattle.floor_console.specs.declared.board.Stopped.{Stopped}
use Rattle.floor_console.specs.declared.command.Command.{Command}
use Rattle.floor_console.specs.declared.command.Command.TheVariants.{Empty, Open, Close, Revoke, AddUser, AddFloor, SetChair, Status, Journal, Stop}
use Rattle.floor_console.specs.declared.command.ConsoleFault.{ConsoleFault}

-- a line that is no command
abbrev pub faulty : ConsoleFault → List ℕ
faulty fault = codes "error " ++ (name_of_fault fault ++ codes "\n")

-- a refusal
abbrev pub refused : BoardRefusal → List ℕ
refused refusal = codes "error " ++ (name_of_refusal refusal ++ codes "\n")

-- `open`, by how many conferences were opened
abbrev pub opened : Result ℕ BoardRefusal → List ℕ
opened (Ok count) = codes "ok opened " ++ (decimal count ++ codes "\n")
opened (Err refusal) = refused refusal

-- `close` of a conference
abbrev pub closed : ℕ → Result (Unit {0}) BoardRefusal → List ℕ
closed conference (Ok _) = codes "ok closed " ++ (decimal conference ++ codes "\n")
closed conference (Err refusal) = refused refusal

-- `revoke` of a conference's request
abbrev pub revoked : ℕ → ℕ → Result (Unit {0}) BoardRefusal → List ℕ
revoked conference request (Ok _) = codes "ok revoked " ++ (decimal conference ++ (codes " " ++ (decimal request ++ codes "\n")))
revoked conference request (Err refusal) = refused refusal

-- `user` of a conference, by the id
abbrev pub user_added : ℕ → ℕ → Result (Unit {0}) BoardRefusal → List ℕ
user_added conference id (Ok _) = codes "ok user " ++ (decimal conference ++ (codes " " ++ (decimal id ++ codes "\n")))
user_added conference id (Err refusal) = refused refusal

-- `floor` of a conference, by the id
abbrev pub floor_added : ℕ → ℕ → Result (Unit {0}) BoardRefusal → List ℕ
floor_added conference id (Ok _) = codes "ok floor " ++ (decimal conference ++ (codes " " ++ (decimal id ++ codes "\n")))
floor_added conference id (Err refusal) = refused refusal

-- `chair` of a conference's floor
abbrev pub chair_set : ℕ → ℕ → Result (Unit {0}) BoardRefusal → List ℕ
chair_set conference floor (Ok _) = codes "ok chair " ++ (decimal conference ++ (codes " " ++ (decimal floor ++ codes "\n")))
chair_set conference floor (Err refusal) = refused refusal

-- how a conference stands
abbrev pub standing : ℕ → Standing → List ℕ
standing conference s = codes "conference " ++ (decimal conference ++ (codes " members " ++ (decimal s.members ++ (codes " ongoing "
    ++ (decimal s.ongoing ++ (codes " events " ++ (decimal s.events ++ (codes " " ++ (phase_name s.phase ++ codes "\n")))))))))

-- `status` of a conference
abbrev pub stands : ℕ → Result Standing BoardRefusal → List ℕ
stands conference (Ok status) = standing conference status
stands conference (Err refusal) = refused refusal

-- `journal`, by the journal's text
abbrev pub listed : Result (List ℕ) BoardRefusal → List ℕ
listed (Ok text) = text
listed (Err refusal) = refused refusal

-- `stop`
abbrev pub stopped : Result Stopped StopRefusal → List ℕ
stopped (Ok s) = codes "ok stopped seats " ++ (decimal s.seats ++ (codes " events " ++ (decimal s.events ++ codes "\n")))
stopped (Err (Broken conference)) = codes "error Broken " ++ (decimal conference ++ codes "\n")
stopped (Err (Mismatch conference n)) = codes "error Mismatch " ++ (decimal conference ++ (codes " " ++ (decimal n ++ codes "\n")))

-- the answer can be told: it isn't want of memory
abbrev pub is_told : {T : Type 0} → Result T BoardRefusal → Bool
is_told (Ok _) = true
is_told (Err refusal) = not (is_memory refusal)

-- the text is that of an answer that the board may have given, and the answer can be told
abbrev pub Tells : {T : Type 0} → (Result T BoardRefusal → Type 0) → (Result T BoardRefusal → List ℕ) → List ℕ → Type 0
Tells {T} may text_of text = (a : Result T BoardRefusal) × may a × (is_told a ≡ true) × (text ≡ text_of a)

-- the board may have given an answer
abbrev pub Gave : {T : Type 0} → (T → Type 0) → Type 0
Gave {T} may = (a : T) × may a

module _ {S : Type 0} (opens : S → List ℕ → Result ℕ BoardRefusal → S → Type 0)
    (closes : S → ℕ → Result (Unit {0}) BoardRefusal → S → Type 0)
    (revokes : S → ℕ → ℕ → Result (Unit {0}) BoardRefusal → S → Type 0)
    (adds_user : S → ℕ → User → Result (Unit {0}) BoardRefusal → S → Type 0)
    (adds_floor : S → ℕ → Floor → Result (Unit {0}) BoardRefusal → S → Type 0)
    (sets_chair : S → ℕ → ℕ → Option ℕ → Result (Unit {0}) BoardRefusal → S → Type 0)
    (tells : S → ℕ → Result Standing BoardRefusal → S → Type 0)
    (lists : S → ℕ → Result (List ℕ) BoardRefusal → S → Type 0)
    (stops : S → Result Stopped StopRefusal → S → Type 0) where
  -- the text answers the line, by what the board gave for the command; a line that is empty or no command leaves the board alone
  abbrev pub Answers : Result Command ConsoleFault → S → List ℕ → S → Type 0
  Answers (Err fault) old text new = (new ≡ old) × (text ≡ faulty fault)
  Answers (Ok Empty) old text new = (new ≡ old) × (text ≡ [])
  Answers (Ok (Open path)) old text new = Tells (λ a. opens old path a new) opened text
  Answers (Ok (Close c)) old text new = Tells (λ a. closes old c a new) (closed c) text
  Answers (Ok (Revoke c request)) old text new = Tells (λ a. revokes old c request a new) (revoked c request) text
  Answers (Ok (AddUser c user)) old text new = Tells (λ a. adds_user old c user a new) (user_added c user.id) text
  Answers (Ok (AddFloor c floor)) old text new = Tells (λ a. adds_floor old c floor a new) (floor_added c floor.id) text
  Answers (Ok (SetChair c floor chair)) old text new = Tells (λ a. sets_chair old c floor chair a new) (chair_set c floor) text
  Answers (Ok (Status c)) old text new = Tells (λ a. tells old c a new) (stands c) text
  Answers (Ok (Journal c)) old text new = Tells (λ a. lists old c a new) listed text
  Answers (Ok Stop) old text new = (a : Result Stopped StopRefusal) × stops old a new × (text ≡ stopped a)

  -- the board gave an answer for the command, whatever became of the text
  abbrev pub Did : Result Command ConsoleFault → S → S → Type 0
  Did (Err fault) old new = new ≡ old
  Did (Ok Empty) old new = new ≡ old
  Did (Ok (Open path)) old new = Gave (λ a. opens old path a new)
  Did (Ok (Close c)) old new = Gave (λ a. closes old c a new)
  Did (Ok (Revoke c request)) old new = Gave (λ a. revokes old c request a new)
  Did (Ok (AddUser c user)) old new = Gave (λ a. adds_user old c user a new)
  Did (Ok (AddFloor c floor)) old new = Gave (λ a. adds_floor old c floor a new)
  Did (Ok (SetChair c floor chair)) old new = Gave (λ a. sets_chair old c floor chair a new)
  Did (Ok (Status c)) old new = Gave (λ a. tells old c a new)
  Did (Ok (Journal c)) old new = Gave (λ a. lists old c a new)
  Did (Ok Stop) old new = Gave (λ a. stops old a new)
