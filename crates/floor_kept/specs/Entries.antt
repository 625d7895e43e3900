-- The lines of the file in which a conference is kept, behind its head: those of the journal, and what is kept beside them.
use Rattle.std.specs.Prelude.{◌≡◌, ℕ, ◌+◌, ◌-◌, ◌^◌, ◌<◌, ◌≤◌, nat_le, ◌==◌, ◌&&◌, not, Bool, true, IsTrue, List, ◌++◌, length, codes, None, IfSome}
use Rattle.std.specs.Fmt.{decimal}
use Rattle.std.specs.List.{list_all}
use Rattle.std.specs.Str.{IsUtf8}
use Rattle.floor_wire.specs.Bytes.{IsBytes}
use Rattle.floor_wire.specs.Message.{IsMessage}
use Rattle.floor_words.specs.Laws.{is_plain}
use Rattle.floor_config.specs.declared.floors.Floor.{Floor}
use Rattle.floor_config.specs.declared.users.User.{User}
use Rattle.floor_machine.specs.declared.event.Event.{Event}
use Rattle.floor_machine.specs.declared.event.Event.TheVariants.{Join, Message, Took, Leave, Revoke, Close, AddUser, AddFloor, SetChair, Say}
use Rattle.floor_machine.specs.Journal.{MAX_EVENTS}
use Rattle.floor_room.specs.Text.{end_line, line, text_word}
use Rattle.floor_kept.specs.declared.entry.Entry.{Entry}
use Rattle.floor_kept.specs.declared.entry.Entry.TheVariants.{Happened, Port, Word, End}

-- a text that isn't empty, in UTF-8
pub record IsText (text : List ℕ) : Type 0 where
  pub some : 1 ≤ length text
  pub bytes : IsBytes text
  pub utf8 : IsUtf8 text

-- a user whom a line can show: an id of 16 bits, texts that aren't empty, and no port
pub record IsUserOfLine (user : User) : Type 0 where
  pub id : user.id < 2 ^ 16
  pub name : IfSome user.name IsText
  pub uri : IfSome user.uri IsText
  pub port : user.port ≡ None

-- a floor whom a line can show: an id, a room and a chair of 16 bits
pub record IsFloorOfLine (floor : Floor) : Type 0 where
  pub id : floor.id < 2 ^ 16
  pub room : floor.room < 2 ^ 16
  pub chair : IfSome floor.chair (λ user. user < 2 ^ 16)

-- an event that a line can show: its numbers fit their types, and a message is one
abbrev pub IsBorne : Event → Type 0
IsBorne (Join user) = user < 2 ^ 16
IsBorne (Message n bytes) = (n < 2 ^ 32) × IsMessage bytes × IsBytes bytes
IsBorne (Took n k) = (n < 2 ^ 32) × (k < 2 ^ 32)
IsBorne (Leave n) = n < 2 ^ 32
IsBorne (Revoke request) = request < 2 ^ 16
IsBorne Close = Unit {0}
IsBorne (AddUser user) = IsUserOfLine user
IsBorne (AddFloor floor) = IsFloorOfLine floor
IsBorne (SetChair floor chair) = (floor < 2 ^ 16) × IfSome chair (λ user. user < 2 ^ 16)
IsBorne (Say user bytes) = (user < 2 ^ 16) × IsMessage bytes × IsBytes bytes

-- what a word is kept by: it isn't empty, and has no space and no line feed
abbrev pub is_key : List ℕ → Bool
is_key key = is_plain key && list_all (λ b. not (b == 10)) key

-- octets that aren't none
pub record IsOctets (octets : List ℕ) : Type 0 where
  pub some : 1 ≤ length octets
  pub bytes : IsBytes octets

-- a line that the file can have
abbrev pub IsEntry : Entry → Type 0
IsEntry (Happened e) = IsBorne e
IsEntry (Port user port) = (user < 2 ^ 16) × (port < 2 ^ 16)
IsEntry (Word key value) = IsTrue (is_key key) × IfSome value IsOctets
IsEntry End = Unit {0}

-- the line, where the next event is the one at this place: an event's as the console prints it, the port of a user who was added with
-- one, a word that the control socket keeps, and the end of a journal, with how many events it has
abbrev pub entry_line : ℕ → Entry → List ℕ
entry_line place (Happened e) = line place e
entry_line place (Port user port) = codes "# port " ++ (decimal user ++ (codes " " ++ (decimal port ++ codes "\n")))
entry_line place (Word key value) = codes "# word " ++ (key ++ (codes " " ++ (text_word value ++ codes "\n")))
entry_line place End = end_line (place - 1)

-- the place of the next event behind a line
abbrev pub place_behind : ℕ → Entry → ℕ
place_behind place (Happened e) = place + 1
place_behind place entry = place

-- a journal has no event behind its 2,000,000th
abbrev pub is_within : ℕ → Entry → Bool
is_within place (Happened e) = nat_le place MAX_EVENTS
is_within place entry = true

-- this is the line of the entry at this place, without its line feed
pub record IsLineOf (place : ℕ) (text : List ℕ) (entry : Entry) : Type 0 where
  pub fits : IsEntry entry
  pub within : is_within place entry ≡ true
  pub printed : entry_line place entry ≡ text ++ codes "\n"
