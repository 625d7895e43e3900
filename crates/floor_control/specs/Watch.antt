-- The lines that an event shows to whoever watches its conference: a function of the conference before it, and the event.
use Rattle.std.specs.Prelude.{ℕ, ◌+◌, ◌==◌, not, if◌then◌else◌, List, [], ◌∷◌, ◌++◌, length, map, filter, codes, Option}
use Rattle.std.specs.Fmt.{decimal}
use Rattle.std.specs.List.{flat_map, list_any}
use Rattle.std.specs.Option.{option_map_or}
use Rattle.floor_config.specs.declared.users.User.{User}
use Rattle.floor_message.specs.declared.information.Info.{Info}
use Rattle.floor_message.specs.declared.information.Who.{Who}
use Rattle.floor_machine.specs.Conference.{Conference, is_cut, live_numbers, user_of}
use Rattle.floor_machine.specs.declared.event.Event.{Event}
use Rattle.floor_machine.specs.declared.event.Event.TheVariants.{Join, Message, Took, Leave, Revoke, Close, AddUser, AddFloor, SetChair, Say}
use Rattle.floor_machine.specs.Machine.{infos_changed}
use Rattle.floor_machine.specs.Next.{is_nothing, next}
use Rattle.floor_room.specs.Text.{number_word, text_word}
use Rattle.floor_control.specs.Floors.{floor_words}
use Rattle.floor_control.specs.People.{name_words, proxy_word}

-- the text of a value, where there is one
abbrev pub optional : {A : Type 0} → (A → List ℕ) → Option A → List ℕ
optional text value = option_map_or text value []

-- the name of a status (RFC 8855, section 5.2.5), and a number that is none's
abbrev pub status_name : ℕ → List ℕ
status_name status =
    if status == 1 then codes "Pending"
    else if status == 2 then codes "Accepted"
    else if status == 3 then codes "Granted"
    else if status == 4 then codes "Denied"
    else if status == 5 then codes "Cancelled"
    else if status == 6 then codes "Released"
    else if status == 7 then codes "Revoked"
    else decimal status

-- a status and its queue position
abbrev pub status_text : ℕ × ℕ → List ℕ
status_text s = status_name s.0 ++ codes ":" ++ decimal s.1

-- the number of a status, and 0 for none
abbrev pub number_of : Option (ℕ × ℕ) → ℕ
number_of status = option_map_or (λ s. s.0) status 0

-- a floor's status, where it is another than that of the whole request
abbrev pub other_status : ℕ → ℕ × ℕ → List ℕ
other_status overall s = if s.0 == overall then [] else codes ":" ++ status_name s.0

-- a floor of a request
abbrev pub floor_text : ℕ → ℕ × Option (ℕ × ℕ) → List ℕ
floor_text overall f = codes " " ++ decimal f.0 ++ optional (other_status overall) f.1

-- a requester
abbrev pub requester_text : Who → List ℕ
requester_text who = codes " by " ++ decimal who.user

-- the user of a request, its beneficiary
abbrev pub user_number : Option Who → ℕ
user_number who = option_map_or (λ w. w.user) who 0

-- whose a request is, and its status
abbrev pub request_head : Info → List ℕ
request_head i =
    codes "request " ++ decimal i.request
    ++ codes " user " ++ decimal (user_number i.beneficiary)
    ++ optional requester_text i.requester
    ++ codes " " ++ optional status_text i.overall

-- a request as it is shown
abbrev pub request_text : Info → List ℕ
request_text i =
    request_head i
    ++ codes " floors" ++ flat_map (floor_text (number_of i.overall)) i.floors
    ++ codes " reason " ++ text_word i.reason

-- a user who was added
abbrev pub user_text : User → List ℕ
user_text user = codes "user " ++ decimal user.id ++ proxy_word user.proxy ++ name_words user.name

-- a floor's chair that was set, or taken away
abbrev pub chair_text : ℕ → Option ℕ → List ℕ
chair_text floor chair = codes "chair " ++ decimal floor ++ codes " " ++ number_word chair

-- a member and its user, behind a word
abbrev pub member_text : List ℕ → ℕ → ℕ → List ℕ
member_text word n user = word ++ codes " " ++ decimal n ++ codes " user " ++ decimal user

-- a member who is cut
abbrev pub cut_text : Conference → ℕ → List ℕ
cut_text s n = member_text (codes "cut") n (user_of s n)

-- What an event says of itself, where a member who joins gets this number, and one who leaves was of this user: a message, also
-- one that is said for a user, an acknowledgement and a revocation say nothing, for the requests that they change speak.
abbrev pub said : ℕ → ℕ → Event → List (List ℕ)
said number leaver (Join user) = member_text (codes "joined") number user ∷ []
said number leaver (Message n bytes) = []
said number leaver (Took n k) = []
said number leaver (Leave n) = member_text (codes "left") n leaver ∷ []
said number leaver (Revoke request) = []
said number leaver Close = codes "closed" ∷ []
said number leaver (AddUser user) = user_text user ∷ []
said number leaver (AddFloor floor) = floor_words floor ∷ []
said number leaver (SetChair floor chair) = chair_text floor chair ∷ []
said number leaver (Say user bytes) = []

-- the user of the member who leaves
abbrev pub leaver : Conference → Event → ℕ
leaver s (Leave n) = user_of s n
leaver s _ = 0

-- what an event says of itself, in the conference before it
abbrev pub own_texts : Conference → Event → List (List ℕ)
own_texts s e = said (length s.members + 1) (leaver s e) e

-- the numbers of the live members that are cut, ascending
abbrev pub cut_of : Conference → List ℕ
cut_of s = filter (is_cut s) (live_numbers s.members)

-- those that an event cut
abbrev pub cut_by : Conference → Event → List ℕ
cut_by s e = filter (λ n. not (list_any (λ k. k == n) (cut_of s))) (cut_of (next s e))

-- what an event shows: what it says of itself, then each request that is shown otherwise, ascending, then each member that it cut
abbrev pub texts : Conference → Event → List (List ℕ)
texts s e = own_texts s e ++ map request_text (infos_changed s e) ++ map (cut_text (next s e)) (cut_by s e)

-- what each line begins with: its conference and its place
abbrev pub line_head : ℕ → ℕ → List ℕ
line_head conference place = codes "! " ++ decimal conference ++ codes " " ++ decimal place ++ codes " "

-- a line
abbrev pub line : ℕ → ℕ → List ℕ → List ℕ
line conference place text = line_head conference place ++ text ++ codes "\n"

-- the line of a request
abbrev pub request_line : ℕ → ℕ → Info → List ℕ
request_line conference place i = line conference place (request_text i)

-- the line of a member who is cut
abbrev pub cut_line : ℕ → ℕ → Conference → ℕ → List ℕ
cut_line conference place s n = line conference place (cut_text s n)

-- the lines of a place, and its end, where there is any
abbrev pub lines : ℕ → ℕ → List (List ℕ) → List ℕ
lines conference place all =
    flat_map (line conference place) all ++ (if is_nothing all then [] else line conference place (codes "."))

-- the lines of the event at a place, which is none for an event that shows nothing
abbrev pub watched : ℕ → Conference → Event → List ℕ
watched place s e = lines s.config.conference place (texts s e)

-- the lines of events from a place on
abbrev pub watched_from : ℕ → Conference → List Event → List ℕ
watched_from place s [] = []
watched_from place s (e ∷ es) = watched place s e ++ watched_from (place + 1) (next s e) es
