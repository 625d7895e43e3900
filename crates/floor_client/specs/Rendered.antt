-- What a client hears, as a line of text.
use Rattle.std.specs.Prelude.{ℕ, ◌/◌, ◌%◌, ◌==◌, Bool, false, ◌&&◌, not, nat_le, List, [], ◌∷◌, ◌++◌, Option, Some, None, codes, if◌then◌else◌}
use Rattle.std.specs.List.{flat_map}
use Rattle.std.specs.Fmt.{decimal, digit_glyph}
use Rattle.floor_message.specs.declared.information.Who.{Who}
use Rattle.floor_message.specs.declared.information.Info.{Info}
use Rattle.floor_message.specs.declared.tell.Tell.{Tell}
use Rattle.floor_message.specs.declared.tell.Tell.TheVariants.{FloorRequestStatus, UserStatus, FloorStatus, ChairActionAck, HelloAck, Error}
use Rattle.floor_client.specs.declared.heard.Heard.{Heard}
use Rattle.floor_client.specs.declared.heard.Heard.TheVariants.{BadMessage, Stray, Reply, Notice}

-- the text of a value, where there is one
abbrev pub optional : {A : Type 0} → (A → List ℕ) → Option A → List ℕ
optional text None = []
optional text (Some value) = text value

-- the two hexadecimal digits of a byte, in lower case
abbrev pub hex_digits : ℕ → List ℕ
hex_digits byte = digit_glyph false (byte / 16) ∷ digit_glyph false (byte % 16) ∷ []

-- a byte that stands for itself between double quotes: 20 to 7e, and neither the double quote nor the backslash
abbrev pub is_plain : ℕ → Bool
is_plain byte = nat_le 0x20 byte && nat_le byte 0x7e && not (byte == 34) && not (byte == 92)

-- a byte between double quotes: itself, or \x and its two hexadecimal digits
abbrev pub quoted_byte : ℕ → List ℕ
quoted_byte byte = if is_plain byte then byte ∷ [] else 92 ∷ 120 ∷ hex_digits byte

-- a text in double quotes
abbrev pub quoted : List ℕ → List ℕ
quoted text = 34 ∷ (flat_map quoted_byte text ++ 34 ∷ [])

-- the name of a status, or its number where it has none (RFC 8855, section 5.2.5)
abbrev pub status_name : ℕ → List ℕ
status_name status =
    if status == 1 then codes "Pending"
    else if status == 2 then codes "Accepted"
    else if status == 3 then codes "Granted"
    else if status == 4 then codes "Denied"
    else if status == 5 then codes "Cancelled"
    else if status == 6 then codes "Released"
    else if status == 7 then codes "Revoked"
    else decimal status

-- a text in double quotes behind these words
abbrev pub text_behind : List ℕ → List ℕ → List ℕ
text_behind words text = words ++ quoted text

-- a status and its queue position behind these words
abbrev pub status_behind : List ℕ → ℕ × ℕ → List ℕ
status_behind words s = words ++ status_name s.0 ++ codes ":" ++ decimal s.1

-- a user, with its name where it has one, behind these words
abbrev pub user_behind : List ℕ → Who → List ℕ
user_behind words who = words ++ decimal who.user ++ optional (text_behind (codes " ")) who.name

-- a floor
abbrev pub floor_number : ℕ → List ℕ
floor_number floor = codes " floor " ++ decimal floor

-- a floor, with its status and queue position where it has them
abbrev pub floor_text : ℕ × Option (ℕ × ℕ) → List ℕ
floor_text f = floor_number f.0 ++ optional (status_behind (codes ":")) f.1

-- a priority
abbrev pub priority_text : ℕ → List ℕ
priority_text priority = codes " priority " ++ decimal priority

-- a floor request's number, its overall status and the reason for it where it has them, and its floors
abbrev pub statuses_text : Info → List ℕ
statuses_text i =
    codes "request " ++ decimal i.request
    ++ optional (status_behind (codes " overall ")) i.overall
    ++ optional (text_behind (codes " reason ")) i.reason
    ++ flat_map floor_text i.floors

-- a floor request: its statuses, then each part that is there
abbrev pub info_text : Info → List ℕ
info_text i =
    statuses_text i
    ++ optional (user_behind (codes " for ")) i.beneficiary
    ++ optional (user_behind (codes " by ")) i.requester
    ++ optional priority_text i.priority
    ++ optional (text_behind (codes " info ")) i.info

-- a floor request among others, in brackets
abbrev pub bracketed : Info → List ℕ
bracketed i = codes " [" ++ info_text i ++ codes "]"

-- a user, with its name and its URI where it has them
abbrev pub user_text : Who → List ℕ
user_text who = codes " user " ++ decimal who.user ++ optional (text_behind (codes " name ")) who.name ++ optional (text_behind (codes " uri ")) who.uri

-- the details of an error code in hexadecimal, where there are any
abbrev pub details_text : List ℕ → List ℕ
details_text [] = []
details_text (detail ∷ details) = codes " " ++ flat_map hex_digits (detail ∷ details)

-- a FloorRequestStatus and its floor request
abbrev pub floor_request_status : Info → List ℕ
floor_request_status info = codes "FloorRequestStatus " ++ info_text info

-- a UserStatus: the user where there is one, and floor requests
abbrev pub user_status : Option Who → List Info → List ℕ
user_status who infos = codes "UserStatus" ++ optional user_text who ++ flat_map bracketed infos

-- a FloorStatus: the floor where there is one, and floor requests
abbrev pub floor_status : Option ℕ → List Info → List ℕ
floor_status floor infos = codes "FloorStatus" ++ optional floor_number floor ++ flat_map bracketed infos

-- an Error: its code, and its details
abbrev pub error : ℕ → List ℕ → List ℕ
error code details = codes "Error " ++ decimal code ++ details_text details

-- what the server tells: the primitive's name, then its fields
abbrev pub tell_text : Tell → List ℕ
tell_text (FloorRequestStatus info) = floor_request_status info
tell_text (UserStatus who infos) = user_status who infos
tell_text (FloorStatus floor infos) = floor_status floor infos
tell_text ChairActionAck = codes "ChairActionAck"
tell_text (HelloAck primitives attributes) = codes "HelloAck"
tell_text (Error code details) = error code details

-- what is heard, as a line without its line feed
abbrev pub rendered : Heard → List ℕ
rendered BadMessage = codes "bad"
rendered Stray = codes "stray"
rendered (Reply number tell) = codes "reply " ++ decimal number ++ codes " " ++ tell_text tell
rendered (Notice tell) = codes "notice " ++ tell_text tell
