-- Which messages can be written, so that they are read back as they were (RFC 8855, sections 5.1 to 5.3).
use Rattle.std.specs.Prelude.{◌≡◌, ℕ, ◌*◌, ◌^◌, ◌≤◌, ◌<◌, true, List, length, All, Option, Some, None, IfSome}
use Rattle.std.specs.Str.{is_utf8}
use Rattle.floor_message.specs.Picked.{IsOnceBy}
use Rattle.floor_message.specs.Room.{FitsRoom}
use Rattle.floor_message.specs.Written.{tell_attrs}
use Rattle.floor_message.specs.declared.head.Head.{Head}
use Rattle.floor_message.specs.declared.verdicts.Verdict.{Verdict}
use Rattle.floor_message.specs.declared.ask.Ask.{Ask}
use Rattle.floor_message.specs.declared.ask.Ask.TheVariants.{FloorRequest, FloorRelease, FloorRequestQuery, UserQuery, FloorQuery, ChairAction, Hello}
use Rattle.floor_message.specs.declared.information.Info.{Info}
use Rattle.floor_message.specs.declared.tell.Tell.{Tell}
use Rattle.floor_message.specs.declared.tell.Tell.TheVariants.{FloorRequestStatus, UserStatus, FloorStatus, ChairActionAck, HelloAck, Error}

-- the priority, where there is one, is at most 4, Highest (section 5.2.4)
abbrev pub PriorityFits : Info → Type 0
PriorityFits i = IfSome i.priority (λ priority. priority ≤ 4)

-- each priority is at most 4, and each type of attribute below 128
abbrev pub NumbersFit : Tell → Type 0
NumbersFit (FloorRequestStatus info) = PriorityFits info
NumbersFit (UserStatus who infos) = All PriorityFits infos
NumbersFit (FloorStatus floor infos) = All PriorityFits infos
NumbersFit ChairActionAck = Unit {0}
NumbersFit (HelloAck primitives attributes) = All (λ kind. kind < 128) attributes
NumbersFit (Error code details) = Unit {0}

-- the message from the server can be written: its numbers fit, each attribute fits its Length, and all of them the Payload Length
pub record TellFits (tell : Tell) : Type 0 where
  pub numbers : NumbersFit tell
  pub attributes : FitsRoom (tell_attrs tell) (4 * 65535)

-- the text is UTF-8 of at least one byte, and at most so many
pub record TextFits (most : ℕ) (text : List ℕ) : Type 0 where
  pub utf8 : is_utf8 text ≡ true
  pub some : 0 < length text
  pub short : length text ≤ most

-- the floors are named once each, and are at most 60,000, so that they fit the Payload Length
pub record FloorsFit (floors : List ℕ) : Type 0 where
  pub once : IsOnceBy (λ floor. floor) floors
  pub few : length floors ≤ 60000

-- a FloorRequest names a floor, and has a priority of at most 4 and a text of at most 62 bytes, where there is one
pub record FloorRequestFits (floors : List ℕ) (priority : ℕ) (info : Option (List ℕ)) : Type 0 where
  pub some : 0 < length floors
  pub floors_fit : FloorsFit floors
  pub priority_fits : priority ≤ 4
  pub text : IfSome info (TextFits 62)

-- the verdicts that fit a group: 31, or 26 beside a reason
abbrev pub most_verdicts : Option (List ℕ) → ℕ
most_verdicts None = 31
most_verdicts (Some reason) = 26

-- the verdicts are on a floor at least, on each floor one, and at most so many
pub record VerdictsFit (most : ℕ) (verdicts : List (ℕ × Verdict)) : Type 0 where
  pub some : 0 < length verdicts
  pub few : length verdicts ≤ most
  pub once : IsOnceBy (λ verdict. verdict.0) verdicts

-- a ChairAction has verdicts that fit a group beside its reason, which has at most 30 bytes, where there is one
pub record ChairActionFits (verdicts : List (ℕ × Verdict)) (reason : Option (List ℕ)) : Type 0 where
  pub verdicts_fit : VerdictsFit (most_verdicts reason) verdicts
  pub text : IfSome reason (TextFits 30)

-- each number of the message from a client is one of 16 bits
abbrev pub AskNumbersFit : Ask → Type 0
AskNumbersFit (FloorRequest beneficiary floors priority info) = IfSome beneficiary (λ user. user < 2 ^ 16) × All (λ floor. floor < 2 ^ 16) floors
AskNumbersFit (FloorRelease request) = request < 2 ^ 16
AskNumbersFit (FloorRequestQuery request) = request < 2 ^ 16
AskNumbersFit (UserQuery beneficiary) = IfSome beneficiary (λ user. user < 2 ^ 16)
AskNumbersFit (FloorQuery floors) = All (λ floor. floor < 2 ^ 16) floors
AskNumbersFit (ChairAction request verdicts reason) = (request < 2 ^ 16) × All (λ verdict. verdict.0 < 2 ^ 16) verdicts
AskNumbersFit Hello = Unit {0}

-- its floors, verdicts, priority and texts are such as can be written
abbrev pub AskPartsFit : Ask → Type 0
AskPartsFit (FloorRequest beneficiary floors priority info) = FloorRequestFits floors priority info
AskPartsFit (FloorRelease request) = Unit {0}
AskPartsFit (FloorRequestQuery request) = Unit {0}
AskPartsFit (UserQuery beneficiary) = Unit {0}
AskPartsFit (FloorQuery floors) = FloorsFit floors
AskPartsFit (ChairAction request verdicts reason) = ChairActionFits verdicts reason
AskPartsFit Hello = Unit {0}

-- its text, where it has one, is such as can be written, however many floors or verdicts there are
abbrev pub AskTextFits : Ask → Type 0
AskTextFits (FloorRequest beneficiary floors priority info) = IfSome info (TextFits 62)
AskTextFits (FloorRelease request) = Unit {0}
AskTextFits (FloorRequestQuery request) = Unit {0}
AskTextFits (UserQuery beneficiary) = Unit {0}
AskTextFits (FloorQuery floors) = Unit {0}
AskTextFits (ChairAction request verdicts reason) = IfSome reason (TextFits 30)
AskTextFits Hello = Unit {0}

-- the message from a client can be written
pub record AskFits (ask : Ask) : Type 0 where
  pub numbers : AskNumbersFit ask
  pub parts : AskPartsFit ask

-- the numbers of a head fit their fields
pub record HeadFits (head : Head) : Type 0 where
  pub conference : head.conference < 2 ^ 32
  pub transaction : head.transaction < 2 ^ 16
  pub user : head.user < 2 ^ 16
