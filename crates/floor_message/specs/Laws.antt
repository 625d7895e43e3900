-- Laws of messages: what is written is read, and what is read can be written.
use Rattle.std.specs.Prelude.{◌≡◌, ℕ, ◌+◌, ◌≤◌, true, List, length, Some, Contains}
use Rattle.std.specs.Str.{is_utf8}
use Rattle.floor_wire.specs.Bytes.{IsBytes}
use Rattle.floor_wire.specs.Attributes.{Content, num, pair, group, octets, Attributes, no_attributes, attribute}
use Rattle.floor_wire.specs.Spelling.{canon}
use Rattle.floor_wire.specs.View.{attributes_of}
use Rattle.floor_message.specs.Ask.{ask, asks}
use Rattle.floor_message.specs.Binding.{Binding}
use Rattle.floor_message.specs.Fits.{AskFits, AskNumbersFit, AskPartsFit, AskTextFits, HeadFits, TellFits, most_verdicts}
use Rattle.floor_message.specs.Shown.{IsShown}
use Rattle.floor_message.specs.Tell.{tell}
use Rattle.floor_message.specs.Text.{IsLongestFront, shortened}
use Rattle.floor_message.specs.Written.{ask_attrs, ask_bytes, tell_attrs, tell_bytes}
use Rattle.floor_message.specs.declared.ask.Ask.{Ask}
use Rattle.floor_message.specs.declared.ask.Ask.TheVariants.{FloorRequest, FloorRelease, FloorRequestQuery, UserQuery, FloorQuery, ChairAction, Hello}
use Rattle.floor_message.specs.declared.head.Head.{Head}
use Rattle.floor_message.specs.declared.tell.Tell.{Tell}

-- what is written of a message from the server is read as that message, under that head
abbrev pub WrittenTellIsRead : Type 0
WrittenTellIsRead = (head : Head) (t : Tell) → HeadFits head → TellFits t → tell (tell_bytes head t) ≡ Some (head, t)

-- the head names the conference and the user of the binding, and the user is one of the conference
pub record IsOwn (head : Head) (binding : Binding) : Type 0 where
  pub conference : head.conference ≡ binding.conference
  pub user : head.user ≡ binding.user
  pub among : Contains binding.users head.user

-- what is written of a message from a client is read as that message, under its own binding
abbrev pub WrittenAskIsRead : Type 0
WrittenAskIsRead = (head : Head) (binding : Binding) (a : Ask) → HeadFits head → IsOwn head binding → AskFits a → ask (ask_bytes head a) binding ≡ asks a

-- at most 60,000 floors, and at most 31 verdicts, or 26 beside a reason
abbrev pub CountsFit : Ask → Type 0
CountsFit (FloorRequest beneficiary floors priority info) = length floors ≤ 60000
CountsFit (FloorRelease request) = Unit {0}
CountsFit (FloorRequestQuery request) = Unit {0}
CountsFit (UserQuery beneficiary) = Unit {0}
CountsFit (FloorQuery floors) = length floors ≤ 60000
CountsFit (ChairAction request verdicts reason) = length verdicts ≤ most_verdicts reason
CountsFit Hello = Unit {0}

-- its text can be written, and so can all its parts where its floors and verdicts are not too many
pub record FitsButForCounts (a : Ask) : Type 0 where
  pub text : AskTextFits a
  pub parts : CountsFit a → AskPartsFit a

-- what a message asks can be written but for its numbers, where its floors and verdicts are not too many
abbrev pub WhatIsAskedFits : Type 0
WhatIsAskedFits = (bytes : List ℕ) (binding : Binding) (a : Ask) → ask bytes binding ≡ asks a → FitsButForCounts a

-- the numbers of what a message of bytes asks are of 16 bits, so that with the law above it can be written
abbrev pub WhatIsAskedIsOf16Bits : Type 0
WhatIsAskedIsOf16Bits = (bytes : List ℕ) (binding : Binding) (a : Ask) → IsBytes bytes → ask bytes binding ≡ asks a → AskNumbersFit a

-- what is kept of a text is its longest front of at most so many bytes that ends at a character
abbrev pub ShortenedIsLongest : Type 0
ShortenedIsLongest = (most : ℕ) (text : List ℕ) → is_utf8 text ≡ true → IsLongestFront most text (shortened most text)

-- each group is written in at most 252 bytes, and each octet string has at most 253 octets, those inside groups too
abbrev mutual
  pub HasShortContent : Content → Type 0
  HasShortContent (num n) = Unit {0}
  HasShortContent (pair a b) = Unit {0}
  HasShortContent (group n inside) = (4 + length (canon inside) ≤ 252) × HasShortContents inside
  HasShortContent (octets os) = length os ≤ 253

  pub HasShortContents : Attributes → Type 0
  HasShortContents no_attributes = Unit {0}
  HasShortContents (attribute kind must content rest) = HasShortContent content × HasShortContents rest

-- what shows no more than a conference has can be written
abbrev pub WhatIsShownFits : Type 0
WhatIsShownFits = (t : Tell) → IsShown t → TellFits t

-- what is written of a message from the server has no longer group, and no longer octet string
abbrev pub WrittenTellIsShort : Type 0
WrittenTellIsShort = (t : Tell) → TellFits t → HasShortContents (attributes_of (tell_attrs t))

-- what is written of a message from a client has no longer group, and no longer octet string
abbrev pub WrittenAskIsShort : Type 0
WrittenAskIsShort = (a : Ask) → AskFits a → HasShortContents (attributes_of (ask_attrs a))
