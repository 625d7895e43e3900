-- What a conference shows, within its limits on names, texts, floors and floor requests (RFC 8855, sections 5.2 and 5.3).
use Rattle.std.specs.Prelude.{◌≡◌, ◌^◌, ◌≤◌, ◌<◌, List, length, All, None, IfSome}
use Rattle.floor_message.specs.Fits.{PriorityFits}
use Rattle.floor_message.specs.declared.information.Info.{Info}
use Rattle.floor_message.specs.declared.tell.Tell.{Tell}
use Rattle.floor_message.specs.declared.tell.Tell.TheVariants.{FloorRequestStatus, UserStatus, FloorStatus, ChairActionAck, HelloAck, Error}
use Rattle.floor_message.specs.declared.information.Who.{Who}

-- a user with a name of at most 30 bytes, and no URI
pub record IsNamed (who : Who) : Type 0 where
  pub user : who.user < 2 ^ 16
  pub name : IfSome who.name (λ name. length name ≤ 30)
  pub no_uri : who.uri ≡ None

-- a user with a name of at most 30 bytes, and a URI of at most 62
pub record IsDescribed (who : Who) : Type 0 where
  pub user : who.user < 2 ^ 16
  pub name : IfSome who.name (λ name. length name ≤ 30)
  pub uri : IfSome who.uri (λ uri. length uri ≤ 62)

-- a floor request for at most 8 floors, with a text of at most 62 bytes and a chair's reason of at most 30
pub record IsShownInfo (info : Info) : Type 0 where
  pub request : info.request < 2 ^ 16
  pub reason : IfSome info.reason (λ reason. length reason ≤ 30)
  pub floors : All (λ f. f.0 < 2 ^ 16) info.floors
  pub few : length info.floors ≤ 8
  pub beneficiary : IfSome info.beneficiary IsNamed
  pub requester : IfSome info.requester IsNamed
  pub priority : PriorityFits info
  pub text : IfSome info.info (λ text. length text ≤ 62)

-- at most 256 floor requests
pub record AreShown (infos : List Info) : Type 0 where
  pub each : All IsShownInfo infos
  pub few : length infos ≤ 256

-- the message shows no more than a conference has
abbrev pub IsShown : Tell → Type 0
IsShown (FloorRequestStatus info) = IsShownInfo info
IsShown (UserStatus who infos) = IfSome who IsDescribed × AreShown infos
IsShown (FloorStatus floor infos) = IfSome floor (λ f. f < 2 ^ 16) × AreShown infos
IsShown ChairActionAck = Unit {0}
IsShown (HelloAck primitives attributes) = (length primitives ≤ 253) × (length attributes ≤ 253) × All (λ kind. kind < 128) attributes
IsShown (Error code details) = length details ≤ 252
