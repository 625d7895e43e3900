-- What is written of a request is read as that request, and no two errors have one number or one name.
use Rattle.std.specs.Prelude.{◌≡◌, ◌<◌, ◌≤◌, ◌^◌, ℕ, Option, Some, None, Ok, List, [], ◌∷◌, length, ⊤}
use Rattle.floor_rpc.specs.CallsWritten.{request_json}
use Rattle.floor_rpc.specs.Errors.{name_of, number_of}
use Rattle.floor_rpc.specs.Requests.{max_id, received}
use Rattle.floor_rpc.specs.declared.call.Call.{Call}
use Rattle.floor_rpc.specs.declared.call.Call.TheVariants as call
use Rattle.floor_rpc.specs.declared.call.ChairSetting.{ChairSetting}
use Rattle.floor_rpc.specs.declared.call.Creation.{Creation}
use Rattle.floor_rpc.specs.declared.call.Decision.{Decision}
use Rattle.floor_rpc.specs.declared.call.FloorAddition.{FloorAddition}
use Rattle.floor_rpc.specs.declared.call.JournalFrom.{JournalFrom}
use Rattle.floor_rpc.specs.declared.call.Listing.{Listing}
use Rattle.floor_rpc.specs.declared.call.Listing.TheVariants as listing
use Rattle.floor_rpc.specs.declared.call.NewFloor.{NewFloor}
use Rattle.floor_rpc.specs.declared.call.NewUser.{NewUser}
use Rattle.floor_rpc.specs.declared.call.OfConference.{OfConference}
use Rattle.floor_rpc.specs.declared.call.OfRequest.{OfRequest}
use Rattle.floor_rpc.specs.declared.call.OfUser.{OfUser}
use Rattle.floor_rpc.specs.declared.call.Opening.{Opening}
use Rattle.floor_rpc.specs.declared.call.Opening.TheVariants as opening
use Rattle.floor_rpc.specs.declared.call.Parts.{Parts}
use Rattle.floor_rpc.specs.declared.call.Release.{Release}
use Rattle.floor_rpc.specs.declared.call.Removal.{Removal}
use Rattle.floor_rpc.specs.declared.call.Unwatching.{Unwatching}
use Rattle.floor_rpc.specs.declared.call.UserAddition.{UserAddition}
use Rattle.floor_rpc.specs.declared.call.Watched.{Watched}
use Rattle.floor_rpc.specs.declared.call.Watching.{Watching}
use Rattle.floor_rpc.specs.declared.call.Whom.{Whom}
use Rattle.floor_rpc.specs.declared.call.Whom.TheVariants as whom
use Rattle.floor_rpc.specs.declared.call.WordSetting.{WordSetting}
use Rattle.floor_rpc.specs.declared.call.WordsOf.{WordsOf}
use Rattle.floor_rpc.specs.declared.error.ErrorName.{ErrorName}
use Rattle.floor_rpc.specs.declared.id.Id.{Id}
use Rattle.floor_rpc.specs.declared.id.Id.TheVariants.{Null, Number, Text}
use Rattle.floor_rpc.specs.declared.request.Request.{Request}

-- ---- the numbers of a call are of their types: below a limit

abbrev pub BelowWhere : ℕ → Option ℕ → Type 0
BelowWhere limit (Some n) = n < limit
BelowWhere limit None = ⊤

-- each item of a list is so
abbrev pub AllAre : {A : Type 0} → (A → Type 0) → List A → Type 0
AllAre P [] = ⊤
AllAre P (a ∷ rest) = P a × AllAre P rest

abbrev pub AllAreWhere : {A : Type 0} → (A → Type 0) → Option (List A) → Type 0
AllAreWhere P (Some all) = AllAre P all
AllAreWhere P None = ⊤

abbrev pub IsU16 : ℕ → Type 0
IsU16 n = n < 2 ^ 16

abbrev pub IsU32 : ℕ → Type 0
IsU32 n = n < 2 ^ 32

-- a place or a count has ten digits at most
abbrev pub IsPlaceWhere : Option ℕ → Type 0
IsPlaceWhere = BelowWhere (10 ^ 10)

pub record IsNewUser (u : NewUser) : Type 0 where
  pub id : BelowWhere (2 ^ 16) u.id
  pub port : BelowWhere (2 ^ 16) u.port

pub record IsNewFloor (f : NewFloor) : Type 0 where
  pub id : BelowWhere (2 ^ 16) f.id
  pub room : BelowWhere (2 ^ 16) f.room
  pub chair : BelowWhere (2 ^ 16) f.chair

pub record IsParts (p : Parts) : Type 0 where
  pub id : BelowWhere (2 ^ 32) p.id
  pub limit : BelowWhere (2 ^ 16) p.limit
  pub connections : BelowWhere (2 ^ 16) p.connections
  pub users : AllAre IsNewUser p.users
  pub floors : AllAre IsNewFloor p.floors

abbrev pub IsOpening : Opening → Type 0
IsOpening (opening.Toml text) = ⊤
IsOpening (opening.Parts p) = IsParts p

abbrev pub IsListing : Listing → Type 0
IsListing listing.First = ⊤
IsListing (listing.Only c) = IsU32 c
IsListing (listing.After c) = IsU32 c

abbrev pub IsOfConference : OfConference → Type 0
IsOfConference o = IsU32 o.conference

pub record IsUserAddition (u : UserAddition) : Type 0 where
  pub conference : IsU32 u.conference
  pub user : IsNewUser u.user

pub record IsFloorAddition (f : FloorAddition) : Type 0 where
  pub conference : IsU32 f.conference
  pub floor : IsNewFloor f.floor

pub record IsChairSetting (c : ChairSetting) : Type 0 where
  pub conference : IsU32 c.conference
  pub floor : IsU16 c.floor
  pub chair : BelowWhere (2 ^ 16) c.chair

abbrev pub IsWhom : Whom → Type 0
IsWhom (whom.Member n) = IsU32 n
IsWhom (whom.User user) = IsU16 user

pub record IsRemoval (r : Removal) : Type 0 where
  pub conference : IsU32 r.conference
  pub whom : IsWhom r.whom

pub record IsOfUser (o : OfUser) : Type 0 where
  pub conference : IsU32 o.conference
  pub user : IsU16 o.user

-- a priority is at most 4 (RFC 8855, section 5.2.4)
pub record IsCreation (c : Creation) : Type 0 where
  pub conference : IsU32 c.conference
  pub beneficiary : IsU16 c.beneficiary
  pub floors : AllAre IsU16 c.floors
  pub priority : BelowWhere 5 c.priority
  pub by : BelowWhere (2 ^ 16) c.by

pub record IsRelease (r : Release) : Type 0 where
  pub conference : IsU32 r.conference
  pub request : IsU16 r.request
  pub by : BelowWhere (2 ^ 16) r.by

pub record IsDecision (d : Decision) : Type 0 where
  pub conference : IsU32 d.conference
  pub request : IsU16 d.request
  pub floors : AllAreWhere IsU16 d.floors
  pub by : BelowWhere (2 ^ 16) d.by

pub record IsOfRequest (o : OfRequest) : Type 0 where
  pub conference : IsU32 o.conference
  pub request : IsU16 o.request

abbrev pub IsWordSetting : WordSetting → Type 0
IsWordSetting w = IsU32 w.conference

abbrev pub IsWordsOf : WordsOf → Type 0
IsWordsOf w = IsU32 w.conference

pub record IsWatched (w : Watched) : Type 0 where
  pub conference : IsU32 w.conference
  pub from : IsPlaceWhere w.from

abbrev pub IsWatching : Watching → Type 0
IsWatching w = AllAre IsWatched w.conferences

abbrev pub IsUnwatching : Unwatching → Type 0
IsUnwatching u = AllAre IsOfConference u.conferences

pub record IsJournalFrom (j : JournalFrom) : Type 0 where
  pub conference : IsU32 j.conference
  pub from : IsPlaceWhere j.from
  pub count : IsPlaceWhere j.count

abbrev pub IsCall : Call → Type 0
IsCall (call.ConferenceOpen p) = IsOpening p
IsCall (call.ConferenceList p) = IsListing p
IsCall (call.ConferenceGet p) = IsOfConference p
IsCall (call.ConferenceClose p) = IsOfConference p
IsCall (call.ConferenceForget p) = IsOfConference p
IsCall (call.UserAdd p) = IsUserAddition p
IsCall (call.FloorAdd p) = IsFloorAddition p
IsCall (call.FloorChair p) = IsChairSetting p
IsCall (call.MemberRemove p) = IsRemoval p
IsCall (call.UserAdmit p) = IsOfUser p
IsCall (call.RequestCreate p) = IsCreation p
IsCall (call.RequestRelease p) = IsRelease p
IsCall (call.RequestAccept p) = IsDecision p
IsCall (call.RequestGrant p) = IsDecision p
IsCall (call.RequestDeny p) = IsDecision p
IsCall (call.RequestRevoke p) = IsOfRequest p
IsCall (call.WordSet p) = IsWordSetting p
IsCall (call.WordGet p) = IsWordsOf p
IsCall (call.Watch p) = IsWatching p
IsCall (call.Unwatch p) = IsUnwatching p
IsCall (call.Journal p) = IsJournalFrom p
IsCall call.ServerStatus = ⊤
IsCall call.ServerDrain = ⊤
IsCall call.ServerStop = ⊤
IsCall call.Help = ⊤

-- an id isn't too long
abbrev pub IsId : Option Id → Type 0
IsId None = ⊤
IsId (Some Null) = ⊤
IsId (Some (Number s)) = length s ≤ max_id
IsId (Some (Text s)) = length s ≤ max_id

-- what is written of a request is read as that request: with its id, and what it calls
abbrev pub RequestsAreReadBack : Type 0
RequestsAreReadBack =
    (r : Request) → IsId r.id → IsCall r.call
    → received (request_json r) ≡ record { id = r.id; call = Ok r.call }

-- ---- errors

-- a number is of one error alone
abbrev pub NumbersAreTheirOwn : Type 0
NumbersAreTheirOwn = (a b : ErrorName) → number_of a ≡ number_of b → a ≡ b

-- a name is of one error alone
abbrev pub NamesAreTheirOwn : Type 0
NamesAreTheirOwn = (a b : ErrorName) → name_of a ≡ name_of b → a ≡ b
