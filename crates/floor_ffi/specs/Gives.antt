-- What each call from C gives: the hub at the pointer before and after, the number that is answered, and what is written for the caller.
use Rattle.std.specs.Prelude.{◌≡◌, ◌⊎◌, ◌≤◌, ◌<◌, ◌+◌, ◌-◌, ◌++◌, ℕ, zero, suc, Bool, true, false, nat_eq, List, Option, [], ◌∷◌, length, take, drop, IsUtf8, Some, None, Result, Ok, Err, MatchOption, MatchResult, IfOk}
use Rattle.std.specs.List.{list_all}
use base.Fml.{Fml, fex, fsep, ftrue}
use base.Fraction.{full_share}
use denote.RattleType.{RattleType}
use denote.RawPtr.{Ptr, lies_at}
use Rattle.floor_config.specs.Configuration.{Configuration}
use Rattle.floor_config.specs.Reading.{reading}
use Rattle.floor_config.specs.declared.fault.ConfigFault.TheVariants.{Memory as NoMemory}
use Rattle.floor_machine.specs.Parcel.{Parcel}
use Rattle.floor_machine.specs.declared.act.Act.{Act}
use Rattle.floor_machine.specs.declared.act.Act.TheVariants.{AddUser}
use Rattle.floor_machine.specs.declared.event.Event.{Event}
use Rattle.floor_room.specs.Replay.{bytes_of}
use Rattle.floor_room.specs.Room.{Room}
use Rattle.floor_room.specs.declared.said.Said as room
use Rattle.floor_room.specs.Status.{IsStatus}
use Rattle.floor_room.specs.Text.{lines}
use Rattle.floor_room.specs.declared.status.Status.{Status}
use Rattle.floor_hub.specs.Connections.{connection_at}
use Rattle.floor_hub.specs.Hub.{Hub, is_forgotten, room_at}
use Rattle.floor_hub.specs.Rooms.{CutIs, first_at, forgotten_or_none}
use Rattle.floor_hub.specs.declared.refusal.HubRefusal.{HubRefusal}
use Rattle.floor_hub.specs.declared.refusal.HubRefusal.TheVariants.{Memory, NoConnection}
use Rattle.floor_hub.specs.declared.step.Served.{Served}
use Rattle.floor_ffi.specs.Called.{Acknowledging, Acting, Attaching, Forgetting, Handing, Leaving, Opening, Saying, Serving, Taking}
use Rattle.floor_ffi.specs.Numbers.{number_of, of_phase}
use Rattle.floor_ffi.specs.declared.outcome.Outcome.{Outcome}
use Rattle.floor_ffi.specs.declared.outcome.Outcome.TheVariants.{Done, Nothing, TooShort, NotUtf8, Refused, Fault}

-- a value of this type lies at the pointer, of which the fact holds
abbrev pub Lies : (T : RattleType) → Ptr → (T.Denot → Type 0) → Fml
Lies T p F = fex T.Denot (λ x. fsep (lies_at T full_share p x) (fex (F x) (λ _. ftrue)))

-- the outcome of a call that is done or refused
abbrev pub outcome_of : {A : Type 0} → Result A HubRefusal → Outcome
outcome_of (Ok _) = Done
outcome_of (Err why) = Refused why

-- these configurations were opened, one after another
abbrev pub OpensEach : List Configuration → Hub → Hub → Type 0
OpensEach [] old new = new ≡ old
OpensEach (config ∷ configs) old new = (middle : Hub) × Opening config old middle (Ok tt) × OpensEach configs middle new

-- none is left to be opened; or the next one was refused
abbrev pub OpensNext : List Configuration → Hub → Hub → Outcome → Type 0
OpensNext [] old new outcome = (outcome ≡ Done) × (new ≡ old)
OpensNext (config ∷ configs) old new outcome = (why : HubRefusal) × (outcome ≡ Refused why) × Opening config old new (Err why)

-- So many of these configurations were opened, in order; and then none was left, or the next one was refused.
pub record OpensFirst (configs : List Configuration) (old new : Hub) (outcome : Outcome) (opened : ℕ) : Type 0 where
  pub before : Hub
  pub within : opened ≤ length configs
  pub opens : OpensEach (take opened configs) old before
  pub next : OpensNext (drop opened configs) before new outcome

-- The text isn't UTF-8, or has a fault, or memory was refused, and nothing has changed; or it is read, and its conferences were opened as far as the hub doesn't refuse one.
abbrev pub OpensText : List ℕ → Hub → Hub → ℕ → Outcome → Type 0
OpensText text old new opened NotUtf8 = (¬ (IsUtf8 text)) × (opened ≡ 0) × (new ≡ old)
OpensText text old new opened (Fault NoMemory) = IsUtf8 text × (opened ≡ 0) × (new ≡ old)
OpensText text old new opened (Fault fault) = IsUtf8 text × (reading text ≡ Err fault) × (opened ≡ 0) × (new ≡ old)
OpensText text old new opened outcome = IsUtf8 text × ((configs : List Configuration) × (reading text ≡ Ok configs) × OpensFirst configs old new outcome opened)

-- what floor_open gives
abbrev pub OpenGives : Hub → List ℕ → Hub → ℕ → ℕ → Type 0
OpenGives old text new number opened = (outcome : Outcome) × (number ≡ number_of outcome) × OpensText text old new opened outcome

-- the text is written with a zero behind it, where there is room for both, else nothing is, and its length is told
abbrev pub PutsText : List ℕ → ℕ → List ℕ → List ℕ → Type 0
PutsText text len before room =
    (len ≡ length text) × (length text < length before → take (length text + 1) room ≡ text ++ 0 ∷ []) × (length before ≤ length text → room ≡ before)

-- why a text is no configuration, or that it is one, unless memory was refused
abbrev pub IsDiagnosis : List ℕ → Outcome → Type 0
IsDiagnosis text Done = IsUtf8 text × ((configs : List Configuration) × (reading text ≡ Ok configs))
IsDiagnosis text NotUtf8 = ¬ (IsUtf8 text)
IsDiagnosis text (Fault NoMemory) = IsUtf8 text
IsDiagnosis text (Fault fault) = IsUtf8 text × (reading text ≡ Err fault)
IsDiagnosis text outcome = ⊥

-- what floor_diagnose gives: the fault of the text, and a line that tells its place, of which nothing is said
abbrev pub DiagnoseGives : List ℕ → ℕ → ℕ → List ℕ → List ℕ → Type 0
DiagnoseGives text number len before room =
    (outcome : Outcome) × (number ≡ number_of outcome) × IsDiagnosis text outcome × ((line : List ℕ) × PutsText line len before room)

-- what floor_attach gives: the connection's number counts where it was attached
abbrev pub AttachGives : Hub → ℕ → ℕ → Hub → ℕ → ℕ → Type 0
AttachGives old conference user new number connection =
    (r : Result ℕ HubRefusal) × (number ≡ number_of (outcome_of r)) × IfOk r (λ k. connection ≡ k) × Attaching conference user old new r

-- what floor_piece gives
abbrev pub PieceGives : Hub → ℕ → List ℕ → Hub → ℕ → Type 0
PieceGives old connection bytes new number =
    (r : Result (Unit {0}) HubRefusal) × (number ≡ number_of (outcome_of r)) × Handing connection bytes old new r

-- nobody but this connection is concerned
abbrev pub is_own : ℕ → List ℕ → Bool
is_own connection concerned = list_all (nat_eq connection) concerned

-- so many messages of the connection were served, one after another, and concerned nobody else
abbrev pub ServesOwn : ℕ → ℕ → Hub → Hub → Type 0
ServesOwn connection zero old new = new ≡ old
ServesOwn connection (suc k) old new =
    (middle : Hub) × ServesOwn connection k old middle × Serving connection middle new (Ok Served.Message) × (is_own connection new.concerned ≡ true)

-- how serving ends: by a message that concerned others too, where no message is whole, or by a refusal
abbrev pub ServeEnds : ℕ → ℕ → Hub → ℕ → ℕ → Result Served HubRefusal → Type 0
ServeEnds connection own new number served (Ok Served.Message) = (number ≡ number_of Done) × (served ≡ own + 1) × (is_own connection new.concerned ≡ false)
ServeEnds connection own new number served (Ok Served.Nothing) = (number ≡ number_of Nothing) × (served ≡ own)
ServeEnds connection own new number served (Err why) = (number ≡ number_of (Refused why)) × (served ≡ own)

-- what floor_serve gives: messages that concerned nobody else, as many as are asked for at most; and where these are fewer, one call more of the hub, by which it ends
pub record ServeGives (old : Hub) (connection most : ℕ) (new : Hub) (number served : ℕ) : Type 0 where
  pub own : ℕ
  pub before : Hub
  pub serves : ServesOwn connection own old before
  pub next :
      ((own ≡ most) × (new ≡ before) × (number ≡ number_of Done) × (served ≡ own))
      ⊎ ((own < most) × ((r : Result Served HubRefusal) × Serving connection before new r × ServeEnds connection own new number served r))

-- these parcels were taken, one after another
abbrev pub TakesEach : ℕ → List Parcel → Hub → Hub → Type 0
TakesEach connection [] old new = new ≡ old
TakesEach connection (parcel ∷ parcels) old new =
    (middle : Hub) × Taking connection old middle (Ok (Some parcel)) × TakesEach connection parcels middle new

-- nothing waits for the connection, or what waits first has more bytes than this
abbrev pub WaitsLonger : Hub → ℕ → ℕ → Type 0
WaitsLonger h connection left = MatchOption (first_at h (connection_at h.connections connection)) (Unit {0}) (λ p. left < length p.bytes)

-- How taking ends. Done: at least one parcel was taken, all of them lie at the front of the room, one behind the other, and the next one doesn't fit there; 4,294,967,295 are the most. Nothing: no
-- parcel waits. TooShort: the first one has more bytes than the room, and it is told how many. Refused: no live connection has the number.
abbrev pub TakeEnds : ℕ → List Parcel → Hub → ℕ → ℕ → List ℕ → Outcome → Type 0
TakeEnds connection taken new len size room Done =
    (1 ≤ length taken) × (len ≡ length (bytes_of taken)) × (len ≤ size) × (take len room ≡ bytes_of taken)
    × ((length taken ≡ 4294967295) ⊎ WaitsLonger new connection (size - len))
TakeEnds connection taken new len size room Nothing =
    (taken ≡ []) × ((connection_at new.connections connection ≡ None → ⊥) × (first_at new (connection_at new.connections connection) ≡ None))
TakeEnds connection taken new len size room TooShort =
    (taken ≡ []) × ((p : Parcel) × (first_at new (connection_at new.connections connection) ≡ Some p) × (len ≡ length p.bytes) × (size < len))
TakeEnds connection taken new len size room (Refused NoConnection) = (taken ≡ []) × (connection_at new.connections connection ≡ None)
TakeEnds connection taken new len size room outcome = ⊥

-- what floor_take gives
pub record TakeGives (old : Hub) (connection : ℕ) (new : Hub) (number parcels len size : ℕ) (room : List ℕ) : Type 0 where
  pub outcome : Outcome
  pub told : number ≡ number_of outcome
  pub taken : List Parcel
  pub count : parcels ≡ length taken
  pub takes : TakesEach connection taken old new
  pub ends : TakeEnds connection taken new len size room outcome

-- what floor_told gives: whom the last call concerned, where there is room for all, and how many they are; else nothing is written
pub record ToldGives (old new : Hub) (number count : ℕ) (before room : List ℕ) : Type 0 where
  pub same : new ≡ old
  pub all : count ≡ length old.concerned
  pub fits : length old.concerned ≤ length before → (number ≡ number_of Done) × (take (length old.concerned) room ≡ old.concerned)
  pub too_short : length before < length old.concerned → (number ≡ number_of TooShort) × (room ≡ before)

-- what floor_took gives
abbrev pub TookGives : Hub → ℕ → ℕ → Hub → ℕ → Type 0
TookGives old connection count new number =
    (r : Result (Unit {0}) HubRefusal) × (number ≡ number_of (outcome_of r)) × Acknowledging connection count old new r

-- what floor_leave gives
abbrev pub LeaveGives : Hub → ℕ → Hub → ℕ → Type 0
LeaveGives old connection new number = (r : Result (Unit {0}) HubRefusal) × (number ≡ number_of (outcome_of r)) × Leaving connection old new r

-- what floor_is_cut gives
abbrev pub CutGives : Hub → ℕ → Hub → Bool → Type 0
CutGives old connection new cut = (new ≡ old) × CutIs old (connection_at old.connections connection) cut

-- what floor_close, floor_revoke, floor_floor and floor_chair give
abbrev pub ActGives : Hub → ℕ → Act → Hub → ℕ → Type 0
ActGives old conference act new number = (r : Result (Unit {0}) HubRefusal) × (number ≡ number_of (outcome_of r)) × Acting conference act old new r

-- what floor_user gives: one of the texts isn't UTF-8, or memory was refused for them, and nothing has changed; or the hub's answer to the act
abbrev pub UserGives : Hub → ℕ → ℕ → Bool → List ℕ → List ℕ → Hub → ℕ → Type 0
UserGives old conference id proxy name uri new number =
    ((¬ (IsUtf8 name × IsUtf8 uri)) × (number ≡ number_of NotUtf8) × (new ≡ old))
    ⊎ ((IsUtf8 name × IsUtf8 uri)
    × (((number ≡ number_of (Refused Memory)) × (new ≡ old))
    ⊎ ActGives old conference (AddUser record { id = id; name = Some name; uri = Some uri; proxy = proxy; port = None }) new number))

-- an answer is written, where there is one and room for it, else nothing is, and its length is told: 0 where there is none
abbrev pub PutsReply : Option (List ℕ) → ℕ → List ℕ → List ℕ → Type 0
PutsReply None len before bytes = (len ≡ 0) × (bytes ≡ before)
PutsReply (Some reply) len before bytes =
    (len ≡ length reply) × (length reply ≤ length before → take (length reply) bytes ≡ reply) × (length before < length reply → bytes ≡ before)

-- what floor_say gives: the message's place and its answer, where it was said; where it wasn't, neither, and nothing is written
abbrev pub SayGives : Hub → ℕ → ℕ → List ℕ → Hub → ℕ → ℕ → ℕ → List ℕ → List ℕ → Type 0
SayGives old conference user message new number place len before bytes =
    (r : Result room.Said HubRefusal) × (number ≡ number_of (outcome_of r))
    × MatchResult r (λ v. (place ≡ v.place) × PutsReply v.reply len before bytes) (λ _. (place ≡ 0) × (len ≡ 0) × (bytes ≡ before))
    × Saying conference user message old new r

-- what floor_forget gives
abbrev pub ForgetGives : Hub → ℕ → Hub → ℕ → Type 0
ForgetGives old conference new number = (r : Result (Unit {0}) HubRefusal) × (number ≡ number_of (outcome_of r)) × Forgetting conference old new r

-- these are the numbers of how a conference stands
abbrev pub IsState : Status → ℕ → ℕ → ℕ → ℕ → ℕ → Type 0
IsState s number members ongoing events phase =
    (number ≡ number_of Done) × (members ≡ s.members) × (ongoing ≡ s.ongoing) × (events ≡ s.events) × (phase ≡ of_phase s.phase)

-- what floor_status gives
pub record StatusGives (old : Hub) (conference : ℕ) (new : Hub) (number members ongoing events phase : ℕ) : Type 0 where
  pub same : new ≡ old
  pub none : room_at old conference ≡ None → number ≡ number_of (Refused (forgotten_or_none (is_forgotten old conference)))
  pub found : (r : Room) → room_at old conference ≡ Some r → (s : Status) × IsStatus r.ledger s × IsState s number members ongoing events phase

-- nothing is left of the journal, or the next line has more bytes than this
abbrev pub GoesOnLonger : ℕ → List Event → ℕ → Type 0
GoesOnLonger place [] left = Unit {0}
GoesOnLonger place (event ∷ events) left = left < length (lines place (event ∷ []))

-- The lines of a journal behind the first so many events. Done: as many as fit lie at the front of the room. Nothing: there are no more events. TooShort: the first line has more bytes than the room,
-- and it is told how many. Memory was refused: nothing is said.
abbrev pub IsPiece : List Event → ℕ → ℕ → ℕ → ℕ → List ℕ → Outcome → Type 0
IsPiece journal done events len size room Done =
    (1 ≤ events) × (done + events ≤ length journal) × (len ≡ length (lines (done + 1) (take events (drop done journal)))) × (len ≤ size)
    × (take len room ≡ lines (done + 1) (take events (drop done journal)))
    × GoesOnLonger (done + events + 1) (drop (done + events) journal) (size - len)
IsPiece journal done events len size room Nothing = (length journal ≤ done) × (events ≡ 0) × (len ≡ 0)
IsPiece journal done events len size room TooShort =
    (done < length journal) × (events ≡ 0) × (len ≡ length (lines (done + 1) (take 1 (drop done journal)))) × (size < len)
IsPiece journal done events len size room (Refused Memory) = done < length journal
IsPiece journal done events len size room outcome = ⊥

-- what floor_journal gives
pub record JournalGives (old : Hub) (conference done : ℕ) (new : Hub) (number events len size : ℕ) (room : List ℕ) : Type 0 where
  pub same : new ≡ old
  pub none : room_at old conference ≡ None → number ≡ number_of (Refused (forgotten_or_none (is_forgotten old conference)))
  pub found : (r : Room) → room_at old conference ≡ Some r →
      (outcome : Outcome) × (number ≡ number_of outcome) × IsPiece r.ledger.journal done events len size room outcome
