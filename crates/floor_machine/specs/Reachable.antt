-- What holds of each conference that a journal leads to.
use Rattle.std.specs.Prelude.{◌≡◌, ◌≢◌, ◌≤◌, ℕ, ◌+◌, ◌==◌, if◌then◌else◌, Bool, true, false, List, [], ◌++◌, length, map, take, sum_by, count_by, All, IsTrue, None, is_some}
use Rattle.floor_config.specs.declared.floors.Floor.{Floor}
use Rattle.floor_config.specs.Configuration.{Configuration, IsConfiguration}
use Rattle.floor_config.specs.Lookup.{is_user}
use Rattle.floor_queue.specs.Order.{holders, position, room_of, settle}
use Rattle.floor_queue.specs.Queue.{is_ascending}
use Rattle.floor_message.specs.Ask.{Answer, asks, refused, unanswered, ask}
use Rattle.floor_machine.specs.declared.member.Member.{Member}
use Rattle.floor_machine.specs.Parcel.{Parcel}
use Rattle.floor_machine.specs.Conference.{Conference, backlog, binding, binding_for, is_cut, is_numbered_from, opening, user_of}
use Rattle.floor_machine.specs.declared.event.Event.{Event}
use Rattle.floor_machine.specs.declared.event.Event.TheVariants.{AddFloor, AddUser, Message, Say}
use Rattle.floor_machine.specs.Events.{acknowledged_by}
use Rattle.floor_machine.specs.Change.{IsLawful}
use Rattle.floor_machine.specs.Checks.{refusal}
use Rattle.floor_machine.specs.Said.{said}
use Rattle.floor_machine.specs.Journal.{IsJournal, after, parcels, parcels_from, sent_to}
use Rattle.floor_machine.specs.Next.{MAX_BACKLOG, next, told}

-- a floor, whatever its chair is
abbrev pub unchaired : Floor → Floor
unchaired f = record f { chair = None }

-- A configuration that began as the opening one: its conference, its limit and its connections are the same, and its users and floors begin with the
-- opening ones in their order, of which nothing but chairs has changed.
pub record HasGrown (opening now : Configuration) : Type 0 where
  pub conference : now.conference ≡ opening.conference
  pub limit : now.limit ≡ opening.limit
  pub connections : now.connections ≡ opening.connections
  pub users : take (length opening.users) now.users ≡ opening.users
  pub floors : map unchaired (take (length opening.floors) now.floors) ≡ map unchaired opening.floors

-- What a journal keeps: the configuration of now keeps its limits, has no doubles, and has grown from the opening one; the numbers of
-- the ongoing requests ascend, none above the number of requests that were accepted; at most 256 are ongoing; no floor has more
-- holders than room; the requests are settled; no queue position is above 255; the members are numbered 1, 2, .. in the order of
-- joining, and each one's user is a user; at most 64 of them are live; and none has a backlog above 1,024.
pub record IsReachable (config : Configuration) (s : Conference) : Type 0 where
  pub limits : IsConfiguration s.config
  pub grown : HasGrown config s.config
  pub ascending : IsTrue (is_ascending s.ongoing)
  pub numbers : All (λ r. (1 ≤ r.number) × (r.number ≤ s.given)) s.ongoing
  pub few : length s.ongoing ≤ 256
  pub room : (floor : ℕ) → holders s.ongoing floor ≤ room_of s.config.floors floor
  pub settled : settle s.config.floors s.ongoing ≡ s.ongoing
  pub positions : All (λ r. (floor : ℕ) → position s.config.floors s.ongoing r floor ≤ 255) s.ongoing
  pub numbered : IsTrue (is_numbered_from 1 s.members)
  pub users : All (λ m. IsTrue (is_user s.config m.user)) s.members
  pub live : count_by (λ m. m.is_live) s.members ≤ 64
  pub backlogs : All (λ m. m.backlog ≤ MAX_BACKLOG) s.members

-- each journal of a configuration leads to such a conference
abbrev pub Kept : Type 0
Kept = (config : Configuration) (es : List Event) → IsConfiguration config → IsJournal config es → IsReachable config (after config es)

-- the message, as it is read, is refused by its form or by a check of its own, or is left unanswered
abbrev pub is_unaccepted : Conference → ℕ → Answer → Bool
is_unaccepted s user unanswered = true
is_unaccepted s user (refused code details) = true
is_unaccepted s user (asks a) = is_some (refusal s user a)

-- nothing is said of how far n is behind, and of whether n is cut
abbrev pub uncounted : ℕ → Member → Member
uncounted n m = if m.n == n then record m { backlog = 0; is_cut = false } else m

-- a conference, of which that isn't said
abbrev pub but_for : ℕ → Conference → Conference
but_for n s = record s { members = map (uncounted n) s.members }

-- such a message of n leaves the conference as it is, but for n's backlog and whether n is cut, and tells nobody but n anything
pub record LeavesAlone (s : Conference) (n : ℕ) (bytes : List ℕ) : Type 0 where
  pub next : but_for n (next s (Message n bytes)) ≡ but_for n s
  pub told : (k : ℕ) → k ≢ n → told s (Message n bytes) k ≡ []

-- after each journal, a message that isn't accepted leaves all but its sender alone
abbrev pub Quiet : Type 0
Quiet = (config : Configuration) (es : List Event) (n : ℕ) (bytes : List ℕ) → IsConfiguration config → IsJournal config es →
    (let s = after config es in is_unaccepted s (user_of s n) (ask bytes (binding s n)) ≡ true → LeavesAlone s n bytes)

-- such a message that is said leaves the whole conference as it is, and tells nobody anything
pub record LeavesAll (s : Conference) (user : ℕ) (bytes : List ℕ) : Type 0 where
  pub next : next s (Say user bytes) ≡ s
  pub told : (k : ℕ) → told s (Say user bytes) k ≡ []

-- after each journal, a message that is said and isn't accepted leaves all as it is
abbrev pub SaidQuiet : Type 0
SaidQuiet = (config : Configuration) (es : List Event) (user : ℕ) (bytes : List ℕ) → IsConfiguration config → IsJournal config es →
    (let s = after config es in is_unaccepted s user (said bytes (binding_for s user)) ≡ true → LeavesAll s user bytes)

-- the event adds a user or a floor
abbrev pub is_growth : Event → Bool
is_growth (AddUser user) = true
is_growth (AddFloor floor) = true
is_growth _ = false

-- such an event changes nothing but the configuration, and tells nobody anything
pub record GrowsAlone (s : Conference) (e : Event) : Type 0 where
  pub next : next s e ≡ record s { config = (next s e).config }
  pub told : (n : ℕ) → told s e n ≡ []

-- after each journal, a user or a floor that is added changes and tells nothing else
abbrev pub Grown : Type 0
Grown = (config : Configuration) (es : List Event) (e : Event) → IsConfiguration config → IsJournal config es → is_growth e ≡ true →
    IsLawful (after config es) e → GrowsAlone (after config es) e

-- the bytes of the parcels to n, of all that a journal calls for, are those that it calls for at n
abbrev pub Sent : Type 0
Sent = (config : Configuration) (es : List Event) (n : ℕ) → IsJournal config es →
    map (λ (p : Parcel). p.bytes) (sent_to n (parcels_from (opening config) es)) ≡ parcels config es n

-- how many of the messages to n a journal acknowledges
abbrev pub acknowledged : List Event → ℕ → ℕ
acknowledged es n = sum_by (acknowledged_by n) es

-- what a journal calls for at n is what it acknowledges, and the backlog of n
abbrev pub Counted : Type 0
Counted = (config : Configuration) (es : List Event) (n : ℕ) → IsJournal config es →
    length (parcels config es n) ≡ acknowledged es n + backlog (after config es) n

-- whoever is cut is told nothing more, whatever happens
abbrev pub Silent : Type 0
Silent = (config : Configuration) (es fs : List Event) (n : ℕ) → IsJournal config (es ++ fs) → is_cut (after config es) n ≡ true →
    parcels config (es ++ fs) n ≡ parcels config es n

-- whoever is cut stays so, whatever happens
abbrev pub StaysCut : Type 0
StaysCut = (s : Conference) (e : Event) (n : ℕ) → is_cut s n ≡ true → is_cut (next s e) n ≡ true
