-- How a call gathers what its event changed.
use Rattle.std.specs.Prelude.{◌≡◌, ◌⊎◌, ◌<◌, ◌≤◌, ℕ, ◌==◌, not, true, false, List, [], ◌∷◌, ◌++◌, filter, length, Option, Some, None}
use Rattle.std.specs.List.{list_any}
use Rattle.floor_message.specs.declared.information.Info.{Info}
use Rattle.floor_machine.specs.Conference.{AreCut}
use Rattle.floor_room.specs.Ledger.{conference_of}
use Rattle.floor_room.specs.Room.{Room}
use Rattle.floor_hub.specs.declared.connection.Connection.{Connection}
use Rattle.floor_hub.specs.declared.news.Before.{Before}
use Rattle.floor_hub.specs.declared.news.News.{News}
use Rattle.floor_hub.specs.News.{Gathered, has}

-- this is how the conference of this room stood
abbrev pub Stood : Room → ℕ → Option Before → Type 0
Stood r c None = ⊥
Stood r c (Some b) =
    (b.conference ≡ c) × (b.events ≡ length r.ledger.journal) × (b.is_known ≡ true → r.ledger.is_broken ≡ false → AreCut (conference_of r.ledger).members b.cut.items)

-- the same of a conference's room, where the conference is watched
pub record IsBefore (watched : List ℕ) (room : Option Room) (c : ℕ) (b : Option Before) : Type 0 where
  pub unwatched : has watched c ≡ false → b ≡ None
  pub absent : room ≡ None → b ≡ None
  pub there : (r : Room) → room ≡ Some r → has watched c ≡ true → Stood r c b

-- the same of a connection's conference
abbrev pub IsBeforeOf : List ℕ → (ℕ → Option Room) → Option Connection → Option Before → Type 0
IsBeforeOf watched rooms None b = b ≡ None
IsBeforeOf watched rooms (Some x) b = IsBefore watched (rooms x.conference) x.conference b

-- This is what the last event of the room changed, where such is shown of what it changed.
pub record IsNewsIn (b : Before) (s : Room) (infos : List Info) (n : News) : Type 0 where
  pub known : b.is_known ≡ true
  pub conference : n.conference ≡ b.conference
  pub place : n.place ≡ length s.ledger.journal
  pub changed : n.changed.items ≡ infos
  pub now : List ℕ
  pub are_cut : s.ledger.is_broken ≡ false → AreCut (conference_of s.ledger).members now
  pub cut : n.cut.items ≡ filter (λ k. not (list_any (λ j. j == k) b.cut.items)) now

-- no event has come; or memory was refused for what it changed; or that was gathered
abbrev pub GathersIn : Before → Room → List Info → Gathered → Gathered → Type 0
GathersIn b s changed old new =
    ((length s.ledger.journal ≤ b.events) × (new ≡ old))
    ⊎ ((new ≡ record old { missed = true })
    ⊎ ((n : News) × (b.events < length s.ledger.journal) × IsNewsIn b s changed n × (new ≡ record old { news = old.news ++ n ∷ [] })))

abbrev pub GathersAt : Before → Option Room → List Info → Gathered → Gathered → Type 0
GathersAt b None changed old new = new ≡ old
GathersAt b (Some s) changed old new = GathersIn b s changed old new

-- the same of the conference of which it is known how it stood
abbrev pub GathersFor : Option Before → (ℕ → Option Room) → List Info → Gathered → Gathered → Type 0
GathersFor None rooms changed old new = new ≡ old
GathersFor (Some b) rooms changed old new = GathersAt b (rooms b.conference) changed old new
