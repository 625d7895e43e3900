-- What calls of the hub have gathered for whoever watches.
use Rattle.std.specs.Prelude.{◌≡◌, ℕ, ◌++◌, Bool, true, false, List, [], length, Some}
use Rattle.floor_machine.specs.declared.event.Event.{Event}
use Rattle.floor_room.specs.Ledger.{conference_of}
use Rattle.floor_room.specs.Room.{Room}
use Rattle.floor_hub.specs.declared.news.News.{News}
use Rattle.floor_hub.specs.News.{AreNews, news_of}
use Rattle.floor_hub.specs.Hub.{Hub, is_watched, room_at}

-- The journal of a room that isn't broken off went on by these events, and of a conference that is watched, unless memory was refused for some of it, what was
-- gathered is what each of them changed.
pub record WentOn (c : ℕ) (is_watched missed : Bool) (added : List News) (r s : Room) : Type 0 where
  pub events : List Event
  pub config : s.ledger.config ≡ r.ledger.config
  pub journal : s.ledger.journal ≡ r.ledger.journal ++ events
  pub news : is_watched ≡ true → missed ≡ false → AreNews (conference_of r.ledger) (length r.ledger.journal) events (news_of c added)

-- The same of a room that may have been broken off; of a conference that isn't watched nothing was gathered.
pub record IsGathered (c : ℕ) (is_watched missed : Bool) (added : List News) (r s : Room) : Type 0 where
  pub broken : r.ledger.is_broken ≡ true → s.ledger.is_broken ≡ true
  pub went : s.ledger.is_broken ≡ false → WentOn c is_watched missed added r s
  pub unwatched : is_watched ≡ false → news_of c added ≡ []

-- Each room is there still, and what was gathered has come behind what was gathered before, whichever conferences they are of.
pub record Gathers (old new : Hub) : Type 0 where
  pub added : List News
  pub news : new.gathered.news ≡ old.gathered.news ++ added
  pub watched : new.gathered.watched ≡ old.gathered.watched
  pub missed : old.gathered.missed ≡ true → new.gathered.missed ≡ true
  pub rooms : (c : ℕ) (r : Room) → room_at old c ≡ Some r → (s : Room) × (room_at new c ≡ Some s) × IsGathered c (is_watched old c) new.gathered.missed added r s
