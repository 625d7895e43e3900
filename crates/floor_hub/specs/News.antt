-- What the events of conferences that are watched change, gathered until it is cleared.
use Rattle.std.specs.Prelude.{◌≡◌, ℕ, ◌+◌, ◌==◌, ◌&&◌, not, nat_eq, Bool, false, List, [], ◌∷◌, filter}
use Rattle.std.specs.List.{list_any}
use Rattle.std.specs.Option.{option_map_or}
use Rattle.floor_machine.specs.Conference.{Conference, member_with}
use Rattle.floor_machine.specs.declared.event.Event.{Event}
use Rattle.floor_machine.specs.Machine.{infos_changed}
use Rattle.floor_machine.specs.Next.{next}
use Rattle.floor_hub.specs.declared.news.News.{News}

-- the conferences that are watched; what their events changed since it was cleared, in order; and whether memory was refused for some of it
pub record Gathered : Type 0 where
  pub watched : List ℕ
  pub news : List News
  pub missed : Bool

-- the number is one of these
abbrev pub has : List ℕ → ℕ → Bool
has numbers number = list_any (nat_eq number) numbers

-- of what was gathered what is of this conference
abbrev pub news_of : ℕ → List News → List News
news_of c news = filter (λ n. nat_eq c n.conference) news

-- n is live, and cut
abbrev pub is_live_cut : Conference → ℕ → Bool
is_live_cut s n = option_map_or (λ m. m.is_cut) (member_with s.members n) false

-- What an event changed that is taken in such a conference and stands at this place of its journal: what is shown of each request that it changed, and
-- whom it cut.
pub record IsNews (s : Conference) (at : ℕ) (e : Event) (n : News) : Type 0 where
  pub place : n.place ≡ at
  pub changed : n.changed.items ≡ infos_changed s e
  pub cut : (k : ℕ) → list_any (λ j. j == k) n.cut.items ≡ (is_live_cut (next s e) k && not (is_live_cut s k))

-- That is what these events changed, one after another, behind so many.
abbrev pub AreNews : Conference → ℕ → List Event → List News → Type 0
AreNews s count [] [] = Unit {0}
AreNews s count [] (n ∷ ns) = ⊥
AreNews s count (e ∷ es) [] = ⊥
AreNews s count (e ∷ es) (n ∷ ns) = IsNews s (count + 1) e n × AreNews (next s e) (count + 1) es ns
