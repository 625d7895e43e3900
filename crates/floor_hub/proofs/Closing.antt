-- After each call the hub stands for a kept world.
use Rattle.std.proofs.Common.{◌≡◌, ◌⊎◌, inl, inr}
use Rattle.std.specs.Prelude.{Result, Ok, Err, MatchResult}
use Rattle.floor_hub.specs.declared.refusal.HubRefusal.{HubRefusal}
use Rattle.floor_hub.specs.declared.step.Step.{Step}
use Rattle.floor_hub.specs.declared.step.Answer.{Answer}
use Rattle.floor_hub.specs.declared.step.Answer.TheVariants.{Refused}
use Rattle.floor_hub.specs.Connections.{connection_at}
use Rattle.floor_hub.specs.Hub.{Hub}
use Rattle.floor_hub.specs.Kept.{IsKept, IsNumbered}
use Rattle.floor_hub.specs.Laws.{OpensNumbered}
use Rattle.floor_hub.specs.World.{World, turn}
use Rattle.floor_hub.specs.StandsFor.{HaveOutboxes, StandsFor, Stood}
use Rattle.floor_hub.specs.Calls.{Turns}
use Rattle.floor_hub.proofs.Keeping.{kept_turn}
use Rattle.floor_hub.proofs.Numbers.{numbered_turn}
use Rattle.floor_hub.proofs.Recalling.{Remembers, recalled, stands-recalled}
use Rattle.floor_hub.proofs.Standing.{RoomsStand}

-- some world that is stood for
pub record IsGood (w : World) : Type 0 where
  pub kept : IsKept w
  pub numbered : IsNumbered w

pub good : (h : Hub) (w : World) → StandsFor h w → IsGood w
good h w st = record { kept = st.kept; numbered = st.numbered }

pub good_next : (w : World) (s : Step) → OpensNumbered s → IsGood w → IsGood (turn w s).world
good_next w s bears g = record { kept = kept_turn w s g.kept; numbered = numbered_turn w s bears g.numbered }

-- the rooms of the new hub, with those that the old one had forgotten, are those of this world
abbrev pub StandsIn : Hub → Hub → World → World → Type 0
StandsIn old new w v = RoomsStand (recalled old new w) (connection_at new.connections) new.arrivals v

pub stands_good : (old new : Hub) (w v : World) → StandsFor old w → Remembers old new → IsGood v → StandsIn old new w v → StandsFor new v
stands_good old new w v was m g st = stands-recalled old new w v was m g.kept g.numbered st

module _ {T : Type 0} (old new : Hub) (w other : World) (was : StandsFor old w) (m : Remembers old new) (s : Step) (P : HubRefusal → Type 0) (f : T → Answer) (bears : OpensNumbered s) (h : IsGood other) where
  abbrev Done : Answer → Type 0
  Done a = StandsIn old new w (turn w s).world × ((turn w s).answer ≡ a)

  pub ended : (res : Result T HubRefusal) → MatchResult res (λ v. Done (f v)) (λ r. (P r × StandsIn old new w other) ⊎ Done (Refused r)) →
      MatchResult res (λ v. Turns new w s (f v)) (λ r. (P r × StandsFor new other) ⊎ Turns new w s (Refused r))
  ended (Ok v) d = (stands_good old new w (turn w s).world was m (good_next w s bears (good old w was)) d.0, d.1)
  ended (Err r) (inl d) = inl (d.0, stands_good old new w other was m h d.1)
  ended (Err r) (inr d) = inr (stands_good old new w (turn w s).world was m (good_next w s bears (good old w was)) d.0, d.1)

-- so some world is stood for, where each live connection has its outbox
pub stood : {T : Type 0} (new : Hub) (w other : World) (s : Step) (P : HubRefusal → Type 0) (f : T → Answer) (res : Result T HubRefusal) →
    MatchResult res (λ v. Turns new w s (f v)) (λ r. (P r × StandsFor new other) ⊎ Turns new w s (Refused r)) → HaveOutboxes new → Stood new
stood new w other s P f (Ok v) m h = ((turn w s).world, m.0, h)
stood new w other s P f (Err r) (inl m) h = (other, m.1, h)
stood new w other s P f (Err r) (inr m) h = ((turn w s).world, m.0, h)
