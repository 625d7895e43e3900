-- A conference that goes on keeps the configuration that it was opened with.
use Rattle.std.proofs.Common.{◌≡◌, ◌∙◌, ℕ, List, [], ◌∷◌, Option, Some, None, Bool, true, false, ap, sym}
use Rattle.std.proofs.lemmas.Option.{none-some}
use Rattle.std.specs.Option.{option_map}
use Rattle.floor_config.specs.Configuration.{Configuration}
use Rattle.floor_machine.specs.declared.event.Event.{Event}
use Rattle.floor_room.specs.Room.{Room, new_room}
use Rattle.floor_hub.specs.declared.step.Step.{Step}
use Rattle.floor_hub.specs.Hub.{Hub, is_forgotten, room_at}
use Rattle.floor_hub.specs.Runs.{added, run}
use Rattle.floor_hub.specs.StandsFor.{ConferenceStands, StandsFor}
use Rattle.floor_hub.specs.World.{Part, World, turn}
use Rattle.floor_hub.proofs.Sent.{Grew, turn_grew}
use Rattle.floor_loop.specs.Done.{AnySteps, Steps}
use Rattle.floor_loop.specs.Resumed.{IsResumed}
use Rattle.floor_loop.specs.steps.Replayed.{HasJournal}

-- the configuration of a part
abbrev config_in : Option Part → Option Configuration
config_in z = option_map (λ p. p.config) z

grew-config : (z y : Option Part) (es : List Event) (config : Configuration) → Grew z y es → config_in z ≡ Some config → config_in y ≡ Some config
grew-config None y es config h e = absurd (none-some config e)
grew-config (Some p) None es config h e = absurd h
grew-config (Some p) (Some q) es config h e = ap Some h.0 ∙ e

-- steps leave it
run-config : (c : ℕ) (config : Configuration) (w : World) (ss : List Step) → config_in (w.parts c) ≡ Some config → config_in ((run w ss).parts c) ≡ Some config
run-config c config w [] e = e
run-config c config w (s ∷ ss) e = run-config c config (turn w s).world ss (grew-config (w.parts c) ((turn w s).world.parts c) (added c w s) config (turn_grew c w s) e)

-- the configuration of a room, and that of its part
room-config : (forgotten : Bool) (r : Option Room) (z : Option Part) (room : Room) (config : Configuration) → ConferenceStands forgotten r z → r ≡ Some room → config_in z ≡ Some config → room.ledger.config ≡ config
room-config true r z room config h there e = absurd (none-some room (sym h.0 ∙ there))
room-config false None z room config h there e = absurd (none-some room there)
room-config false (Some r) None room config h there e = absurd h
room-config false (Some r) (Some p) room config h there e = cc

part-config : (forgotten : Bool) (r : Option Room) (z : Option Part) (room : Room) → ConferenceStands forgotten r z → r ≡ Some room → config_in z ≡ Some room.ledger.config
part-config true r z room h there = absurd (none-some room (sym h.0 ∙ there))
part-config false None z room h there = absurd (none-some room there)
part-config false (Some r) None room h there = absurd h
part-config false (Some r) (Some p) room h there = cc

-- a hub that steps led to keeps the configuration of each conference that is opened
pub resumed-is : (mid new : Hub) (w : World) (config : Configuration) (events : List Event) → StandsFor mid w → room_at mid config.conference ≡ Some (new_room config) → Steps AnySteps mid new →
    HasJournal new config.conference events → IsResumed new config events
resumed-is mid new w config events stands opened steps h =
    let c = config.conference in
    let g = steps w stands in
    let before : config_in (w.parts c) ≡ Some config = part-config (is_forgotten mid c) (room_at mid c) (w.parts c) (new_room config) (stands.stands.conferences c) opened in
    let after : config_in ((run w g.steps).parts c) ≡ Some config = run-config c config w g.steps before in
    record {
      room = h.room;
      there = h.there;
      opening = room-config (is_forgotten new c) (room_at new c) ((run w g.steps).parts c) h.room config (g.stands.stands.conferences c) h.there after;
      journal = h.journal;
    }
