use Rattle.floor_hub.proofs.Opening.{open_result}
use Rattle.std.proofs.Common.{◌≡◌, refl, sym, subst}
use Rattle.std.specs.Prelude.{MatchResult}
use Rattle.floor_hub.specs.declared.refusal.HubRefusal.{HubRefusal}
use Rattle.floor_hub.specs.declared.refusal.HubRefusal.TheVariants.{Memory as NoMemory}
use Rattle.floor_hub.specs.declared.step.Step.TheVariants.{Open}
use Rattle.floor_hub.specs.declared.step.Answer.TheVariants.{Done}
use Rattle.floor_hub.specs.Connections.{connection_at}
use Rattle.floor_hub.specs.Hub.{Hub, room_at}
use Rattle.floor_hub.specs.StandsFor.{StandsFor, Stood}
use Rattle.floor_hub.specs.Calls.{FailsSame, Turns}
use Rattle.floor_hub.specs.World.{IsIdle, turn, World}
use Rattle.floor_hub.proofs.Closing.{ended, good, stood}
use Rattle.floor_hub.proofs.Outboxes.{grows-opened, keeps-outboxes, were-same}
use Rattle.floor_hub.proofs.Recalling.{Remembers, opened-gone, recalled, recalled-left, recalled-open, recalls, remembers}
use Rattle.floor_hub.proofs.hub.Hub.open.Goals as goal
use Rattle.floor_hub.specs.steps.Attached.{AreKnown, live_in}
use Rattle.floor_hub.proofs.Naming.{known-opened}
use Rattle.floor_hub.specs.declared.step.Answer.{Answer}

abbrev old : goal.After-open_at → Hub
old c = record { rooms = c.self.inside.rooms.entries; connections = c.self.inside.connections; arrivals = c.self.inside.arrivals; concerned = c.self.inside.concerned.numbers; changed = c.self.inside.effects.changed.items; forgotten = c.self.inside.forgotten.keys; gathered = c.self.inside.gathered }

abbrev new : goal.After-open_at → Hub
new c = record { rooms = c.open_at.new.rooms.entries; connections = c.self.inside.connections; arrivals = c.self.inside.arrivals; concerned = c.self.inside.concerned.numbers; changed = c.self.inside.effects.changed.items; forgotten = c.self.inside.forgotten.keys; gathered = c.self.inside.gathered }

abbrev Want : Answer → HubRefusal → Type 0
Want answer r = (r ≡ NoMemory) × (¬ IsIdle answer)

remember : (c : goal.After-open_at) (w : World) → StandsFor (old c) w → Remembers (old c) (new c)
remember c w st =
    remembers (old c) (new c) w st refl (opened-gone (old c) (new c) w st c.args.config c.open_at.result c.open_at.ensures.done c.open_at.ensures.fresh c.open_at.ensures.left)
    (were-same (old c).connections (new c).connections (λ k. refl))

turns : (c : goal.After-open_at) (w : World) → StandsFor (old c) w → MatchResult c.open_at.result (λ v. Turns (new c) w (Open c.args.config) (Done)) (λ r. FailsSame (new c) w (Open c.args.config) r)
turns c w st =
    ended (old c) (new c) w w st (remember c w st) (Open c.args.config) (Want (turn w (Open c.args.config)).answer) (λ v. Done) c.open_at.ensures.range (good (old c) w st) c.open_at.result
    (open_result (recalled (old c) (old c) w) (recalled (old c) (new c) w) (connection_at c.self.inside.connections) c.self.inside.arrivals w c.args.config (recalls (old c) w st) c.open_at.result
    (recalled-open (old c) (new c) w st c.args.config c.open_at.result c.open_at.ensures.done c.open_at.ensures.fresh) (recalled-left (old c) (new c) w st c.args.config c.open_at.result c.open_at.ensures.left))

still_stood : (c : goal.After-open_at) → Stood (new c)
still_stood c =
    let w = c.self.invariant.stood.0 in
    stood (new c) w w (Open c.args.config) (Want (turn w (Open c.args.config)).answer) (λ v. Done) c.open_at.result (turns c w c.self.invariant.stood.1)
    (keeps-outboxes (old c) (new c) (grows-opened _ c.open_at.result c.args.config (old c) (new c) c.open_at.ensures.done c.open_at.ensures.left)
    (were-same (old c).connections (new c).connections (λ k. refl)) c.self.invariant.stood.2)

known : (c : goal.After-open_at) → AreKnown (room_at (new c)) (live_in c.self.inside.concerned)
known c = known-opened _ c.open_at.result c.args.config (old c) (new c) c.self.inside.concerned c.open_at.ensures.done c.open_at.ensures.left c.self.invariant.stood.2 c.self.invariant.attached c.self.invariant.known

pub invariant_of-self : goal.invariant_of-self
invariant_of-self c = record { stood = still_stood c; attached = c.self.invariant.attached; known = known c }

pub returns-clause-next : goal.returns-clause-next
returns-clause-next c = λ w st. turns c w (subst (λ h. StandsFor h w) (sym c.self.view_is) st)
