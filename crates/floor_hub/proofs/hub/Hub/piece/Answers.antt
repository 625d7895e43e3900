use Rattle.floor_hub.proofs.Pieces.{piece_result}
use Rattle.std.proofs.Common.{◌≡◌, ◌++◌, ℕ, Some, refl, sym, ◌∙◌, subst}
use Rattle.std.specs.Prelude.{Err, MatchResult, Ok, OnErr, Result}
use Rattle.floor_hub.specs.declared.refusal.HubRefusal.{HubRefusal}
use Rattle.floor_hub.specs.declared.refusal.HubRefusal.TheVariants.{Memory as NoMemory, NoConnection}
use Rattle.floor_hub.specs.declared.step.Step.TheVariants.{Piece}
use Rattle.floor_hub.specs.declared.step.Answer.TheVariants.{Done}
use Rattle.floor_hub.specs.Connections.{Puts, SameConnections, SamePlace, StayLive, connection_at}
use Rattle.floor_hub.specs.Hub.{Hub, room_at}
use Rattle.floor_hub.specs.StandsFor.{StandsFor, Stood}
use Rattle.floor_hub.specs.Calls.{FailsSame, Turns}
use Rattle.floor_hub.specs.World.{IsIdle, turn, World}
use Rattle.floor_hub.proofs.Closing.{ended, good, stood}
use Rattle.floor_hub.proofs.Outboxes.{WasThere, grows-same, keeps-outboxes, were-of, were-same}
use Rattle.floor_hub.proofs.Recalling.{Remembers, recalled, recalls, remembers}
use Rattle.floor_hub.proofs.hub.Hub.piece.Goals as goal
use Rattle.floor_hub.specs.declared.step.Answer.{Answer}
use Rattle.floor_hub.proofs.Attaching.{attached-same, place-same, places-of}

abbrev old : goal.After-push_at → Hub
old c = record { rooms = c.self.inside.rooms.entries; connections = c.self.inside.connections; arrivals = c.self.inside.arrivals; concerned = c.self.inside.concerned.numbers; changed = c.self.inside.effects.changed.items; forgotten = c.self.inside.forgotten.keys; gathered = c.self.inside.gathered }

abbrev new : goal.After-push_at → Hub
new c = record { rooms = c.self.inside.rooms.entries; connections = c.push_at.new.connections; arrivals = c.self.inside.arrivals; concerned = c.self.inside.concerned.numbers; changed = c.self.inside.effects.changed.items; forgotten = c.self.inside.forgotten.keys; gathered = c.self.inside.gathered }

abbrev Want : Answer → HubRefusal → Type 0
Want answer r = (r ≡ NoMemory) × (¬ IsIdle answer)

were : (c : goal.After-push_at) (res : Result (Unit {0}) HubRefusal) → c.push_at.result ≡ res → (k : ℕ) → WasThere (connection_at (old c).connections k) (connection_at (new c).connections k)
were c (Err r) is = were-same (old c).connections (new c).connections (subst (λ (z : Result (Unit {0}) HubRefusal). OnErr z (SameConnections (old c).connections (new c).connections)) is c.push_at.ensures.left)
were c (Ok v) is = were-of (old c).connections (new c).connections c.args.number (connection_at (old c).connections c.args.number) refl
    (λ none. absurd (ok_err v (sym is ∙ c.push_at.ensures.absent none)))
    (λ x there. (
      Some (record { conference = x.conference; n = x.n; held = x.held ++ c.args.bytes.now }),
      (refl, refl),
      subst (λ (z : Result (Unit {0}) HubRefusal). MatchResult z (λ _. Puts (old c).connections (new c).connections c.args.number (Some (record { conference = x.conference; n = x.n; held = x.held ++ c.args.bytes.now }))) (λ r. r ≡ NoMemory)) is
          (c.push_at.ensures.there x there),
    ))
  where
    ok_err : (v : Unit {0}) → ◌≡◌ {A = Result (Unit {0}) HubRefusal} (Ok v) (Err NoConnection) → ⊥
    ok_err v e = cc

remember : (c : goal.After-push_at) (w : World) → StandsFor (old c) w → Remembers (old c) (new c)
remember c w st = remembers (old c) (new c) w st refl (λ d e none. none) (were c c.push_at.result refl)

turns : (c : goal.After-push_at) (w : World) → StandsFor (old c) w → MatchResult c.push_at.result (λ v. Turns (new c) w (Piece c.args.number c.args.bytes.now) (Done)) (λ r. FailsSame (new c) w (Piece c.args.number c.args.bytes.now) r)
turns c w st =
    ended (old c) (new c) w w st (remember c w st) (Piece c.args.number c.args.bytes.now) (Want (turn w (Piece c.args.number c.args.bytes.now)).answer) (λ v. Done) tt (good (old c) w st) c.push_at.result
    (piece_result (recalled (old c) (old c) w) c.self.inside.connections c.push_at.new.connections c.self.inside.arrivals w c.args.number c.args.bytes.now c.push_at.result
    (connection_at c.self.inside.connections c.args.number) refl (recalls (old c) w st) c.push_at.ensures.absent c.push_at.ensures.there c.push_at.ensures.left)

still_stood : (c : goal.After-push_at) → Stood (new c)
still_stood c =
    let w = c.self.invariant.stood.0 in
    stood (new c) w w (Piece c.args.number c.args.bytes.now) (Want (turn w (Piece c.args.number c.args.bytes.now)).answer) (λ v. Done) c.push_at.result (turns c w c.self.invariant.stood.1)
    (keeps-outboxes (old c) (new c) (λ d. grows-same (room_at (old c) d) (room_at (new c) d) refl) (were c c.push_at.result refl) c.self.invariant.stood.2)

places : (c : goal.After-push_at) (res : Result (Unit {0}) HubRefusal) → c.push_at.result ≡ res → (k : ℕ) → SamePlace (connection_at (old c).connections k) (connection_at (new c).connections k)
places c (Err r) is k = place-same (connection_at (old c).connections k) (connection_at (new c).connections k) (subst (λ (z : Result (Unit {0}) HubRefusal). OnErr z (SameConnections (old c).connections (new c).connections)) is c.push_at.ensures.left k)
places c (Ok v) is k = places-of (old c).connections (new c).connections c.args.number (connection_at (old c).connections c.args.number) refl
    (λ none. absurd (ok_err v (sym is ∙ c.push_at.ensures.absent none)))
    (λ x there. (
      record { conference = x.conference; n = x.n; held = x.held ++ c.args.bytes.now },
      refl,
      refl,
      subst (λ (z : Result (Unit {0}) HubRefusal). MatchResult z (λ _. Puts (old c).connections (new c).connections c.args.number (Some (record { conference = x.conference; n = x.n; held = x.held ++ c.args.bytes.now }))) (λ r. r ≡ NoMemory)) is
          (c.push_at.ensures.there x there),
    )) k
  where
    ok_err : (v : Unit {0}) → ◌≡◌ {A = Result (Unit {0}) HubRefusal} (Ok v) (Err NoConnection) → ⊥
    ok_err v e = cc

pub invariant_of-self : goal.invariant_of-self
invariant_of-self c = record {
  stood = still_stood c;
  attached = attached-same c.self.inside.concerned c.self.inside.concerned (connection_at (old c).connections) (connection_at (new c).connections) (λ d. refl) (places c c.push_at.result refl) c.self.invariant.attached;
  known = c.self.invariant.known;
}

pub returns-clause-connections : goal.returns-clause-connections
returns-clause-connections c = subst (λ h. StayLive h.connections (new c).connections) c.self.view_is (places c c.push_at.result refl)

pub returns-clause-next : goal.returns-clause-next
returns-clause-next c = λ w st. turns c w (subst (λ h. StandsFor h w) (sym c.self.view_is) st)
