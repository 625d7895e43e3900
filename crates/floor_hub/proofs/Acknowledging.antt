-- A connection acknowledges some of what was told to it.
use Rattle.std.proofs.Common.{◌≡◌, ℕ, Option, Some, None, inr, refl, sym, ap, subst, ◌∙◌, ◌⊎◌}
use Rattle.std.specs.Prelude.{nat_eq, false, Result, Err, OnOk, IfErr, MatchResult}
use Rattle.floor_machine.specs.declared.event.Event.TheVariants.{Took as Takes}
use Rattle.floor_room.specs.Room.{Room}
use Rattle.floor_hub.specs.declared.connection.Connection.{Connection}
use Rattle.floor_hub.specs.declared.refusal.HubRefusal.{HubRefusal}
use Rattle.floor_hub.specs.declared.refusal.HubRefusal.TheVariants.{NoConnection}
use Rattle.floor_hub.specs.declared.step.Step.TheVariants.{Took}
use Rattle.floor_hub.specs.declared.step.Answer.{Answer}
use Rattle.floor_hub.specs.declared.step.Answer.TheVariants.{Done, Refused}
use Rattle.floor_hub.specs.World as world
use Rattle.floor_hub.specs.World.{Arrival, Part, Place, World, aim, offer, put, turn, turn_at}
use Rattle.floor_hub.proofs.Standing.{RoomsStand}
use Rattle.floor_hub.specs.steps.Serving.{EventIn}
use Rattle.floor_hub.proofs.Acting.{IsQuiet, acted, offered}
use Rattle.floor_hub.proofs.Here.{Here, WantsLive, gone, here}
use Rattle.floor_hub.proofs.Changed.{rooms_again}
use Rattle.floor_hub.specs.Calls.{IsWant}

quiet-took : (n k : ℕ) → IsQuiet (Takes n k)
quiet-took n k = λ m. refl

wants_took : (many : ℕ) → WantsLive (λ n. Took n many)
wants_took many None n e = refl
wants_took many (Some p) n e = ap (world.took p n many) e

module _ (rooms now : ℕ → Option Room) (xs : ℕ → Option Connection) (k : ℕ) (w : World) (number many : ℕ) (st : RoomsStand rooms xs k w) where
  abbrev Turned : world.Turn → Answer → Type 0
  Turned t a = RoomsStand now xs k t.world × (t.answer ≡ a)

  abbrev Fails : world.Turn → HubRefusal → Type 0
  Fails t r = (IsWant t.answer r × RoomsStand now xs k w) ⊎ Turned t (Refused r)

  -- the step is that of the connection's own conference
  took_turn : (x : Connection) (h : Here rooms w number x) → turn w (Took number many) ≡ put w h.p.conference (offered (Takes h.p.n many) (w.parts h.p.conference))
  took_turn x h =
      ap (λ (y : Option Place). turn_at w (aim (λ n. Took n many) y)) h.at_place
      ∙ ap (λ (z : Option Part). put w h.p.conference (offer z (Took h.p.n many))) h.was
      ∙ ap (λ (z : Option Arrival). put w h.p.conference (world.took h.part h.p.n many z)) h.alive
      ∙ ap (λ (z : Option Part). put w h.p.conference (offered (Takes h.p.n many) z)) (sym h.was)

  -- what acknowledging is in the world
  pub took_result : (res : Result (Unit {0}) HubRefusal) (y : Option Connection) → xs number ≡ y →
      (xs number ≡ None → (res ≡ Err NoConnection) × ((d : ℕ) → now d ≡ rooms d)) →
      ((x : Connection) → xs number ≡ Some x → (r : Room) → rooms x.conference ≡ Some r → (new : Room) × (now x.conference ≡ Some new)
      × ((d : ℕ) → nat_eq x.conference d ≡ false → now d ≡ rooms d) × EventIn (Takes x.n many) r new res) →
      MatchResult res (λ _. Turned (turn w (Took number many)) Done) (Fails (turn w (Took number many)))
  took_result res None is absent there =
      let a = absent is in
      let g = gone rooms xs k w (λ n. Took n many) (wants_took many) number st is in
      let stands : RoomsStand now xs k (turn w (Took number many)).world = rooms_again rooms now xs k (turn w (Took number many)).world (turn w (Took number many)).world.parts a.1 (λ d. refl) g.0 in
      subst (λ (z : Result (Unit {0}) HubRefusal). MatchResult z (λ _. Turned (turn w (Took number many)) Done) (Fails (turn w (Took number many)))) (sym a.0) (inr (stands, g.1))
  took_result res (Some x) is absent there =
      let h = here rooms xs k w number x st is in
      let t = there x is h.r (ap rooms h.conference ∙ h.room) in
      let done : EventIn (Takes h.p.n many) h.r t.0 res = subst (λ (i : ℕ). EventIn (Takes i many) h.r t.0 res) h.n t.3 in
      subst (λ (u : world.Turn). MatchResult res (λ _. Turned u Done) (Fails u)) (sym (took_turn x h))
      (acted rooms now xs k w h.p.conference (Takes h.p.n many) (quiet-took h.p.n many) st res (Some h.r) h.room
      (λ none. absurd (let clash : Some h.r ≡ None = sym h.room ∙ none in cc))
      (λ r is_r. let same : r ≡ h.r = some_same r h.r (sym is_r ∙ h.room) in
      subst (λ (q : Room). (new : Room) × (now h.p.conference ≡ Some new) × ((d : ℕ) → nat_eq h.p.conference d ≡ false → now d ≡ rooms d)
      × OnOk res (Rattle.floor_room.specs.Calls.Applied q new (Takes h.p.n many)) × IfErr res (Rattle.floor_hub.proofs.Acting.FailedAt rooms now xs k w h.p.conference (Takes h.p.n many) (quiet-took h.p.n many) st q new)) (sym same)
      (t.0, ap now (sym h.conference) ∙ t.1, (λ d ne. t.2 d (ap (λ (i : ℕ). nat_eq i d) h.conference ∙ ne)), done.0, done.1)))
    where
      some_same : (a b : Room) → ◌≡◌ {A = Option Room} (Some a) (Some b) → a ≡ b
      some_same a b e = cc
