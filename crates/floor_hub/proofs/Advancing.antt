-- A step of a run is the world's, and all that was queued still waits.
use Rattle.std.proofs.Common.{◌≡◌, ◌≢◌, inl, inr, ℕ, ◌+◌, Bool, true, false, List, [], ◌∷◌, ◌++◌, length, refl, sym, ◌∙◌, ap, subst, Some, None}
use Rattle.std.specs.Prelude.{Option, Result, Ok, Err, IfOk, MatchResult, OnOk, OnErr, nat_eq}
use Rattle.std.proofs.lemmas.Option.{none-some}
use Rattle.floor_machine.specs.declared.event.Event.{Event}
use Rattle.floor_machine.specs.declared.machine.Refusal.TheVariants.{Memory}
use Rattle.floor_room.specs.declared.refusal.RoomRefusal.TheVariants.{Refused as ByMachine}
use Rattle.floor_room.specs.Outbox.{Outbox}
use Rattle.floor_room.specs.Room.{Room}
use Rattle.floor_config.specs.Configuration.{Configuration}
use Rattle.floor_hub.specs.declared.connection.Connection.{Connection}
use Rattle.floor_hub.specs.declared.connection.Place.{Place}
use Rattle.floor_hub.specs.declared.refusal.HubRefusal.{HubRefusal}
use Rattle.floor_hub.specs.declared.refusal.HubRefusal.TheVariants.{ByRoom}
use Rattle.floor_hub.specs.declared.running.Memory.{Memory as OutOfMemory}
use Rattle.floor_hub.specs.declared.step.Step.{Step}
use Rattle.floor_hub.specs.declared.step.Answer.{Answer}
use Rattle.floor_hub.specs.declared.step.Answer.TheVariants.{Done, Attached, Nothing, Served, Said, Refused}
use Rattle.floor_hub.specs.Hub.{Hub, is_forgotten, room_at}
use Rattle.floor_hub.specs.Rooms.{OneRoom, Opens, QueuesMore, RoomAfter, RoomAfterIn, RoomOf, SameHub, by_memory, refusal_in}
use Rattle.floor_hub.specs.steps.Running.{AreUntaken, AreWhole, Goes, IsRunning, place_of, IsRunOn}
use Rattle.floor_hub.specs.StandsFor.{ArrivalStands, ConferenceStands, NumberStands, StandsFor, live_at}
use Rattle.floor_hub.specs.Calls.{Fails, FailsGone, FailsSame, Turns}
use Rattle.floor_hub.specs.Connections.{connection_at}
use Rattle.floor_hub.proofs.Alone.{last_place}
use Rattle.std.proofs.lemmas.List.{map-append}
use Rattle.floor_hub.specs.declared.step.Step.TheVariants.{Attach}
use Rattle.floor_hub.specs.World as world
use Rattle.floor_hub.specs.World.{Aim, Arrival, World, nothing, place, aimed, numbered, offer, places_after, turn, turn_at}

-- the answer gives no number
abbrev pub NoNumber : Answer → Type 0
NoNumber (Attached n) = ⊥
NoNumber Done = Unit {0}
NoNumber Nothing = Unit {0}
NoNumber Served = Unit {0}
NoNumber (Said v) = Unit {0}
NoNumber (Refused r) = Unit {0}

-- only an attach that succeeds makes a place
places_at : (ps : List world.Place) (c : ℕ) (a : Answer) → NoNumber (numbered ps a) → places_after ps c a ≡ ps
places_at ps c (Attached n) h = absurd h
places_at ps c Done h = refl
places_at ps c Nothing h = refl
places_at ps c Served h = refl
places_at ps c (Said v) h = refl
places_at ps c (Refused r) h = refl

places_kept : (w : World) (x : Option Aim) → NoNumber (turn_at w x).answer → (turn_at w x).world.places ≡ w.places
places_kept w None h = refl
places_kept w (Some a) h = places_at w.places a.conference (offer (w.parts a.conference) a.step).answer h

no_want : (r : HubRefusal) → IsRunOn r → Some r ≢ by_memory
no_want r h e = h.1 (same r (ByRoom (ByMachine Memory)) e)
  where
    same : (x y : HubRefusal) → ◌≡◌ {A = Option HubRefusal} (Some x) (Some y) → x ≡ y
    same x y e = cc

pub fails_same : (new : Hub) (w : World) (s : Step) (r : HubRefusal) → IsRunOn r → FailsSame new w s r → Turns new w s (Refused r)
fails_same new w s r on (inl h) = absurd (on.0 h.0.0)
fails_same new w s r on (inr t) = t

pub fails : (new : Hub) (w : World) (s : Step) (r : HubRefusal) → IsRunOn r → Fails new w s r → Turns new w s (Refused r)
fails new w s r on (inl h) = elim h.0 [ inl e ↦ absurd (on.1 e.0) | inr e ↦ absurd (on.2 e) ]
fails new w s r on (inr t) = t

pub fails_gone : (new : Hub) (w : World) (s : Step) (r : HubRefusal) → IsRunOn r → FailsGone new w s r → Turns new w s (Refused r)
fails_gone new w s r on (inl h) = absurd (on.1 h.0.0)
fails_gone new w s r on (inr t) = t

-- a step that makes no place
pub further : {T : Type 0} (old new : Hub) (s : Step) (answer : T → Answer) (F : World → HubRefusal → Type 0) (res : Result T HubRefusal) (out : Result Answer OutOfMemory) (before : List Place) →
    ((v : T) → NoNumber (answer v)) →
    IfOk out (λ a. MatchResult res (λ v. a ≡ answer v) (λ r. (a ≡ Refused r) × IsRunOn r)) →
    ((w : World) → StandsFor old w → MatchResult res (λ v. Turns new w s (answer v)) (λ r. F w r)) →
    ((w : World) (r : HubRefusal) → IsRunOn r → F w r → Turns new w s (Refused r)) →
    (refusal_in res ≢ by_memory → AreWhole old → AreWhole new) →
    Goes old new before before s out
further old new s answer F res (Err m) before none said next fails whole = λ w h. tt
further old new s answer F (Ok v) (Ok a) before none said next fails whole = λ w h.
    let t = next w h.stands in
    (record { stands = t.0; places = h.places ∙ sym (places_kept w (aimed w s) (subst NoNumber (sym t.1) (none v))); whole = whole (λ w. none-some (ByRoom (ByMachine Memory)) w) h.whole }, t.1 ∙ sym said)
further old new s answer F (Err r) (Ok a) before none said next fails whole = λ w h.
    let t = fails w r said.1 (next w h.stands) in
    (record { stands = t.0; places = h.places ∙ sym (places_kept w (aimed w s) (subst NoNumber (sym t.1) tt)); whole = whole (no_want r said.1) h.whole }, t.1 ∙ sym said.0)

untaken_more : (os ps : List Outbox) → QueuesMore os ps → AreUntaken os → AreUntaken ps
untaken_more [] [] q h = tt
untaken_more [] (p ∷ ps) q h = (q.0, untaken_more [] ps q.1 tt)
untaken_more (o ∷ os) [] q h = absurd q
untaken_more (o ∷ os) (p ∷ ps) q h = (q.0 ∙ h.0, untaken_more os ps q.2 h.1)

whole_after : (shut_by why : Option HubRefusal) (own : List Event) (r s : Room) → why ≢ by_memory → RoomAfter shut_by why own r s → (r.ledger.is_broken ≡ false) × AreUntaken r.outboxes →
    (s.ledger.is_broken ≡ false) × AreUntaken s.outboxes
whole_after shut_by why own r s want after h = (by s.ledger.is_broken refl, untaken_more r.outboxes s.outboxes after.outboxes h.1)
  where
    true_false : true ≡ false → ⊥
    true_false e = cc

    by : (b : Bool) → s.ledger.is_broken ≡ b → s.ledger.is_broken ≡ false
    by false e = e
    by true e = elim (after.broken.0 e) [ inl t ↦ absurd (true_false (sym t ∙ h.0)) | inr w ↦ absurd (want w) ]

whole_in : (shut_by why : Option HubRefusal) (own : Room → List Event) (x y : Option Room) (s : Room) → why ≢ by_memory → RoomAfterIn shut_by why own x y → ((r : Room) → x ≡ Some r → (r.ledger.is_broken ≡ false) × AreUntaken r.outboxes) →
    y ≡ Some s → (s.ledger.is_broken ≡ false) × AreUntaken s.outboxes
whole_in shut_by why own None y s want after h is = absurd (none-some s (sym after.0 ∙ is))
whole_in shut_by why own (Some r) None s want after h is = absurd after
whole_in shut_by why own (Some r) (Some t) s want after h is = subst (λ (x : Room). (x.ledger.is_broken ≡ false) × AreUntaken x.outboxes) (same t s is) (whole_after shut_by why (own r) r t want after (h r refl))
  where
    same : (x y : Room) → ◌≡◌ {A = Option Room} (Some x) (Some y) → x ≡ y
    same x y e = cc

pub whole_one : (shut_by why : Option HubRefusal) (own : Room → List Event) (c : ℕ) (old new : Hub) → OneRoom shut_by why own c old new → new.forgotten ≡ old.forgotten → why ≢ by_memory → AreWhole old → AreWhole new
whole_one shut_by why own c old new one remembered want h = (λ d r is. by d r (nat_eq c d) refl is, remembered ∙ h.1)
  where
    by : (d : ℕ) (r : Room) (t : Bool) → nat_eq c d ≡ t → room_at new d ≡ Some r → (r.ledger.is_broken ≡ false) × AreUntaken r.outboxes
    by d r true e is =
        let same : c ≡ d = Rattle.std.proofs.lemmas.Bool.eqb-true c d e in
        whole_in shut_by why own (room_at old c) (room_at new c) r want one.own (h.0 c) (ap (room_at new) same ∙ is)
    by d r false e is = h.0 d r (sym (one.others d e) ∙ is)

pub whole_same : (old new : Hub) → ((c : ℕ) → room_at new c ≡ room_at old c) → new.forgotten ≡ old.forgotten → AreWhole old → AreWhole new
whole_same old new same remembered h = (λ c r is. h.0 c r (sym (same c) ∙ is), remembered ∙ h.1)

pub whole_of : (shut_by why : Option HubRefusal) (own : Connection → Room → List Event) (x : Option Connection) (old new : Hub) → RoomOf shut_by why own x old new → new.forgotten ≡ old.forgotten → why ≢ by_memory → AreWhole old → AreWhole new
whole_of shut_by why own None old new h remembered want = whole_same old new h.0.rooms remembered
whole_of shut_by why own (Some x) old new h remembered want = whole_one shut_by why (own x) x.conference old new h remembered want

pub whole_opens : (config : Configuration) (old new : Hub) → Opens config old new → new.forgotten ≡ old.forgotten → AreWhole old → AreWhole new
whole_opens config old new o remembered h = (λ d r is. by d r (nat_eq config.conference d) refl is, remembered ∙ h.1)
  where
    some : (x y : Room) → ◌≡◌ {A = Option Room} (Some x) (Some y) → x ≡ y
    some x y e = cc

    by : (d : ℕ) (r : Room) (t : Bool) → nat_eq config.conference d ≡ t → room_at new d ≡ Some r → (r.ledger.is_broken ≡ false) × AreUntaken r.outboxes
    by d r true e is =
        let same : config.conference ≡ d = Rattle.std.proofs.lemmas.Bool.eqb-true config.conference d e in
        subst (λ (x : Room). (x.ledger.is_broken ≡ false) × AreUntaken x.outboxes) (some _ r (sym o.room ∙ ap (room_at new) same ∙ is)) (refl, tt)
    by d r false e is = h.0 d r (sym (o.others d e) ∙ is)

pub whole_result : {T : Type 0} (res : Result T HubRefusal) (config : Configuration) (old new : Hub) → OnOk res (Opens config old new) → OnErr res (SameHub old new) → new.forgotten ≡ old.forgotten → AreWhole old → AreWhole new
whole_result (Ok v) config old new took left remembered = whole_opens config old new took remembered
whole_result (Err r) config old new took left remembered = whole_same old new left.rooms remembered

-- an attach that gives a number makes one place
abbrev NewPlace : List world.Place → ℕ → ℕ → Answer → Type 0
NewPlace ps c number a = (n : ℕ) × (places_after ps c a ≡ ps ++ record { conference = c; n = n } ∷ []) × (number ≡ length ps + 1)

new_place : (ps : List world.Place) (c number : ℕ) (a : Answer) → numbered ps a ≡ Attached number → NewPlace ps c number a
new_place ps c number (Attached n) e = (n, refl, same (length ps + 1) number e)
  where
    same : (x y : ℕ) → ◌≡◌ {A = Answer} (Attached x) (Attached y) → y ≡ x
    same x y e = cc
new_place ps c number Done e = absurd (none e)
  where
    none : Done ≡ Attached number → ⊥
    none e = cc
new_place ps c number Nothing e = absurd (none e)
  where
    none : Nothing ≡ Attached number → ⊥
    none e = cc
new_place ps c number Served e = absurd (none e)
  where
    none : Served ≡ Attached number → ⊥
    none e = cc
new_place ps c number (Said v) e = absurd (none e)
  where
    none : Said v ≡ Attached number → ⊥
    none e = cc
new_place ps c number (Refused r) e = absurd (none e)
  where
    none : Refused r ≡ Attached number → ⊥
    none e = cc

-- a live connection stands at its place
at_place : (rooms : ℕ → Option Room) (q : world.Place) (x : Connection) (a : Option Arrival) → ArrivalStands rooms q (Some x) a → (x.conference ≡ q.conference) × (x.n ≡ q.n)
at_place rooms q x None h = absurd h
at_place rooms q x (Some a) h = (h.0, h.1)

-- an attach makes its place
pub attached : (old new : Hub) (c user number : ℕ) (p : Place) (before : List Place) (x : Connection) →
    ((w : World) → StandsFor old w → Turns new w (Attach c user) (Attached number)) → (AreWhole old → AreWhole new) →
    connection_at new.connections number ≡ Some x → p.conference ≡ x.conference → p.n ≡ x.n →
    Goes old new before (before ++ p ∷ []) (Attach c user) (Ok (Attached number))
attached old new c user number p before x next whole there conference n = λ w h.
    let t : Turns new w (Attach c user) (Attached number) = next w h.stands in
    let made : NewPlace w.places c number (offer (w.parts c) (Attach c user)).answer = new_place w.places c number (offer (w.parts c) (Attach c user)).answer t.1 in
    let q : world.Place = record { conference = c; n = made.0 } in
    let here : place (turn w (Attach c user)).world.places number ≡ Some (record { conference = c; n = made.0 }) =
    ap (λ (ps : List world.Place). place ps number) made.1 ∙ last_place w.places (record { conference = c; n = made.0 }) number made.2 in
    let stands : ArrivalStands (room_at new) (record { conference = c; n = made.0 }) (Some x) (live_at (turn w (Attach c user)).world.parts (record { conference = c; n = made.0 })) =
    subst (λ (y : Option world.Place). NumberStands (room_at new) (turn w (Attach c user)).world.parts (Some x) y) here
    (subst (λ (z : Option Connection). NumberStands (room_at new) (turn w (Attach c user)).world.parts z (place (turn w (Attach c user)).world.places number)) there (t.0.stands.numbers number)) in
    let same : (x.conference ≡ c) × (x.n ≡ made.0) = at_place (room_at new) (record { conference = c; n = made.0 }) x (live_at (turn w (Attach c user)).world.parts (record { conference = c; n = made.0 })) stands in
    let is : place_of p ≡ record { conference = c; n = made.0 } =
    ap (λ (m : ℕ). record { conference = m; n = p.n }) (conference ∙ same.0) ∙ ap (λ (m : ℕ). record { conference = c; n = m }) (n ∙ same.1) in (
      record {
        stands = t.0;
        places =
            map-append place_of before (p ∷ [])
            ∙ ap (λ (ps : List world.Place). ps ++ place_of p ∷ []) h.places
            ∙ ap (λ (y : world.Place). w.places ++ y ∷ []) is
            ∙ sym made.1;
        whole = whole h.whole;
      },
      t.1,
    )

-- an attach that is refused
pub unattached : (old new : Hub) (s : Step) (r : HubRefusal) (out : Result Answer OutOfMemory) (before : List Place) →
    IfOk out (λ a. (a ≡ Refused r) × IsRunOn r) → ((w : World) → StandsFor old w → Fails new w s r) →
    (Some r ≢ by_memory → AreWhole old → AreWhole new) → Goes old new before before s out
unattached old new s r (Err m) before said next whole = λ w h. tt
unattached old new s r (Ok a) before said next whole = λ w h.
    let t : Turns new w s (Refused r) = fails new w s r said.1 (next w h.stands) in
    (record { stands = t.0; places = h.places ∙ sym (places_kept w (aimed w s) (subst NoNumber (sym t.1) tt)); whole = whole (no_want r said.1) h.whole }, t.1 ∙ sym said.0)

-- the first hub
pub starts : (h : Hub) → StandsFor h nothing → h.forgotten ≡ [] → IsRunning h [] nothing
starts h st remembered = record { stands = st; places = refl; whole = (λ c r is. by (is_forgotten h c) r (subst (λ (y : Option Room). ConferenceStands (is_forgotten h c) y None) is (st.stands.conferences c)), remembered) }
  where
    by : (b : Bool) (r : Room) → ConferenceStands b (Some r) None → (r.ledger.is_broken ≡ false) × AreUntaken r.outboxes
    by false r s = absurd s
    by true r s = absurd s.1
