-- A step that is refused, or that finds no message, changes nothing.
use Rattle.std.proofs.Common.{◌≡◌, ℕ, Bool, true, false, List, refl, sym, ◌∙◌, subst, Some, None}
use Rattle.std.specs.Prelude.{Option, not, ◌==◌, nat_eq}
use Rattle.std.specs.Map.{update}
use Rattle.std.proofs.lemmas.Bool.{eqb-true, eqb-false}
use Rattle.std.proofs.lemmas.Map.{update_here, update_apart}
use Rattle.floor_machine.specs.declared.event.Event.{Event}
use Rattle.floor_machine.specs.declared.event.Event.TheVariants.{Join, Message, Took as Takes, Say as Says}
use Rattle.floor_machine.specs.Machine.{event_of_act}
use Rattle.floor_room.specs.declared.refusal.RoomRefusal.{RoomRefusal}
use Rattle.floor_hub.specs.declared.refusal.HubRefusal.{HubRefusal}
use Rattle.floor_hub.specs.declared.step.Step.{Step}
use Rattle.floor_hub.specs.declared.step.Step.TheVariants.{Open, Attach, Piece, Serve, Took, Leave, Admin, Say}
use Rattle.floor_hub.specs.declared.step.Answer.{Answer}
use Rattle.floor_hub.specs.declared.step.Answer.TheVariants.{Done, Attached, Nothing, Served, Said, Refused}
use Rattle.floor_hub.specs.World as world
use Rattle.floor_hub.specs.World.{IsIdle, Aim, Arrival, Offered, Part, Place, World, aimed, numbered, offer, places_after, turn, turn_at}
use Rattle.floor_hub.specs.Laws.{IdleStays}

-- where what is offered is refused, or nothing, the part is as it was
abbrev Stays : Option Part → Offered → Type 0
Stays z o = IsIdle o.answer → o.part ≡ z

attach_stays : (p : Part) (user : ℕ) (r : Option RoomRefusal) → Stays (Some p) (world.attach p user r)
attach_stays p user None h = absurd h
attach_stays p user (Some r) h = refl

piece_stays : (p : Part) (n : ℕ) (bytes : List ℕ) (a : Option Arrival) → Stays (Some p) (world.piece p n bytes a)
piece_stays p n bytes None h = refl
piece_stays p n bytes (Some a) h = absurd h

message_stays : (p : Part) (n : ℕ) (a : Arrival) (m : List ℕ) (r : Option RoomRefusal) → Stays (Some p) (world.take_message p n a m r)
message_stays p n a m (Some r) = λ h. refl
message_stays p n a m None = λ h. absurd h

serve_stays : (p : Part) (n : ℕ) (a : Arrival) (m : Option (List ℕ)) → Stays (Some p) (world.serve_message p n a m)
serve_stays p n a None = λ h. refl
serve_stays p n a (Some m) = message_stays p n a m (world.refused p (Message n m))

ended_stays : (p : Part) (n : ℕ) (a : Arrival) (ended : Bool) → not (world.state_of p).is_open ≡ ended → Stays (Some p) (world.serve p n (Some a))
ended_stays p n a true e = rw e (λ h. refl)
ended_stays p n a false e = rw e (serve_stays p n a (world.unserved a))

any_serve_stays : (p : Part) (n : ℕ) (a : Option Arrival) → Stays (Some p) (world.serve p n a)
any_serve_stays p n None = λ h. refl
any_serve_stays p n (Some a) = ended_stays p n a (not (world.state_of p).is_open) refl

leave_stays : (p : Part) (n : ℕ) (a : Option Arrival) → Stays (Some p) (world.leave p n a)
leave_stays p n None h = refl
leave_stays p n (Some a) h = absurd h

added_stays : (p : Part) (e : Event) (r : Option RoomRefusal) → Stays (Some p) (world.add_event p e r)
added_stays p e None h = absurd h
added_stays p e (Some r) h = refl

took_stays : (p : Part) (n k : ℕ) (a : Option Arrival) → Stays (Some p) (world.took p n k a)
took_stays p n k None h = refl
took_stays p n k (Some a) h = added_stays p (Takes n k) (world.refused p (Takes n k)) h

said_stays : (p : Part) (user : ℕ) (bytes : List ℕ) (r : Option HubRefusal) → Stays (Some p) (world.say p user bytes r)
said_stays p user bytes None h = absurd h
said_stays p user bytes (Some r) h = refl

offer_stays : (z : Option Part) (s : Step) → Stays z (offer z s)
offer_stays None (Open config) h = absurd h
offer_stays None (Attach c user) h = refl
offer_stays None (Piece n bytes) h = refl
offer_stays None (Serve n) h = refl
offer_stays None (Took n k) h = refl
offer_stays None (Leave n) h = refl
offer_stays None (Admin c act) h = refl
offer_stays None (Say c user bytes) h = refl
offer_stays (Some p) (Open config) h = refl
offer_stays (Some p) (Attach c user) h = attach_stays p user (world.refused p (Join user)) h
offer_stays (Some p) (Piece n bytes) h = piece_stays p n bytes (world.if_live (world.arrival p n)) h
offer_stays (Some p) (Serve n) h = any_serve_stays p n (world.if_live (world.arrival p n)) h
offer_stays (Some p) (Took n k) h = took_stays p n k (world.if_live (world.arrival p n)) h
offer_stays (Some p) (Leave n) h = leave_stays p n (world.if_live (world.arrival p n)) h
offer_stays (Some p) (Admin c act) h = added_stays p (event_of_act act) (world.refused p (event_of_act act)) h
offer_stays (Some p) (Say c user bytes) h = said_stays p user bytes (world.unsaid (world.refused p (Says user bytes)) (world.is_message bytes)) h

idle_within : (ps : List Place) (answer : Answer) → IsIdle (numbered ps answer) → IsIdle answer
idle_within ps (Attached n) h = h
idle_within ps Done h = h
idle_within ps Nothing h = h
idle_within ps Served h = h
idle_within ps (Said v) h = h
idle_within ps (Refused r) h = h

places_stay : (ps : List Place) (c : ℕ) (answer : Answer) → IsIdle answer → places_after ps c answer ≡ ps
places_stay ps c (Attached n) h = absurd h
places_stay ps c Done h = absurd h
places_stay ps c Nothing h = refl
places_stay ps c Served h = absurd h
places_stay ps c (Said v) h = absurd h
places_stay ps c (Refused r) h = refl

turn_stays : (w : World) (x : Option Aim) → IsIdle (turn_at w x).answer → ((c : ℕ) → (turn_at w x).world.parts c ≡ w.parts c) × ((turn_at w x).world.places ≡ w.places)
turn_stays w None h = (λ c. refl, refl)
turn_stays w (Some a) h =
    let o : Offered = offer (w.parts a.conference) a.step in
    let idle : IsIdle (offer (w.parts a.conference) a.step).answer = idle_within w.places (offer (w.parts a.conference) a.step).answer h in
    (λ c. by c (a.conference == c) refl (offer_stays (w.parts a.conference) a.step idle), places_stay w.places a.conference (offer (w.parts a.conference) a.step).answer idle)
  where
    by : (c : ℕ) (t : Bool) → (a.conference == c) ≡ t → (offer (w.parts a.conference) a.step).part ≡ w.parts a.conference →
        update nat_eq w.parts a.conference (offer (w.parts a.conference) a.step).part c ≡ w.parts c
    by c true e same =
        subst (λ (i : ℕ). update nat_eq w.parts a.conference (offer (w.parts a.conference) a.step).part i ≡ w.parts i) (eqb-true a.conference c e)
        (update_here w.parts a.conference (offer (w.parts a.conference) a.step).part ∙ same)
    by c false e same = update_apart w.parts a.conference (offer (w.parts a.conference) a.step).part c (λ x. eqb-false a.conference c e (sym x))

pub idle_stays : IdleStays
idle_stays w s h = turn_stays w (aimed w s) h
