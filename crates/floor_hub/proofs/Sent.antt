-- What a step adds to a part, and what steps send: what their events call for.
use Rattle.std.proofs.Common.{◌≡◌, ℕ, ◌+◌, Bool, true, false, List, [], ◌∷◌, ◌++◌, length, refl, sym, ◌∙◌, ap, subst, append_assoc, Some, None}
use Rattle.std.specs.Prelude.{Option, not, ◌&&◌, is_some, if◌then◌else◌, ◌==◌, map}
use Rattle.std.specs.Option.{option_map, option_map_or}
use Rattle.std.proofs.lemmas.List.{append-nil}
use Rattle.std.proofs.lemmas.Option.{none-some}
use Rattle.std.proofs.lemmas.Bool.{eqb-true, eq-eqb}
use Rattle.floor_config.specs.Configuration.{Configuration}
use Rattle.floor_machine.specs.declared.event.Event.{Event}
use Rattle.floor_machine.specs.declared.event.Event.TheVariants.{Join, Message, Took as Takes, Leave as Leaves, Say as Says}
use Rattle.floor_machine.specs.declared.machine.Refusal.TheVariants.{Ended}
use Rattle.floor_room.specs.declared.refusal.RoomRefusal.TheVariants.{JournalFull, Refused as ByMachine}
use Rattle.floor_room.specs.declared.refusal.RoomRefusal.{RoomRefusal}
use Rattle.floor_hub.specs.declared.refusal.HubRefusal.TheVariants.{NoConnection}
use Rattle.std.specs.List.{concat}
use Rattle.std.proofs.lemmas.List.{map-append}
use Rattle.floor_machine.specs.Conference.{Conference}
use Rattle.floor_machine.specs.Outgoing.{Outgoing, outgoing_bytes}
use Rattle.floor_machine.specs.Machine.{event_of_act}
use Rattle.floor_machine.specs.Journal.{after_from, told_from, parcels, Q}
use Rattle.floor_machine.specs.Next.{next, told}
use Rattle.floor_hub.specs.declared.refusal.HubRefusal.{HubRefusal}
use Rattle.floor_hub.specs.declared.refusal.HubRefusal.TheVariants.{ByRoom}
use Rattle.floor_hub.specs.declared.step.Step.{Step}
use Rattle.floor_hub.specs.declared.step.Step.TheVariants.{Open, Attach, Piece, Serve, Took, Leave, Admin, Say}
use Rattle.floor_hub.specs.declared.step.Answer.{Answer}
use Rattle.floor_hub.specs.declared.step.Answer.TheVariants.{Done, Attached, Nothing, Served, Said, Refused}
use Rattle.floor_hub.specs.World as world
use Rattle.floor_hub.specs.World.{Part, Arrival, World, Place, Aim, Turn, Offered, offer, turn, turn_at, aimed, put, nothing, numbered}
use Rattle.floor_hub.specs.Runs.{run, events_in, added, adds, adds_in, adds_to, parcels_after, sends, sent}
use Rattle.floor_hub.specs.Laws.{ConfigurationStays, QueuedIsCalledFor, StepAdds, TwoWorlds}

after_append : (s : Conference) (es fs : List Event) → after_from s (es ++ fs) ≡ after_from (after_from s es) fs
after_append s [] fs = refl
after_append s (e ∷ es) fs = after_append (next s e) es fs

told_append : (s : Conference) (es fs : List Event) (n : ℕ) → told_from s (es ++ fs) n ≡ told_from s es n ++ told_from (after_from s es) fs n
told_append s [] fs n = refl
told_append s (e ∷ es) fs n = ap (λ (ps : List Outgoing). told s e n ++ ps) (told_append (next s e) es fs n) ∙ sym (append_assoc (told s e n) _ _)

pub parcels_append : (s : Conference) (es fs : List Event) (n : ℕ) → parcels_after s (es ++ fs) n ≡ parcels_after s es n ++ parcels_after (after_from s es) fs n
parcels_append s es fs n = ap (map outgoing_bytes) (told_append s es fs n) ∙ map-append outgoing_bytes (told_from s es n) (told_from (after_from s es) fs n)

-- the part after a step has these events more
pub record Adds (p : Part) (s : Step) (o : Offered) : Type 0 where
  pub part : Part
  pub is : o.part ≡ Some part
  pub config : part.config ≡ p.config
  pub events : part.events ≡ p.events ++ adds p s o.answer

stays : (p : Part) (s : Step) (answer : Answer) → adds p s answer ≡ [] → Adds p s (record { part = Some p; answer = answer })
stays p s answer e = record { part = p; is = refl; config = refl; events = sym (ap (λ es. p.events ++ es) e ∙ append-nil p.events) }

attach_adds : (p : Part) (c user : ℕ) (r : Option RoomRefusal) → Adds p (Attach c user) (world.attach p user r)
attach_adds p c user None = record { part = world.joined p user; is = refl; config = refl; events = refl }
attach_adds p c user (Some r) = stays p (Attach c user) (Refused (ByRoom r)) refl

piece_adds : (p : Part) (n : ℕ) (bytes : List ℕ) (a : Option Arrival) → Adds p (Piece n bytes) (world.piece p n bytes a)
piece_adds p n bytes None = stays p (Piece n bytes) (Refused NoConnection) refl
piece_adds p n bytes (Some a) = record { part = _; is = refl; config = refl; events = sym (append-nil p.events) }

message_adds : (p : Part) (n : ℕ) (a : Arrival) (m : List ℕ) (r : Option RoomRefusal)
    → world.arrival p n ≡ Some a → world.unserved a ≡ Some m → Adds p (Serve n) (world.take_message p n a m r)
message_adds p n a m (Some r) h g = stays p (Serve n) (Refused _) refl
message_adds p n a m None h g = record {
  part = _;
  is = refl;
  config = refl;
  events = ap (λ ms. p.events ++ map (Message n) ms) (sym (ap world.messages_next h ∙ ap (λ x. option_map_or (λ y. y ∷ []) x []) g));
}

serve_adds : (p : Part) (n : ℕ) (a : Arrival) (m : Option (List ℕ)) → world.arrival p n ≡ Some a → world.unserved a ≡ m
    → Adds p (Serve n) (world.serve_message p n a m)
serve_adds p n a None h g = stays p (Serve n) Nothing refl
serve_adds p n a (Some m) h g = message_adds p n a m (world.refused p (Message n m)) h g

ended_adds : (p : Part) (n : ℕ) (a : Arrival) (ended : Bool) → not (world.state_of p).is_open ≡ ended → world.arrival p n ≡ Some a
    → Adds p (Serve n) (world.serve p n (Some a))
ended_adds p n a true e h = rw e (stays p (Serve n) (Refused _) refl)
ended_adds p n a false e h = rw e (serve_adds p n a (world.unserved a) h refl)

live_when : (b a : Arrival) (live : Bool) → b.live ≡ live → world.if_live (Some b) ≡ Some a → ◌≡◌ {A = Option Arrival} (Some b) (Some a)
live_when b a true h e = let kept : world.if_live (Some b) ≡ Some b = rw h refl in sym kept ∙ e
live_when b a false h e = let gone : world.if_live (Some b) ≡ None = rw h refl in absurd (none-some a (sym gone ∙ e))

live_is : (x : Option Arrival) (a : Arrival) → world.if_live x ≡ Some a → x ≡ Some a
live_is None a e = e
live_is (Some b) a e = live_when b a b.live refl e

any_serve_adds : (p : Part) (n : ℕ) (a : Option Arrival) → world.if_live (world.arrival p n) ≡ a → Adds p (Serve n) (world.serve p n a)
any_serve_adds p n None h = stays p (Serve n) (Refused NoConnection) refl
any_serve_adds p n (Some a) h = ended_adds p n a (not (world.state_of p).is_open) refl (live_is (world.arrival p n) a h)

-- a leave adds its event where the conference is open and its journal isn't full
pub left_is : (p : Part) (n : ℕ) → world.left p n ≡ (if (world.state_of p).is_open && not (world.is_full p) then Leaves n ∷ [] else [])
left_is p n = by (world.state_of p).is_open (world.is_full p)
  where
    by : (a b : Bool) →
        (if is_some (if not a then Some (ByMachine Ended) else if b then Some JournalFull else None) then [] else Leaves n ∷ [])
        ≡ (if a && not b then Leaves n ∷ [] else [])
    by true true = refl
    by true false = refl
    by false b = refl

leave_adds : (p : Part) (n : ℕ) (a : Option Arrival) → Adds p (Leave n) (world.leave p n a)
leave_adds p n None = stays p (Leave n) (Refused NoConnection) refl
leave_adds p n (Some a) = record { part = _; is = refl; config = refl; events = ap (λ (es : List Event). p.events ++ es) (left_is p n) }

took_adds : (p : Part) (n k : ℕ) (a : Option Arrival) → Adds p (Took n k) (world.took p n k a)
took_adds p n k None = stays p (Took n k) (Refused NoConnection) refl
took_adds p n k (Some a) = by (world.refused p (Takes n k))
  where
    by : (r : Option RoomRefusal) → Adds p (Took n k) (world.add_event p (Takes n k) r)
    by None = record { part = _; is = refl; config = refl; events = refl }
    by (Some r) = stays p (Took n k) (Refused (ByRoom r)) refl

admin_adds : (p : Part) (c : ℕ) (act : _) (r : Option RoomRefusal) → Adds p (Admin c act) (world.add_event p (event_of_act act) r)
admin_adds p c act None = record { part = _; is = refl; config = refl; events = refl }
admin_adds p c act (Some r) = stays p (Admin c act) (Refused (ByRoom r)) refl

said_adds : (p : Part) (c user : ℕ) (bytes : List ℕ) (r : Option HubRefusal) → Adds p (Say c user bytes) (world.say p user bytes r)
said_adds p c user bytes None = record { part = _; is = refl; config = refl; events = refl }
said_adds p c user bytes (Some r) = stays p (Say c user bytes) (Refused r) refl

pub offer_adds : (p : Part) (s : Step) → Adds p s (offer (Some p) s)
offer_adds p (Open config) = stays p (Open config) (Refused _) refl
offer_adds p (Attach c user) = attach_adds p c user (world.refused p (Join user))
offer_adds p (Piece n bytes) = piece_adds p n bytes (world.if_live (world.arrival p n))
offer_adds p (Serve n) = any_serve_adds p n (world.if_live (world.arrival p n)) refl
offer_adds p (Took n k) = took_adds p n k (world.if_live (world.arrival p n))
offer_adds p (Leave n) = leave_adds p n (world.if_live (world.arrival p n))
offer_adds p (Admin c act) = admin_adds p c act (world.refused p (event_of_act act))
offer_adds p (Say c user bytes) = said_adds p c user bytes (world.unsaid (world.refused p (Says user bytes)) (world.is_message bytes))

attached_adds : (p : Part) (s : Step) (k n : ℕ) → adds p s (Attached k) ≡ adds p s (Attached n)
attached_adds p (Open config) k n = refl
attached_adds p (Attach c user) k n = refl
attached_adds p (Piece m bytes) k n = refl
attached_adds p (Serve m) k n = refl
attached_adds p (Took m j) k n = refl
attached_adds p (Leave m) k n = refl
attached_adds p (Admin c act) k n = refl
attached_adds p (Say c user bytes) k n = refl

numbered_adds : (p : Part) (s : Step) (ps : List Place) (answer : Answer) → adds p s (numbered ps answer) ≡ adds p s answer
numbered_adds p s ps (Attached n) = attached_adds p s (length ps + 1) n
numbered_adds p s ps Done = refl
numbered_adds p s ps Nothing = refl
numbered_adds p s ps Served = refl
numbered_adds p s ps (Said v) = refl
numbered_adds p s ps (Refused r) = refl

-- what one step makes of a part: it has the configuration that it had, and these events more; and what opens has none
abbrev pub Grew : Option Part → Option Part → List Event → Type 0
Grew None None es = es ≡ []
Grew None (Some q) es = (q.events ≡ []) × (es ≡ [])
Grew (Some p) None es = ⊥
Grew (Some p) (Some q) es = (q.config ≡ p.config) × (q.events ≡ p.events ++ es)

offer_grew : (z : Option Part) (s : Step) (ps : List Place) → Grew z (offer z s).part (adds_in z s (numbered ps (offer z s).answer))
offer_grew None (Open config) ps = (refl, refl)
offer_grew None (Attach c user) ps = refl
offer_grew None (Piece m bytes) ps = refl
offer_grew None (Serve m) ps = refl
offer_grew None (Took m k) ps = refl
offer_grew None (Leave m) ps = refl
offer_grew None (Admin c act) ps = refl
offer_grew None (Say c user bytes) ps = refl
offer_grew (Some p) s ps =
    let more = offer_adds p s in
    subst (λ (x : Option Part). Grew (Some p) x (adds p s (numbered ps (offer (Some p) s).answer))) (sym more.is)
    (more.config, more.events ∙ ap (λ (es : List Event). p.events ++ es) (sym (numbered_adds p s ps (offer (Some p) s).answer)))

stays_grown : (z : Option Part) → Grew z z []
stays_grown None = refl
stays_grown (Some p) = (refl, sym (append-nil p.events))

turn_grew_at : (c : ℕ) (w : World) (x : Option Aim) → Grew (w.parts c) ((turn_at w x).world.parts c) (adds_to c w x (turn_at w x).answer)
turn_grew_at c w None = stays_grown (w.parts c)
turn_grew_at c w (Some a) = by a.conference a.step (a.conference == c) refl
  where
    by : (d : ℕ) (s : Step) (t : Bool) → (d == c) ≡ t →
        Grew (w.parts c) ((put w d (offer (w.parts d) s)).world.parts c) (if d == c then adds_in (w.parts c) s (put w d (offer (w.parts d) s)).answer else [])
    by d s true e =
        subst (λ (i : ℕ). Grew (w.parts c) ((put w i (offer (w.parts i) s)).world.parts c) (if i == c then adds_in (w.parts c) s (put w i (offer (w.parts i) s)).answer else []))
        (sym (eqb-true d c e))
        (let own : (c == c) ≡ true = eq-eqb c c refl in
        rw own (offer_grew (w.parts c) s w.places))
    by d s false e =
        rw e (stays_grown (w.parts c))

-- what a step makes of the part of c
pub turn_grew : (c : ℕ) (w : World) (s : Step) → Grew (w.parts c) ((turn w s).world.parts c) (added c w s)
turn_grew c w s = turn_grew_at c w (aimed w s)

grew_events : (z y : Option Part) (es : List Event) → Grew z y es → events_in y ≡ events_in z ++ es
grew_events None None es h = sym h
grew_events None (Some q) es h = h.0 ∙ sym h.1
grew_events (Some p) None es h = absurd h
grew_events (Some p) (Some q) es h = h.1

grew_config : (z y : Option Part) (es : List Event) (config : Configuration) → Grew z y es → option_map (λ p. p.config) z ≡ Some config → option_map (λ p. p.config) y ≡ Some config
grew_config None y es config h e = absurd (none-some config e)
grew_config (Some p) None es config h e = absurd h
grew_config (Some p) (Some q) es config h e = ap Some h.0 ∙ e

pub run_append : (w : World) (ss ts : List Step) → run w (ss ++ ts) ≡ run (run w ss) ts
run_append w [] ts = refl
run_append w (s ∷ ss) ts = run_append (turn w s).world ss ts

pub step_adds : StepAdds
step_adds c steps s =
    ap (λ (w : World). events_in (w.parts c)) (run_append nothing steps (s ∷ []))
    ∙ grew_events ((run nothing steps).parts c) ((turn (run nothing steps) s).world.parts c) (added c (run nothing steps) s) (turn_grew c (run nothing steps) s)

pub configuration_stays : ConfigurationStays
configuration_stays c config steps s e =
    ap (λ (w : World). option_map (λ p. p.config) (w.parts c)) (run_append nothing steps (s ∷ []))
    ∙ grew_config ((run nothing steps).parts c) ((turn (run nothing steps) s).world.parts c) (added c (run nothing steps) s) config (turn_grew c (run nothing steps) s) e

-- all that a part's events call for
abbrev pub sent_in : Option Part → ℕ → List (List ℕ)
sent_in None n = []
sent_in (Some p) n = parcels p.config p.events n

grew_sends : (z y : Option Part) (es : List Event) (n : ℕ) → Grew z y es → sent_in y n ≡ sent_in z n ++ sends z es n
grew_sends None None es n h = refl
grew_sends None (Some q) es n h = ap (λ (fs : List Event). parcels q.config fs n) h.0
grew_sends (Some p) None es n h = absurd h
grew_sends (Some p) (Some q) es n h =
    ap (λ (config : Configuration). parcels config q.events n) h.0
    ∙ ap (λ (fs : List Event). parcels p.config fs n) h.1
    ∙ parcels_append _ p.events es n

pub all_send : (c : ℕ) (w : World) (ss : List Step) (n : ℕ) → sent_in ((run w ss).parts c) n ≡ sent_in (w.parts c) n ++ sent c w ss n
all_send c w [] n = sym (append-nil (sent_in (w.parts c) n))
all_send c w (s ∷ ss) n =
    all_send c (turn w s).world ss n
    ∙ ap (λ (xs : List (List ℕ)). xs ++ sent c (turn w s).world ss n) (grew_sends (w.parts c) ((turn w s).world.parts c) (added c w s) n (turn_grew c w s))
    ∙ append_assoc (sent_in (w.parts c) n) (sends (w.parts c) (added c w s) n) (sent c (turn w s).world ss n)

sent_is : (part : Option Part) (config : Configuration) (n : ℕ) → option_map (λ p. p.config) part ≡ Some config → sent_in part n ≡ parcels config (events_in part) n
sent_is None config n e = absurd (none-some config e)
sent_is (Some p) config n e = ap (λ (x : Configuration). parcels x p.events n) (ap (λ (x : Option Configuration). option_map_or (λ y. y) x config) e)

pub queued_is : QueuedIsCalledFor
queued_is c config steps e n = ap concat (sym (all_send c nothing steps n) ∙ sent_is ((run nothing steps).parts c) config n e)

pub two_worlds : TwoWorlds
two_worlds c config steps others alike n =
    queued_is c config steps alike.first n ∙ ap (λ (es : List Event). Q config es n) alike.events ∙ sym (queued_is c config others alike.second n)
