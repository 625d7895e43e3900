-- Each journal is the events of its own steps.
use Rattle.std.proofs.Common.{◌≡◌, ◌≢◌, ◌⊎◌, inl, inr, ℕ, zero, suc, ◌+◌, ◌<◌, ◌≤◌, Bool, true, false, cond, List, [], ◌∷◌, ◌++◌, length, map, refl, sym, ◌∙◌, ap, subst, arith, length-append, append_assoc, append-nil, Some, None}
use Rattle.std.specs.Prelude.{Option, All, not, ◌==◌, ◌&&◌, is_some, if◌then◌else◌, nat_le, slice_get}
use Rattle.std.specs.List.{concat, flat_map}
use Rattle.std.specs.Option.{option_map}
use Rattle.std.proofs.lemmas.Bool.{eqb-true, eqb-false, eq-eqb}
use Rattle.std.proofs.lemmas.Bool.Decides.{nat_tests}
use Rattle.std.proofs.lemmas.List.Elements.{All-nil, All-cons, All-append}
use Rattle.std.proofs.lemmas.Map.{update_here}
use Rattle.std.proofs.lemmas.Option.{none-some, slice_get_within}
use Rattle.floor_config.specs.Configuration.{Configuration}
use Rattle.floor_wire.specs.Message.{IsMessage, message_len, messages}
use Rattle.floor_wire.proofs.Messages.{messages-concat}
use Rattle.floor_machine.specs.declared.act.Act.{Act}
use Rattle.floor_machine.specs.declared.event.Event.{Event}
use Rattle.floor_machine.specs.declared.event.Event.TheVariants.{Join, Message, Took as Takes, Leave as Leaves, Revoke, Close, AddUser, AddFloor, SetChair, Say as Says}
use Rattle.floor_machine.specs.declared.machine.Refusal.TheVariants.{Ended}
use Rattle.floor_machine.specs.declared.member.Member.{Member}
use Rattle.floor_machine.specs.Conference.{Conference, is_live, member_with}
use Rattle.floor_machine.specs.Change.{IsLawful, change, leaving, settled}
use Rattle.floor_machine.specs.Journal.{IsJournal, IsLawfulFrom, after}
use Rattle.floor_machine.specs.Laws.{IsWhole}
use Rattle.floor_machine.specs.Machine.{event_of_act, event_refusal, whole}
use Rattle.floor_machine.proofs.Lawful.{taken_is_lawful}
use Rattle.floor_machine.specs.Membership.{joins}
use Rattle.floor_machine.specs.Next.{next}
use Rattle.floor_machine.proofs.Staying.{live-before, live-counted}
use Rattle.floor_room.specs.declared.refusal.RoomRefusal.{RoomRefusal}
use Rattle.floor_room.specs.declared.refusal.RoomRefusal.TheVariants.{JournalFull, Refused as ByMachine}
use Rattle.floor_room.specs.Ledger.{closed, first_of}
use Rattle.floor_hub.specs.declared.refusal.HubRefusal.TheVariants.{ByRoom}
use Rattle.floor_hub.specs.declared.step.Step.{Step}
use Rattle.floor_hub.specs.declared.step.Step.TheVariants.{Open, Attach, Piece, Serve, Took, Leave, Admin, Say}
use Rattle.floor_hub.specs.World as world
use Rattle.floor_hub.specs.World.{World, Part, Arrival, Place, Aim, aim, aimed, arrival, if_live, is_full, joined, nothing, offer, opened, place, places_after, put, refused, ledger_of, state_of, turn, turn_at, unserved, with_arrival, with_events}
use Rattle.floor_hub.specs.Kept.{IsKeptPart, KeptIn, arrivals_in}
use Rattle.floor_hub.specs.Runs.{events_in, resuming_of, run, steps_for, steps_from, steps_of}
use Rattle.floor_hub.specs.Laws.{JournalsAreEvents, JournalsAreOpened, JournalsAreResumed}
use Rattle.floor_hub.specs.declared.step.Answer.{Answer}
use Rattle.floor_hub.specs.declared.step.Answer.TheVariants.{Done, Attached, Nothing, Served, Said, Refused}
use Rattle.floor_hub.proofs.Alone.{Counts, offer_counts}
use Rattle.floor_hub.proofs.Arrivals.{arrival_set, arrival_set_other, lt_or_le, there_live}
use Rattle.floor_hub.proofs.Keeping.{IsSetFrom, kept_event, offer_kept, opened_kept, set_from, state_more}
use Rattle.floor_hub.proofs.Sent.{left_is, run_append}

-- an event that is lawful, and for which there is room, isn't refused
unfull : (n : ℕ) → n < 2000000 → nat_le 2000000 n ≡ false
unfull n h = grind (arith, nat_tests)

opened_now : (s : Conference) (e : Event) → IsLawful s e → s.is_open ≡ true
opened_now s (Join user) h = h.0
opened_now s (Message n bytes) h = h.0
opened_now s (Takes n k) h = h.0
opened_now s (Leaves n) h = h.0
opened_now s (Revoke request) h = h.0
opened_now s Close h = h
opened_now s (AddUser user) h = h.0
opened_now s (AddFloor floor) h = h.0
opened_now s (SetChair floor chair) h = h.0
opened_now s (Says user bytes) h = h.0

accepted : (p : Part) (e : Event) → IsWhole e → IsLawful (state_of p) e → length p.events < 2000000 → refused p e ≡ None
accepted p e framed lawful few =
    let taken : event_refusal (whole (state_of p)) e ≡ None = (taken_is_lawful (state_of p) e framed).1 lawful in
    let free : closed (ledger_of p) ≡ None = by (state_of p).is_open (nat_le 2000000 (length p.events)) (opened_now (state_of p) e lawful) (unfull (length p.events) few) in
    ap (λ (x : Option RoomRefusal). first_of x (option_map ByMachine (event_refusal (whole (state_of p)) e))) free ∙ ap (option_map ByMachine) taken
  where
    by : (a b : Bool) → a ≡ true → b ≡ false → (if not a then Some (ByMachine Ended) else if b then Some JournalFull else None) ≡ None
    by true false h f = refl
    by true true h f = cc
    by false b h f = cc

-- The world has this part under c, and the place of its arrival n is n behind the first so many.
pub record At (base c : ℕ) (v : World) (p : Part) : Type 0 where
  pub is : v.parts c ≡ Some p
  pub count : length v.places ≡ base + length p.arrivals
  pub places : (n : ℕ) → 1 ≤ n → n ≤ length p.arrivals → place v.places (base + n) ≡ Some record { conference = c; n = n }

place_kept : (ps : List Place) (q r : Place) (n : ℕ) → place ps n ≡ Some r → place (ps ++ q ∷ []) n ≡ Some r
place_kept ps q r zero h = absurd (none-some r h)
place_kept [] q r (suc k) h = absurd (none-some r h)
place_kept (x ∷ ps) q r (suc zero) h = h
place_kept (x ∷ ps) q r (suc (suc k)) h = place_kept ps q r (suc k) h

place_last : (ps : List Place) (q : Place) (n : ℕ) → n ≡ length ps + 1 → place (ps ++ q ∷ []) n ≡ Some q
place_last ps q zero e = absurd (omega (arith, e))
place_last [] q (suc zero) e = refl
place_last [] q (suc (suc k)) e = absurd (omega (arith, e))
place_last (x ∷ ps) q (suc zero) e = absurd (omega (arith, e))
place_last (x ∷ ps) q (suc (suc k)) e = place_last ps q (suc k) (omega (arith, e))

-- the places behind a step for c whose answer counts so
places_at : (base c : ℕ) (ps : List Place) (k l : ℕ) (x : Answer) → Counts k x l → length ps ≡ base + k → ((n : ℕ) → 1 ≤ n → n ≤ k → place ps (base + n) ≡ Some record { conference = c; n = n }) →
    (length (places_after ps c x) ≡ base + l) × ((n : ℕ) → 1 ≤ n → n ≤ l → place (places_after ps c x) (base + n) ≡ Some record { conference = c; n = n })
places_at base c ps k l (Attached m) counts count known = (
  omega (arith, count, counts.1, length-append ps (record { conference = c; n = m } ∷ [])),
  λ n first within. by n first within (lt_or_le k n),
)
  where
    by : (n : ℕ) → 1 ≤ n → n ≤ l → (k < n) ⊎ (n ≤ k) → place (ps ++ record { conference = c; n = m } ∷ []) (base + n) ≡ Some record { conference = c; n = n }
    by n first within (inr h) = place_kept ps (record { conference = c; n = m }) (record { conference = c; n = n }) (base + n) (known n first h)
    by n first within (inl h) =
        let same : m ≡ n = omega (arith, h, within, counts.0, counts.1) in
        place_last ps (record { conference = c; n = m }) (base + n) (omega (arith, count, h, within, counts.1))
        ∙ ap (λ (i : ℕ). Some (record { conference = c; n = i })) same
places_at base c ps k l Done counts count known = (count ∙ ap (λ (i : ℕ). base + i) (sym counts), λ n first within. known n first (omega (arith, within, counts)))
places_at base c ps k l Nothing counts count known = (count ∙ ap (λ (i : ℕ). base + i) (sym counts), λ n first within. known n first (omega (arith, within, counts)))
places_at base c ps k l Served counts count known = (count ∙ ap (λ (i : ℕ). base + i) (sym counts), λ n first within. known n first (omega (arith, within, counts)))
places_at base c ps k l (Said v) counts count known = (count ∙ ap (λ (i : ℕ). base + i) (sym counts), λ n first within. known n first (omega (arith, within, counts)))
places_at base c ps k l (Refused r) counts count known = (count ∙ ap (λ (i : ℕ). base + i) (sym counts), λ n first within. known n first (omega (arith, within, counts)))

-- a step for c leads to what is offered to the step that bears n
moved : (base c : ℕ) (v : World) (p q : Part) (s t : Step) → At base c v p → aimed v s ≡ Some record { conference = c; step = t } → (offer (Some p) t).part ≡ Some q → At base c (turn v s).world q
moved base c v p q s t h aims is =
    let same_turn : turn v s ≡ put v c (offer (v.parts c) t) = ap (turn_at v) aims in
    let own : turn v s ≡ put v c (offer (Some p) t) = same_turn ∙ ap (λ (z : Option Part). put v c (offer z t)) h.is in
    let counts : Counts (length p.arrivals) (offer (Some p) t).answer (length q.arrivals) = subst (λ (z : Option Part). Counts (length p.arrivals) (offer (Some p) t).answer (arrivals_in z)) is (offer_counts (Some p) t) in
    let known = places_at base c v.places (length p.arrivals) (length q.arrivals) (offer (Some p) t).answer counts h.count h.places in
    record {
      is = ap (λ (u : world.Turn). u.world.parts c) own ∙ update_here v.parts c (offer (Some p) t).part ∙ is;
      count = ap (λ (u : world.Turn). length u.world.places) own ∙ known.0;
      places = λ n first within. ap (λ (u : world.Turn). place u.world.places (base + n)) own ∙ known.1 n first within;
    }

-- the place of an arrival is known by n
placed : (base c : ℕ) (v : World) (p : Part) (n : ℕ) (a : Arrival) → At base c v p → arrival p n ≡ Some a → place v.places (base + n) ≡ Some record { conference = c; n = n }
placed base c v p zero a h there = absurd (none-some a there)
placed base c v p (suc k) a h there = h.places (suc k) (omega arith) (omega (arith, slice_get_within p.arrivals k a there))

-- all that came from an arrival are messages, and they are served
pub record AllServed (a : Arrival) : Type 0 where
  pub ms : List (List ℕ)
  pub messages : All IsMessage ms
  pub bytes : a.bytes ≡ concat ms
  pub served : a.served ≡ length ms

-- the world follows its events: the arrivals of live members are live, and have nothing left to be served
pub record Follows (base c : ℕ) (v : World) (p : Part) : Type 0 where
  pub at : At base c v p
  pub kept : IsKeptPart p
  pub here : (n : ℕ) → is_live (state_of p) n ≡ true → (a : Arrival) × (arrival p n ≡ Some a) × (a.live ≡ true)
  pub idle : (n : ℕ) (a : Arrival) → arrival p n ≡ Some a → AllServed a

kept_by : (p q : Part) (s : Step) → IsKeptPart p → (offer (Some p) s).part ≡ Some q → IsKeptPart q
kept_by p q s k is = subst KeptIn is (offer_kept (Some p) s k)

-- what an event makes of a part that follows
abbrev Goes : ℕ → ℕ → World → Part → Event → Type 0
Goes base c v p e = (q : Part) × Follows base c (run v (steps_from base c e)) q × (q.config ≡ p.config) × (q.events ≡ p.events ++ e ∷ [])

-- who is live after an event that nobody joins by was live before
was_live : (p : Part) (e : Event) (n : ℕ) → joins e ≡ 0 → is_live (next (state_of p) e) n ≡ true → is_live (state_of p) n ≡ true
was_live p e n none h = by (live-before (state_of p) e n h)
  where
    by : (is_live (state_of p) n ≡ true) ⊎ ((joins e ≡ 1) × (n ≡ length (state_of p).members + 1)) → is_live (state_of p) n ≡ true
    by (inl x) = x
    by (inr x) = absurd (omega (arith, none, x.0))

-- an act of the administrator
goes_act : (base c : ℕ) (v : World) (p : Part) (act : Act) → Follows base c v p → IsLawful (state_of p) (event_of_act act) → length p.events < 2000000 →
    Follows base c (turn v (Admin c act)).world (with_events p (event_of_act act ∷ []))
goes_act base c v p act f lawful few =
    let e : Event = event_of_act act in
    let is : (offer (Some p) (Admin c act)).part ≡ Some (with_events p (event_of_act act ∷ [])) =
    ap (λ (r : Option RoomRefusal). (world.add_event p (event_of_act act) r).part) (accepted p (event_of_act act) (framed act) lawful few) in record {
      at = moved base c v p (with_events p (event_of_act act ∷ [])) (Admin c act) (Admin c act) f.at refl is;
      kept = kept_by p (with_events p (event_of_act act ∷ [])) (Admin c act) f.kept is;
      here = λ n h. f.here n (was_live p (event_of_act act) n (none act) (sym (ap (λ (s : Conference). is_live s n) (state_more p.config p.events (event_of_act act))) ∙ h));
      idle = f.idle;
    }
  where
    framed : (act : Act) → IsWhole (event_of_act act)
    framed (Act.Revoke request) = tt
    framed Act.Close = tt
    framed (Act.AddUser user) = tt
    framed (Act.AddFloor floor) = tt
    framed (Act.SetChair floor chair) = tt

    none : (act : Act) → joins (event_of_act act) ≡ 0
    none (Act.Revoke request) = refl
    none Act.Close = refl
    none (Act.AddUser user) = refl
    none (Act.AddFloor floor) = refl
    none (Act.SetChair floor chair) = refl

-- a message that is said for a user
goes_said : (base c : ℕ) (v : World) (p : Part) (user : ℕ) (bytes : List ℕ) → Follows base c v p → IsLawful (state_of p) (Says user bytes) → length p.events < 2000000 →
    Follows base c (turn v (Say c user bytes)).world (with_events p (Says user bytes ∷ []))
goes_said base c v p user bytes f lawful few =
    let framed : world.is_message bytes ≡ true = eq-eqb (length bytes) (message_len bytes) lawful.2 in
    let is : (offer (Some p) (Say c user bytes)).part ≡ Some (with_events p (Says user bytes ∷ [])) =
    ap (λ (b : Bool). (world.say p user bytes (world.unsaid (refused p (Says user bytes)) b)).part) framed
    ∙ ap (λ (r : Option RoomRefusal). (world.say p user bytes (world.unsaid r true)).part) (accepted p (Says user bytes) lawful.2 lawful few) in record {
      at = moved base c v p (with_events p (Says user bytes ∷ [])) (Say c user bytes) (Say c user bytes) f.at refl is;
      kept = kept_by p (with_events p (Says user bytes ∷ [])) (Say c user bytes) f.kept is;
      here = λ n h. f.here n (was_live p (Says user bytes) n refl (sym (ap (λ (s : Conference). is_live s n) (state_more p.config p.events (Says user bytes))) ∙ h));
      idle = f.idle;
    }

-- some of the parcels to a live member are acknowledged
goes_took : (base c : ℕ) (v : World) (p : Part) (n k : ℕ) (a : Arrival) → Follows base c v p → IsLawful (state_of p) (Takes n k) → length p.events < 2000000 →
    arrival p n ≡ Some a → a.live ≡ true → Follows base c (turn v (Took (base + n) k)).world (with_events p (Takes n k ∷ []))
goes_took base c v p n k a f lawful few there live =
    let e : Event = Takes n k in
    let is : (offer (Some p) (Took n k)).part ≡ Some (with_events p (Takes n k ∷ [])) =
    ap (λ (x : Option Arrival). (world.took p n k x).part) (there_live (arrival p n) a there live)
    ∙ ap (λ (r : Option RoomRefusal). (world.add_event p (Takes n k) r).part) (accepted p (Takes n k) tt lawful few) in record {
      at = moved base c v p (with_events p (Takes n k ∷ [])) (Took (base + n) k) (Took n k) f.at (ap (aim (λ i. Took i k)) (placed base c v p n a f.at there)) is;
      kept = kept_by p (with_events p (Takes n k ∷ [])) (Took n k) f.kept is;
      here = λ i h. f.here i (was_live p (Takes n k) i refl (sym (ap (λ (s : Conference). is_live s i) (state_more p.config p.events (Takes n k))) ∙ h));
      idle = f.idle;
    }

-- the arrivals of a list with one more
get_more : (xs : List Arrival) (x : Arrival) (k : ℕ) (a : Arrival) → slice_get xs k ≡ Some a → slice_get (xs ++ x ∷ []) k ≡ Some a
get_more [] x k a h = absurd (none-some a h)
get_more (y ∷ xs) x zero a h = h
get_more (y ∷ xs) x (suc k) a h = get_more xs x k a h

get_last : (xs : List Arrival) (x : Arrival) → slice_get (xs ++ x ∷ []) (length xs) ≡ Some x
get_last [] x = refl
get_last (y ∷ xs) x = get_last xs x

from_more : (xs : List Arrival) (x : Arrival) (k : ℕ) (b : Arrival) → slice_get (xs ++ x ∷ []) k ≡ Some b → (slice_get xs k ≡ Some b) ⊎ (b ≡ x)
from_more [] x zero b h = inr (same x b h)
  where
    same : (x b : Arrival) → ◌≡◌ {A = Option Arrival} (Some x) (Some b) → b ≡ x
    same x b e = cc
from_more [] x (suc k) b h = absurd (none-some b h)
from_more (y ∷ xs) x zero b h = inl h
from_more (y ∷ xs) x (suc k) b h = from_more xs x k b h

abbrev new : Arrival
new = record { bytes = []; served = 0; live = true }

new_idle : AllServed new
new_idle = record { ms = []; messages = All-nil IsMessage; bytes = refl; served = refl }

goes_join : (base c : ℕ) (v : World) (p : Part) (user : ℕ) → Follows base c v p → IsLawful (state_of p) (Join user) → length p.events < 2000000 →
    Follows base c (turn v (Attach c user)).world (joined p user)
goes_join base c v p user f lawful few =
    let is : (offer (Some p) (Attach c user)).part ≡ Some (joined p user) =
    ap (λ (r : Option RoomRefusal). (world.attach p user r).part) (accepted p (Join user) tt lawful few) in record {
      at = moved base c v p (joined p user) (Attach c user) (Attach c user) f.at refl is;
      kept = kept_by p (joined p user) (Attach c user) f.kept is;
      here = λ n h. by n (live-before (state_of p) (Join user) n (sym (ap (λ (s : Conference). is_live s n) (state_more p.config p.events (Join user))) ∙ h));
      idle = idle;
    }
  where
    more : (n : ℕ) (a : Arrival) → arrival p n ≡ Some a → arrival (joined p user) n ≡ Some a
    more zero a h = absurd (none-some a h)
    more (suc k) a h = get_more p.arrivals new k a h

    last : (n k : ℕ) → n ≡ k + 1 → length p.arrivals ≡ k → arrival (joined p user) n ≡ Some new
    last zero k e h = absurd (omega (arith, e))
    last (suc j) k e h = let same : j ≡ length p.arrivals = omega (arith, e, h) in ap (slice_get (p.arrivals ++ new ∷ [])) same ∙ get_last p.arrivals new

    by : (n : ℕ) → (is_live (state_of p) n ≡ true) ⊎ ((joins (Join user) ≡ 1) × (n ≡ length (state_of p).members + 1)) →
        (a : Arrival) × (arrival (joined p user) n ≡ Some a) × (a.live ≡ true)
    by n (inl h) = let found = f.here n h in (found.0, more n found.0 found.1, found.2)
    by n (inr h) = (new, last n (length (state_of p).members) h.1 (Rattle.floor_hub.proofs.Keeping.members_of p f.kept), refl)

    idle : (n : ℕ) (a : Arrival) → arrival (joined p user) n ≡ Some a → AllServed a
    idle zero a h = absurd (none-some a h)
    idle (suc k) a h = elim (from_more p.arrivals new k a h) [ inl there ↦ f.idle (suc k) a there | inr is ↦ subst AllServed (sym is) new_idle ]

-- whoever leaves isn't live
gone_from : (n : ℕ) (ms : List Member) → is_some (member_with (map (leaving n) ms) n) ≡ false
gone_from n [] = refl
gone_from n (m ∷ ms) = by (m.n == n) refl (gone_from n ms)
  where
    by : (t : Bool) → (m.n == n) ≡ t → is_some (member_with (map (leaving n) ms) n) ≡ false →
        is_some (member_with (cond t (record m { is_live = false }) m ∷ map (leaving n) ms) n) ≡ false
    by true e h = rw e h
    by false e h = rw e h

gone_next : (s : Conference) (n : ℕ) → is_live (next s (Leaves n)) n ≡ false
unfolding settled change
gone_next s n = live-counted s (Leaves n) n ∙ gone_from n s.members

-- the arrivals of a part are the same, whatever its events
arrival_events : (p : Part) (es : List Event) (n : ℕ) → arrival (with_events p es) n ≡ arrival p n
arrival_events p es zero = refl
arrival_events p es (suc k) = refl

abbrev dead : Arrival → Arrival
dead a = record { bytes = a.bytes; served = a.served; live = false }

abbrev gone : Part → ℕ → Arrival → List Event → Part
gone p n a es = with_arrival (with_events p es) n (dead a)

goes_leave : (base c : ℕ) (v : World) (p : Part) (n : ℕ) (a : Arrival) → Follows base c v p → IsLawful (state_of p) (Leaves n) → length p.events < 2000000 →
    arrival p n ≡ Some a → a.live ≡ true → Follows base c (turn v (Leave (base + n))).world (gone p n a (Leaves n ∷ []))
goes_leave base c v p n a f lawful few there live =
    let left : world.left p n ≡ Leaves n ∷ [] = left_is p n ∙ leaves (state_of p).is_open (is_full p) lawful.0 (unfull (length p.events) few) in
    let is : (offer (Some p) (Leave n)).part ≡ Some (gone p n a (Leaves n ∷ [])) =
    ap (λ (x : Option Arrival). (world.leave p n x).part) (there_live (arrival p n) a there live)
    ∙ ap (λ (es : List Event). Some (gone p n a es)) left in record {
      at = moved base c v p (gone p n a (Leaves n ∷ [])) (Leave (base + n)) (Leave n) f.at (ap (aim Leave) (placed base c v p n a f.at there)) is;
      kept = kept_by p (gone p n a (Leaves n ∷ [])) (Leave n) f.kept is;
      here = λ m h. here m (m == n) refl (sym (ap (λ (s : Conference). is_live s m) (state_more p.config p.events (Leaves n))) ∙ h);
      idle = λ m b h. idle m b (set_from (with_events p (Leaves n ∷ [])) n m a b (dead a) (arrival_events p (Leaves n ∷ []) n ∙ there) h);
    }
  where
    leaves : (x y : Bool) → x ≡ true → y ≡ false → (if x && not y then Leaves n ∷ [] else []) ≡ Leaves n ∷ []
    leaves true false e g = refl
    leaves true true e g = cc
    leaves false y e g = cc

    here : (m : ℕ) (t : Bool) → (m == n) ≡ t → is_live (next (state_of p) (Leaves n)) m ≡ true →
        (b : Arrival) × (arrival (gone p n a (Leaves n ∷ [])) m ≡ Some b) × (b.live ≡ true)
    here m true e h = absurd (never (sym (gone_next (state_of p) n) ∙ ap (is_live (next (state_of p) (Leaves n))) (sym (eqb-true m n e)) ∙ h))
      where
        never : false ≡ true → ⊥
        never x = cc
    here m false e h =
        let found = f.here m (was_live p (Leaves n) m refl h) in
        (found.0, arrival_set_other (with_events p (Leaves n ∷ [])) n m (dead a) (eqb-false m n e) ∙ arrival_events p (Leaves n ∷ []) m ∙ found.1, found.2)

    idle : (m : ℕ) (b : Arrival) → IsSetFrom (with_events p (Leaves n ∷ [])) n (dead a) m b → AllServed b
    idle m b (inl h) =
        let was = f.idle n a there in
        subst AllServed (sym h.1) (record { ms = was.ms; messages = was.messages; bytes = was.bytes; served = was.served })
    idle m b (inr h) = f.idle m b (sym (arrival_events p (Leaves n ∷ []) m) ∙ h.1)

concat_more : (ms : List (List ℕ)) (m : List ℕ) → concat ms ++ m ≡ concat (ms ++ m ∷ [])
concat_more [] m = sym (append-nil m)
concat_more (x ∷ ms) m = append_assoc x (concat ms) m ∙ ap (λ (s : List ℕ). x ++ s) (concat_more ms m)

get_next : (ms more : List (List ℕ)) (m : List ℕ) → slice_get ((ms ++ m ∷ []) ++ more) (length ms) ≡ Some m
get_next [] more m = refl
get_next (x ∷ ms) more m = get_next ms more m

all_more : (ms : List (List ℕ)) (m : List ℕ) → All IsMessage ms → IsMessage m → All IsMessage (ms ++ m ∷ [])
all_more ms m h g = All-append IsMessage ms (m ∷ []) h (All-cons IsMessage m [] g (All-nil IsMessage))

-- a message that comes when all are served is next
next_unserved : (a : Arrival) (m : List ℕ) (live : Bool) → AllServed a → IsMessage m → unserved (record { bytes = a.bytes ++ m; served = a.served; live = live }) ≡ Some m
next_unserved a m live idle framed =
    ap (λ (s : List ℕ). slice_get (messages s) a.served) (ap (λ (s : List ℕ). s ++ m) idle.bytes ∙ concat_more idle.ms m ∙ sym (append-nil (concat (idle.ms ++ m ∷ []))))
    ∙ ap (λ (ns : List (List ℕ)). slice_get ns a.served) (messages-concat (idle.ms ++ m ∷ []) [] (all_more idle.ms m idle.messages framed))
    ∙ ap (slice_get ((idle.ms ++ m ∷ []) ++ messages [])) idle.served
    ∙ get_next idle.ms (messages []) m

module _ (base c : ℕ) (v : World) (p : Part) (n : ℕ) (m : List ℕ) (a : Arrival) (f : Follows base c v p) (lawful : IsLawful (state_of p) (Message n m)) (few : length p.events < 2000000)
    (there : arrival p n ≡ Some a) (live : a.live ≡ true) where
  -- the arrival when the message has come, and when it is served
  abbrev come : Arrival
  come = record { bytes = a.bytes ++ m; served = a.served; live = a.live }

  abbrev done : Arrival
  done = record { bytes = a.bytes ++ m; served = a.served + 1; live = a.live }

  abbrev first : Part
  first = with_arrival p n come

  abbrev behind : Part
  behind = with_events first (Message n m ∷ [])

  abbrev last : Part
  last = with_arrival behind n done

  piece_is : (offer (Some p) (Piece n m)).part ≡ Some first
  piece_is = ap (λ (x : Option Arrival). (world.piece p n m x).part) (there_live (arrival p n) a there live)

  come_there : arrival first n ≡ Some come
  come_there = arrival_set p n come a there

  serve_is : (offer (Some first) (Serve n)).part ≡ Some last
  serve_is =
      ap (λ (x : Option Arrival). (world.serve first n x).part) (there_live (arrival first n) come come_there live)
      ∙ ap (λ (x : Bool). (if not x then world.refuses (Some first) (ByRoom (ByMachine Ended)) else world.serve_message first n come (unserved come)).part) lawful.0
      ∙ ap (λ (x : Option (List ℕ)). (world.serve_message first n come x).part) (next_unserved a m a.live (f.idle n a there) lawful.3)
      ∙ ap (λ (x : Option RoomRefusal). (world.take_message first n come m x).part) (accepted first (Message n m) lawful.3 lawful few)

  at_first : At base c (turn v (Piece (base + n) m)).world first
  at_first = moved base c v p first (Piece (base + n) m) (Piece n m) f.at (ap (aim (λ i. Piece i m)) (placed base c v p n a f.at there)) piece_is

  at_last : At base c (turn (turn v (Piece (base + n) m)).world (Serve (base + n))).world last
  at_last = moved base c (turn v (Piece (base + n) m)).world first last (Serve (base + n)) (Serve n) at_first (ap (aim Serve) (placed base c (turn v (Piece (base + n) m)).world first n come at_first come_there)) serve_is

  others : (k : ℕ) → k ≢ n → arrival last k ≡ arrival p k
  others k ne = arrival_set_other behind n k done ne ∙ arrival_events first (Message n m ∷ []) k ∙ arrival_set_other p n k come ne

  own : arrival last n ≡ Some done
  own = arrival_set behind n done come (arrival_events first (Message n m ∷ []) n ∙ come_there)

  here_at : (k : ℕ) (t : Bool) → (k == n) ≡ t → is_live (state_of p) k ≡ true → (b : Arrival) × (arrival last k ≡ Some b) × (b.live ≡ true)
  here_at k true e h = (done, ap (arrival last) (eqb-true k n e) ∙ own, live)
  here_at k false e h = let found = f.here k h in (found.0, others k (eqb-false k n e) ∙ found.1, found.2)

  done_idle : AllServed done
  done_idle =
      let was = f.idle n a there in
      record {
        ms = was.ms ++ m ∷ [];
        messages = all_more was.ms m was.messages lawful.3;
        bytes = ap (λ (s : List ℕ). s ++ m) was.bytes ∙ concat_more was.ms m;
        served = omega (arith, was.served, length-append was.ms (m ∷ []));
      }

  idle_at : (k : ℕ) (b : Arrival) (t : Bool) → (k == n) ≡ t → arrival last k ≡ Some b → AllServed b
  idle_at k b true e h = subst AllServed (same done b (sym own ∙ ap (arrival last) (sym (eqb-true k n e)) ∙ h)) done_idle
    where
      same : (x y : Arrival) → ◌≡◌ {A = Option Arrival} (Some x) (Some y) → x ≡ y
      same x y i = cc
  idle_at k b false e h = f.idle k b (sym (others k (eqb-false k n e)) ∙ h)

  goes_message : Follows base c (turn (turn v (Piece (base + n) m)).world (Serve (base + n))).world last
  goes_message = record {
    at = at_last;
    kept = kept_by first last (Serve n) (kept_by p first (Piece n m) f.kept piece_is) serve_is;
    here = λ k h. here_at k (k == n) refl (was_live p (Message n m) k refl (sym (ap (λ (s : Conference). is_live s k) (state_more p.config p.events (Message n m))) ∙ h));
    idle = λ k b h. idle_at k b (k == n) refl h;
  }

goes : (base c : ℕ) (v : World) (p : Part) (e : Event) → Follows base c v p → IsLawful (state_of p) e → length p.events < 2000000 → Goes base c v p e
goes base c v p (Join user) f lawful few = (joined p user, goes_join base c v p user f lawful few, refl, refl)
goes base c v p (Message n m) f lawful few =
    let found = f.here n lawful.1 in
    (last base c v p n m found.0 f lawful few found.1 found.2, goes_message base c v p n m found.0 f lawful few found.1 found.2, refl, refl)
goes base c v p (Takes n k) f lawful few =
    let found = f.here n lawful.1 in
    (with_events p (Takes n k ∷ []), goes_took base c v p n k found.0 f lawful few found.1 found.2, refl, refl)
goes base c v p (Leaves n) f lawful few =
    let found = f.here n lawful.1 in
    (gone p n found.0 (Leaves n ∷ []), goes_leave base c v p n found.0 f lawful few found.1 found.2, refl, refl)
goes base c v p (Revoke request) f lawful few = (with_events p (Revoke request ∷ []), goes_act base c v p (Act.Revoke request) f lawful few, refl, refl)
goes base c v p Close f lawful few = (with_events p (Close ∷ []), goes_act base c v p Act.Close f lawful few, refl, refl)
goes base c v p (AddUser user) f lawful few = (with_events p (AddUser user ∷ []), goes_act base c v p (Act.AddUser user) f lawful few, refl, refl)
goes base c v p (AddFloor floor) f lawful few = (with_events p (AddFloor floor ∷ []), goes_act base c v p (Act.AddFloor floor) f lawful few, refl, refl)
goes base c v p (SetChair floor chair) f lawful few = (with_events p (SetChair floor chair ∷ []), goes_act base c v p (Act.SetChair floor chair) f lawful few, refl, refl)
goes base c v p (Says user bytes) f lawful few = (with_events p (Says user bytes ∷ []), goes_said base c v p user bytes f lawful few, refl, refl)

-- the world has under c the part with these events more
abbrev Ends : ℕ → World → Part → List Event → Type 0
Ends c v p es = (q : Part) × (v.parts c ≡ Some q) × (q.config ≡ p.config) × (q.events ≡ p.events ++ es)

follow : (base c : ℕ) (v : World) (p : Part) (es : List Event) → Follows base c v p → IsLawfulFrom (state_of p) es → length p.events + length es ≤ 2000000 →
    Ends c (run v (flat_map (steps_from base c) es)) p es
follow base c v p [] f lawful few = (p, f.at.is, refl, sym (append-nil p.events))
follow base c v p (e ∷ es) f lawful few =
    let one : Goes base c v p e = goes base c v p e f lawful.0 (omega (arith, few)) in
    let q : Part = one.0 in
    let state : state_of one.0 ≡ next (state_of p) e =
    ap (λ (x : Configuration). after x one.0.events) one.2 ∙ ap (after p.config) one.3 ∙ state_more p.config p.events e in
    let rest : Ends c (run (run v (steps_from base c e)) (flat_map (steps_from base c) es)) one.0 es =
    follow base c (run v (steps_from base c e)) one.0 es one.1 (subst (λ (s : Conference). IsLawfulFrom s es) (sym state) lawful.1)
    (omega (arith, few, ap length one.3, length-append p.events (e ∷ []))) in (
      rest.0,
      ap (λ (w : World). w.parts c) (run_append v (steps_from base c e) (flat_map (steps_from base c) es)) ∙ rest.1,
      rest.2 ∙ one.2,
      rest.3 ∙ ap (λ (xs : List Event). xs ++ es) one.3 ∙ append_assoc p.events (e ∷ []) es,
    )

-- a conference that is opened in a world without it
starts : (w : World) (config : Configuration) → w.parts config.conference ≡ None → Follows (length w.places) config.conference (turn w (Open config)).world (opened config)
starts w config absent = record {
  at = record {
    is = update_here w.parts config.conference (offer (w.parts config.conference) (Open config)).part ∙ ap (λ (z : Option Part). (offer z (Open config)).part) absent;
    count = ap (λ (z : Option Part). length (places_after w.places config.conference (offer z (Open config)).answer)) absent ∙ omega arith;
    places = λ n first within. absurd (omega (arith, first, within));
  };
  kept = opened_kept config;
  here = λ n h. cc;
  idle = λ n a h. absurd (none n a h);
}
  where
    none : (n : ℕ) (a : Arrival) → arrival (opened config) n ≡ Some a → ⊥
    none zero a h = none-some a h
    none (suc k) a h = none-some a h

ran : (w : World) (config : Configuration) (es : List Event) → w.parts config.conference ≡ None → IsJournal config es →
    Ends config.conference (run w (resuming_of (length w.places) config es)) (opened config) es
ran w config es absent j = follow (length w.places) config.conference (turn w (Open config)).world (opened config) es (starts w config absent) j.lawful (omega (arith, j.count))

pub journals_are_resumed : JournalsAreResumed
journals_are_resumed w config es absent j =
    let end = ran w config es absent j in
    record {
      part = end.0;
      there = end.1;
      opening = end.2;
      events = end.3;
      state = ap (λ (x : Configuration). after x end.0.events) end.2 ∙ ap (after config) end.3;
    }

-- in the first world the steps bear n
steps-first : (c : ℕ) (e : Event) → steps_from 0 c e ≡ steps_for c e
steps-first c (Join user) = refl
steps-first c (Message n bytes) = ap (λ (i : ℕ). Piece i bytes ∷ Serve i ∷ []) (zero-more n)
  where
    zero-more : (n : ℕ) → 0 + n ≡ n
    zero-more n = omega arith
steps-first c (Takes n k) = let same : 0 + n ≡ n = omega arith in ap (λ (i : ℕ). Took i k ∷ []) same
steps-first c (Leaves n) = let same : 0 + n ≡ n = omega arith in ap (λ (i : ℕ). Leave i ∷ []) same
steps-first c (Revoke request) = refl
steps-first c Close = refl
steps-first c (AddUser user) = refl
steps-first c (AddFloor floor) = refl
steps-first c (SetChair floor chair) = refl
steps-first c (Says user bytes) = refl

all-first : (c : ℕ) (es : List Event) → flat_map (steps_from 0 c) es ≡ flat_map (steps_for c) es
all-first c [] = refl
all-first c (e ∷ es) = ap (λ (ss : List Step). ss ++ flat_map (steps_from 0 c) es) (steps-first c e) ∙ ap (λ (ss : List Step). steps_for c e ++ ss) (all-first c es)

resuming-first : (config : Configuration) (es : List Event) → resuming_of 0 config es ≡ steps_of config es
resuming-first config es = ap (λ (ss : List Step). Open config ∷ ss) (all-first config.conference es)

ran-first : (config : Configuration) (es : List Event) → IsJournal config es → Ends config.conference (run nothing (steps_of config es)) (opened config) es
ran-first config es j = subst (λ (ss : List Step). Ends config.conference (run nothing ss) (opened config) es) (resuming-first config es) (ran nothing config es refl j)

pub journals_are_events : JournalsAreEvents
journals_are_events config es j = let end = ran-first config es j in ap events_in end.1 ∙ end.3

pub journals_are_opened : JournalsAreOpened
journals_are_opened config es j = let end = ran-first config es j in ap (option_map (λ p. p.config)) end.1 ∙ ap Some end.2
