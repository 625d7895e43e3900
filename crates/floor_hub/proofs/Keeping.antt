-- Each step of the world keeps a kept world.
use Rattle.std.proofs.Common.{◌≡◌, ◌≢◌, ◌⊎◌, inl, inr, ℕ, zero, suc, ◌+◌, ◌<◌, Bool, true, false, cond, List, [], ◌∷◌, ◌++◌, length, refl, sym, ◌∙◌, ap, subst, arith, length-append, Some, None}
use Rattle.std.specs.Prelude.{Option, not, is_some, if◌then◌else◌, ◌==◌, map, slice_get, nat_eq}
use Rattle.std.specs.Option.{option_map, option_map_or}
use Rattle.std.specs.Map.{update}
use Rattle.std.proofs.lemmas.Bool.{eqb-true, eqb-false}
use Rattle.std.proofs.lemmas.Option.{none-some, slice_get_within, get_or_from_slice_get}
use Rattle.std.proofs.lemmas.List.Elements.{All-get_or}
use Rattle.std.proofs.lemmas.List.{map-append}
use Rattle.std.proofs.lemmas.List.Sums.{sum_by-append}
use Rattle.std.proofs.lemmas.Map.{update_here, update_apart}
use Rattle.floor_config.specs.Configuration.{Configuration}
use Rattle.floor_wire.specs.Message.{IsMessage, message_len, messages}
use Rattle.floor_wire.proofs.Messages.{messages_are_messages}
use Rattle.floor_machine.specs.declared.act.Act.{Act}
use Rattle.floor_machine.specs.declared.event.Event.{Event}
use Rattle.floor_machine.specs.declared.event.Event.TheVariants.{Join, Message, Took as Takes, Leave as Leaves, Revoke, Close, AddUser, AddFloor, SetChair, Say as Says}
use Rattle.floor_machine.specs.declared.machine.Refusal.{Refusal}
use Rattle.floor_machine.specs.declared.machine.Refusal.TheVariants.{Ended}
use Rattle.floor_machine.specs.Conference.{Conference, is_live, opening}
use Rattle.floor_machine.specs.Change.{IsLawful}
use Rattle.floor_machine.specs.Journal.{IsJournal, after, after_from}
use Rattle.floor_machine.specs.Laws.{IsWhole}
use Rattle.floor_machine.specs.Machine.{event_of_act, event_refusal, whole}
use Rattle.floor_machine.proofs.Runs.{after_from-more, lawful-more}
use Rattle.floor_machine.proofs.Lawful.{taken_is_lawful}
use Rattle.floor_machine.specs.Membership.{StaysIn, joins as joins_by}
use Rattle.floor_machine.specs.Next.{next}
use Rattle.floor_machine.proofs.Staying.{live-joined, live-next, members-next}
use Rattle.floor_room.specs.declared.refusal.RoomRefusal.{RoomRefusal}
use Rattle.floor_room.specs.declared.refusal.RoomRefusal.TheVariants.{Refused as ByMachine}
use Rattle.floor_room.specs.Ledger.{closed, first_of}
use Rattle.floor_room.proofs.Ledgers as adding
use Rattle.floor_hub.specs.declared.refusal.HubRefusal.{HubRefusal}
use Rattle.floor_hub.specs.declared.step.Step.{Step}
use Rattle.floor_hub.specs.declared.step.Step.TheVariants.{Open, Attach, Piece, Serve, Took, Leave, Admin, Say}
use Rattle.floor_hub.specs.declared.step.Answer.{Answer}
use Rattle.floor_hub.specs.declared.step.Answer.TheVariants.{Done, Attached, Nothing, Served, Said, Refused}
use Rattle.floor_hub.specs.World as world
use Rattle.floor_hub.specs.World.{World, Part, Place, Arrival, Aim, Turn, Offered, arrival, aimed, nothing, offer, place, places_after, put, refused, ledger_of, state_of, turn, turn_at, unserved, with_arrival, with_events}
use Rattle.floor_hub.specs.Runs.{run, events_in}
use Rattle.floor_hub.specs.Kept.{IsKept, IsKeptPart, KeptIn, arrivals_in, first_numbers, is_join, joins, numbers_of}
use Rattle.floor_hub.specs.Laws.{EventsAreAJournal, NumbersAlone, StepKeeps}
use Rattle.floor_hub.proofs.Alone.{Counts, all_alone, offer_counts, solo, starts_same}
use Rattle.floor_hub.proofs.Arrivals.{arrival_set, arrival_set_other, live_there}

lawful_open : (s : Conference) (e : Event) → IsLawful s e → s.is_open ≡ true
lawful_open s (Join user) h = h.0
lawful_open s (Message n bytes) h = h.0
lawful_open s (Takes n k) h = h.0
lawful_open s (Leaves n) h = h.0
lawful_open s (Revoke request) h = h.0
lawful_open s Close h = h
lawful_open s (AddUser user) h = h.0
lawful_open s (AddFloor floor) h = h.0
lawful_open s (SetChair floor chair) h = h.0
lawful_open s (Says user bytes) h = h.0

joins_one : (e : Event) → joins (e ∷ []) ≡ joins_by e
joins_one (Join user) = refl
joins_one (Message n bytes) = refl
joins_one (Takes n k) = refl
joins_one (Leaves n) = refl
joins_one (Revoke request) = refl
joins_one Close = refl
joins_one (AddUser user) = refl
joins_one (AddFloor floor) = refl
joins_one (SetChair floor chair) = refl
joins_one (Says user bytes) = refl

joins-append : (es fs : List Event) → joins (es ++ fs) ≡ joins es + joins fs
joins-append es fs = sum_by-append (λ e. cond (is_join e) 1 0) es fs

joins_more : (es : List Event) (e : Event) → joins (es ++ e ∷ []) ≡ joins es + joins_by e
joins_more es e = joins-append es (e ∷ []) ∙ ap (λ (k : ℕ). joins es + k) (joins_one e)

joins_cons : (e : Event) (es : List Event) → joins (e ∷ es) ≡ joins_by e + joins es
joins_cons e es = joins-append (e ∷ []) es ∙ ap (λ (k : ℕ). k + joins es) (joins_one e)

-- how many members there are after events
members_from : (s : Conference) (es : List Event) → length (after_from s es).members ≡ length s.members + joins es
members_from s [] = omega arith
members_from s (e ∷ es) = omega (arith, members_from (next s e) es, members-next s e, joins_cons e es)

-- a kept part has as many arrivals as its conference has members
pub members_of : (p : Part) → IsKeptPart p → length p.arrivals ≡ length (state_of p).members
members_of p k = omega (arith, k.joins, members_from (opening p.config) p.events)

pub state_more : (config : Configuration) (es : List Event) (e : Event) → after config (es ++ e ∷ []) ≡ next (after config es) e
state_more config es e = after_from-more (opening config) es e

-- a live arrival after an event was live before it and doesn't leave, or its member is live now
abbrev IsLiveFrom : Part → Event → List Arrival → Type 0
IsLiveFrom p e now = (n : ℕ) (b : Arrival) → arrival (record { config = p.config; events = p.events; arrivals = now }) n ≡ Some b → b.live ≡ true →
    ((a : Arrival) × (arrival p n ≡ Some a) × (a.live ≡ true) × StaysIn n e) ⊎ (is_live (next (state_of p) e) n ≡ true)

live_more : (p : Part) (e : Event) (n : ℕ) → IsKeptPart p → (state_of p).is_open ≡ true →
    ((a : Arrival) × (arrival p n ≡ Some a) × (a.live ≡ true) × StaysIn n e) ⊎ (is_live (next (state_of p) e) n ≡ true) → is_live (next (state_of p) e) n ≡ true
live_more p e n k open_now (inl h) = live-next (state_of p) e n h.3 (k.live n h.0 open_now h.1 h.2)
live_more p e n k open_now (inr h) = h

-- one more event
pub kept_event : (p : Part) (e : Event) (now : List Arrival) → IsKeptPart p → IsLawful (state_of p) e → length p.events < 2000000 →
    length now ≡ length p.arrivals + joins_by e → IsLiveFrom p e now → IsKeptPart (record { config = p.config; events = p.events ++ e ∷ []; arrivals = now })
kept_event p e now k lawful few count from = record {
  journal = record {
    count = omega (arith, few, length-append p.events (e ∷ []));
    lawful = lawful-more (opening p.config) p.events e k.journal.lawful lawful;
  };
  joins =
      count ∙ ap (λ (m : ℕ). m + joins_by e) k.joins ∙ sym (joins_more p.events e);
  live = λ n a open_then is live.
      subst (λ (s : Conference). is_live s n ≡ true) (sym (state_more p.config p.events e))
      (live_more p e n k (lawful_open (state_of p) e lawful) (from n a is live));
}

-- an event that isn't refused is lawful, and there is room for it
pub allowed : (p : Part) (e : Event) → IsWhole e → refused p e ≡ None → IsLawful (state_of p) e × (length p.events < 2000000)
allowed p e framed h =
    let both : (closed (ledger_of p) ≡ None) × (event_refusal (whole (state_of p)) e ≡ None) = by (closed (ledger_of p)) (event_refusal (whole (state_of p)) e) h in
    ((taken_is_lawful (state_of p) e framed).0 both.1, (adding.opened (ledger_of p) (sym both.0)).few)
  where
    by : (x : Option RoomRefusal) (y : Option Refusal) → first_of x (option_map ByMachine y) ≡ None → (x ≡ None) × (y ≡ None)
    by None None h = (refl, refl)
    by None (Some y) h = cc
    by (Some x) y h = cc

whole_act : (act : Act) → IsWhole (event_of_act act)
whole_act (Act.Revoke request) = tt
whole_act Act.Close = tt
whole_act (Act.AddUser user) = tt
whole_act (Act.AddFloor floor) = tt
whole_act (Act.SetChair floor chair) = tt

stays_act : (act : Act) (n : ℕ) → StaysIn n (event_of_act act)
stays_act (Act.Revoke request) n = tt
stays_act Act.Close n = tt
stays_act (Act.AddUser user) n = tt
stays_act (Act.AddFloor floor) n = tt
stays_act (Act.SetChair floor chair) n = tt

joins_act : (act : Act) → joins_by (event_of_act act) ≡ 0
joins_act (Act.Revoke request) = refl
joins_act Act.Close = refl
joins_act (Act.AddUser user) = refl
joins_act (Act.AddFloor floor) = refl
joins_act (Act.SetChair floor chair) = refl

pub opened_kept : (config : Configuration) → IsKeptPart (world.opened config)
opened_kept config = record {
  journal = record { count = omega arith; lawful = tt };
  joins = refl;
  live = λ n a open_now is live. absurd (none n a is);
}
  where
    none : (n : ℕ) (a : Arrival) → arrival (world.opened config) n ≡ Some a → ⊥
    none zero a is = none-some a is
    none (suc k) a is = none-some a is

-- an arrival of a list with one more is one of the list, or the one more
pushed : (xs : List Arrival) (x b : Arrival) (k : ℕ) → slice_get (xs ++ x ∷ []) k ≡ Some b → (slice_get xs k ≡ Some b) ⊎ (k ≡ length xs)
pushed [] x b zero h = inr refl
pushed [] x b (suc k) h = absurd (none-some b h)
pushed (y ∷ xs) x b zero h = inl h
pushed (y ∷ xs) x b (suc k) h = elim (pushed xs x b k h) [ inl is ↦ inl is | inr is ↦ inr (ap suc is) ]

attach_kept : (p : Part) (user : ℕ) (r : Option RoomRefusal) → refused p (Join user) ≡ r → IsKeptPart p → KeptIn (world.attach p user r).part
attach_kept p user (Some r) is k = k
attach_kept p user None is k =
    let ok = allowed p (Join user) tt is in
    let new : Arrival = record { bytes = []; served = 0; live = true } in
    kept_event p (Join user) (p.arrivals ++ new ∷ []) k ok.0 ok.1 (length-append p.arrivals (new ∷ [])) from
  where
    from : IsLiveFrom p (Join user) (p.arrivals ++ record { bytes = []; served = 0; live = true } ∷ [])
    from zero b h live = absurd (none-some b h)
    from (suc j) b h live = elim (pushed p.arrivals (record { bytes = []; served = 0; live = true }) b j h) [
      | inl there ↦ inl (b, there, live, tt)
      | inr last ↦ inr (subst (λ (m : ℕ). is_live (next (state_of p) (Join user)) m ≡ true) (omega (arith, last, members_of p k)) (live-joined (state_of p) user))
    ]

-- where one arrival was changed, each is that one or as it was
abbrev pub IsSetFrom : Part → ℕ → Arrival → ℕ → Arrival → Type 0
IsSetFrom p n c m b = ((m ≡ n) × (b ≡ c)) ⊎ ((m ≢ n) × (arrival p m ≡ Some b))

pub set_from : (p : Part) (n m : ℕ) (a b c : Arrival) → arrival p n ≡ Some a → arrival (with_arrival p n c) m ≡ Some b → IsSetFrom p n c m b
set_from p n m a b c is h = by (m == n) refl
  where
    some : (x y : Arrival) → ◌≡◌ {A = Option Arrival} (Some x) (Some y) → y ≡ x
    some x y e = cc

    by : (t : Bool) → (m == n) ≡ t → IsSetFrom p n c m b
    by true e =
        let same : m ≡ n = eqb-true m n e in
        inl (same, some c b (sym (arrival_set p n c a is) ∙ ap (λ (i : ℕ). arrival (with_arrival p n c) i) (sym same) ∙ h))
    by false e = let ne : m ≢ n = eqb-false m n e in inr (ne, sym (arrival_set_other p n m c ne) ∙ h)

set_count : (p : Part) (n : ℕ) (c : Arrival) → length (with_arrival p n c).arrivals ≡ length p.arrivals
set_count p zero c = refl
set_count p (suc j) c = Rattle.std.proofs.lemmas.List.length-set p.arrivals j c

piece_kept : (p : Part) (n : ℕ) (bytes : List ℕ) (a : Option Arrival) → world.if_live (arrival p n) ≡ a → IsKeptPart p → KeptIn (world.piece p n bytes a).part
piece_kept p n bytes None is k = k
piece_kept p n bytes (Some a) is k =
    let there = live_there (arrival p n) a is in
    let c : Arrival = record { bytes = a.bytes ++ bytes; served = a.served; live = a.live } in
    record {
      journal = k.journal;
      joins = set_count p n c ∙ k.joins;
      live = λ m b open_now h live. by a b m c open_now there.0 live (set_from p n m a b c there.0 h) refl;
    }
  where
    by : (a b : Arrival) (m : ℕ) (c : Arrival) → (state_of p).is_open ≡ true → arrival p n ≡ Some a → b.live ≡ true → IsSetFrom p n c m b → c.live ≡ a.live → is_live (state_of p) m ≡ true
    by a b m c open_now there live (inl h) same =
        subst (λ (i : ℕ). is_live (state_of p) i ≡ true) (sym h.0) (k.live n a open_now there (sym same ∙ ap (λ (x : Arrival). x.live) (sym h.1) ∙ live))
    by a b m c open_now there live (inr h) same = k.live m b open_now h.1 live

next_is_message : (a : Arrival) (m : List ℕ) → unserved a ≡ Some m → IsMessage m
next_is_message a m h =
    let within : a.served < length (messages a.bytes) = slice_get_within (messages a.bytes) a.served m h in
    subst IsMessage (get_or_from_slice_get (messages a.bytes) a.served m m h) (All-get_or IsMessage (messages a.bytes) a.served m within (messages_are_messages a.bytes))

pub open_when : (b : Bool) → not b ≡ false → b ≡ true
open_when true h = refl
open_when false h = cc

module _ (p : Part) (n : ℕ) (k : IsKeptPart p) where
  message_kept : (a : Arrival) (m : List ℕ) (r : Option RoomRefusal) → refused p (Message n m) ≡ r → (state_of p).is_open ≡ true → arrival p n ≡ Some a → a.live ≡ true → unserved a ≡ Some m →
      KeptIn (world.take_message p n a m r).part
  message_kept a m (Some r) e open_now there live next_one = k
  message_kept a m None e open_now there live next_one =
      let c : Arrival = record { bytes = a.bytes; served = a.served + 1; live = a.live } in
      let lawful : IsLawful (state_of p) (Message n m) = (allowed p (Message n m) (next_is_message a m next_one) e).0 in
      kept_event p (Message n m) (with_arrival p n c).arrivals k lawful (adding.allowed-open (ledger_of p) (Message n m) e).few (set_count p n c ∙ omega arith)
      (λ i b h alive. by a b i c there live alive (set_from p n i a b c there h))
    where
      by : (a b : Arrival) (i : ℕ) (c : Arrival) → arrival p n ≡ Some a → a.live ≡ true → b.live ≡ true → IsSetFrom p n c i b →
          ((x : Arrival) × (arrival p i ≡ Some x) × (x.live ≡ true) × StaysIn i (Message n m)) ⊎ (is_live (next (state_of p) (Message n m)) i ≡ true)
      by a b i c there live alive (inl h) = inl (a, ap (arrival p) h.0 ∙ there, live, tt)
      by a b i c there live alive (inr h) = inl (b, h.1, alive, tt)

  serve_kept : (a : Arrival) (m : Option (List ℕ)) (ended : Bool) → not (state_of p).is_open ≡ ended → arrival p n ≡ Some a → a.live ≡ true → unserved a ≡ m →
      KeptIn (if ended then world.refuses (Some p) (HubRefusal.ByRoom (ByMachine Ended)) else world.serve_message p n a m).part
  serve_kept a m true e there live is = k
  serve_kept a None false e there live is = k
  serve_kept a (Some m) false e there live is = message_kept a m (refused p (Message n m)) refl (open_when (state_of p).is_open e) there live is

  any_serve_kept : (a : Option Arrival) → world.if_live (arrival p n) ≡ a → KeptIn (world.serve p n a).part
  any_serve_kept None is = k
  any_serve_kept (Some a) is = let there = live_there (arrival p n) a is in serve_kept a (unserved a) (not (state_of p).is_open) refl there.0 there.1 refl

  -- an arrival that leaves
  gone : Arrival → Arrival
  gone a = record { bytes = a.bytes; served = a.served; live = false }

  leave_closed : (a : Arrival) → arrival p n ≡ Some a → (es : List Event) → es ≡ [] → IsKeptPart (with_arrival (with_events p es) n record { bytes = a.bytes; served = a.served; live = false })
  leave_closed a there es none =
      let c : Arrival = record { bytes = a.bytes; served = a.served; live = false } in
      let same : p.events ++ es ≡ p.events = ap (λ (x : List Event). p.events ++ x) none ∙ Rattle.std.proofs.lemmas.List.append-nil p.events in
      subst (λ (x : List Event). IsKeptPart (record { config = p.config; events = x; arrivals = (with_arrival p n c).arrivals })) (sym same) (record {
        journal = k.journal;
        joins = set_count p n c ∙ k.joins;
        live = λ m b open_now h live. by b m c refl open_now live (set_from p n m a b c there h);
      })
    where
      by : (b : Arrival) (m : ℕ) (c : Arrival) → c.live ≡ false → (state_of p).is_open ≡ true → b.live ≡ true → IsSetFrom p n c m b → is_live (state_of p) m ≡ true
      by b m c dead open_now live (inl h) = absurd (apart (sym live ∙ ap (λ (x : Arrival). x.live) h.1 ∙ dead))
        where
          apart : true ≡ false → ⊥
          apart x = cc
      by b m c dead open_now live (inr h) = k.live m b open_now h.1 live

  leave_open : (a : Arrival) → arrival p n ≡ Some a → a.live ≡ true → (es : List Event) → es ≡ Leaves n ∷ [] → closed (ledger_of p) ≡ None →
      IsKeptPart (with_arrival (with_events p es) n record { bytes = a.bytes; served = a.served; live = false })
  leave_open a there live es one none =
      let c : Arrival = record { bytes = a.bytes; served = a.served; live = false } in
      let room = adding.opened (ledger_of p) (sym none) in
      let lawful : IsLawful (state_of p) (Leaves n) = (room.open_now, k.live n a room.open_now there live) in
      subst (λ (x : List Event). IsKeptPart (record { config = p.config; events = p.events ++ x; arrivals = (with_arrival p n c).arrivals })) (sym one)
      (kept_event p (Leaves n) (with_arrival p n c).arrivals k lawful room.few (set_count p n c ∙ omega arith)
      (λ i b h alive. by b i c refl alive (set_from p n i a b c there h)))
    where
      differs : (i : ℕ) → i ≢ n → (i == n) ≡ false
      differs i ne = Rattle.std.proofs.lemmas.Bool.ne_eqb i n ne

      by : (b : Arrival) (i : ℕ) (c : Arrival) → c.live ≡ false → b.live ≡ true → IsSetFrom p n c i b →
          ((x : Arrival) × (arrival p i ≡ Some x) × (x.live ≡ true) × StaysIn i (Leaves n)) ⊎ (is_live (next (state_of p) (Leaves n)) i ≡ true)
      by b i c dead alive (inl h) = absurd (apart (sym alive ∙ ap (λ (x : Arrival). x.live) h.1 ∙ dead))
        where
          apart : true ≡ false → ⊥
          apart x = cc
      by b i c dead alive (inr h) = inl (b, h.1, alive, differs i h.0)

  leave_by : (a : Arrival) (x : Option RoomRefusal) → closed (ledger_of p) ≡ x → arrival p n ≡ Some a → a.live ≡ true →
      IsKeptPart (with_arrival (with_events p (world.left p n)) n record { bytes = a.bytes; served = a.served; live = false })
  leave_by a None is there live = leave_open a there live (world.left p n) (ap (λ (y : Option RoomRefusal). if is_some y then [] else Leaves n ∷ []) is) is
  leave_by a (Some r) is there live = leave_closed a there (world.left p n) (ap (λ (y : Option RoomRefusal). if is_some y then [] else Leaves n ∷ []) is)

  leave_kept : (a : Option Arrival) → world.if_live (arrival p n) ≡ a → KeptIn (world.leave p n a).part
  leave_kept None is = k
  leave_kept (Some a) is = let there = live_there (arrival p n) a is in leave_by a (closed (ledger_of p)) refl there.0 there.1

-- an event that is added as it is, by which nobody joins or leaves
added_kept : (p : Part) (e : Event) → IsWhole e → ((n : ℕ) → StaysIn n e) → joins_by e ≡ 0 → (r : Option RoomRefusal) → refused p e ≡ r → IsKeptPart p → KeptIn (world.add_event p e r).part
added_kept p e framed stays none (Some r) is k = k
added_kept p e framed stays none None is k =
    let ok = allowed p e framed is in
    kept_event p e p.arrivals k ok.0 ok.1 (omega (arith, none)) (λ n b h live. inl (b, h, live, stays n))

took_kept : (p : Part) (n many : ℕ) → IsKeptPart p → (a : Option Arrival) → KeptIn (world.took p n many a).part
took_kept p n many k None = k
took_kept p n many k (Some a) = added_kept p (Takes n many) tt (λ i. tt) refl (refused p (Takes n many)) refl k

-- a message that is said for a user, where it is one
is_one : (bytes : List ℕ) → world.is_message bytes ≡ true → IsMessage bytes
is_one bytes h = Rattle.std.proofs.lemmas.Bool.eqb-true (length bytes) (message_len bytes) h

unsaid_none : (r : Option RoomRefusal) (b : Bool) → world.unsaid r b ≡ None → (b ≡ true) × (r ≡ None)
unsaid_none None true h = (refl, refl)
unsaid_none None false h = cc
unsaid_none (Some r) b h = cc

said_kept : (p : Part) (user : ℕ) (bytes : List ℕ) (r : Option HubRefusal) → world.unsaid (refused p (Says user bytes)) (world.is_message bytes) ≡ r → IsKeptPart p → KeptIn (world.say p user bytes r).part
said_kept p user bytes (Some r) is k = k
said_kept p user bytes None is k =
    let free = unsaid_none (refused p (Says user bytes)) (world.is_message bytes) is in
    let ok = allowed p (Says user bytes) (is_one bytes free.0) free.1 in
    kept_event p (Says user bytes) p.arrivals k ok.0 ok.1 (omega arith) (λ n b h live. inl (b, h, live, tt))

pub offer_kept : (z : Option Part) (s : Step) → KeptIn z → KeptIn (offer z s).part
offer_kept None (Open config) k = opened_kept config
offer_kept None (Attach c user) k = tt
offer_kept None (Piece n bytes) k = tt
offer_kept None (Serve n) k = tt
offer_kept None (Took n many) k = tt
offer_kept None (Leave n) k = tt
offer_kept None (Admin c act) k = tt
offer_kept None (Say c user bytes) k = tt
offer_kept (Some p) (Open config) k = k
offer_kept (Some p) (Attach c user) k = attach_kept p user (refused p (Join user)) refl k
offer_kept (Some p) (Piece n bytes) k = piece_kept p n bytes (world.if_live (arrival p n)) refl k
offer_kept (Some p) (Serve n) k = any_serve_kept p n k (world.if_live (arrival p n)) refl
offer_kept (Some p) (Took n many) k = took_kept p n many k (world.if_live (arrival p n))
offer_kept (Some p) (Leave n) k = leave_kept p n k (world.if_live (arrival p n)) refl
offer_kept (Some p) (Admin c act) k = added_kept p (event_of_act act) (whole_act act) (stays_act act) (joins_act act) (refused p (event_of_act act)) refl k
offer_kept (Some p) (Say c user bytes) k = said_kept p user bytes (world.unsaid (refused p (Says user bytes)) (world.is_message bytes)) refl k

numbers_append : (c : ℕ) (ps qs : List Place) → numbers_of c (ps ++ qs) ≡ numbers_of c ps ++ numbers_of c qs
numbers_append c [] qs = refl
numbers_append c (p ∷ ps) qs = by (p.conference == c) (numbers_append c ps qs)
  where
    by : (b : Bool) → numbers_of c (ps ++ qs) ≡ numbers_of c ps ++ numbers_of c qs →
        cond b (p.n ∷ numbers_of c (ps ++ qs)) (numbers_of c (ps ++ qs)) ≡ cond b (p.n ∷ numbers_of c ps) (numbers_of c ps) ++ numbers_of c qs
    by true h = ap (λ (x : List ℕ). p.n ∷ x) h
    by false h = h

-- the places of the conference that a step is for
own_places : (c k l : ℕ) (ps : List Place) (a : Answer) → Counts k a l → numbers_of c ps ≡ first_numbers k → numbers_of c (places_after ps c a) ≡ first_numbers l
own_places c k l ps (Attached n) h is =
    let own : (b : Bool) → (c == c) ≡ b → cond b (n ∷ []) [] ≡ n ∷ [] = one in
    let next_one : n ≡ suc k = omega (arith, h.0) in
    let more : l ≡ suc k = omega (arith, h.1) in
    numbers_append c ps (record { conference = c; n = n } ∷ []) ∙ ap (λ (x : List ℕ). numbers_of c ps ++ x) (own (c == c) refl)
    ∙ ap (λ (x : List ℕ). x ++ n ∷ []) is ∙ ap (λ (m : ℕ). first_numbers k ++ m ∷ []) next_one ∙ sym (ap first_numbers more)
  where
    one : (b : Bool) → (c == c) ≡ b → cond b (n ∷ []) [] ≡ n ∷ []
    one true e = refl
    one false e = absurd (eqb-false c c e refl)
own_places c k l ps Done h is = is ∙ sym (ap first_numbers h)
own_places c k l ps Nothing h is = is ∙ sym (ap first_numbers h)
own_places c k l ps Served h is = is ∙ sym (ap first_numbers h)
own_places c k l ps (Said v) h is = is ∙ sym (ap first_numbers h)
own_places c k l ps (Refused r) h is = is ∙ sym (ap first_numbers h)

-- and of another
other_places : (c d : ℕ) (ps : List Place) (a : Answer) → (d == c) ≡ false → numbers_of c (places_after ps d a) ≡ numbers_of c ps
other_places c d ps (Attached n) ne =
    numbers_append c ps (record { conference = d; n = n } ∷ []) ∙ ap (λ (b : Bool). numbers_of c ps ++ cond b (n ∷ []) []) ne ∙ Rattle.std.proofs.lemmas.List.append-nil (numbers_of c ps)
other_places c d ps Done ne = refl
other_places c d ps Nothing ne = refl
other_places c d ps Served ne = refl
other_places c d ps (Said v) ne = refl
other_places c d ps (Refused r) ne = refl

module _ (w : World) (k : IsKept w) (d : ℕ) (o : Offered) (part : KeptIn o.part) (counts : Counts (arrivals_in (w.parts d)) o.answer (arrivals_in o.part)) where
  abbrev parts : ℕ → Option Part
  parts = update nat_eq w.parts d o.part

  part_at : (c : ℕ) (b : Bool) → (d == c) ≡ b → KeptIn (parts c)
  part_at c true e = subst (λ (i : ℕ). KeptIn (parts i)) (eqb-true d c e) (subst KeptIn (sym (update_here w.parts d o.part)) part)
  part_at c false e = subst KeptIn (sym (update_apart w.parts d o.part c (λ x. eqb-false d c e (sym x)))) (k.parts c)

  places_at : (c : ℕ) (b : Bool) → (d == c) ≡ b → numbers_of c (places_after w.places d o.answer) ≡ first_numbers (arrivals_in (parts c))
  places_at c true e =
      subst (λ (i : ℕ). numbers_of i (places_after w.places d o.answer) ≡ first_numbers (arrivals_in (parts i))) (eqb-true d c e)
      (own_places d (arrivals_in (w.parts d)) (arrivals_in o.part) w.places o.answer counts (k.places d) ∙ sym (ap (λ (z : Option Part). first_numbers (arrivals_in z)) (update_here w.parts d o.part)))
  places_at c false e =
      other_places c d w.places o.answer e ∙ k.places c
      ∙ sym (ap (λ (z : Option Part). first_numbers (arrivals_in z)) (update_apart w.parts d o.part c (λ x. eqb-false d c e (sym x))))

  kept_put : IsKept (put w d o).world
  kept_put = record { parts = λ c. part_at c (d == c) refl; places = λ c. places_at c (d == c) refl }

kept_at : (w : World) → IsKept w → (x : Option Aim) → IsKept (turn_at w x).world
kept_at w k None = k
kept_at w k (Some a) = kept_put w k a.conference (offer (w.parts a.conference) a.step) (offer_kept (w.parts a.conference) a.step (k.parts a.conference)) (offer_counts (w.parts a.conference) a.step)

-- a step keeps a kept world
pub kept_turn : StepKeeps
kept_turn w s k = kept_at w k (aimed w s)

pub nothing_kept : IsKept nothing
nothing_kept = record { parts = λ c. tt; places = λ c. refl }

pub run_kept : (w : World) (ss : List Step) → IsKept w → IsKept (run w ss)
run_kept w [] k = k
run_kept w (s ∷ ss) k = run_kept (turn w s).world ss (kept_turn w s k)

journal_in : (z : Option Part) (config : Configuration) → KeptIn z → option_map (λ p. p.config) z ≡ Some config → IsJournal config (events_in z)
journal_in None config k e = absurd (none-some config e)
journal_in (Some p) config k e = subst (λ (x : Configuration). IsJournal x p.events) (ap (λ (y : Option Configuration). option_map_or (λ v. v) y config) e) k.journal

-- what steps give a conference is a journal
pub journal_of : EventsAreAJournal
journal_of c config steps e = journal_in ((run nothing steps).parts c) config ((run_kept nothing steps nothing_kept).parts c) e

-- the places of a conference that is alone are numbered by n
solo_is : (c k : ℕ) → solo c k ≡ map (λ n. record { conference = c; n = n }) (first_numbers k)
solo_is c zero = refl
solo_is c (suc k) =
    ap (λ (ps : List Place). ps ++ record { conference = c; n = suc k } ∷ []) (solo_is c k)
    ∙ sym (map-append (λ n. record { conference = c; n = n }) (first_numbers k) (suc k ∷ []))

arrivals_joins : (z : Option Part) → KeptIn z → arrivals_in z ≡ joins (events_in z)
arrivals_joins None k = refl
arrivals_joins (Some p) k = k.joins

pub numbers_alone : NumbersAlone
numbers_alone c steps =
    (all_alone c nothing nothing steps (starts_same c)).world.places
    ∙ solo_is c (arrivals_in ((run nothing steps).parts c))
    ∙ ap (λ (k : ℕ). map (λ n. record { conference = c; n = n }) (first_numbers k)) (arrivals_joins ((run nothing steps).parts c) ((run_kept nothing steps nothing_kept).parts c))
