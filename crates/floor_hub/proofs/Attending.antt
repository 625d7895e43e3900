-- A served message, and an arrival that leaves.
use Rattle.std.proofs.Common.{◌≡◌, ◌≢◌, ◌⊎◌, inl, inr, ℕ, ◌+◌, Bool, true, false, cond, List, [], ◌∷◌, ◌++◌, length, refl, sym, ◌∙◌, ap, subst, length-append, append_assoc, append-nil, Some, None}
use Rattle.std.specs.Prelude.{Option, not, nat_le, if◌then◌else◌, ◌==◌, nat_eq, Result, Ok, Err, MatchResult}
use Rattle.std.specs.List.{concat}
use Rattle.std.specs.Option.{option_map}
use Rattle.std.specs.Map.{update}
use Rattle.std.proofs.lemmas.Bool.{eqb-true, eqb-false, ne_eqb}
use Rattle.std.proofs.lemmas.Option.{none-some}
use Rattle.floor_config.specs.Configuration.{Configuration}
use Rattle.floor_wire.specs.Message.{messages}
use Rattle.floor_machine.specs.declared.event.Event.{Event}
use Rattle.floor_machine.specs.declared.event.Event.TheVariants.{Message}
use Rattle.floor_machine.specs.declared.machine.Refusal.{Refusal}
use Rattle.floor_machine.specs.declared.machine.Refusal.TheVariants.{Broken, Cut, Ended, NoMember, Memory}
use Rattle.floor_machine.specs.Conference.{Conference, is_cut, is_live, opening}
use Rattle.floor_machine.specs.Journal.{IsLawfulFrom, after}
use Rattle.floor_machine.specs.Machine.{event_refusal, leave_refusal, member_refusal, message_refusal, whole}
use Rattle.floor_room.specs.declared.refusal.RoomRefusal.{RoomRefusal}
use Rattle.floor_room.specs.declared.refusal.RoomRefusal.TheVariants.{JournalFull, Refused as ByMachine}
use Rattle.floor_room.specs.Ledger.{conference_of}
use Rattle.floor_room.specs.Room.{Room, broken_room}
use Rattle.floor_room.specs.Ledger.{IsRefusedBy, closed, first_of, refusal}
use Rattle.floor_room.specs.Calls.{Applied, Began, Left}
use Rattle.floor_room.proofs.Ledgers as adding
use Rattle.floor_hub.specs.declared.refusal.HubRefusal.{HubRefusal}
use Rattle.floor_hub.specs.declared.refusal.HubRefusal.TheVariants.{NoConnection, ByRoom}
use Rattle.floor_hub.specs.declared.connection.Connection.{Connection}
use Rattle.floor_hub.specs.declared.step.Served.{Served}
use Rattle.floor_hub.specs.declared.step.Step.TheVariants.{Serve, Leave}
use Rattle.floor_hub.specs.declared.step.Answer.{Answer}
use Rattle.floor_hub.specs.declared.step.Answer.TheVariants.{Nothing, Refused, Served as HasServed}
use Rattle.floor_hub.specs.World as world
use Rattle.floor_hub.specs.World.{IsIdle, World, Part, Arrival, Place, Offered, aim, arrival, if_live, messages_of, offer, place, put, ledger_of, state_of, turn, turn_at, unserved, with_arrival, with_events}
use Rattle.floor_hub.specs.StandsFor.{RoomStands, CameTo, ArrivalStands}
use Rattle.floor_hub.proofs.Standing.{RoomsStand}
use Rattle.floor_hub.specs.Calls.{IsWant, answer_of}
use Rattle.floor_hub.specs.steps.Serving.{IsServable, ServeFailsIn, ServedIn, ServesIn}
use Rattle.floor_hub.specs.Kept.{IsKept, IsKeptPart, KeptIn}
use Rattle.floor_hub.proofs.Acting.{refusal-part}
use Rattle.floor_hub.proofs.Changes.{changed}
use Rattle.floor_hub.proofs.Here.{Here, WantsLive, concat-append, gone, here, messages-append}
use Rattle.floor_hub.proofs.Pieces.{arrival_set, arrival_set_other, stands_again}
use Rattle.floor_hub.proofs.Changed.{connections_again, put_back, rooms_again}
use Rattle.floor_hub.proofs.Unserved.{first, messages_are, unserved-held}

pub same_at : {A : Type 0} (f g : ℕ → Option A) (c : ℕ) (u v : A) → f c ≡ Some u → g c ≡ Some v → v ≡ u → ((d : ℕ) → d ≢ c → g d ≡ f d) → (d : ℕ) → g d ≡ f d
same_at {A} f g c u v is now same others d = by (d == c) refl
  where
    by : (b : Bool) → (d == c) ≡ b → g d ≡ f d
    by true e = ap g (eqb-true d c e) ∙ now ∙ ap (λ (x : A). Some x) same ∙ sym is ∙ ap f (sym (eqb-true d c e))
    by false e = others d (eqb-false d c e)

pub others_of : {A : Type 0} (f g : ℕ → Option A) (c : ℕ) → ((d : ℕ) → nat_eq c d ≡ false → g d ≡ f d) → (d : ℕ) → d ≢ c → g d ≡ f d
others_of f g c others d ne = others d (ne_eqb c d (λ x. ne (sym x)))

pub true_false : true ≡ false → ⊥
true_false e = cc

pub part_state : (r : Room) (p : Part) → r.ledger.config ≡ p.config → r.ledger.journal ≡ p.events → conference_of r.ledger ≡ state_of p
part_state r p config journal = ap (λ (x : Configuration). after x r.ledger.journal) config ∙ ap (λ (es : List Event). after p.config es) journal

pub closed_part : (r : Room) (p : Part) → r.ledger.is_broken ≡ false → r.ledger.config ≡ p.config → r.ledger.journal ≡ p.events → closed r.ledger ≡ closed (ledger_of p)
closed_part r p sound config journal =
    ap (λ (b : Bool). closed (record { config = r.ledger.config; journal = r.ledger.journal; is_broken = b })) sound
    ∙ ap (λ c. closed (record { config = c; journal = r.ledger.journal; is_broken = false })) config
    ∙ ap (λ (es : List Event). closed (record { config = p.config; journal = es; is_broken = false })) journal

servable : (r : Room) → IsServable (closed r.ledger) → (r.ledger.is_broken ≡ false) × ((conference_of r.ledger).is_open ≡ true)
servable r h = by r.ledger.is_broken (conference_of r.ledger).is_open h
  where
    by : (a b : Bool) → IsServable (cond a (Some (ByMachine Broken)) (cond (not b) (Some (ByMachine Ended)) (cond (nat_le 2000000 (length r.ledger.journal)) (Some JournalFull) None))) → (a ≡ false) × (b ≡ true)
    by true b h = absurd h
    by false false h = absurd h
    by false true h = (refl, refl)

-- a live member's own refusal is the further one, if there is one
pub live_refusal : (r : Room) (n : ℕ) (further : Option Refusal) → closed r.ledger ≡ None → is_live (conference_of r.ledger) n ≡ true →
    first_of (closed r.ledger) (option_map ByMachine (member_refusal (whole (conference_of r.ledger)) n further)) ≡ option_map ByMachine further
live_refusal r n further none live =
    ap (λ (x : Option RoomRefusal). first_of x (option_map ByMachine (member_refusal (whole (conference_of r.ledger)) n further))) none
    ∙ by (conference_of r.ledger).is_open (is_live (conference_of r.ledger) n) (adding.opened r.ledger (sym none)).open_now live
  where
    by : (b d : Bool) → b ≡ true → d ≡ true → option_map ByMachine (cond (not b) (Some Ended) (cond (not d) (Some NoMember) further)) ≡ option_map ByMachine further
    by true true e f = refl
    by false d e f = absurd (true_false (sym e))
    by true false e f = absurd (true_false (sym f))

-- a live member's leave is refused for want of memory alone
pub no_refusal : (r : Room) (n : ℕ) → closed r.ledger ≡ None → is_live (conference_of r.ledger) n ≡ true → first_of (closed r.ledger) (option_map ByMachine (leave_refusal (whole (conference_of r.ledger)) n)) ≡ None
no_refusal r n none live = live_refusal r n None none live

-- so is its message, where it isn't cut
pub no_message_refusal : (r : Room) (n : ℕ) → closed r.ledger ≡ None → is_live (conference_of r.ledger) n ≡ true → is_cut (conference_of r.ledger) n ≡ false →
    first_of (closed r.ledger) (option_map ByMachine (message_refusal (whole (conference_of r.ledger)) n)) ≡ None
no_message_refusal r n none live uncut =
    live_refusal r n (cond (is_cut (conference_of r.ledger) n) (Some Cut) None) none live
    ∙ ap (λ (b : Bool). option_map ByMachine (cond b (Some Cut) None)) uncut

-- and where it is, by that
pub cut_refusal : (r : Room) (n : ℕ) → closed r.ledger ≡ None → is_live (conference_of r.ledger) n ≡ true → is_cut (conference_of r.ledger) n ≡ true →
    first_of (closed r.ledger) (option_map ByMachine (message_refusal (whole (conference_of r.ledger)) n)) ≡ Some (ByMachine Cut)
cut_refusal r n none live cut =
    live_refusal r n (cond (is_cut (conference_of r.ledger) n) (Some Cut) None) none live
    ∙ ap (λ (b : Bool). option_map ByMachine (cond b (Some Cut) None)) cut

pub by_memory : (x : Option RoomRefusal) (why : RoomRefusal) → x ≡ None → IsRefusedBy {T = Unit {0}} x (Err why) → why ≡ ByMachine Memory
by_memory None why e h = h
by_memory (Some y) why e h = absurd (none-some y (sym e))

-- what Memory has left is a broken room of the same configuration
pub left_broken : (r new : Room) (e : Event) (why : RoomRefusal) → why ≡ ByMachine Memory → Left r new e why → (new.ledger.is_broken ≡ true) × (new.ledger.config ≡ r.ledger.config)
left_broken r new e why is left = by (subst (Left r new e) is left)
  where
    by : ((new ≡ broken_room r) ⊎ Began r new e) → (new.ledger.is_broken ≡ true) × (new.ledger.config ≡ r.ledger.config)
    by (inl same) = (ap (λ (x : Room). x.ledger.is_broken) same, ap (λ (x : Room). x.ledger.config) same)
    by (inr began) = (ap (λ (x : Room). x.ledger.is_broken) began.next, ap (λ (x : Room). x.ledger.config) began.next)

-- what came from another connection stays
pub came_apart : (r new : Room) (e : Event) (y : Connection) (a : Arrival) → r.ledger.is_broken ≡ false → new.ledger.journal ≡ r.ledger.journal ++ e ∷ [] → messages_of y.n (e ∷ []) ≡ [] →
    CameTo (Some r) y a → CameTo (Some new) y a
came_apart r new e y a sound journal none h = λ b.
    let same : messages_of y.n new.ledger.journal ≡ messages_of y.n r.ledger.journal =
    ap (messages_of y.n) journal ∙ messages-append y.n r.ledger.journal (e ∷ []) ∙ ap (λ (ms : List (List ℕ)). messages_of y.n r.ledger.journal ++ ms) none ∙ append-nil (messages_of y.n r.ledger.journal) in
    record {
      bytes = (h sound).bytes ∙ ap (λ (ms : List (List ℕ)). concat ms ++ y.held) (sym same);
      served = (h sound).served ∙ ap (λ (ms : List (List ℕ)). length ms) (sym same);
    }

-- some messages have a first one
some_first : (ms : List (List ℕ)) → ms ≢ [] → (m : List ℕ) × (first ms ≡ Some m)
some_first [] ne = absurd (ne refl)
some_first (m ∷ ms) ne = (m, refl)

not_mine : (m n : ℕ) (frame : List ℕ) → n ≢ m → messages_of n (Message m frame ∷ []) ≡ []
not_mine m n frame ne = ap (λ (b : Bool). if b then frame ∷ [] else []) (ne_eqb m n (λ x. ne (sym x)))

mine : (m n : ℕ) (frame : List ℕ) → n ≡ m → messages_of n (Message m frame ∷ []) ≡ frame ∷ []
mine m n frame e = ap (λ (b : Bool). if b then frame ∷ [] else []) (Rattle.std.proofs.lemmas.Bool.eq-eqb m n (sym e))

module _ (rooms now : ℕ → Option Room) (xs now_xs : ℕ → Option Connection) (k : ℕ) (w : World) (number : ℕ) (st : RoomsStand rooms xs k w) (kept : IsKept w)
    (x : Connection) (h : Here rooms w number x) (new : Room)
    (now_here : now h.p.conference ≡ Some new) (other_rooms : (d : ℕ) → d ≢ h.p.conference → now d ≡ rooms d)
    (others : (j : ℕ) → j ≢ number → now_xs j ≡ xs j) where
  abbrev part : Part
  part = h.part

  abbrev c : ℕ
  c = h.p.conference

  abbrev n : ℕ
  n = h.p.n

  kept_part : IsKeptPart part
  kept_part = subst KeptIn h.was (kept.parts c)

  -- the room is broken, and the arrival stays
  pub stands_broken : (rest : List ℕ) → now_xs number ≡ Some (record { conference = x.conference; n = x.n; held = rest }) → new.ledger.is_broken ≡ true → new.ledger.config ≡ h.r.ledger.config → RoomsStand now now_xs k w
  stands_broken rest mine_now broken config =
      let own : ArrivalStands now h.p (Some (record { conference = x.conference; n = x.n; held = rest })) (Some h.a) =
      (h.conference, h.n, subst (λ (y : Option Room). CameTo y (record { conference = x.conference; n = x.n; held = rest }) h.a) (sym now_here) (λ sound. absurd (true_false (sym broken ∙ sound)))) in
      let made : RoomsStand now now_xs k (record { parts = update nat_eq w.parts c (Some part); places = w.places }) = changed rooms now xs now_xs k w number h.p part part st (record {
        at_place = h.at_place;
        was = h.was;
        other_rooms = other_rooms;
        other_numbers = others;
        other_arrivals = λ m ne. refl;
        other_came = λ y a ne came. subst (λ (z : Option Room). CameTo z y a) (sym now_here) (λ sound. absurd (true_false (sym broken ∙ sound)));
        room = subst (λ (y : Option Room). RoomStands y (Some part)) (sym now_here) (config ∙ h.stands.0, λ sound. absurd (true_false (sym broken ∙ sound)));
        own = subst (λ (y : Option Connection). ArrivalStands now h.p y (if_live (arrival part n))) (sym mine_now) (subst (ArrivalStands now h.p (Some (record { conference = x.conference; n = x.n; held = rest }))) (sym h.alive) own);
      }) in
      stands_again now now_xs k (record { parts = update nat_eq w.parts c (Some part); places = w.places }) w.parts (λ d. sym (put_back w c (Some part) h.was d (d == c) refl)) made

  -- all is as it was
  pub stands_same : (rest : List ℕ) → xs number ≡ Some x → now_xs number ≡ Some (record { conference = x.conference; n = x.n; held = rest }) → new ≡ h.r → rest ≡ x.held →
      (parts : ℕ → Option Part) → ((d : ℕ) → parts d ≡ w.parts d) → RoomsStand now now_xs k (record { parts = parts; places = w.places })
  stands_same rest mine_was mine_now same held parts again =
      connections_again now xs now_xs k (record { parts = parts; places = w.places })
      (same_at xs now_xs number x (record { conference = x.conference; n = x.n; held = rest }) mine_was mine_now (ap (λ (y : List ℕ). record { conference = x.conference; n = x.n; held = y }) held) others)
      (rooms_again rooms now xs k w parts (same_at rooms now c h.r new h.room now_here same other_rooms) again st)

  serve_turn : turn w (Serve number) ≡ put w c (world.serve part n (Some h.a))
  serve_turn =
      ap (λ (y : Option Place). turn_at w (aim Serve y)) h.at_place ∙ ap (λ (z : Option Part). put w c (offer z (Serve n))) h.was
      ∙ ap (λ (z : Option Arrival). put w c (world.serve part n z)) h.alive

  abbrev pub Turned : Answer → Type 0
  Turned a = RoomsStand now now_xs k (turn w (Serve number)).world × ((turn w (Serve number)).answer ≡ a)

  turned : (o : Offered) (a : Answer) → world.serve part n (Some h.a) ≡ o → RoomsStand now now_xs k (put w c o).world × ((put w c o).answer ≡ a) → Turned a
  turned o a e t = subst (λ (u : world.Turn). RoomsStand now now_xs k u.world × (u.answer ≡ a)) (sym (serve_turn ∙ ap (put w c) e)) t

  -- what is served next is the first that is held
  next_held : h.r.ledger.is_broken ≡ false → unserved h.a ≡ first (messages x.held)
  next_held sound =
      let lawful : IsLawfulFrom (opening part.config) h.r.ledger.journal = subst (IsLawfulFrom (opening part.config)) (sym (h.stands.1 sound)) kept_part.journal.lawful in
      unserved-held h.a (messages_of x.n h.r.ledger.journal) x.held (messages_are (opening part.config) h.r.ledger.journal x.n lawful) (h.came sound).bytes (h.came sound).served

  open_part : h.r.ledger.is_broken ≡ false → (conference_of h.r.ledger).is_open ≡ true → (state_of part).is_open ≡ true
  open_part sound open_now = sym (ap (λ (s : Conference). s.is_open) (part_state h.r part h.stands.0 (h.stands.1 sound))) ∙ open_now

  serve_open : (state_of part).is_open ≡ true → (m : Option (List ℕ)) → unserved h.a ≡ m → world.serve part n (Some h.a) ≡ world.serve_message part n h.a m
  serve_open open_now m un =
      ap (λ (b : Bool). if not b then world.refuses (Some part) (ByRoom (ByMachine Ended)) else world.serve_message part n h.a (unserved h.a)) open_now
      ∙ ap (world.serve_message part n h.a) un

  serves_nothing : (rest : List ℕ) → xs number ≡ Some x → now_xs number ≡ Some (record { conference = x.conference; n = x.n; held = rest }) →
      IsServable (closed h.r.ledger) → messages x.held ≡ [] → new ≡ h.r → rest ≡ x.held → Turned Nothing
  serves_nothing rest mine_was mine_now open_now none same held =
      let s = servable h.r open_now in
      let un : unserved h.a ≡ None = next_held s.0 ∙ ap first none in
      turned (world.serve_message part n h.a None) Nothing (serve_open (open_part s.0 s.1) None un)
      (stands_same rest mine_was mine_now same held (update nat_eq w.parts c (Some part)) (λ d. put_back w c (Some part) h.was d (d == c) refl), refl)

  serves_message : (rest frame : List ℕ) → now_xs number ≡ Some (record { conference = x.conference; n = x.n; held = rest }) →
      messages x.held ≡ frame ∷ messages rest → x.held ≡ frame ++ rest → Applied h.r new (Message x.n frame) → Turned HasServed
  serves_message rest frame mine_now next_one cut t =
      let none : closed h.r.ledger ≡ None = first_none (closed h.r.ledger) (option_map ByMachine (message_refusal (whole (conference_of h.r.ledger)) x.n)) t.allowed in
      let room = adding.opened h.r.ledger (sym none) in
      let sound : h.r.ledger.is_broken ≡ false = room.unbroken in
      let events : h.r.ledger.journal ≡ part.events = h.stands.1 sound in
      let un : unserved h.a ≡ Some frame = next_held sound ∙ ap first next_one in
      let allowed : world.refused part (Message n frame) ≡ None =
      ap (λ (i : ℕ). world.refused part (Message i frame)) (sym h.n) ∙ sym (refusal-part h.r part (Message x.n frame) sound h.stands.0 events) ∙ t.allowed in
      let b : Arrival = record { bytes = h.a.bytes; served = h.a.served + 1; live = h.a.live } in
      let after_part : Part = with_arrival (with_events part (Message n frame ∷ [])) n b in
      let journal : new.ledger.journal ≡ h.r.ledger.journal ++ Message x.n frame ∷ [] = ap (λ (y : Room). y.ledger.journal) t.next in
      let set : arrival after_part n ≡ Some b = arrival_set (with_events part (Message n frame ∷ [])) n b h.a h.there in
      let still : if_live (Some b) ≡ Some b = ap (λ (l : Bool). if l then Some b else None) h.live in
      let now_x : Connection = record { conference = x.conference; n = x.n; held = rest } in
      let mine_more : messages_of x.n new.ledger.journal ≡ messages_of x.n h.r.ledger.journal ++ frame ∷ [] =
      ap (messages_of x.n) journal ∙ messages-append x.n h.r.ledger.journal (Message x.n frame ∷ []) ∙ ap (λ (ms : List (List ℕ)). messages_of x.n h.r.ledger.journal ++ ms) (mine x.n x.n frame refl) in
      let came : CameTo (Some new) now_x b = λ e. record {
        bytes =
            (h.came sound).bytes ∙ ap (λ (y : List ℕ). concat (messages_of x.n h.r.ledger.journal) ++ y) cut
            ∙ sym (append_assoc (concat (messages_of x.n h.r.ledger.journal)) frame rest)
            ∙ ap (λ (y : List ℕ). (concat (messages_of x.n h.r.ledger.journal) ++ y) ++ rest) (sym (append-nil frame))
            ∙ ap (λ (y : List ℕ). y ++ rest) (sym (concat-append (messages_of x.n h.r.ledger.journal) (frame ∷ [])))
            ∙ ap (λ (ms : List (List ℕ)). concat ms ++ rest) (sym mine_more);
        served =
            ap (λ (i : ℕ). i + 1) (h.came sound).served ∙ sym (length-append (messages_of x.n h.r.ledger.journal) (frame ∷ []))
            ∙ ap (λ (ms : List (List ℕ)). length ms) (sym mine_more);
      } in
      let own : ArrivalStands now h.p (Some now_x) (Some b) = (h.conference, h.n, subst (λ (y : Option Room). CameTo y now_x b) (sym now_here) came) in
      turned (record { part = Some after_part; answer = HasServed }) HasServed
      (serve_open (open_part sound room.open_now) (Some frame) un
      ∙ ap (world.take_message part n h.a frame) allowed) (
        changed rooms now xs now_xs k w number h.p part after_part st (record {
          at_place = h.at_place;
          was = h.was;
          other_rooms = other_rooms;
          other_numbers = others;
          other_arrivals = λ m ne. arrival_set_other (with_events part (Message n frame ∷ [])) n m b ne;
          other_came = λ y a ne came. subst (λ (z : Option Room). CameTo z y a) (sym now_here)
              (came_apart h.r new (Message x.n frame) y a sound journal (not_mine x.n y.n frame (λ e. ne (e ∙ h.n))) (subst (λ (z : Option Room). CameTo z y a) h.room came));
          room = subst (λ (y : Option Room). RoomStands y (Some after_part)) (sym now_here)
              (ap (λ (y : Room). y.ledger.config) t.next ∙ h.stands.0, λ e. journal ∙ ap (λ (i : ℕ). h.r.ledger.journal ++ Message i frame ∷ []) h.n ∙ ap (λ (es : List Event). es ++ Message n frame ∷ []) events);
          own = subst (λ (y : Option Connection). ArrivalStands now h.p y (if_live (arrival after_part n))) (sym mine_now) (subst (ArrivalStands now h.p (Some now_x)) (sym (ap if_live set ∙ still)) own);
        }),
        refl,
      )
    where
      first_none : (y z : Option RoomRefusal) → first_of y z ≡ None → y ≡ None
      first_none None z e = refl
      first_none (Some r) z e = absurd (none-some r (sym e))

  abbrev pub ServeFails : HubRefusal → Type 0
  ServeFails r = (IsWant (turn w (Serve number)).answer r × RoomsStand now now_xs k w) ⊎ Turned (Refused r)

  some_is : (y z : RoomRefusal) → ◌≡◌ {A = Option RoomRefusal} (Some y) (Some z) → z ≡ y
  some_is y z e = cc

  -- the room is closed, and all is as it was
  serve_closed : (rest : List ℕ) (why : RoomRefusal) → xs number ≡ Some x → now_xs number ≡ Some (record { conference = x.conference; n = x.n; held = rest }) →
      closed h.r.ledger ≡ Some why → (why ≡ JournalFull → messages x.held ≢ []) → new ≡ h.r → rest ≡ x.held → ServeFails (ByRoom why)
  serve_closed rest why mine_was mine_now is ready same held = by h.r.ledger.is_broken (conference_of h.r.ledger).is_open (nat_le 2000000 (length h.r.ledger.journal)) refl refl refl is
    where
      back : RoomsStand now now_xs k (record { parts = update nat_eq w.parts c (Some part); places = w.places })
      back = stands_same rest mine_was mine_now same held (update nat_eq w.parts c (Some part)) (λ d. put_back w c (Some part) h.was d (d == c) refl)

      by : (b o f : Bool) → h.r.ledger.is_broken ≡ b → (conference_of h.r.ledger).is_open ≡ o → nat_le 2000000 (length h.r.ledger.journal) ≡ f →
          cond b (Some (ByMachine Broken)) (cond (not o) (Some (ByMachine Ended)) (cond f (Some JournalFull) None)) ≡ Some why → ServeFails (ByRoom why)
      by true o f eb eo ef e = inl (inr (ap (λ (y : RoomRefusal). ByRoom y) (some_is (ByMachine Broken) why e)), stands_same rest mine_was mine_now same held w.parts (λ d. refl))
      by false false f eb eo ef e =
          let ended : (state_of part).is_open ≡ false = sym (ap (λ (s : Conference). s.is_open) (part_state h.r part h.stands.0 (h.stands.1 eb))) ∙ eo in
          inr (turned (world.refuses (Some part) (ByRoom (ByMachine Ended))) (Refused (ByRoom why))
          (ap (λ (b : Bool). if not b then world.refuses (Some part) (ByRoom (ByMachine Ended)) else world.serve_message part n h.a (unserved h.a)) ended)
          (back, ap (λ (y : RoomRefusal). Refused (ByRoom y)) (sym (some_is (ByMachine Ended) why e))))
      by false true true eb eo ef e =
          let one = some_first (messages x.held) (ready (some_is JournalFull why e)) in
          let refuses : world.refused part (Message n one.0) ≡ Some why =
          ap (λ (y : Option RoomRefusal). first_of y (option_map ByMachine (event_refusal (whole (state_of part)) (Message n one.0))))
          (sym (closed_part h.r part eb h.stands.0 (h.stands.1 eb)) ∙ is) in
          inr (turned (world.refuses (Some part) (ByRoom why)) (Refused (ByRoom why))
          (serve_open (open_part eb eo) (Some one.0) (next_held eb ∙ one.1) ∙ ap (world.take_message part n h.a one.0) refuses)
          (back, refl))
      by false true false eb eo ef e = absurd (none-some why e)

  -- the member of the connection is live
  pub member_live : closed h.r.ledger ≡ None → is_live (conference_of h.r.ledger) x.n ≡ true
  member_live none =
      let room = adding.opened h.r.ledger (sym none) in
      let state : conference_of h.r.ledger ≡ state_of part = part_state h.r part h.stands.0 (h.stands.1 room.unbroken) in
      let live : is_live (state_of part) n ≡ true = kept_part.live n h.a (open_part room.unbroken room.open_now) h.there h.live in
      subst (λ (i : ℕ). is_live (conference_of h.r.ledger) i ≡ true) (sym h.n) (subst (λ (s : Conference). is_live s n ≡ true) (sym state) live)

  -- a whole message of a member that isn't cut is served, where the room takes events
  busy : (frame : List ℕ) → closed h.r.ledger ≡ None → is_cut (conference_of h.r.ledger) x.n ≡ false → first (messages x.held) ≡ Some frame → ¬ IsIdle (turn w (Serve number)).answer
  busy frame none uncut one =
      let room = adding.opened h.r.ledger (sym none) in
      let allowed : world.refused part (Message n frame) ≡ None =
      ap (λ (i : ℕ). world.refused part (Message i frame)) (sym h.n)
      ∙ sym (refusal-part h.r part (Message x.n frame) room.unbroken h.stands.0 (h.stands.1 room.unbroken))
      ∙ no_message_refusal h.r x.n none (member_live none) uncut in
      let served : (turn w (Serve number)).answer ≡ HasServed =
      ap (λ (t : world.Turn). t.answer) (serve_turn ∙ ap (put w c) (serve_open (open_part room.unbroken room.open_now) (Some frame) (next_held room.unbroken ∙ one) ∙ ap (world.take_message part n h.a frame) allowed)) in
      λ idle. subst IsIdle served idle

  serve_failed : (rest : List ℕ) (why : RoomRefusal) → xs number ≡ Some x → now_xs number ≡ Some (record { conference = x.conference; n = x.n; held = rest }) →
      ServeFailsIn h.r new x.n x.held rest why → ServeFails (ByRoom why)
  serve_failed rest why mine_was mine_now (inl f) = serve_closed rest why mine_was mine_now f.0 f.1 f.2 f.3
  serve_failed rest why mine_was mine_now (inr (inl f)) =
      let room = adding.opened h.r.ledger (sym f.1) in
      let one = some_first (messages x.held) f.3 in
      let refuses : world.refused part (Message n one.0) ≡ Some why =
      ap (λ (i : ℕ). world.refused part (Message i one.0)) (sym h.n)
      ∙ sym (refusal-part h.r part (Message x.n one.0) room.unbroken h.stands.0 (h.stands.1 room.unbroken))
      ∙ cut_refusal h.r x.n f.1 (member_live f.1) f.2 ∙ ap (λ (y : RoomRefusal). Some y) (sym f.0) in
      inr (turned (world.refuses (Some part) (ByRoom why)) (Refused (ByRoom why))
      (serve_open (open_part room.unbroken room.open_now) (Some one.0) (next_held room.unbroken ∙ one.1) ∙ ap (world.take_message part n h.a one.0) refuses)
      (stands_same rest mine_was mine_now f.4 f.5 (update nat_eq w.parts c (Some part)) (λ d. put_back w c (Some part) h.was d (d == c) refl), refl))
  serve_failed rest why mine_was mine_now (inr (inr (inl f))) =
      let one = some_first (messages x.held) f.3 in
      inl (inl (ap (λ (y : RoomRefusal). ByRoom y) f.0, busy one.0 f.1 f.2 one.1), stands_broken rest mine_now (ap (λ (y : Room). y.ledger.is_broken) f.4) (ap (λ (y : Room). y.ledger.config) f.4))
  serve_failed rest why mine_was mine_now (inr (inr (inr f))) =
      let memory : why ≡ ByMachine Memory = by_memory (refusal h.r.ledger (Message x.n f.0)) why (no_message_refusal h.r x.n f.1 (member_live f.1) f.2) f.3 in
      let broken = left_broken h.r new (Message x.n f.0) why memory f.4 in
      inl (inl (ap (λ (y : RoomRefusal). ByRoom y) memory, busy f.0 f.1 f.2 (ap first f.5)), stands_broken rest mine_now broken.0 broken.1)

  serve_done : (rest : List ℕ) (found : Served) → xs number ≡ Some x → now_xs number ≡ Some (record { conference = x.conference; n = x.n; held = rest }) →
      ServesIn h.r new x.n x.held rest found → Turned (answer_of found)
  serve_done rest Served.Nothing mine_was mine_now f = serves_nothing rest mine_was mine_now f.0 f.1 f.2 f.3
  serve_done rest Served.Message mine_was mine_now f = serves_message rest f.0 mine_now f.1 f.2 f.3

  pub serve_made : (rest : List ℕ) (res : Result Served HubRefusal) → xs number ≡ Some x → now_xs number ≡ Some (record { conference = x.conference; n = x.n; held = rest }) →
      ServedIn h.r new x.n x.held rest res → MatchResult res (λ found. Turned (answer_of found)) ServeFails
  serve_made rest (Ok found) mine_was mine_now s = serve_done rest found mine_was mine_now s.served
  serve_made rest (Err r) mine_was mine_now s = subst ServeFails (sym s.failed.1) (serve_failed rest s.failed.0 mine_was mine_now s.failed.2)

wants_serve : WantsLive Serve
wants_serve None n e = refl
wants_serve (Some p) n e = ap (world.serve p n) e

pub wants_leave : WantsLive Leave
wants_leave None n e = refl
wants_leave (Some p) n e = ap (world.leave p n) e

module _ (rooms now : ℕ → Option Room) (xs now_xs : ℕ → Option Connection) (k : ℕ) (w : World) (number : ℕ) (st : RoomsStand rooms xs k w) (kept : IsKept w) where
  abbrev ServedAll : Answer → Type 0
  ServedAll a = RoomsStand now now_xs k (turn w (Serve number)).world × ((turn w (Serve number)).answer ≡ a)

  abbrev pub ServeFailsAll : HubRefusal → Type 0
  ServeFailsAll r = (IsWant (turn w (Serve number)).answer r × RoomsStand now now_xs k w) ⊎ ServedAll (Refused r)

  -- what serving is in the world
  pub serve_result : (res : Result Served HubRefusal) (y : Option Connection) → xs number ≡ y →
      (xs number ≡ None → (res ≡ Err NoConnection) × ((d : ℕ) → now d ≡ rooms d) × ((j : ℕ) → now_xs j ≡ xs j)) →
      ((x : Connection) → xs number ≡ Some x → (r : Room) → rooms x.conference ≡ Some r → (new : Room) × (rest : List ℕ) × (now x.conference ≡ Some new)
      × ((d : ℕ) → nat_eq x.conference d ≡ false → now d ≡ rooms d) × (now_xs number ≡ Some (record { conference = x.conference; n = x.n; held = rest }))
      × ((j : ℕ) → nat_eq number j ≡ false → now_xs j ≡ xs j) × ServedIn r new x.n x.held rest res) →
      MatchResult res (λ found. ServedAll (answer_of found)) ServeFailsAll
  serve_result res None is absent there =
      let a = absent is in
      let g = gone rooms xs k w Serve wants_serve number st is in
      let stands : RoomsStand now now_xs k (turn w (Serve number)).world =
      connections_again now xs now_xs k (turn w (Serve number)).world a.2 (rooms_again rooms now xs k (turn w (Serve number)).world (turn w (Serve number)).world.parts a.1 (λ d. refl) g.0) in
      subst (λ (z : Result Served HubRefusal). MatchResult z (λ found. ServedAll (answer_of found)) ServeFailsAll) (sym a.0) (inr (stands, g.1))
  serve_result res (Some x) is absent there =
      let h = here rooms xs k w number x st is in
      let t = there x is h.r (ap rooms h.conference ∙ h.room) in
      serve_made rooms now xs now_xs k w number st kept x h t.0 (ap now (sym h.conference) ∙ t.2) (λ d ne. t.3 d (ne_eqb x.conference d (λ e. ne (sym e ∙ h.conference))))
      (λ j ne. t.5 j (ne_eqb number j (λ e. ne (sym e)))) t.1 res is t.4 t.6
