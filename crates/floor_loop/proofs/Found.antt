-- What serving a connection has found: a message, or that none is whole.
use Rattle.std.proofs.Common.{◌≡◌, ◌⊎◌, ℕ, ◌+◌, Bool, true, false, List, [], ◌∷◌, ◌++◌, length, take, map, inl, inr, refl, sym, ◌∙◌, ap, subst, append-nil, append_assoc, arith, length-append, Some, None}
use Rattle.std.specs.Prelude.{Option, Result, Ok, Err, IfOk, if◌then◌else◌, nat_eq, not}
use Rattle.std.specs.List.{concat}
use Rattle.std.specs.Map.{update}
use Rattle.std.proofs.lemmas.Map.{update_here}
use Rattle.std.proofs.lemmas.Option.{none-some}
use Rattle.floor_wire.specs.Message.{messages}
use Rattle.floor_machine.specs.declared.event.Event.{Event}
use Rattle.floor_machine.specs.declared.event.Event.TheVariants as event
use Rattle.floor_machine.specs.declared.machine.Refusal.{Refusal}
use Rattle.floor_room.specs.declared.refusal.RoomRefusal.{RoomRefusal}
use Rattle.floor_room.specs.Room.{Room}
use Rattle.floor_hub.specs.declared.connection.Connection.{Connection}
use Rattle.floor_hub.specs.declared.refusal.HubRefusal.{HubRefusal}
use Rattle.floor_hub.specs.declared.step.Answer.TheVariants as answer
use Rattle.floor_hub.specs.declared.step.Served.{Served}
use Rattle.floor_hub.specs.declared.step.Served.TheVariants as served
use Rattle.floor_hub.specs.declared.step.Step.TheVariants.{Serve}
use Rattle.floor_hub.specs.Calls.{Turns, answer_of}
use Rattle.floor_hub.specs.Connections.{StayLive, connection_at}
use Rattle.floor_hub.specs.Hub.{Hub, is_forgotten, room_at}
use Rattle.floor_hub.specs.Rooms.{RoomAfter, RoomAfterIn, RoomOf, by_broken, serve_event}
use Rattle.floor_hub.specs.StandsFor.{ArrivalStands, Came, CameTo, ConferenceStands, NumberStands, RoomStands, StandsFor, arrival_in}
use Rattle.floor_hub.specs.World as world
use Rattle.floor_hub.specs.World.{Arrival, Part, Place, World, aim, arrival, if_live, messages_of, numbered, place, places_after, put, refused, serve, serve_message, take_message, turn, turn_at, unserved, with_arrival, with_events}
use Rattle.floor_loop.specs.Done.{AddsMessages, Serves}
use Rattle.floor_loop.specs.steps.Moved.{WasLive}
use Rattle.floor_loop.specs.steps.Found.{Finds}
use Rattle.floor_loop.proofs.Moving.{was-live}

some_is : {A : Type 0} (x y : A) → ◌≡◌ {A = Option A} (Some x) (Some y) → x ≡ y
some_is x y e = cc

-- lists

tail_is : {A : Type 0} (x : A) (us vs : List A) → ◌≡◌ {A = List A} (x ∷ us) (x ∷ vs) → us ≡ vs
tail_is x us vs e = cc

cancel : {A : Type 0} (xs ys zs : List A) → xs ++ ys ≡ xs ++ zs → ys ≡ zs
cancel [] ys zs e = e
cancel (x ∷ xs) ys zs e = cancel xs ys zs (tail_is x (xs ++ ys) (xs ++ zs) e)

-- of messages the first isn't there: there is none
none-first : (n : ℕ) (ms : List (List ℕ)) → map (event.Message n) (take 1 ms) ≡ [] → ms ≡ []
none-first n [] e = refl
none-first n (m ∷ ms) e = absurd (not_nil (event.Message n m) (map (event.Message n) (take 0 ms)) e)
  where
    not_nil : (x : Event) (xs : List Event) → ◌≡◌ {A = List Event} (x ∷ xs) [] → ⊥
    not_nil x xs e = cc

-- what a live connection is in the world: its arrival there, and its room, which if it isn't broken off has the events of its conference
record Known (h : Hub) (x : Connection) (p : Place) (part : Part) : Type 0 where
  sent : Arrival
  live : if_live (arrival part p.n) ≡ Some sent
  conference : x.conference ≡ p.conference
  n : x.n ≡ p.n
  room : Room
  there : room_at h p.conference ≡ Some room
  events : room.ledger.is_broken ≡ false → room.ledger.journal ≡ part.events
  came : room.ledger.is_broken ≡ false → Came room x sent

known : (h : Hub) (w : World) → StandsFor h w → (number : ℕ) (x : Connection) (p : Place) (part : Part) → connection_at h.connections number ≡ Some x → place w.places number ≡ Some p → w.parts p.conference ≡ Some part → Known h x p part
known h w st number x p part is_x is_p is_part = by (if_live (arrival part p.n)) refl stands
  where
    numbers : NumberStands (room_at h) w.parts (Some x) (Some p)
    numbers = subst (λ (z : Option Connection). NumberStands (room_at h) w.parts z (Some p)) is_x (subst (λ (z : Option Place). NumberStands (room_at h) w.parts (connection_at h.connections number) z) is_p (st.stands.numbers number))

    stands : ArrivalStands (room_at h) p (Some x) (if_live (arrival part p.n))
    stands = subst (λ (z : Option Part). ArrivalStands (room_at h) p (Some x) (if_live (arrival_in z p.n))) is_part numbers

    conference : x.conference ≡ p.conference → RoomStands (room_at h p.conference) (Some part)
    conference e =
        let remembered : is_forgotten h p.conference ≡ false = subst (λ (c : ℕ). is_forgotten h c ≡ false) e (st.stands.remembered number x is_x) in
        subst (λ (z : Option Part). RoomStands (room_at h p.conference) z) is_part (subst (λ (b : Bool). ConferenceStands b (room_at h p.conference) (w.parts p.conference)) remembered (st.stands.conferences p.conference))

    by : (z : Option Arrival) → if_live (arrival part p.n) ≡ z → ArrivalStands (room_at h) p (Some x) z → Known h x p part
    by None e s = absurd s
    by (Some a) e s = at (room_at h p.conference) refl (conference s.0) s.2
      where
        at : (z : Option Room) → room_at h p.conference ≡ z → RoomStands z (Some part) → CameTo z x a → Known h x p part
        at None i f g = absurd f
        at (Some r) i f g = record { sent = a; live = e; conference = s.0; n = s.1; room = r; there = i; events = f.1; came = g }

-- where the number of a live connection leads to
record Leads (h : Hub) (w : World) (number : ℕ) (x : Connection) : Type 0 where
  place : Place
  part : Part
  placed : world.place w.places number ≡ Some place
  there : w.parts place.conference ≡ Some part
  known : Known h x place part

leads-to : (h : Hub) (w : World) → StandsFor h w → (number : ℕ) (x : Connection) → connection_at h.connections number ≡ Some x → Leads h w number x
leads-to h w st number x is_x = by (place w.places number) refl
  where
    numbers : (z : Option Place) → place w.places number ≡ z → NumberStands (room_at h) w.parts (Some x) z
    numbers z e = subst (λ (y : Option Connection). NumberStands (room_at h) w.parts y z) is_x (subst (λ (y : Option Place). NumberStands (room_at h) w.parts (connection_at h.connections number) y) e (st.stands.numbers number))

    by : (z : Option Place) → place w.places number ≡ z → Leads h w number x
    by None e = absurd (none-some x (sym (numbers None e)))
    by (Some p) e = at (w.parts p.conference) refl
      where
        at : (z : Option Part) → w.parts p.conference ≡ z → Leads h w number x
        at None f = absurd (subst (λ (y : Option Part). ArrivalStands (room_at h) p (Some x) (if_live (arrival_in y p.n))) f (numbers (Some p) e))
        at (Some part) f = record { place = p; part = part; placed = e; there = f; known = known h w st number x p part is_x e f }

-- the turn of the world that serves it
turned : (h : Hub) (w : World) (number : ℕ) (x : Connection) (l : Leads h w number x) → turn w (Serve number) ≡ put w l.place.conference (serve l.part l.place.n (Some l.known.sent))
turned h w number x l =
    ap (λ (z : Option Place). turn_at w (aim Serve z)) l.placed ∙ ap (λ (z : Option Part). put w l.place.conference (world.offer z (Serve l.place.n))) l.there
    ∙ ap (λ (z : Option Arrival). put w l.place.conference (serve l.part l.place.n z)) l.known.live

-- what it is in the world behind that turn, which has come to this part
behind : (h k : Hub) (w : World) (number : ℕ) (x y : Connection) (l : Leads h w number x) (q : Part) → connection_at k.connections number ≡ Some y → StandsFor k (turn w (Serve number)).world →
    (serve l.part l.place.n (Some l.known.sent)).part ≡ Some q → places_after w.places l.place.conference (serve l.part l.place.n (Some l.known.sent)).answer ≡ w.places → Known k y l.place q
behind h k w number x y l q is_y stands part places = known k after (subst (StandsFor k) same stands) number y l.place q is_y l.placed (update_here w.parts l.place.conference (Some q))
  where
    after : World
    after = record { parts = update nat_eq w.parts l.place.conference (Some q); places = w.places }

    same : (turn w (Serve number)).world ≡ after
    same =
        ap (λ (t : world.Turn). t.world) (turned h w number x l)
        ∙ ap (λ (z : Option Part). world_of z (places_after w.places l.place.conference (serve l.part l.place.n (Some l.known.sent)).answer)) part
        ∙ ap (λ (z : List Place). world_of (Some q) z) places
      where
        world_of : Option Part → List Place → World
        world_of z places = record { parts = update nat_eq w.parts l.place.conference z; places = places }

abbrev ended : HubRefusal
ended = HubRefusal.ByRoom (RoomRefusal.Refused Refusal.Ended)

-- what serving comes to, by whether the conference has ended
abbrev served_if : Part → ℕ → Arrival → Bool → world.Offered
served_if p n a b = if b then world.refuses (Some p) ended else serve_message p n a (unserved a)

-- the answer that no message is whole
found-none : (p : Part) (n : ℕ) (a : Arrival) (ps : List Place) (c : ℕ) → numbered ps (serve p n (Some a)).answer ≡ answer.Nothing → ((serve p n (Some a)).part ≡ Some p) × (places_after ps c (serve p n (Some a)).answer ≡ ps)
found-none p n a ps c = by (not (world.state_of p).is_open)
  where
    not_refused : (r : HubRefusal) → answer.Refused r ≡ answer.Nothing → ⊥
    not_refused r e = cc

    not_served : answer.Served ≡ answer.Nothing → ⊥
    not_served e = cc

    taken : (m : List ℕ) (r : Option RoomRefusal) → numbered ps (take_message p n a m r).answer ≡ answer.Nothing → ((take_message p n a m r).part ≡ Some p) × (places_after ps c (take_message p n a m r).answer ≡ ps)
    taken m None e = absurd (not_served e)
    taken m (Some r) e = absurd (not_refused (HubRefusal.ByRoom r) e)

    message : (m : Option (List ℕ)) → numbered ps (serve_message p n a m).answer ≡ answer.Nothing → ((serve_message p n a m).part ≡ Some p) × (places_after ps c (serve_message p n a m).answer ≡ ps)
    message None e = (refl, refl)
    message (Some m) e = taken m (refused p (event.Message n m)) e

    by : (b : Bool) → numbered ps (served_if p n a b).answer ≡ answer.Nothing → ((served_if p n a b).part ≡ Some p) × (places_after ps c (served_if p n a b).answer ≡ ps)
    by true e = absurd (not_refused ended e)
    by false e = message (unserved a) e

-- the part behind a message that was served
record Taken (p : Part) (n : ℕ) (o : world.Offered) (ps : List Place) (c : ℕ) : Type 0 where
  message : List ℕ
  part : Part
  is : o.part ≡ Some part
  places : places_after ps c o.answer ≡ ps
  events : part.events ≡ p.events ++ event.Message n message ∷ []

-- the answer that a message was served
found-one : (p : Part) (n : ℕ) (a : Arrival) (ps : List Place) (c : ℕ) → numbered ps (serve p n (Some a)).answer ≡ answer.Served → Taken p n (serve p n (Some a)) ps c
found-one p n a ps c = by (not (world.state_of p).is_open)
  where
    not_refused : (r : HubRefusal) → answer.Refused r ≡ answer.Served → ⊥
    not_refused r e = cc

    not_nothing : answer.Nothing ≡ answer.Served → ⊥
    not_nothing e = cc

    taken : (m : List ℕ) (r : Option RoomRefusal) → numbered ps (take_message p n a m r).answer ≡ answer.Served → Taken p n (take_message p n a m r) ps c
    taken m None e = record { message = m; part = with_arrival (with_events p (event.Message n m ∷ [])) n (record { bytes = a.bytes; served = a.served + 1; live = a.live }); is = refl; places = refl; events = refl }
    taken m (Some r) e = absurd (not_refused (HubRefusal.ByRoom r) e)

    message : (m : Option (List ℕ)) → numbered ps (serve_message p n a m).answer ≡ answer.Served → Taken p n (serve_message p n a m) ps c
    message None e = absurd (not_nothing e)
    message (Some m) e = taken m (refused p (event.Message n m)) e

    by : (b : Bool) → numbered ps (served_if p n a b).answer ≡ answer.Served → Taken p n (served_if p n a b) ps c
    by true e = absurd (not_refused ended e)
    by false e = message (unserved a) e

-- the room of a connection behind a call that wasn't refused
room-after : (own : Connection → Room → List Event) (old new : Hub) (z : Option Connection) (x : Connection) (c : ℕ) (r s : Room) → z ≡ Some x → x.conference ≡ c → room_at old c ≡ Some r → room_at new c ≡ Some s → RoomOf by_broken None own z old new → RoomAfter by_broken None (own x r) r s
room-after own old new None x c r s e at is_r is_s one = absurd (none-some x e)
room-after own old new (Some y) x c r s e at is_r is_s one =
    let same : y ≡ x = some_is y x e in
    let here : y.conference ≡ c = ap (λ (i : Connection). i.conference) same ∙ at in
    subst (λ (i : Connection). RoomAfter by_broken None (own i r) r s) same
    (subst (λ (i : Option Room). RoomAfterIn by_broken None (own y) i (Some s)) (ap (room_at old) here ∙ is_r) (subst (λ (i : Option Room). RoomAfterIn by_broken None (own y) (room_at old y.conference) i) (ap (room_at new) here ∙ is_s) one.own))

-- it isn't broken off
unbroken : (own : List Event) (r s : Room) → RoomAfter by_broken None own r s → (r.ledger.is_broken ≡ false) × (s.ledger.is_broken ≡ false)
unbroken own r s a = (not_true r.ledger.is_broken before, not_true s.ledger.is_broken (λ e. after (a.broken.0 e)))
  where
    not_none : (why : HubRefusal) → ◌≡◌ {A = Option HubRefusal} None (Some why) → ⊥
    not_none why e = cc

    not_true : (b : Bool) → (b ≡ true → ⊥) → b ≡ false
    not_true true e = absurd (e refl)
    not_true false e = refl

    before : r.ledger.is_broken ≡ true → ⊥
    before e = not_none (HubRefusal.ByRoom (RoomRefusal.Refused Refusal.Broken)) (a.shut e).0

    after : (r.ledger.is_broken ≡ true) ⊎ (None ≡ Some (HubRefusal.ByRoom (RoomRefusal.Refused Refusal.Memory))) → ⊥
    after (inl e) = before e
    after (inr e) = not_none (HubRefusal.ByRoom (RoomRefusal.Refused Refusal.Memory)) e

-- no message was whole, and the journal is what it was
finds-none : (number : ℕ) (h k : Hub) (w : World) → StandsFor h w → Turns k w (Serve number) answer.Nothing → RoomOf by_broken None serve_event (connection_at h.connections number) h k → StayLive h.connections k.connections → Finds number served.Nothing h k
finds-none number h k w st turns one stay = (λ y r s is_y is_r is_s. ([], refl, kept y r s is_y is_r is_s), λ y is_y. left y is_y)
  where
    was : (y : Connection) → connection_at k.connections number ≡ Some y → WasLive h number y
    was y is_y = was-live h k stay number y is_y

    leads : (y : Connection) (is_y : connection_at k.connections number ≡ Some y) → Leads h w number (was y is_y).connection
    leads y is_y = leads-to h w st number (was y is_y).connection (was y is_y).live

    now : (y : Connection) (is_y : connection_at k.connections number ≡ Some y) → Known k y (leads y is_y).place (leads y is_y).part
    now y is_y =
        let x = (was y is_y).connection in
        let l = leads y is_y in
        let idle = found-none l.part l.place.n l.known.sent w.places l.place.conference (ap (λ (t : world.Turn). t.answer) (sym (turned h w number x l)) ∙ turns.1) in
        behind h k w number x y l l.part is_y turns.0 idle.0 idle.1

    room : (y : Connection) (is_y : connection_at k.connections number ≡ Some y) → RoomAfter by_broken None (serve_event (was y is_y).connection (leads y is_y).known.room) (leads y is_y).known.room (now y is_y).room
    room y is_y =
        let x = (was y is_y).connection in
        let b = (leads y is_y).known in
        room-after serve_event h k (connection_at h.connections number) x (leads y is_y).place.conference b.room (now y is_y).room (was y is_y).live b.conference b.there (now y is_y).there one

    same : (y : Connection) (is_y : connection_at k.connections number ≡ Some y) → (now y is_y).room.ledger.journal ≡ (leads y is_y).known.room.ledger.journal
    same y is_y =
        let b = (leads y is_y).known in
        let whole = unbroken (serve_event (was y is_y).connection b.room) b.room (now y is_y).room (room y is_y) in
        (now y is_y).events whole.1 ∙ sym (b.events whole.0)

    kept : (y : Connection) (r s : Room) → connection_at k.connections number ≡ Some y → room_at h y.conference ≡ Some r → room_at k y.conference ≡ Some s → s.ledger.journal ≡ r.ledger.journal ++ map (event.Message y.n) []
    kept y r s is_y is_r is_s =
        let b = (leads y is_y).known in
        let a = now y is_y in
        let first : b.room ≡ r = some_is b.room r (sym b.there ∙ ap (room_at h) (sym a.conference) ∙ is_r) in
        let last : a.room ≡ s = some_is a.room s (sym a.there ∙ ap (room_at k) (sym a.conference) ∙ is_s) in
        ap (λ (z : Room). z.ledger.journal) (sym last) ∙ same y is_y ∙ ap (λ (z : Room). z.ledger.journal) first ∙ sym (append-nil r.ledger.journal)

    left : (y : Connection) → connection_at k.connections number ≡ Some y → messages y.held ≡ []
    left y is_y =
        let x = (was y is_y).connection in
        let b = (leads y is_y).known in
        let a = now y is_y in
        let whole = unbroken (serve_event x b.room) b.room a.room (room y is_y) in
        let more : map (event.Message x.n) (take 1 (messages x.held)) ≡ [] = cancel b.room.ledger.journal (map (event.Message x.n) (take 1 (messages x.held))) [] (sym (room y is_y).journal ∙ same y is_y ∙ sym (append-nil b.room.ledger.journal)) in
        let sent : a.sent ≡ b.sent = some_is a.sent b.sent (sym a.live ∙ b.live) in
        let were = b.came whole.0 in
        let are = a.came whole.1 in
        let n : y.n ≡ x.n = a.n ∙ sym b.n in
        let earlier : List ℕ = concat (messages_of x.n b.room.ledger.journal) in
        let front : concat (messages_of y.n a.room.ledger.journal) ≡ earlier = ap (λ (i : ℕ). concat (messages_of i a.room.ledger.journal)) n ∙ ap (λ (es : List Event). concat (messages_of x.n es)) (same y is_y) in
        let held : y.held ≡ x.held = cancel earlier y.held x.held (ap (λ (z : List ℕ). z ++ y.held) (sym front) ∙ sym are.bytes ∙ ap (λ (z : Arrival). z.bytes) sent ∙ were.bytes) in
        ap messages held ∙ none-first x.n (messages x.held) more

-- a message was served, and stands in the journal
finds-one : (number : ℕ) (h k : Hub) (w : World) → StandsFor h w → Turns k w (Serve number) answer.Served → RoomOf by_broken None serve_event (connection_at h.connections number) h k → StayLive h.connections k.connections → Finds number served.Message h k
finds-one number h k w st turns one stay y r s is_y is_r is_s =
    let was = was-live h k stay number y is_y in
    let x = was.connection in
    let l = leads-to h w st number x was.live in
    let b = l.known in
    let t = found-one l.part l.place.n b.sent w.places l.place.conference (ap (λ (t : world.Turn). t.answer) (sym (turned h w number x l)) ∙ turns.1) in
    let a = behind h k w number x y l t.part is_y turns.0 t.is t.places in
    let room = room-after serve_event h k (connection_at h.connections number) x l.place.conference b.room a.room was.live b.conference b.there a.there one in
    let whole = unbroken (serve_event x b.room) b.room a.room room in
    let first : b.room ≡ r = some_is b.room r (sym b.there ∙ ap (room_at h) (sym a.conference) ∙ is_r) in
    let last : a.room ≡ s = some_is a.room s (sym a.there ∙ ap (room_at k) (sym a.conference) ∙ is_s) in (
      t.message ∷ [],
      refl,
      ap (λ (z : Room). z.ledger.journal) (sym last) ∙ a.events whole.1 ∙ t.events ∙ ap (λ (es : List Event). es ++ event.Message l.place.n t.message ∷ []) (sym (b.events whole.0))
          ∙ ap (λ (z : Room). z.ledger.journal ++ event.Message l.place.n t.message ∷ []) first ∙ ap (λ (n : ℕ). r.ledger.journal ++ event.Message n t.message ∷ []) (sym a.n),
    )

pub finds : (number : ℕ) (h k : Hub) (w : World) → StandsFor h w → (found : Served) → Turns k w (Serve number) (answer_of found) → RoomOf by_broken None serve_event (connection_at h.connections number) h k → StayLive h.connections k.connections → Finds number found h k
finds number h k w st served.Nothing turns = finds-none number h k w st turns
finds number h k w st served.Message turns = finds-one number h k w st turns

-- messages behind messages
map-append : (n : ℕ) (ms ns : List (List ℕ)) → map (event.Message n) (ms ++ ns) ≡ map (event.Message n) ms ++ map (event.Message n) ns
map-append n [] ns = refl
map-append n (m ∷ ms) ns = ap (λ (z : List Event). event.Message n m ∷ z) (map-append n ms ns)

-- no room has changed
pub adds-none : (number : ℕ) (old new : Hub) → ((c : ℕ) → room_at new c ≡ room_at old c) → AddsMessages number 0 old new
adds-none number old new same y r s is_y is_r is_s = ([], refl, ap (λ (z : Room). z.ledger.journal) (some_is s r (sym is_s ∙ same y.conference ∙ is_r)) ∙ sym (append-nil r.ledger.journal))

pub adds-both : (number j k : ℕ) (a b c : Hub) → ((y : Connection) → connection_at c.connections number ≡ Some y → WasLive b number y) → ((d : ℕ) (r : Room) → room_at a d ≡ Some r → (s : Room) × (room_at b d ≡ Some s)) →
    AddsMessages number j a b → AddsMessages number k b c → AddsMessages number (j + k) a c
adds-both number j k a b c live rooms f g y r s is_y is_r is_s =
    let w = live y is_y in
    let q = rooms y.conference r is_r in
    let u = f w.connection r q.0 w.live (ap (room_at a) (sym w.conference) ∙ is_r) (ap (room_at b) (sym w.conference) ∙ q.1) in
    let v = g y q.0 s is_y q.1 is_s in
    let first : length u.0 ≡ j = u.1 in
    let next : length v.0 ≡ k = v.1 in (
      u.0 ++ v.0,
      omega (arith, length-append u.0 v.0, first, next),
      v.2 ∙ ap (λ (es : List Event). es ++ map (event.Message y.n) v.0) (u.2 ∙ ap (λ (n : ℕ). r.ledger.journal ++ map (event.Message n) u.0) (sym w.n))
          ∙ append_assoc r.ledger.journal (map (event.Message y.n) u.0) (map (event.Message y.n) v.0) ∙ ap (λ (es : List Event). r.ledger.journal ++ es) (sym (map-append y.n u.0 v.0)),
    )

-- rooms that were the same before
pub serves-behind : (number most : ℕ) (old mid new : Hub) → ((c : ℕ) → room_at mid c ≡ room_at old c) → (res : Result Bool HubRefusal) → IfOk res (λ more. Serves number most more mid new) → IfOk res (λ more. Serves number most more old new)
serves-behind number most old mid new same (Err r) s = tt
serves-behind number most old mid new same (Ok more) s = record { count = s.count; added = λ y r q is_y is_r is_q. s.added y r q is_y (same y.conference ∙ is_r) is_q; all = s.all; none = s.none }
