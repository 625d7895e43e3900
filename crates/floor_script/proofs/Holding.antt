-- What the hub has answered while no room of it is broken off.
use Rattle.std.proofs.Common.{◌≡◌, ◌≢◌, ℕ, zero, suc, ◌+◌, ◌<◌, ◌≤◌, length, take, get_or, Bool, true, false, List, [], ◌∷◌, ◌++◌, ◌⊎◌, inl, inr, refl, sym, ◌∙◌, ap, subst, Some, None}
use Rattle.std.specs.Prelude.{if◌then◌else◌, Option, Result, Ok, Err, IfOk, OnOk, is_ok, nat_eq, slice_get}
use Rattle.std.specs.Option.{option_map_or}
use Rattle.std.proofs.lemmas.Bool.{eqb-true}
use Rattle.std.proofs.lemmas.List.{take_all, take_more}
use Rattle.std.specs.declared.alloc.AllocError.{AllocError}
use Rattle.floor_config.specs.Configuration.{Configuration}
use Rattle.floor_machine.specs.declared.event.Event.{Event}
use Rattle.floor_machine.specs.declared.machine.Refusal.TheVariants.{Memory}
use Rattle.floor_room.specs.declared.refusal.RoomRefusal.TheVariants.{Refused as ByMachine}
use Rattle.floor_room.specs.Outbox.{Outbox}
use Rattle.floor_room.specs.Room.{Room}
use Rattle.floor_room.specs.Taking.{outbox_of}
use Rattle.floor_hub.specs.declared.connection.Connection.{Connection}
use Rattle.floor_hub.specs.declared.refusal.HubRefusal.{HubRefusal}
use Rattle.floor_hub.specs.declared.refusal.HubRefusal.TheVariants.{ByRoom, Used}
use Rattle.floor_hub.specs.declared.step.Answer.{Answer}
use Rattle.floor_hub.specs.declared.step.Answer.TheVariants.{Done, Refused}
use Rattle.floor_hub.specs.declared.step.Step.{Step}
use Rattle.floor_hub.specs.declared.step.Step.TheVariants.{Open, Took}
use Rattle.floor_hub.specs.Calls.{Fails, FailsGone, FailsSame, Turns}
use Rattle.floor_hub.specs.Hub.{Hub, is_forgotten, room_at}
use Rattle.floor_hub.specs.Names.{is_memory}
use Rattle.floor_hub.specs.Rooms.{OneRoom, Opens, QueuesMore, RoomAfterIn, RoomOf, SameHub, by_broken, by_memory}
use Rattle.floor_hub.specs.StandsFor.{ConferenceStands, RoomStands, StandsFor}
use Rattle.floor_hub.specs.World.{Part, Place, World, numbered, offer, turn}
use Rattle.floor_script.specs.Printed.{acknowledged}
use Rattle.floor_script.specs.declared.waiting.Taken.{Taken}
use Rattle.floor_script.specs.steps.Holding.{Acknowledges, AcknowledgesOne, Answers, Holds, IsAtOnce, IsOpened, IsWhole, taken_in}

true_false : true ≡ false → ⊥
true_false e = cc

-- what a room keeps in a call: it is whole if it was, hands out at once what it tells if it did, and nothing was taken of its outboxes
record Stays (old new : Option Room) : Type 0 where
  whole : IsWhole old → IsWhole new
  at_once : IsAtOnce old → IsAtOnce new
  taken : (n : ℕ) → taken_in new n ≡ taken_in old n

abbrev AllStay : Hub → Hub → Type 0
AllStay old new = (c : ℕ) → Stays (room_at old c) (room_at new c)

queued_same : (os ps : List Outbox) → QueuesMore os ps → (k : ℕ) → option_map_or (λ o. o.taken) (slice_get ps k) 0 ≡ option_map_or (λ o. o.taken) (slice_get os k) 0
queued_same [] [] q k = refl
queued_same [] (p ∷ ps) q zero = q.0
queued_same [] (p ∷ ps) q (suc k) = queued_same [] ps q.1 k
queued_same (o ∷ os) [] q k = absurd q
queued_same (o ∷ os) (p ∷ ps) q zero = q.0
queued_same (o ∷ os) (p ∷ ps) q (suc k) = queued_same os ps q.2 k

taken_same : (os ps : List Outbox) → QueuesMore os ps → (n : ℕ) → option_map_or (λ o. o.taken) (outbox_of ps n) 0 ≡ option_map_or (λ o. o.taken) (outbox_of os n) 0
taken_same os ps q zero = refl
taken_same os ps q (suc k) = queued_same os ps q k

stays_same : (old new : Option Room) → new ≡ old → Stays old new
stays_same old new e = record { whole = λ w. subst IsWhole (sym e) w; at_once = λ w. subst IsAtOnce (sym e) w; taken = λ n. ap (λ (r : Option Room). taken_in r n) e }

-- a room that wasn't broken by want of memory stays
unbroken : (why : Option HubRefusal) (was : Bool) → why ≢ by_memory → was ≡ false → (was ≡ true) ⊎ (why ≡ by_memory) → ⊥
unbroken why was calm whole (inl broken) = true_false (sym broken ∙ whole)
unbroken why was calm whole (inr memory) = calm memory

stays_after : (shut_by why : Option HubRefusal) (own : Room → List Event) (old new : Option Room) → why ≢ by_memory → RoomAfterIn shut_by why own old new → Stays old new
stays_after shut_by why own None new calm a = stays_same None new a.0
stays_after shut_by why own (Some r) None calm a = absurd a
stays_after shut_by why own (Some r) (Some s) calm a = record { whole = λ w. by w s.ledger.is_broken refl; at_once = λ w. a.kept ∙ w; taken = taken_same r.outboxes s.outboxes a.outboxes }
  where
    by : r.ledger.is_broken ≡ false → (b : Bool) → s.ledger.is_broken ≡ b → s.ledger.is_broken ≡ false
    by w false e = e
    by w true e = absurd (unbroken why r.ledger.is_broken calm w (a.broken.0 e))

stays_one : (shut_by why : Option HubRefusal) (own : Room → List Event) (c : ℕ) (old new : Hub) → why ≢ by_memory → OneRoom shut_by why own c old new → AllStay old new
stays_one shut_by why own c old new calm a d = by (nat_eq c d) refl
  where
    by : (b : Bool) → nat_eq c d ≡ b → Stays (room_at old d) (room_at new d)
    by true e = subst (λ (i : ℕ). Stays (room_at old i) (room_at new i)) (eqb-true c d e) (stays_after shut_by why own (room_at old c) (room_at new c) calm a.own)
    by false e = stays_same (room_at old d) (room_at new d) (a.others d e)

stays_all : (old new : Hub) → ((c : ℕ) → room_at new c ≡ room_at old c) → AllStay old new
stays_all old new same c = stays_same (room_at old c) (room_at new c) (same c)

stays_of : (shut_by why : Option HubRefusal) (own : Connection → Room → List Event) (x : Option Connection) (old new : Hub) → why ≢ by_memory → RoomOf shut_by why own x old new → AllStay old new
stays_of shut_by why own None old new calm a = stays_all old new a.0.rooms
stays_of shut_by why own (Some x) old new calm a = stays_one shut_by why (own x) x.conference old new calm a

-- a whole room doesn't answer that it is broken
answers_whole : (shut_by why : Option HubRefusal) (own : Room → List Event) (old new : Option Room) → IsWhole old → RoomAfterIn shut_by why own old new → why ≢ by_broken
answers_whole shut_by why own None new w a = a.2
answers_whole shut_by why own (Some r) None w a = absurd a
answers_whole shut_by why own (Some r) (Some s) w a = λ e. true_false (sym (a.told e) ∙ w)

answers_whole_of : (shut_by why : Option HubRefusal) (own : Connection → Room → List Event) (x : Option Connection) (old new : Hub) → ((c : ℕ) → IsWhole (room_at old c)) →
    RoomOf shut_by why own x old new → why ≢ by_broken
answers_whole_of shut_by why own None old new w a = a.2
answers_whole_of shut_by why own (Some x) old new w a = answers_whole shut_by why (own x) (room_at old x.conference) (room_at new x.conference) (w x.conference) a.own

none_memory : ◌≡◌ {A = Option HubRefusal} None by_memory → ⊥
none_memory e = cc

some_is : (a b : HubRefusal) → ◌≡◌ {A = Option HubRefusal} (Some a) (Some b) → a ≡ b
some_is a b e = cc

not_memory : (r : HubRefusal) → is_memory r ≡ false → ◌≡◌ {A = Option HubRefusal} (Some r) by_memory → ⊥
not_memory r calm e = true_false (sym (ap is_memory (some_is r (ByRoom (ByMachine Memory)) e)) ∙ calm)

-- a refusal that is neither want of memory nor of a broken room
turned_fails : (new : Hub) (w : World) (s : Step) (r : HubRefusal) → is_memory r ≡ false → (Some r) ≢ by_broken → Fails new w s r → Turns new w s (Refused r)
turned_fails new w s r calm whole (inr t) = t
turned_fails new w s r calm whole (inl (inl want, stands)) = absurd (true_false (sym (ap is_memory want.0) ∙ calm))
turned_fails new w s r calm whole (inl (inr broken, stands)) = absurd (whole (ap (λ (x : HubRefusal). Some x) broken))

turned_same : (new : Hub) (w : World) (s : Step) (r : HubRefusal) → is_memory r ≡ false → FailsSame new w s r → Turns new w s (Refused r)
turned_same new w s r calm (inr t) = t
turned_same new w s r calm (inl want) = absurd (true_false (sym (ap is_memory want.0.0) ∙ calm))

turned_gone : (new : Hub) (w : World) (s : Step) (r : HubRefusal) → is_memory r ≡ false → FailsGone new w s r → Turns new w s (Refused r)
turned_gone new w s r calm (inr t) = t
turned_gone new w s r calm (inl want) = absurd (true_false (sym (ap is_memory want.0.0) ∙ calm))

holds_next : (old new : Hub) (w then_w : World) (printed : ℕ → ℕ → ℕ) → AllStay old new → StandsFor new then_w → Holds old w printed → Holds new then_w printed
holds_next old new w then_w printed stay stands h = record { stands = stands; whole = λ c. (stay c).whole (h.whole c); at_once = λ c. (stay c).at_once (h.at_once c); taken = λ c n. (stay c).taken n ∙ h.taken c n }

-- the hub did the step of each world that it holds
answers_by : (s : Step) (a : Answer) (old new : Hub) → AllStay old new → ((w : World) (printed : ℕ → ℕ → ℕ) → Holds old w printed → Turns new w s a) → Answers (λ w. turn w s) a old new
answers_by s a old new stay turns = record {
  next = λ w printed h. holds_next old new w (turn w s).world printed stay (turns w printed h).0 h;
  answered = λ w printed h. (turns w printed h).1;
}

pub did_one : (s : Step) (a : Answer) (shut_by : Option HubRefusal) (own : Room → List Event) (c : ℕ) (old new : Hub) → OneRoom shut_by None own c old new → ((w : World) → StandsFor old w → Turns new w s a) →
    Answers (λ w. turn w s) a old new
did_one s a shut_by own c old new room turns = answers_by s a old new (stays_one shut_by None own c old new none_memory room) (λ w printed h. turns w h.stands)

pub did_of : (s : Step) (a : Answer) (shut_by : Option HubRefusal) (own : Connection → Room → List Event) (x : Option Connection) (old new : Hub) → RoomOf shut_by None own x old new →
    ((w : World) → StandsFor old w → Turns new w s a) → Answers (λ w. turn w s) a old new
did_of s a shut_by own x old new room turns = answers_by s a old new (stays_of shut_by None own x old new none_memory room) (λ w printed h. turns w h.stands)

pub did_same : (s : Step) (a : Answer) (old new : Hub) → ((c : ℕ) → room_at new c ≡ room_at old c) → ((w : World) → StandsFor old w → Turns new w s a) → Answers (λ w. turn w s) a old new
did_same s a old new same turns = answers_by s a old new (stays_all old new same) (λ w printed h. turns w h.stands)

pub refused_one : (s : Step) (r : HubRefusal) (shut_by : Option HubRefusal) (own : Room → List Event) (c : ℕ) (old new : Hub) → OneRoom shut_by (Some r) own c old new →
    ((w : World) → StandsFor old w → Fails new w s r) → is_memory r ≡ false → Answers (λ w. turn w s) (Refused r) old new
refused_one s r shut_by own c old new room fails calm =
    answers_by s (Refused r) old new (stays_one shut_by (Some r) own c old new (not_memory r calm) room)
    (λ w printed h. turned_fails new w s r calm (answers_whole shut_by (Some r) own (room_at old c) (room_at new c) (h.whole c) room.own) (fails w h.stands))

pub refused_of : (s : Step) (r : HubRefusal) (shut_by : Option HubRefusal) (own : Connection → Room → List Event) (x : Option Connection) (old new : Hub) → RoomOf shut_by (Some r) own x old new →
    ((w : World) → StandsFor old w → Fails new w s r) → is_memory r ≡ false → Answers (λ w. turn w s) (Refused r) old new
refused_of s r shut_by own x old new room fails calm =
    answers_by s (Refused r) old new (stays_of shut_by (Some r) own x old new (not_memory r calm) room)
    (λ w printed h. turned_fails new w s r calm (answers_whole_of shut_by (Some r) own x old new h.whole room) (fails w h.stands))

pub refused_gone : (s : Step) (r : HubRefusal) (shut_by : Option HubRefusal) (own : Connection → Room → List Event) (x : Option Connection) (old new : Hub) → RoomOf shut_by (Some r) own x old new →
    ((w : World) → StandsFor old w → FailsGone new w s r) → is_memory r ≡ false → Answers (λ w. turn w s) (Refused r) old new
refused_gone s r shut_by own x old new room fails calm =
    answers_by s (Refused r) old new (stays_of shut_by (Some r) own x old new (not_memory r calm) room)
    (λ w printed h. turned_gone new w s r calm (fails w h.stands))

pub refused_same : (s : Step) (r : HubRefusal) (old new : Hub) → ((c : ℕ) → room_at new c ≡ room_at old c) → ((w : World) → StandsFor old w → FailsSame new w s r) → is_memory r ≡ false →
    Answers (λ w. turn w s) (Refused r) old new
refused_same s r old new same fails calm =
    answers_by s (Refused r) old new (stays_all old new same) (λ w printed h. turned_same new w s r calm (fails w h.stands))

-- a refusal as an answer
pub refused_as : (result : Result Answer AllocError) (r : HubRefusal) (Q : Answer → Type 0) → IfOk result (λ answer. (answer ≡ Refused r) × (is_memory r ≡ false)) →
    (is_memory r ≡ false → Q (Refused r)) → IfOk result Q
refused_as (Ok answer) r Q h f = subst Q (sym h.0) (f h.1)
refused_as (Err fault) r Q h f = tt

-- one fact of an answer as another
pub ok_as : {A E : Type 0} (result : Result A E) (P Q : A → Type 0) → IfOk result P → ((a : A) → P a → Q a) → IfOk result Q
ok_as (Ok a) P Q p f = f a p
ok_as (Err fault) P Q p f = tt

-- no outbox of a conference that opens
none_taken : (n : ℕ) → option_map_or (λ (o : Outbox). o.taken) (outbox_of [] n) 0 ≡ 0
none_taken zero = refl
none_taken (suc n) = refl

unopened : (ps : List Place) (config : Configuration) (q : Option Part) → numbered ps (offer q (Open config)).answer ≡ Done → q ≡ None
unopened ps config None e = refl
unopened ps config (Some p) e = absurd (clash e)
  where
    clash : ◌≡◌ {A = Answer} (Refused Used) Done → ⊥
    clash e = cc

no_room : (b : Bool) (r : Option Room) (q : Option Part) → q ≡ None → ConferenceStands b r q → r ≡ None
no_room true r q e st = st.0
no_room false None q e st = refl
no_room false (Some r) q e st = absurd (subst (RoomStands (Some r)) e st)

-- a conference was opened
pub opened_did : (config : Configuration) (old new : Hub) → ((w : World) → StandsFor old w → Turns new w (Open config) Done) → Opens config old new → IsOpened config old new
opened_did config old new turns opens = record { next = λ w printed h. next w printed h }
  where
    whole : (printed : ℕ → ℕ → ℕ) (w : World) → Holds old w printed → (d : ℕ) (b : Bool) → nat_eq config.conference d ≡ b → IsWhole (room_at new d)
    whole printed w h d true e = subst (λ (i : ℕ). IsWhole (room_at new i)) (eqb-true config.conference d e) (subst IsWhole (sym opens.room) refl)
    whole printed w h d false e = subst IsWhole (sym (opens.others d e)) (h.whole d)

    at_once : (printed : ℕ → ℕ → ℕ) (w : World) → Holds old w printed → (d : ℕ) (b : Bool) → nat_eq config.conference d ≡ b → IsAtOnce (room_at new d)
    at_once printed w h d true e = subst (λ (i : ℕ). IsAtOnce (room_at new i)) (eqb-true config.conference d e) (subst IsAtOnce (sym opens.room) refl)
    at_once printed w h d false e = subst IsAtOnce (sym (opens.others d e)) (h.at_once d)

    was_none : (printed : ℕ → ℕ → ℕ) (w : World) → Holds old w printed → room_at old config.conference ≡ None
    was_none printed w h =
        no_room (is_forgotten old config.conference) (room_at old config.conference) (w.parts config.conference) (unopened w.places config (w.parts config.conference) (turns w h.stands).1) (h.stands.stands.conferences config.conference)

    taken : (printed : ℕ → ℕ → ℕ) (w : World) → Holds old w printed → (d n : ℕ) (b : Bool) → nat_eq config.conference d ≡ b → taken_in (room_at new d) n ≡ printed d n
    taken printed w h d n true e =
        subst (λ (i : ℕ). taken_in (room_at new i) n ≡ printed i n) (eqb-true config.conference d e)
        (ap (λ (r : Option Room). taken_in r n) opens.room ∙ none_taken n
        ∙ sym (ap (λ (r : Option Room). taken_in r n) (was_none printed w h)) ∙ h.taken config.conference n)
    taken printed w h d n false e = ap (λ (r : Option Room). taken_in r n) (opens.others d e) ∙ h.taken d n

    next : (w : World) (printed : ℕ → ℕ → ℕ) → Holds old w printed → Holds new (turn w (Open config)).world printed
    next w printed h = record {
      stands = (turns w h.stands).0;
      whole = λ d. whole printed w h d (nat_eq config.conference d) refl;
      at_once = λ d. at_once printed w h d (nat_eq config.conference d) refl;
      taken = λ d n. taken printed w h d n (nat_eq config.conference d) refl;
    }

-- or another has its number
pub opened_refused : (config : Configuration) (r : HubRefusal) (old new : Hub) → ((w : World) → StandsFor old w → FailsSame new w (Open config) r) → SameHub old new → is_memory r ≡ false → IsOpened config old new
opened_refused config r old new fails same calm = record {
  next = λ w printed h. holds_next old new w (turn w (Open config)).world printed (stays_all old new same.rooms) (turned_same new w (Open config) r calm (fails w h.stands)).0 h;
}

acknowledged-more : (some : List Taken) (t : Taken) (w : World) → acknowledged (some ++ t ∷ []) w ≡ (turn (acknowledged some w) (Took t.connection t.parcels)).world
acknowledged-more [] t w = refl
acknowledged-more (x ∷ some) t w = acknowledged-more some t (turn w (Took x.connection x.parcels)).world

-- no acknowledgement yet
pub acknowledges_none : (hub : Hub) → Acknowledges [] hub hub
acknowledges_none hub = record { next = λ w printed h. h }

-- one more
pub acknowledges_more : (some : List Taken) (t : Taken) (a b c : Hub) → Acknowledges some a b → AcknowledgesOne t b c → Acknowledges (some ++ t ∷ []) a c
acknowledges_more some t a b c p q = record {
  next = λ w printed h. subst (λ (v : World). Holds c v printed) (sym (acknowledged-more some t w)) (q.next (acknowledged some w) printed (p.next w printed h));
}

pub on_ok : {A E : Type 0} (result : Result A E) (P Q : Type 0) → OnOk result P → (P → Q) → OnOk result Q
on_ok (Ok a) P Q p f = f p
on_ok (Err fault) P Q p f = tt

-- what was pushed stands behind
pub pushed : {A E : Type 0} (result : Result A E) (now more old : List ℕ) → now ≡ (if is_ok result then more else old) → OnOk result (now ≡ more)
pushed (Ok a) now more old e = e
pushed (Err fault) now more old e = tt

pub acknowledges_at : (taken : List Taken) (i : ℕ) (d : Taken) (a b c : Hub) → i < length taken → Acknowledges (take i taken) a b → AcknowledgesOne (get_or taken i d) b c → Acknowledges (take (i + 1) taken) a c
acknowledges_at taken i d a b c within p q = subst (λ (l : List Taken). Acknowledges l a c) (sym (take_more taken i d within)) (acknowledges_more (take i taken) (get_or taken i d) a b c p q)

pub acknowledges_end : (taken : List Taken) (i : ℕ) (a b : Hub) → length taken ≤ i → Acknowledges (take i taken) a b → Acknowledges taken a b
acknowledges_end taken i a b over p = subst (λ (l : List Taken). Acknowledges l a b) (take_all i taken over) p
