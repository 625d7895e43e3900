-- What a call has done to its room, in the words of the hub.
use Rattle.std.proofs.Common.{◌≡◌, ◌≢◌, inl, inr, ℕ, ◌+◌, Bool, true, false, cond, length, List, [], ◌∷◌, ◌++◌, refl, sym, ◌∙◌, ap, subst, append-nil, Some, None, map, take}
use Rattle.std.specs.Prelude.{Option, ◌↔◌, count_by, if◌then◌else◌, is_some, nat_eq, nat_le, not, Result, Ok, Err, IfErr, OnOk}
use Rattle.std.proofs.lemmas.Option.{none-some}
use Rattle.floor_config.specs.declared.fault.ConfigFault.{ConfigFault}
use Rattle.floor_config.specs.declared.fault.ConfigFault.TheVariants as faults
use Rattle.floor_config.specs.Changed.{chair_fault, floor_fault, user_fault}
use Rattle.floor_machine.specs.declared.event.Event.{Event}
use Rattle.floor_machine.specs.declared.event.Event.TheVariants.{Join, Message, Took, Leave, Revoke, Close, AddUser, AddFloor, SetChair, Say}
use Rattle.floor_machine.specs.declared.machine.Refusal.TheVariants.{Broken, Ended, NoMember, NoUser, Full, NoRequest, Cut, BadCount, Memory, OutOfRange, DoubleUser, DoubleFloor, NoFloor, UnknownChair}
use Rattle.floor_machine.specs.Parcel.{Parcel}
use Rattle.floor_machine.specs.declared.machine.Refusal.{Refusal}
use Rattle.floor_machine.specs.Conference.{Conference, is_cut, is_live}
use Rattle.floor_machine.specs.Machine.{event_refusal, is_backlog, whole, refusal_of_fault}
use Rattle.std.specs.Option.{option_map}
use Rattle.floor_config.specs.Lookup.{is_user}
use Rattle.floor_wire.specs.Message.{messages}
use Rattle.floor_machine.specs.Journal.{parcels_of, sent_to}
use Rattle.floor_room.specs.declared.refusal.RoomRefusal.{RoomRefusal}
use Rattle.floor_room.specs.declared.refusal.RoomRefusal.TheVariants.{JournalFull, Refused as ByMachine}
use Rattle.floor_room.specs.Calls.{Applied, Left, told_by, with_event}
use Rattle.floor_room.specs.Ledger.{IsRefusedBy, Ledger, closed, conference_of, first_of, refusal}
use Rattle.floor_room.specs.Outbox.{Outbox, delivered}
use Rattle.floor_room.specs.Room.{Room, broken_room, joined}
use Rattle.floor_room.proofs.Ledgers.{allowed-open, opened}
use Rattle.floor_hub.specs.declared.refusal.HubRefusal.{HubRefusal}
use Rattle.floor_hub.specs.declared.refusal.HubRefusal.TheVariants.{NoConnection, ByRoom}
use Rattle.floor_hub.specs.declared.step.Served.{Served}
use Rattle.floor_hub.specs.declared.connection.Connection.{Connection}
use Rattle.floor_hub.specs.Connections.{SameConnections, connection_at}
use Rattle.floor_hub.specs.Hub.{Hub, room_at}
use Rattle.floor_hub.specs.World.{World}
use Rattle.floor_hub.specs.StandsFor.{StandsFor}
use Rattle.floor_hub.specs.Rooms.{AddsOwn, OneRoom, QueuesMore, RoomAfter, RoomAfterIn, RoomOf, attach_event, by_broken, by_memory, ended_or_none, leave_event, refusal_in, serve_event, took_event}
use Rattle.floor_hub.proofs.Recalling.{here-now}
use Rattle.floor_hub.specs.steps.Serving.{AttachFailsIn, EventIn, LeaveFailsIn, IsServable, LeavesIn, ServeFailsIn, ServedIn, ServesIn}

pub true_false : true ≡ false → ⊥
true_false e = cc

-- nothing more waits
pub queues-same : (os : List Outbox) → QueuesMore os os
queues-same [] = tt
queues-same (o ∷ os) = (refl, ([], sym (append-nil o.held)), queues-same os)

queues-new : (put : List Parcel) (n : ℕ) (e : Event) → QueuesMore [] (delivered put n (joined e))
queues-new put n (Join user) = (refl, tt)
queues-new put n (Message m bytes) = tt
queues-new put n (Took m k) = tt
queues-new put n (Leave m) = tt
queues-new put n (Revoke request) = tt
queues-new put n Close = tt
queues-new put n (AddUser user) = tt
queues-new put n (AddFloor floor) = tt
queues-new put n (SetChair floor chair) = tt
queues-new put n (Say user bytes) = tt

-- what an event tells waits behind what waited
pub queues-more : (put : List Parcel) (n : ℕ) (e : Event) (os : List Outbox) → QueuesMore os (delivered put n (os ++ joined e))
queues-more put n e [] = queues-new put n e
queues-more put n e (o ∷ os) = (refl, (sent_to n put, refl), queues-more put (n + 1) e os)

-- nothing has changed
pub room-same : (shut_by why : Option HubRefusal) (own : List Event) (r s : Room) → why ≢ by_memory → (r.ledger.is_broken ≡ true → why ≡ shut_by) →
    (why ≡ by_broken → r.ledger.is_broken ≡ true) → AddsOwn why own r.ledger.journal r.ledger.journal → s ≡ r → RoomAfter shut_by why own r s
room-same shut_by why own r s calm shut told adds e =
    let same : s.ledger.is_broken ≡ r.ledger.is_broken = ap (λ (x : Room). x.ledger.is_broken) e in record {
      broken = (λ b. inl (sym same ∙ b), λ h. elim h [ inl b ↦ same ∙ b | inr want ↦ absurd (calm want) ]);
      shut = λ b. (shut b, e);
      told = told;
      config = ap (λ (x : Room). x.ledger.config) e;
      journal = subst (λ (x : Room). AddsOwn why own r.ledger.journal x.ledger.journal) (sym e) adds;
      outboxes = subst (λ (x : Room). QueuesMore r.outboxes x.outboxes) (sym e) (queues-same r.outboxes);
      kept = ap (λ (x : Room). x.kept) e;
    }

false_true : false ≡ true → ⊥
false_true e = cc

room-event : (shut_by why : Option HubRefusal) (own : List Event) (r s : Room) (e : Event) (put : List Parcel) (b : Bool) (told_now : ℕ) → r.ledger.is_broken ≡ false → (b ≡ true) ↔ (why ≡ by_memory) →
    why ≢ by_broken → AddsOwn why own r.ledger.journal (r.ledger.journal ++ e ∷ []) → s ≡ record (with_event r e put b) { told = told_now } → RoomAfter shut_by why own r s
room-event shut_by why own r s e put b told_now sound want told adds is =
    let now : s.ledger.is_broken ≡ b = ap (λ (x : Room). x.ledger.is_broken) is in record {
      broken = (λ t. inr (want.0 (sym now ∙ t)), λ h. elim h [ inl t ↦ absurd (true_false (sym t ∙ sound)) | inr w ↦ now ∙ want.1 w ]);
      shut = λ broken. absurd (true_false (sym broken ∙ sound));
      told = λ t. absurd (told t);
      config = ap (λ (x : Room). x.ledger.config) is;
      journal = subst (λ (x : Room). AddsOwn why own r.ledger.journal x.ledger.journal) (sym is) adds;
      outboxes = subst (λ (x : Room). QueuesMore r.outboxes x.outboxes) (sym is) (queues-more put 1 e r.outboxes);
      kept = ap (λ (x : Room). x.kept) is;
    }

pub room-took : (shut_by : Option HubRefusal) (own : List Event) (r s : Room) (e : Event) → own ≡ e ∷ [] → Applied r s e → RoomAfter shut_by None own r s
room-took shut_by own r s e is t =
    room-event shut_by None own r s e (parcels_of (conference_of r.ledger) e) false (told_by r (parcels_of (conference_of r.ledger) e) false) (allowed-open r.ledger e t.allowed).unbroken
    (λ f. absurd (false_true f), λ w. absurd (none-some (ByRoom (ByMachine Memory)) w)) (λ w. none-some (ByRoom (ByMachine Broken)) w)
    (ap (λ (es : List Event). r.ledger.journal ++ es) (sym is)) t.next

memory_broken : by_memory ≡ by_broken → ⊥
memory_broken e = cc

-- a room that isn't broken is broken off
room-off : (shut_by : Option HubRefusal) (own : List Event) (r s : Room) → r.ledger.is_broken ≡ false → s ≡ broken_room r → RoomAfter shut_by by_memory own r s
room-off shut_by own r s sound e = record {
  broken = (λ b. inr refl, λ h. ap (λ (x : Room). x.ledger.is_broken) e);
  shut = λ broken. absurd (true_false (sym broken ∙ sound));
  told = λ t. absurd (memory_broken t);
  config = ap (λ (x : Room). x.ledger.config) e;
  journal = inl (ap (λ (x : Room). x.ledger.journal) e);
  outboxes = subst (λ (x : Room). QueuesMore r.outboxes x.outboxes) (sym e) (queues-same r.outboxes);
  kept = ap (λ (x : Room). x.kept) e;
}

-- a broken room refuses by nothing else
shut-by : (x : Option RoomRefusal) (why : RoomRefusal) → x ≡ Some (ByMachine Broken) → IsRefusedBy {T = Unit {0}} x (Err why) → why ≡ ByMachine Broken
shut-by None why e h = cc
shut-by (Some y) why e h = err_is why y h ∙ some_is y (ByMachine Broken) e
  where
    err_is : (a b : RoomRefusal) → ◌≡◌ {A = Result (Unit {0}) RoomRefusal} (Err a) (Err b) → a ≡ b
    err_is a b e = cc

    some_is : (a b : RoomRefusal) → ◌≡◌ {A = Option RoomRefusal} (Some a) (Some b) → a ≡ b
    some_is a b e = cc

refuses-broken : (l : Ledger) (e : Event) → l.is_broken ≡ true → refusal l e ≡ Some (ByMachine Broken)
refuses-broken l e is = ap (λ (b : Bool). refusal (record { config = l.config; journal = l.journal; is_broken = b }) e) is

-- a machine that isn't broken doesn't refuse as broken
join_not : (a b d : Bool) → ◌≡◌ {A = Option Refusal} (cond (not a) (Some Ended) (cond (not b) (Some NoUser) (cond d (Some Full) None))) (Some Broken) → ⊥
join_not false b d e = cc
join_not true false d e = cc
join_not true true true e = cc
join_not true true false e = cc

member_not : (a b : Bool) → ◌≡◌ {A = Option Refusal} (cond (not a) (Some Ended) (cond (not b) (Some NoMember) None)) (Some Broken) → ⊥
member_not false b e = cc
member_not true false e = cc
member_not true true e = cc

further_not : (further : Refusal) → (further ≡ Broken → ⊥) → (a b d : Bool) →
    ◌≡◌ {A = Option Refusal} (cond (not a) (Some Ended) (cond (not b) (Some NoMember) (cond d (Some further) None))) (Some Broken) → ⊥
further_not further other false b d e = cc
further_not further other true false d e = cc
further_not further other true true true e = let same : further ≡ Broken = cc in other same
further_not further other true true false e = cc

user_not : (a b : Bool) → ◌≡◌ {A = Option Refusal} (cond (not a) (Some Ended) (cond (not b) (Some NoUser) None)) (Some Broken) → ⊥
user_not false b e = cc
user_not true false e = cc
user_not true true e = cc

request_not : (a b : Bool) → ◌≡◌ {A = Option Refusal} (cond (not a) (Some Ended) (cond (not b) (Some NoRequest) None)) (Some Broken) → ⊥
request_not false b e = cc
request_not true false e = cc
request_not true true e = cc

close_not : (a : Bool) → ◌≡◌ {A = Option Refusal} (cond (not a) (Some Ended) None) (Some Broken) → ⊥
close_not false e = cc
close_not true e = cc

fault_named : (fault : ConfigFault) → refusal_of_fault fault ≡ Broken → ⊥
fault_named faults.OutOfRange e = cc
fault_named faults.DoubleUser e = cc
fault_named faults.DoubleFloor e = cc
fault_named faults.NoFloor e = cc
fault_named faults.UnknownChair e = cc
fault_named faults.Memory e = cc
fault_named faults.Syntax e = cc
fault_named faults.MissingKey e = cc
fault_named faults.WrongType e = cc
fault_named faults.DoubleConference e = cc
fault_named faults.DoublePort e = cc

fault_not : (a : Bool) (fault : Option ConfigFault) → ◌≡◌ {A = Option Refusal} (cond (not a) (Some Ended) (option_map refusal_of_fault fault)) (Some Broken) → ⊥
fault_not false fault e = cc
fault_not true None e = cc
fault_not true (Some fault) e = let same : refusal_of_fault fault ≡ Broken = cc in fault_named fault same

event_not : (s : Conference) (e : Event) → event_refusal (whole s) e ≡ Some Broken → ⊥
event_not s (Join user) h = join_not s.is_open (is_user s.config user) (nat_le 64 (count_by (λ m. m.is_live) s.members)) h
event_not s (Message n bytes) h = further_not Cut (λ e. cc) s.is_open (is_live s n) (is_cut s n) h
event_not s (Took n k) h = further_not BadCount (λ e. cc) s.is_open (is_live s n) (not (is_backlog s n k)) h
event_not s (Leave n) h = member_not s.is_open (is_live s n) h
event_not s (Revoke request) h = request_not s.is_open _ h
event_not s Close h = close_not s.is_open h
event_not s (AddUser user) h = fault_not s.is_open (user_fault s.config user) h
event_not s (AddFloor floor) h = fault_not s.is_open (floor_fault s.config floor) h
event_not s (SetChair floor chair) h = fault_not s.is_open (chair_fault s.config floor chair) h
event_not s (Say user bytes) h = user_not s.is_open (is_user s.config user) h

-- a room that isn't broken doesn't refuse as broken
told-broken : (l : Ledger) (e : Event) (b : Bool) → l.is_broken ≡ b → IsRefusedBy {T = Unit {0}} (refusal l e) (Err (ByMachine Broken)) → b ≡ true
told-broken l e true is h = refl
told-broken l e false is h =
    absurd (by (conference_of l).is_open (nat_le 2000000 (length l.journal)) (event_refusal (whole (conference_of l)) e) (event_not (conference_of l) e)
    (subst (λ (b : Bool). IsRefusedBy {T = Unit {0}} (refusal (record { config = l.config; journal = l.journal; is_broken = b }) e) (Err (ByMachine Broken))) is h))
  where
    by : (o f : Bool) (x : Option Refusal) → (x ≡ Some Broken → ⊥) →
        IsRefusedBy {T = Unit {0}} (first_of (cond (not o) (Some (ByMachine Ended)) (cond f (Some JournalFull) None)) (option_map ByMachine x)) (Err (ByMachine Broken)) → ⊥
    by false f x ne h = cc
    by true true x ne h = cc
    by true false None ne h = cc
    by true false (Some y) ne h = ne (same y h)
      where
        same : (y : Refusal) → ◌≡◌ {A = Result (Unit {0}) RoomRefusal} (Err (ByMachine Broken)) (Err (ByMachine y)) → ◌≡◌ {A = Option Refusal} (Some y) (Some Broken)
        same y e = cc

-- where an event found no memory, the room wasn't broken before
sound-before : (r : Room) (e : Event) (b : Bool) → r.ledger.is_broken ≡ b → IsRefusedBy {T = Unit {0}} (refusal r.ledger e) (Err (ByMachine Memory)) → b ≡ false
sound-before r e false is h = refl
sound-before r e true is h = absurd (apart (shut-by (refusal r.ledger e) (ByMachine Memory) (refuses-broken r.ledger e is) h))
  where
    apart : ByMachine Memory ≡ ByMachine Broken → ⊥
    apart e = cc

-- refused, and as it was
left-same : (own : List Event) (r s : Room) (e : Event) (why : RoomRefusal) → Some (ByRoom why) ≢ by_memory →
    AddsOwn (Some (ByRoom why)) own r.ledger.journal r.ledger.journal → IsRefusedBy {T = Unit {0}} (refusal r.ledger e) (Err why) → s ≡ r → RoomAfter by_broken (Some (ByRoom why)) own r s
left-same own r s e why calm adds by same = room-same by_broken (Some (ByRoom why)) own r s calm
    (λ b. ap (λ (y : RoomRefusal). Some (ByRoom y)) (shut-by (refusal r.ledger e) why (refuses-broken r.ledger e b) by))
    (λ t. told-broken r.ledger e r.ledger.is_broken refl (subst (λ (y : RoomRefusal). IsRefusedBy {T = Unit {0}} (refusal r.ledger e) (Err y)) (why_is why (ByMachine Broken) t) by)) adds same
  where
    why_is : (x y : RoomRefusal) → ◌≡◌ {A = Option HubRefusal} (Some (ByRoom x)) (Some (ByRoom y)) → x ≡ y
    why_is x y e = cc

pub room-left : (own : List Event) (r s : Room) (e : Event) (why : RoomRefusal) → own ≡ e ∷ [] → IsRefusedBy {T = Unit {0}} (refusal r.ledger e) (Err why) → Left r s e why →
    RoomAfter by_broken (Some (ByRoom why)) own r s
room-left own r s e JournalFull is by left = left-same own r s e JournalFull (λ w. cc) refl by left
room-left own r s e (ByMachine Broken) is by left = left-same own r s e (ByMachine Broken) (λ w. cc) refl by left
room-left own r s e (ByMachine Ended) is by left = left-same own r s e (ByMachine Ended) (λ w. cc) refl by left
room-left own r s e (ByMachine NoMember) is by left = left-same own r s e (ByMachine NoMember) (λ w. cc) refl by left
room-left own r s e (ByMachine NoUser) is by left = left-same own r s e (ByMachine NoUser) (λ w. cc) refl by left
room-left own r s e (ByMachine Full) is by left = left-same own r s e (ByMachine Full) (λ w. cc) refl by left
room-left own r s e (ByMachine NoRequest) is by left = left-same own r s e (ByMachine NoRequest) (λ w. cc) refl by left
room-left own r s e (ByMachine Cut) is by left = left-same own r s e (ByMachine Cut) (λ w. cc) refl by left
room-left own r s e (ByMachine BadCount) is by left = left-same own r s e (ByMachine BadCount) (λ w. cc) refl by left
room-left own r s e (ByMachine OutOfRange) is by left = left-same own r s e (ByMachine OutOfRange) (λ w. cc) refl by left
room-left own r s e (ByMachine DoubleUser) is by left = left-same own r s e (ByMachine DoubleUser) (λ w. cc) refl by left
room-left own r s e (ByMachine DoubleFloor) is by left = left-same own r s e (ByMachine DoubleFloor) (λ w. cc) refl by left
room-left own r s e (ByMachine NoFloor) is by left = left-same own r s e (ByMachine NoFloor) (λ w. cc) refl by left
room-left own r s e (ByMachine UnknownChair) is by left = left-same own r s e (ByMachine UnknownChair) (λ w. cc) refl by left
room-left own r s e (ByMachine Memory) is by (inl off) = room-off by_broken own r s (sound-before r e r.ledger.is_broken refl by) off
room-left own r s e (ByMachine Memory) is by (inr began) =
    room-event by_broken by_memory own r s e began.put true began.told (sound-before r e r.ledger.is_broken refl by) (λ t. refl, λ w. refl) memory_broken
    (inr (ap (λ (es : List Event). r.ledger.journal ++ es) (sym is))) began.next

-- where the room wasn't broken, what a broken one answers is another matter
other-shut : (other shut_by why : Option HubRefusal) (own : List Event) (r s : Room) → r.ledger.is_broken ≡ false → RoomAfter other why own r s → RoomAfter shut_by why own r s
other-shut other shut_by why own r s sound a = record {
  broken = a.broken;
  shut = λ b. absurd (true_false (sym b ∙ sound));
  told = a.told;
  journal = a.journal;
  config = a.config;
  outboxes = a.outboxes;
  kept = a.kept;
}

-- the room was joined, and broken off then
room-unjoined : (r mid s : Room) (e : Event) → Applied r mid e → s ≡ broken_room mid → RoomAfter by_broken by_memory (e ∷ []) r s
room-unjoined r mid s e t off =
    room-event by_broken by_memory (e ∷ []) r s e (parcels_of (conference_of r.ledger) e) true (told_by r (parcels_of (conference_of r.ledger) e) false) (allowed-open r.ledger e t.allowed).unbroken (λ x. refl, λ w. refl) memory_broken (inr refl)
    (off ∙ ap broken_room t.next)

pub room-attach-fails : (r s : Room) (user : ℕ) (why : RoomRefusal) → AttachFailsIn r s user why → RoomAfter by_broken (Some (ByRoom why)) (Join user ∷ []) r s
room-attach-fails r s user why (inl f) = room-left (Join user ∷ []) r s (Join user) why refl f.0 f.1
room-attach-fails r s user why (inr f) =
    subst (λ (y : RoomRefusal). RoomAfter by_broken (Some (ByRoom y)) (Join user ∷ []) r s) (sym f.0) (room-unjoined r f.1.0 s (Join user) f.1.1 f.1.2)

some_is : (y z : RoomRefusal) → ◌≡◌ {A = Option RoomRefusal} (Some y) (Some z) → y ≡ z
some_is y z e = cc

-- a closed room that was left as it was
closed-same : (own : List Event) (r s : Room) (why : RoomRefusal) → closed r.ledger ≡ Some why → s ≡ r → RoomAfter by_broken (Some (ByRoom why)) own r s
closed-same own r s why is same = by r.ledger.is_broken (conference_of r.ledger).is_open (nat_le 2000000 (length r.ledger.journal)) refl is
  where
    so : (x : RoomRefusal) → x ≡ why → RoomAfter by_broken (Some (ByRoom x)) own r s → RoomAfter by_broken (Some (ByRoom why)) own r s
    so x e a = subst (λ (y : RoomRefusal). RoomAfter by_broken (Some (ByRoom y)) own r s) e a

    by : (a b d : Bool) → r.ledger.is_broken ≡ a →
        cond a (Some (ByMachine Broken)) (cond (not b) (Some (ByMachine Ended)) (cond d (Some JournalFull) None)) ≡ Some why → RoomAfter by_broken (Some (ByRoom why)) own r s
    by true b d f e =
        so (ByMachine Broken) (some_is (ByMachine Broken) why e) (room-same by_broken by_broken own r s (λ w. memory_broken (sym w)) (λ x. refl) (λ t. f) refl same)
    by false false d f e =
        so (ByMachine Ended) (some_is (ByMachine Ended) why e)
        (room-same by_broken (Some (ByRoom (ByMachine Ended))) own r s (λ w. cc) (λ x. absurd (true_false (sym x ∙ f))) (λ t. absurd (cc)) refl same)
    by false true true f e =
        so JournalFull (some_is JournalFull why e)
        (room-same by_broken (Some (ByRoom JournalFull)) own r s (λ w. cc) (λ x. absurd (true_false (sym x ∙ f))) (λ t. absurd (cc)) refl same)
    by false true false f e = absurd (none-some why e)

servable : (r : Room) → IsServable (closed r.ledger) → r.ledger.is_broken ≡ false
servable r h = by r.ledger.is_broken (conference_of r.ledger).is_open h
  where
    by : (a b : Bool) → IsServable (cond a (Some (ByMachine Broken)) (cond (not b) (Some (ByMachine Ended)) (cond (nat_le 2000000 (length r.ledger.journal)) (Some JournalFull) None))) → a ≡ false
    by true b h = absurd h
    by false b h = refl

-- the event of serving is the first message that is held
pub serves-none : (x : Connection) (r : Room) → messages x.held ≡ [] → serve_event x r ≡ []
serves-none x r none = ap (λ (ms : List (List ℕ)). map (Message x.n) (take 1 ms)) none

pub serves-first : (x : Connection) (r : Room) (frame rest : List ℕ) → messages x.held ≡ frame ∷ messages rest → serve_event x r ≡ Message x.n frame ∷ []
serves-first x r frame rest first = ap (λ (ms : List (List ℕ)). map (Message x.n) (take 1 ms)) first

room-serves : (r s : Room) (x : Connection) (rest : List ℕ) (found : Served) → ServesIn r s x.n x.held rest found → RoomAfter by_broken None (serve_event x r) r s
room-serves r s x rest Served.Nothing f =
    room-same by_broken None (serve_event x r) r s (λ w. none-some (ByRoom (ByMachine Memory)) w) (λ b. absurd (true_false (sym b ∙ servable r f.0)))
    (λ t. absurd (none-some (ByRoom (ByMachine Broken)) t))
    (sym (append-nil r.ledger.journal) ∙ ap (λ (es : List Event). r.ledger.journal ++ es) (sym (serves-none x r f.1))) f.2
room-serves r s x rest Served.Message f = room-took by_broken (serve_event x r) r s (Message x.n f.0) (serves-first x r f.0 rest f.1) f.3

room-serve-fails : (r s : Room) (x : Connection) (rest : List ℕ) (why : RoomRefusal) → ServeFailsIn r s x.n x.held rest why → RoomAfter by_broken (Some (ByRoom why)) (serve_event x r) r s
room-serve-fails r s x rest why (inl f) = closed-same (serve_event x r) r s why f.0 f.2
room-serve-fails r s x rest why (inr (inl f)) =
    subst (λ (y : RoomRefusal). RoomAfter by_broken (Some (ByRoom y)) (serve_event x r) r s) (sym f.0)
    (room-same by_broken (Some (ByRoom (ByMachine Cut))) (serve_event x r) r s (λ w. cc) (λ b. absurd (true_false (sym b ∙ (opened r.ledger (sym f.1)).unbroken))) (λ t. absurd (cc)) refl f.4)
room-serve-fails r s x rest why (inr (inr (inl f))) =
    subst (λ (y : RoomRefusal). RoomAfter by_broken (Some (ByRoom y)) (serve_event x r) r s) (sym f.0) (room-off by_broken (serve_event x r) r s (opened r.ledger (sym f.1)).unbroken f.4)
room-serve-fails r s x rest why (inr (inr (inr f))) = room-left (serve_event x r) r s (Message x.n f.0) why (serves-first x r f.0 rest f.5) f.3 f.4

pub room-served : (r s : Room) (x : Connection) (rest : List ℕ) (res : Result Served HubRefusal) → ServedIn r s x.n x.held rest res →
    RoomAfter by_broken (refusal_in res) (serve_event x r) r s
room-served r s x rest (Ok found) f = room-serves r s x rest found f.served
room-served r s x rest (Err y) f =
    subst (λ (z : HubRefusal). RoomAfter by_broken (Some z) (serve_event x r) r s) (sym f.failed.1) (room-serve-fails r s x rest f.failed.0 f.failed.2)

-- so many of the parcels to a connection were acknowledged
pub room-taken : (r s : Room) (x : Connection) (k : ℕ) (res : Result (Unit {0}) HubRefusal) → EventIn (Took x.n k) r s res → RoomAfter by_broken (refusal_in res) (took_event k x r) r s
room-taken r s x k (Ok v) f = room-took by_broken (took_event k x r) r s (Took x.n k) refl f.0
room-taken r s x k (Err y) f =
    subst (λ (z : HubRefusal). RoomAfter by_broken (Some z) (took_event k x r) r s) (sym f.1.1)
    (room-left (took_event k x r) r s (Took x.n k) f.1.0 refl f.1.2 f.1.3)

-- the event of leaving, where the room takes events and where it takes none
pub leaves-open : (x : Connection) (r : Room) → closed r.ledger ≡ None → leave_event x r ≡ Leave x.n ∷ []
leaves-open x r none = ap (λ (y : Option RoomRefusal). if is_some y then [] else Leave x.n ∷ []) none

leaves-closed : (x : Connection) (r : Room) → is_some (closed r.ledger) ≡ true → leave_event x r ≡ []
leaves-closed x r some = ap (λ (b : Bool). if b then [] else Leave x.n ∷ []) some

took-open : (r s : Room) (e : Event) → Applied r s e → closed r.ledger ≡ None
took-open r s e t = first_none (closed r.ledger) (option_map ByMachine (event_refusal (whole (conference_of r.ledger)) e)) t.allowed
  where
    first_none : (y z : Option RoomRefusal) → first_of y z ≡ None → y ≡ None
    first_none None z h = refl
    first_none (Some y) z h = absurd (none-some y (sym h))

pub room-leaves : (r s : Room) (x : Connection) → LeavesIn r s x.n → RoomAfter None None (leave_event x r) r s
room-leaves r s x (inl f) =
    room-same None None (leave_event x r) r s (λ w. none-some (ByRoom (ByMachine Memory)) w) (λ b. refl) (λ t. absurd (none-some (ByRoom (ByMachine Broken)) t))
    (sym (append-nil r.ledger.journal) ∙ ap (λ (es : List Event). r.ledger.journal ++ es) (sym (leaves-closed x r f.0))) f.1
room-leaves r s x (inr t) = room-took None (leave_event x r) r s (Leave x.n) (leaves-open x r (took-open r s (Leave x.n) t)) t

pub room-leave-fails : (r s : Room) (x : Connection) (why : RoomRefusal) → LeaveFailsIn r s x.n why → RoomAfter None (Some (ByRoom why)) (leave_event x r) r s
room-leave-fails r s x why f =
    other-shut by_broken None (Some (ByRoom why)) (leave_event x r) r s (opened r.ledger (sym f.opened)).unbroken
    (room-left (leave_event x r) r s (Leave x.n) why (leaves-open x r f.opened) f.refused f.after)

module _ (shut_by why : Option HubRefusal) (own : Room → List Event) (c : ℕ) (old new : Hub) where
  -- there is no such room, and nothing has changed
  pub one-none : room_at old c ≡ None → why ≢ by_memory → why ≢ by_broken → ((d : ℕ) → room_at new d ≡ room_at old d) → OneRoom shut_by why own c old new
  one-none is calm told same = record {
    others = λ d ne. same d;
    own = subst (λ (y : Option Room). RoomAfterIn shut_by why own y (room_at new c)) (sym is) (same c ∙ is, calm, told);
  }

  pub one-at : (r s : Room) → room_at old c ≡ Some r → room_at new c ≡ Some s → ((d : ℕ) → nat_eq c d ≡ false → room_at new d ≡ room_at old d) → RoomAfter shut_by why (own r) r s → OneRoom shut_by why own c old new
  one-at r s is now others after = record {
    others = others;
    own = subst (λ (y : Option Room). RoomAfterIn shut_by why own y (room_at new c)) (sym is) (subst (RoomAfterIn shut_by why own (Some r)) (sym now) after);
  }

-- a refusal of a conference without a room is neither want of memory nor that of a broken room
pub calm : (b : Bool) → ◌≡◌ {A = Option HubRefusal} (Some (ended_or_none b)) by_memory → ⊥
calm true e = cc
calm false e = cc

pub unbroken_said : (b : Bool) → ◌≡◌ {A = Option HubRefusal} (Some (ended_or_none b)) by_broken → ⊥
unbroken_said true e = cc
unbroken_said false e = cc

module _ (c : ℕ) (e : Event) (old new : Hub) (forgotten : Bool) where
  event-at : (res : Result (Unit {0}) HubRefusal) (r s : Room) → OnOk res (Applied r s e) →
      IfErr res (λ x. (why : RoomRefusal) × (x ≡ ByRoom why) × IsRefusedBy {T = Unit {0}} (refusal r.ledger e) (Err why) × Left r s e why) → RoomAfter by_broken (refusal_in res) (e ∷ []) r s
  event-at (Ok v) r s ok err = room-took by_broken (e ∷ []) r s e refl ok
  event-at (Err x) r s ok err = subst (λ (y : HubRefusal). RoomAfter by_broken (Some y) (e ∷ []) r s) (sym err.1) (room-left (e ∷ []) r s e err.0 refl err.2 err.3)

  -- an act of the administrator
  pub event-room : (res : Result (Unit {0}) HubRefusal) (y : Option Room) → room_at old c ≡ y →
      (room_at old c ≡ None → (res ≡ Err (ended_or_none forgotten)) × ((d : ℕ) → room_at new d ≡ room_at old d)) →
      ((r : Room) → room_at old c ≡ Some r → (s : Room) × (room_at new c ≡ Some s) × ((d : ℕ) → nat_eq c d ≡ false → room_at new d ≡ room_at old d) × OnOk res (Applied r s e)
      × IfErr res (λ x. (why : RoomRefusal) × (x ≡ ByRoom why) × IsRefusedBy {T = Unit {0}} (refusal r.ledger e) (Err why) × Left r s e why)) →
      OneRoom by_broken (refusal_in res) (λ (r : Room). e ∷ []) c old new
  event-room res None is absent there =
      let a = absent is in
      subst (λ (x : Result (Unit {0}) HubRefusal). OneRoom by_broken (refusal_in x) (λ (r : Room). e ∷ []) c old new) (sym a.0) (one-none by_broken (Some (ended_or_none forgotten)) (λ (r : Room). e ∷ []) c old new is (calm forgotten) (unbroken_said forgotten) a.1)
  event-room res (Some r) is absent there =
      let t = there r is in
      one-at by_broken (refusal_in res) (λ (r : Room). e ∷ []) c old new r t.0 is t.1 t.2 (event-at res r t.0 t.3 t.4)

-- an attach
module _ (c user : ℕ) (old new : Hub) (forgotten : Bool) where
  attach-at : (res : Result (Unit {0}) HubRefusal) (r s : Room) → OnOk res (Applied r s (Join user)) →
      IfErr res (λ x. (why : RoomRefusal) × (x ≡ ByRoom why) × AttachFailsIn r s user why) → RoomAfter by_broken (refusal_in res) (Join user ∷ []) r s
  attach-at (Ok v) r s ok err = room-took by_broken (Join user ∷ []) r s (Join user) refl ok
  attach-at (Err x) r s ok err = subst (λ (z : HubRefusal). RoomAfter by_broken (Some z) (Join user ∷ []) r s) (sym err.1) (room-attach-fails r s user err.0 err.2)

  pub attach-room : (res : Result (Unit {0}) HubRefusal) (y : Option Room) → room_at old c ≡ y →
      (room_at old c ≡ None → (res ≡ Err (ended_or_none forgotten)) × ((d : ℕ) → room_at new d ≡ room_at old d)) →
      ((r : Room) → room_at old c ≡ Some r → (s : Room) × (room_at new c ≡ Some s) × ((d : ℕ) → nat_eq c d ≡ false → room_at new d ≡ room_at old d)
      × OnOk res (Applied r s (Join user)) × IfErr res (λ x. (why : RoomRefusal) × (x ≡ ByRoom why) × AttachFailsIn r s user why)) →
      OneRoom by_broken (refusal_in res) (attach_event user) c old new
  attach-room res None is absent there =
      let a = absent is in
      subst (λ (x : Result (Unit {0}) HubRefusal). OneRoom by_broken (refusal_in x) (attach_event user) c old new) (sym a.0) (one-none by_broken (Some (ended_or_none forgotten)) (attach_event user) c old new is (calm forgotten) (unbroken_said forgotten) a.1)
  attach-room res (Some r) is absent there =
      let t = there r is in
      one-at by_broken (refusal_in res) (attach_event user) c old new r t.0 is t.1 t.2 (attach-at res r t.0 t.3 t.4)

-- where a connection's room is
pub room_there : (h : Hub) (w : World) → StandsFor h w → (number : ℕ) (x : Connection) → connection_at h.connections number ≡ Some x → (r : Room) × (room_at h x.conference ≡ Some r)
room_there h w st number x is =
    let at = here-now h w st number x is in
    (at.r, ap (room_at h) at.conference ∙ at.room)

module _ (number : ℕ) (old new : Hub) (w : World) (st : StandsFor old w) where
  pub serve-room : (res : Result Served HubRefusal) (y : Option Connection) → connection_at old.connections number ≡ y →
      (connection_at old.connections number ≡ None → (res ≡ Err NoConnection) × ((d : ℕ) → room_at new d ≡ room_at old d) × SameConnections old.connections new.connections) →
      new.arrivals ≡ old.arrivals →
      ((x : Connection) → connection_at old.connections number ≡ Some x → (r : Room) → room_at old x.conference ≡ Some r → (s : Room) × (rest : List ℕ) × (room_at new x.conference ≡ Some s)
      × ((d : ℕ) → nat_eq x.conference d ≡ false → room_at new d ≡ room_at old d) × ServedIn r s x.n x.held rest res) →
      RoomOf by_broken (refusal_in res) serve_event y old new
  serve-room res None is absent arrivals there = let a = absent is in subst (λ (z : Result Served HubRefusal). RoomOf by_broken (refusal_in z) serve_event None old new) (sym a.0) (record { rooms = a.1; connections = a.2; arrivals = arrivals }, (λ w. cc), (λ w. cc))
  serve-room res (Some x) is absent arrivals there =
      let r = room_there old w st number x is in
      let t = there x is r.0 r.1 in
      one-at by_broken (refusal_in res) (serve_event x) x.conference old new r.0 t.0 r.1 t.2 t.3 (room-served r.0 t.0 x t.1 res t.4)

  pub took-room : (k : ℕ) (res : Result (Unit {0}) HubRefusal) (y : Option Connection) → connection_at old.connections number ≡ y →
      (connection_at old.connections number ≡ None → (res ≡ Err NoConnection) × ((d : ℕ) → room_at new d ≡ room_at old d) × SameConnections old.connections new.connections) →
      new.arrivals ≡ old.arrivals →
      ((x : Connection) → connection_at old.connections number ≡ Some x → (r : Room) → room_at old x.conference ≡ Some r → (s : Room) × (room_at new x.conference ≡ Some s)
      × ((d : ℕ) → nat_eq x.conference d ≡ false → room_at new d ≡ room_at old d) × EventIn (Took x.n k) r s res) →
      RoomOf by_broken (refusal_in res) (took_event k) y old new
  took-room k res None is absent arrivals there =
      let a = absent is in
      subst (λ (z : Result (Unit {0}) HubRefusal). RoomOf by_broken (refusal_in z) (took_event k) None old new) (sym a.0) (record { rooms = a.1; connections = a.2; arrivals = arrivals }, (λ w. cc), (λ w. cc))
  took-room k res (Some x) is absent arrivals there =
      let r = room_there old w st number x is in
      let t = there x is r.0 r.1 in
      one-at by_broken (refusal_in res) (took_event k x) x.conference old new r.0 t.0 r.1 t.1 t.2 (room-taken r.0 t.0 x k res t.3)

  leave-at : (res : Result (Unit {0}) HubRefusal) (r s : Room) (x : Connection) → OnOk res (LeavesIn r s x.n) →
      IfErr res (λ y. (why : RoomRefusal) × (y ≡ ByRoom why) × LeaveFailsIn r s x.n why) → RoomAfter None (refusal_in res) (leave_event x r) r s
  leave-at (Ok v) r s x ok err = room-leaves r s x ok
  leave-at (Err z) r s x ok err = subst (λ (y : HubRefusal). RoomAfter None (Some y) (leave_event x r) r s) (sym err.1) (room-leave-fails r s x err.0 err.2)

  pub leave-room : (res : Result (Unit {0}) HubRefusal) (y : Option Connection) → connection_at old.connections number ≡ y →
      (connection_at old.connections number ≡ None → (res ≡ Err NoConnection) × ((d : ℕ) → room_at new d ≡ room_at old d) × SameConnections old.connections new.connections) →
      new.arrivals ≡ old.arrivals →
      ((x : Connection) → connection_at old.connections number ≡ Some x → (r : Room) → room_at old x.conference ≡ Some r → (s : Room) × (room_at new x.conference ≡ Some s)
      × ((d : ℕ) → nat_eq x.conference d ≡ false → room_at new d ≡ room_at old d) × OnOk res (LeavesIn r s x.n)
      × IfErr res (λ y. (why : RoomRefusal) × (y ≡ ByRoom why) × LeaveFailsIn r s x.n why)) →
      RoomOf None (refusal_in res) leave_event y old new
  leave-room res None is absent arrivals there = let a = absent is in subst (λ (z : Result (Unit {0}) HubRefusal). RoomOf None (refusal_in z) leave_event None old new) (sym a.0) (record { rooms = a.1; connections = a.2; arrivals = arrivals }, (λ w. cc), (λ w. cc))
  leave-room res (Some x) is absent arrivals there =
      let r = room_there old w st number x is in
      let t = there x is r.0 r.1 in
      one-at None (refusal_in res) (leave_event x) x.conference old new r.0 t.0 r.1 t.1 t.2 (leave-at res r.0 t.0 x t.3 t.4)
