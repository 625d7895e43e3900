-- What each call of a hub hands out of what it changed.
use Rattle.std.proofs.Common.{◌≡◌, ◌⊎◌, ◌++◌, ℕ, List, [], ◌∷◌, true, false, refl, sym, ap, ◌∙◌, inl, inr, Some, None, append-nil}
use Rattle.std.specs.Prelude.{Bool, Option, nat_eq}
use Rattle.std.proofs.lemmas.Bool.{eqb-true}
use Rattle.std.proofs.lemmas.List.{append_cancel_left}
use Rattle.floor_message.specs.declared.information.Info.{Info}
use Rattle.floor_machine.specs.Machine.{infos_changed}
use Rattle.floor_machine.specs.declared.event.Event.{Event}
use Rattle.floor_machine.specs.declared.machine.Refusal.TheVariants.{Broken, Ended, NoMember, NoUser, Full, NoRequest, Cut, BadCount, Memory, OutOfRange, DoubleUser, DoubleFloor, NoFloor, UnknownChair}
use Rattle.floor_room.specs.Calls.{Applied, Began, Left}
use Rattle.floor_room.specs.Ledger.{conference_of}
use Rattle.floor_room.specs.Room.{Room, broken_room}
use Rattle.floor_room.specs.declared.refusal.RoomRefusal.{RoomRefusal}
use Rattle.floor_room.specs.declared.refusal.RoomRefusal.TheVariants.{JournalFull, Refused as ByMachine}
use Rattle.floor_hub.specs.declared.connection.Connection.{Connection}
use Rattle.floor_hub.specs.declared.refusal.HubRefusal.{HubRefusal}
use Rattle.floor_hub.specs.Hub.{Hub, room_at}
use Rattle.floor_hub.specs.Rooms.{OneRoom, RoomAfterIn, RoomOf}
use Rattle.floor_hub.specs.Shown.{Shows}
use Rattle.floor_hub.specs.steps.Handed.{HandedBy, HandedOf, Hands}

false_true : false ≡ true → ⊥
false_true e = cc

some_is : (x y : Room) → ◌≡◌ {A = Option Room} (Some x) (Some y) → x ≡ y
some_is x y e = cc

none_some : (x : Room) → ◌≡◌ {A = Option Room} None (Some x) → ⊥
none_some x e = cc

-- a list isn't itself with one more
not-longer : (es : List Event) (e : Event) → es ≡ es ++ e ∷ [] → ⊥
not-longer es e h = empty (append_cancel_left es [] (e ∷ []) (append-nil es ∙ h))
  where
    empty : ◌≡◌ {A = List Event} [] (e ∷ []) → ⊥
    empty k = cc

same-last : (es : List Event) (e f : Event) → es ++ e ∷ [] ≡ es ++ f ∷ [] → e ≡ f
same-last es e f h = first (append_cancel_left es (e ∷ []) (f ∷ []) h)
  where
    first : ◌≡◌ {A = List Event} (e ∷ []) (f ∷ []) → e ≡ f
    first k = cc

-- a room that is as it was hands nothing out
pub hands-same : (r s : Room) (changed : List Info) → s ≡ r → changed ≡ [] → Hands r s changed
hands-same r s changed same none = record {
  added = λ e is whole. absurd (not-longer r.ledger.journal e (ap (λ (x : Room). x.ledger.journal) (sym same) ∙ is));
  none = λ either. none;
}

-- nor does one that is broken off
pub hands-broken : (r s : Room) (changed : List Info) → s.ledger.is_broken ≡ true → changed ≡ [] → Hands r s changed
hands-broken r s changed broken none = record { added = λ e is whole. absurd (false_true (sym whole ∙ broken)); none = λ either. none }

-- a room that took an event hands out what it changed
pub hands-applied : (r s : Room) (e : Event) (changed : List Info) → Applied r s e → changed ≡ infos_changed (conference_of r.ledger) e → Hands r s changed
hands-applied r s e changed took handed =
    let journal : s.ledger.journal ≡ r.ledger.journal ++ e ∷ [] = ap (λ (x : Room). x.ledger.journal) took.next in
    let sound : s.ledger.is_broken ≡ false = ap (λ (x : Room). x.ledger.is_broken) took.next in
    record {
      added = λ f is whole. handed ∙ ap (infos_changed (conference_of r.ledger)) (same-last r.ledger.journal e f (sym journal ∙ is));
      none = λ either. absurd (by journal sound either);
    }
  where
    by : s.ledger.journal ≡ r.ledger.journal ++ e ∷ [] → s.ledger.is_broken ≡ false → (s.ledger.journal ≡ r.ledger.journal) ⊎ (s.ledger.is_broken ≡ true) → ⊥
    by journal sound (inl same) = not-longer r.ledger.journal e (sym same ∙ journal)
    by journal sound (inr broken) = false_true (sym sound ∙ broken)

-- a room that refused an event hands nothing out
pub hands-left : (r s : Room) (e : Event) (why : RoomRefusal) (changed : List Info) → Left r s e why → changed ≡ [] → Hands r s changed
hands-left r s e JournalFull changed left none = hands-same r s changed left none
hands-left r s e (ByMachine Broken) changed left none = hands-same r s changed left none
hands-left r s e (ByMachine Ended) changed left none = hands-same r s changed left none
hands-left r s e (ByMachine NoMember) changed left none = hands-same r s changed left none
hands-left r s e (ByMachine NoUser) changed left none = hands-same r s changed left none
hands-left r s e (ByMachine Full) changed left none = hands-same r s changed left none
hands-left r s e (ByMachine NoRequest) changed left none = hands-same r s changed left none
hands-left r s e (ByMachine Cut) changed left none = hands-same r s changed left none
hands-left r s e (ByMachine BadCount) changed left none = hands-same r s changed left none
hands-left r s e (ByMachine OutOfRange) changed left none = hands-same r s changed left none
hands-left r s e (ByMachine DoubleUser) changed left none = hands-same r s changed left none
hands-left r s e (ByMachine DoubleFloor) changed left none = hands-same r s changed left none
hands-left r s e (ByMachine NoFloor) changed left none = hands-same r s changed left none
hands-left r s e (ByMachine UnknownChair) changed left none = hands-same r s changed left none
hands-left r s e (ByMachine Memory) changed left none = hands-broken r s changed (by left) none
  where
    by : (s ≡ broken_room r) ⊎ Began r s e → s.ledger.is_broken ≡ true
    by (inl off) = ap (λ (z : Room). z.ledger.is_broken) off
    by (inr began) = ap (λ (z : Room). z.ledger.is_broken) began.next

-- what was handed out of the one room that a call was for
pub shows-at : (shut why : Option HubRefusal) (own : Room → List Event) (c : ℕ) (old new : Hub) → OneRoom shut why own c old new → HandedBy (room_at old) (room_at new) c new.changed → Shows old new
shows-at shut why own c old new one handed = record {
  added = λ d r s e was now journal whole. added d r s e was now journal whole (nat_eq c d) refl;
  none = λ every. none every (room_at old c) (room_at new c) refl refl one.own;
}
  where
    added : (d : ℕ) (r s : Room) (e : Event) → room_at old d ≡ Some r → room_at new d ≡ Some s → s.ledger.journal ≡ r.ledger.journal ++ e ∷ [] → s.ledger.is_broken ≡ false →
        (b : Bool) → nat_eq c d ≡ b → new.changed ≡ infos_changed (conference_of r.ledger) e
    added d r s e was now journal whole false other =
        let same : s ≡ r = some_is s r (sym now ∙ one.others d other ∙ was) in
        absurd (not-longer r.ledger.journal e (ap (λ (x : Room). x.ledger.journal) (sym same) ∙ journal))
    added d r s e was now journal whole true is =
        let same : c ≡ d = eqb-true c d is in
        (handed.there r s (ap (room_at old) same ∙ was) (ap (room_at new) same ∙ now)).added e journal whole

    none : ((conference : ℕ) (r s : Room) → room_at old conference ≡ Some r → room_at new conference ≡ Some s → (s.ledger.journal ≡ r.ledger.journal) ⊎ (s.ledger.is_broken ≡ true)) →
        (y z : Option Room) → room_at old c ≡ y → room_at new c ≡ z → RoomAfterIn shut why own y z → new.changed ≡ []
    none every None z was now own = handed.absent was
    none every (Some r) None was now own = absurd own
    none every (Some r) (Some s) was now own = (handed.there r s was now).none (every c r s was now)

-- a call that was for no room hands nothing out
pub shows-nothing : (old new : Hub) → ((d : ℕ) → room_at new d ≡ room_at old d) → new.changed ≡ [] → Shows old new
shows-nothing old new same none = record {
  added = λ d r s e was now journal whole.
      absurd (not-longer r.ledger.journal e (ap (λ (x : Room). x.ledger.journal) (sym (some_is s r (sym now ∙ same d ∙ was))) ∙ journal));
  none = λ every. none;
}

-- what was handed out of a connection's room
pub shows-of : (shut why : Option HubRefusal) (own : Connection → Room → List Event) (old new : Hub) (y : Option Connection) → RoomOf shut why own y old new →
    HandedOf y (room_at old) (room_at new) new.changed → Shows old new
shows-of shut why own old new None one handed = shows-nothing old new one.0.rooms handed
shows-of shut why own old new (Some x) one handed = shows-at shut why (own x) x.conference old new one handed
