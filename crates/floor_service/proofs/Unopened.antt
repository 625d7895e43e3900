-- Where no conference is opened.
use Rattle.std.proofs.Common.{◌≡◌, ◌≢◌, ◌⊎◌, ◌∙◌, ℕ, true, false, Option, Some, None, List, ap, inl, inr, nat_eq, refl, subst, sym}
use Rattle.std.proofs.lemmas.Bool.Decides.{eqb_tells}
use Rattle.floor_hub.specs.Hub.{room_at}
use Rattle.floor_hub.specs.Rooms.{OneRoom, RoomAfterIn}
use Rattle.floor_hub.specs.declared.refusal.HubRefusal.{HubRefusal}
use Rattle.floor_machine.specs.declared.event.Event.{Event}
use Rattle.floor_room.specs.Room.{Room}
use Rattle.floor_meetings.specs.Gathering.{Regathers}
use Rattle.floor_meetings.specs.declared.meetings.Meetings.{Meetings}
use Rattle.floor_turn.specs.declared.server.Server.{Server}
use Rattle.floor_service.specs.Calls.{OpensNone, Settles}
use Rattle.floor_loop.specs.Loop.{Loop}

-- nothing was done
pub none_opened : (a : Meetings) → OpensNone a a
none_opened a = record { absent = λ c e. e }

-- behind what was done they stayed as they were
pub none_opened_and_same : (a b c : Meetings) → OpensNone a b → c ≡ b → OpensNone a c
none_opened_and_same a b c n same = subst (λ (m : Meetings). OpensNone a m) (sym same) n

-- one behind another
pub none_opened_then : (a b c : Meetings) → OpensNone a b → OpensNone b c → OpensNone a c
none_opened_then a b c m n = record { absent = λ d e. n.absent d (m.absent d e) }

-- what waited for clients was lent
pub none_opened_settled : (a b : Server) → Settles a b → OpensNone a.meetings b.meetings
none_opened_settled a b s = record {
  absent = λ c e. ap (λ (l : Loop). room_at l.hub c) s.meetings.hub ∙ e;
}

-- a call for one conference, which is there before it where it is there after it
none_at : (shut_by why : Option HubRefusal) (own : Room → List Event) (old new : Option Room) → RoomAfterIn shut_by why own old new → old ≡ None → new ≡ None
none_at shut_by why own None new after e = after.0
none_at shut_by why own (Some r) new after e = absurd (cc e)

pub none_opened_in : (shut_by why : Option HubRefusal) (event : Room → List Event) (conference : ℕ) (a b : Meetings) → OneRoom shut_by why event conference a.hub.hub b.hub.hub → OpensNone a b
none_opened_in shut_by why event conference a b one = record { absent = λ c e. by c e (eqb_tells conference c) }
  where
    by : (c : ℕ) → room_at a.hub.hub c ≡ None → (((nat_eq conference c ≡ true) × (conference ≡ c)) ⊎ ((nat_eq conference c ≡ false) × (conference ≢ c))) → room_at b.hub.hub c ≡ None
    by c e (inl u) = subst (λ (z : ℕ). room_at a.hub.hub z ≡ None → room_at b.hub.hub z ≡ None) u.1 (none_at shut_by why event (room_at a.hub.hub conference) (room_at b.hub.hub conference) one.own) e
    by c e (inr u) = one.others c u.0 ∙ e
