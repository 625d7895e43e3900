-- Calls, one after another.
use Rattle.std.proofs.Common.{◌≡◌, ℕ, zero, suc, ◌+◌, ◌-◌, Bool, true, false, cond, List, [], ◌∷◌, ◌++◌, length, take, refl, sym, ◌∙◌, ap, subst, arith, append-nil, Some, None}
use Rattle.std.specs.Prelude.{Option, IsSome, nat_eq}
use Rattle.std.specs.Option.{option_map}
use Rattle.std.proofs.lemmas.Option.{none-some}
use Rattle.floor_machine.specs.declared.event.Event.{Event}
use Rattle.floor_room.specs.Replay.{bytes_of}
use Rattle.floor_room.specs.Room.{Room}
use Rattle.floor_hub.specs.declared.connection.Connection.{Connection}
use Rattle.floor_hub.specs.declared.step.Step.{Step}
use Rattle.floor_hub.specs.Connections.{connection_at}
use Rattle.floor_hub.specs.Hub.{Hub, is_forgotten, room_at}
use Rattle.floor_hub.specs.Laws.{EventsAlone}
use Rattle.floor_hub.specs.Rooms.{taken_of}
use Rattle.floor_hub.specs.Runs.{alone, configuration, events, events_in, run}
use Rattle.floor_hub.specs.StandsFor.{ConferenceStands, StandsFor}
use Rattle.floor_hub.specs.World.{Part, World, nothing}
use Rattle.floor_loop.specs.Loop.{Loop, Outgoing}
use Rattle.floor_loop.specs.Written.{IsOnItsWay, IsServing, Took, acknowledged, called_for, taken_bytes, written}
use Rattle.floor_loop.specs.Laws.{Call, Calls, IsFront, IsLive, WrittenIsCalledFor, bytes_by, parcels_by, steps_of}
use Rattle.floor_loop.proofs.Front.{before-is}
use Rattle.floor_loop.proofs.Moving.{run-append, took-through, way-of}
use Rattle.floor_loop.proofs.Taking.{follows}

some_is : {A : Type 0} (x y : A) → ◌≡◌ {A = Option A} (Some x) (Some y) → x ≡ y
some_is x y e = cc

-- nothing is taken where nothing happens
pub took-refl : (l : Loop) (number : ℕ) → Took l l number [] 0
took-refl l number x y r s o p is_x is_y is_r is_s is_o is_p =
    let y_is : y ≡ x = some_is y x (sym is_y ∙ is_x) in
    let n : y.n ≡ x.n = ap (λ (z : Connection). z.n) y_is in
    let s_is : s ≡ r = some_is s r (sym is_s ∙ ap (λ (z : Connection). room_at l.hub z.conference) y_is ∙ is_r) in
    let p_is : p ≡ o = some_is p o (sym is_p ∙ is_o) in (
      ap (λ (k : ℕ). written s k p.rest) n ∙ ap (λ (z : Room). written z x.n p.rest) s_is ∙ ap (λ (z : Outgoing). written r x.n z.rest) p_is ∙ sym (append-nil (written r x.n o.rest)),
      ap (λ (k : ℕ). acknowledged s k p.parcels) n ∙ ap (λ (z : Room). acknowledged z x.n p.parcels) s_is ∙ ap (λ (z : Outgoing). acknowledged r x.n z.parcels) p_is ∙ omega arith,
    )

not_true : false ≡ true → ⊥
not_true e = cc

live-is : (l : Loop) (number : ℕ) → IsLive l number → (x : Connection) × (connection_at l.hub.connections number ≡ Some x)
live-is l number live = by (connection_at l.hub.connections number) refl live
  where
    by : (z : Option Connection) → connection_at l.hub.connections number ≡ z → IsSome z → (x : Connection) × (connection_at l.hub.connections number ≡ Some x)
    by None e some = absurd (not_true some)
    by (Some x) e some = (x, e)

-- by all calls a socket took what it took by each
took-all : (number : ℕ) (w : World) (calls : List Call) (first last : Loop) → Calls number w calls first last → Took first last number (bytes_by number calls) (parcels_by number calls)
took-all number w [] first last same = subst (λ (l : Loop). Took first l number [] 0) (sym same) (took-refl first number)
took-all number w (c ∷ cs) first last d =
    let y = live-is d.0 number d.2 in
    took-through first d.0 last number (cond (nat_eq c.number number) c.bytes []) (bytes_by number cs) (cond (nat_eq c.number number) c.parcels 0) (parcels_by number cs) y.0 y.1 (d.1.serving number y.0 y.1) d.1.took
    (took-all number (run w c.steps) cs d.0 last d.3)

serving-all : (number : ℕ) (w : World) (calls : List Call) (first last : Loop) → IsServing first → Calls number w calls first last → IsServing last
serving-all number w [] first last l same = subst IsServing (sym same) l
serving-all number w (c ∷ cs) first last l d = serving-all number (run w c.steps) cs d.0 last d.1.serving d.3

stands-all : (number : ℕ) (w : World) (calls : List Call) (first last : Loop) → StandsFor first.hub w → Calls number w calls first last → StandsFor last.hub (run w (steps_of calls))
stands-all number w [] first last st same = subst (λ (l : Loop). StandsFor l.hub w) (sym same) st
stands-all number w (c ∷ cs) first last st d = subst (StandsFor last.hub) (sym (run-append w c.steps (steps_of cs))) (stands-all number (run w c.steps) cs d.0 last d.1.stands d.3)

-- the room of a conference is what the steps come to, where it isn't broken off
room-is : (h : Hub) (steps : List Step) (c : ℕ) (r : Room) → StandsFor h (run nothing steps) → room_at h c ≡ Some r → r.ledger.is_broken ≡ false → (configuration c steps ≡ Some r.ledger.config) × (events c steps ≡ r.ledger.journal)
room-is h steps c r st is whole = by (is_forgotten h c) (room_at h c) ((run nothing steps).parts c) is (st.stands.conferences c)
  where
    by : (b : Bool) (z : Option Room) (p : Option Part) → z ≡ Some r → ConferenceStands b z p → (option_map (λ q. q.config) p ≡ Some r.ledger.config) × (events_in p ≡ r.ledger.journal)
    by true z p e s = absurd (none-some r (sym s.0 ∙ e))
    by false None p e s = absurd (none-some r e)
    by false (Some q) None e s = absurd s
    by false (Some q) (Some p) e s =
        let same : q ≡ r = some_is q r e in
        let t = subst (λ (z : Room). (z.ledger.config ≡ p.config) × (z.ledger.is_broken ≡ false → z.ledger.journal ≡ p.events)) same s in
        (ap Some (sym t.0), sym (t.1 whole))

take-none : (k : ℕ) → ◌≡◌ {A = List ℕ} (take k []) []
take-none zero = refl
take-none (suc k) = refl

-- nothing was written to a connection that is new
pub new-is : (r : Room) (n : ℕ) (rest : List ℕ) → taken_of r n ≡ 0 → written r n rest ≡ []
new-is r n rest untaken =
    let none : taken_bytes r n ≡ [] = ap (λ (k : ℕ). bytes_of (take k (called_for r n))) untaken in
    ap (λ (z : List ℕ). take (length z - length rest) z) none ∙ take-none (0 - length rest)

front-of : (r : Room) (n : ℕ) (rest : List ℕ) (parcels : ℕ) → IsOnItsWay r n rest parcels → IsFront r.ledger.config r.ledger.journal n (written r n rest) (acknowledged r n parcels)
front-of r n rest parcels h =
    let f = follows r n rest parcels 0 h in
    let none : take 0 rest ≡ [] = refl in
    record {
      more = f.more;
      front = f.called ∙ ap (λ (z : List ℕ). written r n rest ++ z ++ f.more) none ∙ ap (λ (z : List ℕ). z ++ f.more) (append-nil (written r n rest));
      later = h.later;
      whole = before-is (taken_bytes r n) h.sent rest h.all ∙ h.whole;
    }

pub law : EventsAlone → WrittenIsCalledFor
law alone-same steps calls first last number st serving new d x r is_x is_r whole =
    let now = subst (StandsFor last.hub) (sym (run-append nothing steps (steps_of calls))) (stands-all number (run nothing steps) calls first last st d) in
    let room = room-is last.hub (steps ++ steps_of calls) x.conference r now is_r whole in
    let at = serving-all number (run nothing steps) calls first last serving d number x is_x in
    let took = took-all number (run nothing steps) calls first last d new.connection x new.room r new.outgoing at.outgoing new.live is_x new.there is_r new.found at.found in
    let bytes : written r x.n at.outgoing.rest ≡ bytes_by number calls = took.0 ∙ ap (λ (z : List ℕ). z ++ bytes_by number calls) new.unwritten in
    let parcels : acknowledged r x.n at.outgoing.parcels ≡ parcels_by number calls =
    took.1 ∙ ap (λ (k : ℕ). k + parcels_by number calls) new.unacknowledged ∙ omega arith in
    let way = way-of last number x r at.outgoing at is_r at.found in
    let front = front-of r x.n at.outgoing.rest at.outgoing.parcels way in
    let own : r.ledger.journal ≡ events x.conference (alone x.conference (steps ++ steps_of calls)) = sym room.1 ∙ sym (alone-same x.conference (steps ++ steps_of calls)) in (
      room.0,
      subst (λ (k : ℕ). IsFront r.ledger.config (events x.conference (alone x.conference (steps ++ steps_of calls))) x.n (bytes_by number calls) k) parcels
          (subst (λ (z : List ℕ). IsFront r.ledger.config (events x.conference (alone x.conference (steps ++ steps_of calls))) x.n z (acknowledged r x.n at.outgoing.parcels)) bytes
          (subst (λ (es : List Event). IsFront r.ledger.config es x.n (written r x.n at.outgoing.rest) (acknowledged r x.n at.outgoing.parcels)) own front)),
    )
