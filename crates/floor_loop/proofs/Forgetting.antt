-- A loop whose hub forgot a conference: each live connection has its room, and what was on its way to it.
use Rattle.std.proofs.Common.{◌≡◌, ◌≢◌, ◌⊎◌, inl, inr, ℕ, ◌≤◌, true, false, arith, sym, ◌∙◌, ap, subst, append-nil, Some}
use Rattle.std.specs.Prelude.{Option, Result, Ok, Err, OnErr, OnOk, nat_eq}
use Rattle.std.proofs.lemmas.Bool.Decides.{eqb_tells}
use Rattle.std.proofs.lemmas.Option.{none-some}
use Rattle.floor_room.specs.Room.{Room}
use Rattle.floor_hub.specs.declared.connection.Connection.{Connection}
use Rattle.floor_hub.specs.declared.refusal.HubRefusal.{HubRefusal}
use Rattle.floor_hub.specs.Connections.{connection_at}
use Rattle.floor_hub.specs.Hub.{Hub, room_at}
use Rattle.floor_hub.specs.Rooms.{Forgets}
use Rattle.floor_hub.specs.StandsFor.{StandsFor}
use Rattle.floor_hub.specs.World.{World}
use Rattle.floor_loop.specs.Loop.{Attended, Loop, Outgoing}
use Rattle.floor_loop.specs.Returned.{StaysAreOwn}
use Rattle.floor_loop.specs.Written.{IsServing, IsTimed, TookNothing, acknowledged, written}
use Rattle.floor_loop.specs.steps.Moved.{IsLoop, loop_of}

some_connection : (x y : Connection) → ◌≡◌ {A = Option Connection} (Some x) (Some y) → x ≡ y
some_connection x y e = cc

some_room : (r s : Room) → ◌≡◌ {A = Option Room} (Some r) (Some s) → r ≡ s
some_room r s e = cc

some_outgoing : (o p : Outgoing) → ◌≡◌ {A = Option Outgoing} (Some o) (Some p) → o ≡ p
some_outgoing o p e = cc

-- What a call without steps has done: each connection is served and shut down in time as it was, and no socket took anything.
pub record Stays (old new : Loop) : Type 0 where
  pub serving : IsServing old → IsServing new
  pub timed : IsTimed old → IsTimed new
  pub own : StaysAreOwn old → StaysAreOwn new
  pub took : TookNothing old new

module _ (conference : ℕ) (old new : Hub) (a : Attended) (f : Forgets conference old new) where
  -- a room that is there was there
  was-there : (d : ℕ) (s : Room) → room_at new d ≡ Some s → room_at old d ≡ Some s
  was-there d s is = by (eqb_tells conference d)
    where
      by : (((nat_eq conference d ≡ true) × (conference ≡ d)) ⊎ ((nat_eq conference d ≡ false) × (conference ≢ d))) → room_at old d ≡ Some s
      by (inl t) = absurd (none-some s (sym f.gone ∙ ap (room_at new) t.1 ∙ is))
      by (inr t) = sym (f.rooms d t.0) ∙ is

  -- a live connection has its room
  is-there : (number : ℕ) (x : Connection) → connection_at old.connections number ≡ Some x → room_at new x.conference ≡ room_at old x.conference
  is-there number x is = by (eqb_tells conference x.conference)
    where
      by : (((nat_eq conference x.conference ≡ true) × (conference ≡ x.conference)) ⊎ ((nat_eq conference x.conference ≡ false) × (conference ≢ x.conference))) → room_at new x.conference ≡ room_at old x.conference
      by (inl t) = absurd (f.over.nobody (number, x, is, sym t.1))
      by (inr t) = f.rooms x.conference t.0

  stays-forgot : Stays (loop_of old a) (loop_of new a)
  stays-forgot = record {
    serving = λ l number x is.
        let was = sym (f.connections number) ∙ is in
        let at = l number x was in
        record { outgoing = at.outgoing; room = at.room; found = at.found; there = is-there number x was ∙ at.there; conference = at.conference; on_its_way = at.on_its_way };
    timed = λ l number x r o is_x is_r is_o over. l number x r o (sym (f.connections number) ∙ is_x) (was-there x.conference r is_r) is_o over;
    own = λ own k s is.
        let before = own k s is in
        (subst (λ (n : ℕ). k ≤ n) (sym f.arrivals) before.0, λ x r is_x is_r. before.1 x r (sym (f.connections k) ∙ is_x) (was-there x.conference r is_r));
    took = λ number x y r s o p is_x is_y is_r is_s is_o is_p.
        let one : x ≡ y = some_connection x y (sym is_x ∙ sym (f.connections number) ∙ is_y) in
        let room : r ≡ s = some_room r s (sym is_r ∙ ap (λ (z : Connection). room_at old z.conference) one ∙ was-there y.conference s is_s) in
        let out : o ≡ p = some_outgoing o p (sym is_o ∙ is_p) in (
          ap (λ (z : Room). written z y.n p.rest) (sym room) ∙ ap (λ (z : Connection). written r z.n p.rest) (sym one) ∙ ap (λ (z : Outgoing). written r x.n z.rest) (sym out) ∙ sym (append-nil (written r x.n o.rest)),
          ap (λ (z : Room). acknowledged z y.n p.parcels) (sym room) ∙ ap (λ (z : Connection). acknowledged r z.n p.parcels) (sym one) ∙ ap (λ (z : Outgoing). acknowledged r x.n z.parcels) (sym out) ∙ omega arith,
        );
  }

-- nothing has changed
stays-same : (l : Loop) → Stays l l
stays-same l = record {
  serving = λ h. h;
  timed = λ h. h;
  own = λ h. h;
  took = λ number x y r s o p is_x is_y is_r is_s is_o is_p.
      let one : x ≡ y = some_connection x y (sym is_x ∙ is_y) in
      let room : r ≡ s = some_room r s (sym is_r ∙ ap (λ (z : Connection). room_at l.hub z.conference) one ∙ is_s) in
      let out : o ≡ p = some_outgoing o p (sym is_o ∙ is_p) in (
        ap (λ (z : Room). written z y.n p.rest) (sym room) ∙ ap (λ (z : Connection). written r z.n p.rest) (sym one) ∙ ap (λ (z : Outgoing). written r x.n z.rest) (sym out) ∙ sym (append-nil (written r x.n o.rest)),
        ap (λ (z : Room). acknowledged z y.n p.parcels) (sym room) ∙ ap (λ (z : Connection). acknowledged r z.n p.parcels) (sym one) ∙ ap (λ (z : Outgoing). acknowledged r x.n z.parcels) (sym out) ∙ omega arith,
      );
}

-- the hub was asked to forget a conference
pub stays : (conference : ℕ) (old new : Hub) (a : Attended) (res : Result (Unit {0}) HubRefusal) → OnOk res (Forgets conference old new) → OnErr res (new ≡ old) → Stays (loop_of old a) (loop_of new a)
stays conference old new a (Ok v) forgot left = stays-forgot conference old new a forgot
stays conference old new a (Err r) forgot left = subst (λ (h : Hub). Stays (loop_of old a) (loop_of h a)) (sym left) (stays-same (loop_of old a))

-- so it is a loop still
pub loop-stays : (old new : Loop) → Stays old new → ((w : World) → StandsFor old.hub w → StandsFor new.hub w) → IsLoop old → IsLoop new
loop-stays old new s stands l = record { world = l.world; stands = stands l.world l.stands; serving = s.serving l.serving; timed = s.timed l.timed; own = s.own l.own }
