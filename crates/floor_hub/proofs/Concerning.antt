-- Whom a call concerned: those that are named, by what the room told and whom it has cut.
use Rattle.std.proofs.Common.{◌≡◌, ◌≤◌, ◌++◌, ◌&&◌, ◌||◌, ℕ, zero, suc, List, [], ◌∷◌, Bool, true, false, arith, map, length, refl, sym, ◌∙◌, ap, subst, inl, inr, Some, None, length-append, append-nil}
use Rattle.std.specs.Prelude.{Option, filter, nat_eq, not, slice_get, ◌==◌}
use Rattle.std.specs.Option.{option_map_or}
use Rattle.std.specs.List.{Contains, list_any}
use Rattle.std.proofs.lemmas.Bool.{eqb-true, ltb-true, ltb-false}
use Rattle.floor_machine.specs.Conference.{AreCut, is_live}
use Rattle.floor_machine.specs.Parcel.{Parcel}
use Rattle.floor_room.specs.Ledger.{conference_of}
use Rattle.floor_room.specs.Outbox.{Outbox}
use Rattle.floor_room.specs.Room.{Room}
use Rattle.floor_hub.specs.declared.attached.Live.{Live}
use Rattle.floor_hub.specs.declared.connection.Connection.{Connection}
use Rattle.floor_hub.specs.Connections.{connection_at}
use Rattle.floor_hub.specs.Concerned.{AscendFrom, Concerns, IsConcerned, IsLeftAlone, IsNamed, is_cut, is_shut, waiting}
use Rattle.floor_hub.specs.Hub.{Hub, room_at}
use Rattle.floor_hub.specs.Rooms.{QueuesMore}
use Rattle.floor_hub.specs.steps.Attached.{AreAttached, Concerned, EachOf, IsIn, IsKnown, NamedIn, Stands, Tells, is_named, is_noted, live_in, marked}
use Rattle.floor_hub.proofs.Known.{Went, listed-cut, shut-same, stays-cut}
use Rattle.floor_hub.proofs.Listing.{Keeps, contains-in, in-contains, map-stands, named-of, stands-map, unnamed-of}

-- what an outbox holds, and nothing without one
abbrev pub held_by : Option Outbox → List Parcel
held_by o = option_map_or (λ x. x.held) o []

queues-get : (os ps : List Outbox) (k : ℕ) → QueuesMore os ps → (more : List Parcel) × (held_by (slice_get ps k) ≡ held_by (slice_get os k) ++ more)
queues-get [] [] k h = ([], refl)
queues-get [] (p ∷ ps) zero h = (p.held, refl)
queues-get [] (p ∷ ps) (suc k) h = queues-get [] ps k h.1
queues-get (o ∷ os) [] k h = absurd h
queues-get (o ∷ os) (p ∷ ps) zero h = h.1
queues-get (o ∷ os) (p ∷ ps) (suc k) h = queues-get os ps k h.2

-- what waited for n goes on to wait
waits-more : (r s : Room) (n : ℕ) → QueuesMore r.outboxes s.outboxes → (more : List Parcel) × (waiting s n ≡ waiting r n ++ more)
waits-more r s zero h = ([], refl)
waits-more r s (suc k) h = queues-get r.outboxes s.outboxes k h

not-longer : (xs ys more : List Parcel) → ys ≡ xs ++ more → length ys ≤ length xs → ys ≡ xs
not-longer xs ys [] e l = e ∙ append-nil xs
not-longer xs ys (p ∷ more) e l = absurd (omega (arith, ap length e, length-append xs (p ∷ more)))

-- the connection, where there was one and is one, is the same one
abbrev pub StaysAs : Option Connection → Option Connection → Type 0
StaysAs None y = Unit {0}
StaysAs (Some x) None = Unit {0}
StaysAs (Some x) (Some y) = (y.conference ≡ x.conference) × (y.n ≡ x.n)

left-alone : (r s : Room) (n : ℕ) → s ≡ r → IsLeftAlone r s n
left-alone r s n e = subst (λ (z : Room). IsLeftAlone r z n) (sym e) (record { waiting = refl; cut = λ h. h; shut = λ h. h })

some_is : {A : Type 0} (x y : A) → ◌≡◌ {A = Option A} (Some x) (Some y) → x ≡ y
some_is x y e = cc

false_true : false ≡ true → ⊥
false_true e = cc

-- whether the member of a connection was cut is known, and it is live while its conference is open
abbrev pub IsFound : Room → Room → Live → Type 0
IsFound r s l = IsKnown r l × (is_shut s ≡ false → is_live (conference_of s.ledger) l.n ≡ true)

pub keeps-marked : (cut : List ℕ) → Keeps (marked cut)
keeps-marked cut l = (refl, refl)

-- a room went from r to s, told these, and these are cut now
module _ (r s : Room) (told cut : List ℕ) (went : Went r s) (tells : Tells r s told) (are_cut : is_shut r ≡ false → is_shut s ≡ false → AreCut (conference_of s.ledger).members cut) where
  -- who is named is concerned
  concerned-by : (l : Live) → IsFound r s l → is_named (is_shut r) (is_shut s) told cut l ≡ true → IsConcerned r s l.n
  concerned-by l known h = by (is_shut r) (is_shut s) refl refl h
    where
      noted : (t c k : Bool) → is_shut r ≡ false → is_shut s ≡ false → list_any (λ n. n == l.n) told ≡ t → list_any (λ n. n == l.n) cut ≡ c → l.is_cut ≡ k → (t || c && not k) ≡ true → IsConcerned r s l.n
      noted true c k ra sb et ec ek e = inl (ltb-true (length (waiting r l.n)) (length (waiting s l.n)) (sym (tells sb l.n) ∙ et))
      noted false true false ra sb et ec ek e = inr (inl (sym (known.0 ra) ∙ ek, sym (listed-cut s cut l.n sb (are_cut ra sb) (known.1 sb)) ∙ ec))
      noted false true true ra sb et ec ek e = absurd (false_true e)
      noted false false k ra sb et ec ek e = absurd (false_true e)

      by : (a b : Bool) → is_shut r ≡ a → is_shut s ≡ b → (not a && (b || is_noted told cut l)) ≡ true → IsConcerned r s l.n
      by true b ra sb e = absurd (false_true e)
      by false true ra sb e = inr (inr (ra, sb))
      by false false ra sb e = noted (list_any (λ n. n == l.n) told) (list_any (λ n. n == l.n) cut) l.is_cut ra sb refl refl refl e

  -- who isn't is left alone
  alone-by : QueuesMore r.outboxes s.outboxes → (l : Live) → IsFound r s l → is_named (is_shut r) (is_shut s) told cut l ≡ false → IsLeftAlone r s l.n
  alone-by more l known h = by (is_shut r) (is_shut s) refl refl h
    where
      noted : (t c k : Bool) → is_shut r ≡ false → is_shut s ≡ false → list_any (λ n. n == l.n) told ≡ t → list_any (λ n. n == l.n) cut ≡ c → l.is_cut ≡ k → (t || c && not k) ≡ false → IsLeftAlone r s l.n
      noted true c k ra sb et ec ek e = absurd (false_true (sym e))
      noted false true false ra sb et ec ek e = absurd (false_true (sym e))
      noted false c k ra sb et ec ek e =
          let w = waits-more r s l.n more in
          let short : length (waiting s l.n) ≤ length (waiting r l.n) = ltb-false (length (waiting r l.n)) (length (waiting s l.n)) (sym (tells sb l.n) ∙ et) in
          record {
            waiting = not-longer (waiting r l.n) (waiting s l.n) w.0 w.1 short;
            cut = λ now. sym (known.0 ra) ∙ ek ∙ was c k (sym ec ∙ listed-cut s cut l.n sb (are_cut ra sb) (known.1 sb) ∙ now) e;
            shut = λ now. absurd (false_true (sym sb ∙ now));
          }
        where
          was : (c k : Bool) → c ≡ true → (c && not k) ≡ false → k ≡ true
          was true true i j = refl
          was true false i j = absurd (false_true (sym j))
          was false k i j = absurd (false_true i)

      by : (a b : Bool) → is_shut r ≡ a → is_shut s ≡ b → (not a && (b || is_noted told cut l)) ≡ false → IsLeftAlone r s l.n
      by true b ra sb e = left-alone r s l.n (shut-same r s ra went)
      by false true ra sb e = absurd (false_true (sym e))
      by false false ra sb e = noted (list_any (λ n. n == l.n) told) (list_any (λ n. n == l.n) cut) l.is_cut ra sb refl refl refl e

  -- it is known now whether its member is cut
  known-by : (l : Live) → IsFound r s l → IsKnown s (marked cut l)
  known-by l known sb = by (is_shut r) refl
    where
      either : (a b : Bool) → (a ≡ true → b ≡ true) → (a || b) ≡ b
      either true b h = sym (h refl)
      either false b h = refl

      by : (a : Bool) → is_shut r ≡ a → (l.is_cut || list_any (λ n. n == l.n) cut) ≡ is_cut s l.n
      by true ra = absurd (false_true (sym sb ∙ ap is_shut (shut-same r s ra went) ∙ ra))
      by false ra =
          let now : list_any (λ n. n == l.n) cut ≡ is_cut s l.n = listed-cut s cut l.n sb (are_cut ra sb) (known.1 sb) in
          ap (λ (b : Bool). l.is_cut || b) now ∙ either l.is_cut (is_cut s l.n) (λ e. stays-cut r s l.n went sb (sym (known.0 ra) ∙ e))

  pub known-all : (live : List Live) → EachOf (IsFound r s) live → EachOf (IsKnown s) (map (marked cut) live)
  known-all [] each = tt
  known-all (l ∷ live) each = (known-by l each.0, known-all live each.1)

-- A call was for the room of the conference c, which went from r to s. Of the connections that are live now some are named.
pub concerns-in : (old new : Hub) (cs : Concerned) (c : ℕ) (r s : Room) (told : List ℕ) (live : List Live) (i : NamedIn (is_shut r) s told live (live_in cs c) new.concerned) →
    room_at old c ≡ Some r → room_at new c ≡ Some s → ((d : ℕ) → nat_eq c d ≡ false → room_at new d ≡ room_at old d) → QueuesMore r.outboxes s.outboxes → Went r s → Tells r s told →
    AreAttached (live_in cs) (connection_at new.connections) → EachOf (IsFound r s) live →
    ((k : ℕ) → StaysAs (connection_at old.connections k) (connection_at new.connections k)) → Concerns old new
concerns-in old new cs c r s told live i was now others more went tells attached each stays = record {
  ascending = i.names.ascending;
  named = λ number h. named number (i.names.named number (contains-in new.concerned number h));
  others = λ number x y wx wy none a b ra sb. other number x y wx wy none a b ra sb (nat_eq c x.conference) refl;
}
  where
    test : Live → Bool
    test l = is_named (is_shut r) (is_shut s) told i.cut l

    to_now : (number n : ℕ) → Stands live number n → Stands (live_in cs c) number n
    to_now number n h = subst (λ (z : List Live). Stands z number n) (sym i.marked) (stands-map (marked i.cut) live number n (keeps-marked i.cut) h)

    from_now : (number n : ℕ) → Stands (live_in cs c) number n → Stands live number n
    from_now number n h = map-stands (marked i.cut) live number n (keeps-marked i.cut) (subst (λ (z : List Live). Stands z number n) i.marked h)

    named : (number : ℕ) → IsIn (map (λ l. l.number) (filter test live)) number → IsNamed old new number
    named number k =
        let t = named-of test (IsFound r s) live number each k in
        let a = attached.live c number t.0.n (to_now number t.0.n t.2) in
        record {
          connection = a.0;
          before = r;
          after = s;
          live = a.1;
          was = ap (room_at old) a.2 ∙ was;
          now = ap (room_at new) a.2 ∙ now;
          concerned = subst (IsConcerned r s) (sym a.3) (concerned-by r s told i.cut went tells i.are_cut t.0 t.3 t.1);
        }

    other : (number : ℕ) (x y : Connection) → connection_at old.connections number ≡ Some x → connection_at new.connections number ≡ Some y →
        ¬ Contains new.concerned number → (a b : Room) → room_at old x.conference ≡ Some a → room_at new x.conference ≡ Some b →
        (e : Bool) → nat_eq c x.conference ≡ e → IsLeftAlone a b x.n
    other number x y wx wy none a b ra sb false e =
        left-alone a b x.n (some_is b a (sym sb ∙ others x.conference e ∙ ra))
    other number x y wx wy none a b ra sb true e =
        let same : c ≡ x.conference = eqb-true c x.conference e in
        let p = subst (λ (z : Option Connection). StaysAs (Some x) z) wy (subst (λ (z : Option Connection). StaysAs z (connection_at new.connections number)) wx (stays number)) in
        let standing : Stands live number y.n =
        from_now number y.n (subst (λ (d : ℕ). Stands (live_in cs d) number y.n) (p.0 ∙ sym same) (attached.found number y wy)) in
        let t = unnamed-of test (IsFound r s) live number y.n each standing (λ k. none (in-contains new.concerned number (i.names.all number k))) in
        let alone : IsLeftAlone r s t.0.n = alone-by r s told i.cut went tells i.are_cut more t.0 t.4 t.3 in
        let ar : r ≡ a = some_is r a (sym was ∙ ap (room_at old) same ∙ ra) in
        let bs : s ≡ b = some_is s b (sym now ∙ ap (room_at new) same ∙ sb) in
        subst (λ (z : ℕ). IsLeftAlone a b z) (t.2 ∙ p.1) (subst (λ (z : Room). IsLeftAlone a z t.0.n) bs (subst (λ (z : Room). IsLeftAlone z s t.0.n) ar alone))

-- a call that was for no room concerned nobody
pub concerns-nobody : (old new : Hub) → ((d : ℕ) → room_at new d ≡ room_at old d) → new.concerned ≡ [] → Concerns old new
concerns-nobody old new same none = record {
  ascending = subst (AscendFrom 0) (sym none) tt;
  named = λ number h. absurd (contains-in [] number (subst (λ (z : List ℕ). Contains z number) none h));
  others = λ number x y wx wy no r s ra sb. left-alone r s x.n (some_is s r (sym sb ∙ same x.conference ∙ ra));
}
