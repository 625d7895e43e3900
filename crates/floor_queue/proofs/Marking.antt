-- Whoever is due after a change names one of its floors, or was due before.
use Rattle.std.proofs.Common.{◌≡◌, ℕ, ◌≤◌, ◌+◌, Bool, true, false, cond, List, [], ◌∷◌, ◌++◌, length, refl, sym, ◌∙◌, ap, arith, map}
use Rattle.std.specs.Prelude.{not, ◌&&◌, ◌||◌, ◌==◌, if◌then◌else◌, nat_lt, count_by, find, Option, Some, None}
use Rattle.std.specs.List.{list_all, list_any}
use Rattle.std.proofs.lemmas.Bool.{eqb-true}
use Rattle.std.proofs.lemmas.Bool.Decides.{nat_tests}
use Rattle.std.proofs.lemmas.List.Sums.{sum_by_push}
use Rattle.floor_config.specs.declared.floors.Floor.{Floor}
use Rattle.floor_queue.specs.declared.index.rank.Rank.{Rank}
use Rattle.floor_queue.specs.declared.request.Request.{Request}
use Rattle.floor_queue.specs.declared.requested_floor.RequestedFloor.{RequestedFloor}
use Rattle.floor_queue.specs.Order.{names, waits, earlier, holders, ahead, is_due, room_of, settle}
use Rattle.floor_queue.specs.Queue.{is_ascending, request_at, without}
use Rattle.floor_queue.specs.steps.Lines.{FloorLine, AreLines, AreMarked, added, taken, moved, moved_rank, with_rank, without_rank, marked, has_mark, names_marked}
use Rattle.floor_queue.proofs.Counts.{one, count-cons, count_le, and_left, and_right, and_both}
use Rattle.floor_queue.proofs.Lining.{changed_at, count_changed, count_ended, line_floor, no_line}
use Rattle.floor_queue.proofs.Places.{settled_exactly}
use Rattle.floor_queue.proofs.Kept.{map-map_key}

any_left : (a b : Bool) → a ≡ true → (a || b) ≡ true
any_left true b h = refl
any_left false b h = cc

any_right : (a b : Bool) → b ≡ true → (a || b) ≡ true
any_right true b h = refl
any_right false b h = h

-- marks of lines ------------------------------------------------------------------------------

-- what leaves each line's floor and mark leaves the marks
pub has_mark-map : (f : FloorLine → FloorLine) → ((l : FloorLine) → (f l).floor ≡ l.floor) → ((l : FloorLine) → (f l).is_marked ≡ l.is_marked) → (lines : List FloorLine) (floor : ℕ) →
    has_mark (map f lines) floor ≡ has_mark lines floor
has_mark-map f same mark [] floor = refl
has_mark-map f same mark (l ∷ ls) floor = rw (same l, mark l, has_mark-map f same mark ls floor) refl

has_mark-more : (c : Request) (lines : List FloorLine) (floor : ℕ) → has_mark lines floor ≡ true → has_mark (map (marked c) lines) floor ≡ true
has_mark-more c [] floor h = h
has_mark-more c (l ∷ ls) floor h = by (names c l.floor) (has_mark-more c ls floor)
  where
    more : (e m r r' : Bool) → (r ≡ true → r' ≡ true) → ((e && m) || r) ≡ true → ((e && true) || r') ≡ true
    more true m r r' f h = refl
    more false m r r' f h = f h

    rest : (a r r' : Bool) → (r ≡ true → r' ≡ true) → (a || r) ≡ true → (a || r') ≡ true
    rest true r r' f h = refl
    rest false r r' f h = f h

    by : (b : Bool) → (has_mark ls floor ≡ true → has_mark (map (marked c) ls) floor ≡ true) →
        (((if b then record l { is_marked = true } else l).floor == floor && (if b then record l { is_marked = true } else l).is_marked) || has_mark (map (marked c) ls) floor) ≡ true
    by true f = more (l.floor == floor) l.is_marked (has_mark ls floor) (has_mark (map (marked c) ls) floor) f h
    by false f = rest (l.floor == floor && l.is_marked) (has_mark ls floor) (has_mark (map (marked c) ls) floor) f h

-- a floor that is named and has a line is marked
has_mark-named : (c : Request) (lines : List FloorLine) (floor : ℕ) (m : FloorLine) → names c floor ≡ true → find (λ l. l.floor == floor) lines ≡ Some m → has_mark (map (marked c) lines) floor ≡ true
has_mark-named c [] floor m named e = cc
has_mark-named c (l ∷ ls) floor m named e = by (l.floor == floor) refl (has_mark-named c ls floor m named) e
  where
    here : (b d : Bool) → b ≡ true → d ≡ true → ((if b then record l { is_marked = true } else l).floor == floor) ≡ d →
        ((if b then record l { is_marked = true } else l).floor == floor && (if b then record l { is_marked = true } else l).is_marked) ≡ true
    here true d h k e = and_both _ _ (e ∙ k) refl
    here false d h k e = cc

    same : (b : Bool) → ((if b then record l { is_marked = true } else l).floor == floor) ≡ (l.floor == floor)
    same true = refl
    same false = refl

    by : (b : Bool) → (l.floor == floor) ≡ b → (find (λ l. l.floor == floor) ls ≡ Some m → has_mark (map (marked c) ls) floor ≡ true) → cond b (Some l) (find (λ l. l.floor == floor) ls) ≡ Some m →
        has_mark (map (marked c) (l ∷ ls)) floor ≡ true
    by true n rest e =
        any_left ((marked c l).floor == floor && (marked c l).is_marked) (has_mark (map (marked c) ls) floor)
        (here (names c l.floor) (l.floor == floor) (ap (names c) (eqb-true l.floor floor n) ∙ named) n (same (names c l.floor)))
    by false n rest e = any_right ((marked c l).floor == floor && (marked c l).is_marked) _ (rest e)

-- the marks after a change of c: those before, and one on each of its floors that has room
pub record Marks (floors : List Floor) (lines lines' : List FloorLine) (c : Request) : Type 0 where
  pub more : (id : ℕ) → has_mark lines id ≡ true → has_mark lines' id ≡ true
  pub fresh : (id : ℕ) → names c id ≡ true → nat_lt 0 (room_of floors id) ≡ true → has_mark lines' id ≡ true

pub marks : (floors : List Floor) (lines : List FloorLine) (c s : Request) (f : FloorLine → FloorLine) → ((l : FloorLine) → (f l).floor ≡ l.floor) → ((l : FloorLine) → (f l).is_marked ≡ l.is_marked) →
    ((id : ℕ) → names s id ≡ names c id) → map (λ (l : FloorLine). l.floor) lines ≡ map (λ (f : Floor). f.id) floors → Marks floors lines (map (marked s) (map f lines)) c
marks floors lines c s f same mark named h =
    record {
      more = λ id e. has_mark-more s (map f lines) id (has_mark-map f same mark lines id ∙ e);
      fresh = λ id n roomy. by id n roomy (find (λ (l : FloorLine). l.floor == id) (map f lines)) refl;
    }
  where
    by : (id : ℕ) → names c id ≡ true → nat_lt 0 (room_of floors id) ≡ true → (o : Option FloorLine) → find (λ (l : FloorLine). l.floor == id) (map f lines) ≡ o → has_mark (map (marked s) (map f lines)) id ≡ true
    by id n roomy None e =
        let k : false ≡ true = ap (nat_lt 0) (sym (no_line id floors (map f lines) (map-map_key (λ (l : FloorLine). l.floor) f same lines ∙ h) e)) ∙ roomy in cc
    by id n roomy (Some l) e = has_mark-named s (map f lines) id l (named id ∙ n) e

-- changes -------------------------------------------------------------------------------------

-- the requests before and after c came, ended or became c': a test that neither passes counts as many, and one that c' doesn't pass counts no more
pub record Change (rs rs' : List Request) (c c' : Request) : Type 0 where
  pub same : (q : Request → Bool) → q c ≡ false → q c' ≡ false → count_by q rs' ≡ count_by q rs
  pub most : (q : Request → Bool) → q c' ≡ false → count_by q rs' ≤ count_by q rs

pub change-added : (rs : List Request) (c : Request) → Change rs (rs ++ c ∷ []) c c
change-added rs c =
    record {
      same = λ q e f. omega (arith, sum_by_push (λ (r : Request). one (q r)) rs c, ap one e);
      most = λ q e. omega (arith, sum_by_push (λ (r : Request). one (q r)) rs c, ap one e);
    }

pub change-ended : (k : ℕ) (rs : List Request) (c : Request) → is_ascending rs ≡ true → request_at rs k ≡ Some c → Change rs (without k rs) c c
change-ended k rs c up at =
    record {
      same = λ q e f. omega (arith, count_ended q k rs c up at, ap one e);
      most = λ q e. omega (arith, count_ended q k rs c up at);
    }

pub change-changed : (k : ℕ) (g : Request → Request) (rs : List Request) (c : Request) → is_ascending rs ≡ true → request_at rs k ≡ Some c → Change rs (map (changed_at k g) rs) c (g c)
change-changed k g rs c up at =
    record {
      same = λ q e f. omega (arith, count_changed q g k rs c up at, ap one e, ap one f);
      most = λ q f. omega (arith, count_changed q g k rs c up at, ap one f);
    }

-- the middle one of three that hold together doesn't
mid_false : (a b c : Bool) → b ≡ false → ((a && b) && c) ≡ false
mid_false true true c e = cc
mid_false true false c e = refl
mid_false false b c e = refl

last_false : (a b : Bool) → b ≡ false → (a && b) ≡ false
last_false true b e = e
last_false false b e = refl

or_true : (a b : Bool) → (a || b) ≡ false → {P : Type 0} → (a ≡ false → b ≡ false → P) → P
or_true true b h f = cc
or_true false b h f = f refl h

pub AreMarked-changed : (floors : List Floor) (rs rs' : List Request) (lines lines' : List FloorLine) (c c' : Request) → Change rs rs' c c' → ((id : ℕ) → names c' id ≡ names c id) →
    nat_lt 0 (length c'.floors) ≡ true → Marks floors lines lines' c → AreMarked floors rs lines → AreMarked floors rs' lines'
AreMarked-changed floors rs rs' lines lines' c c' change named some m h =
    omega (arith, h, change.most unseen' last, count_le unseen' unseen earlier_unseen rs)
  where
    unseen : Request → Bool
    unseen r = is_due floors rs r && not (names_marked lines r)

    unseen' : Request → Bool
    unseen' r = is_due floors rs' r && not (names_marked lines' r)

    has_room : Request → RequestedFloor → Bool
    has_room r f = nat_lt (holders rs f.floor + ahead floors rs r f.floor) (room_of floors f.floor)

    has_room' : Request → RequestedFloor → Bool
    has_room' r f = nat_lt (holders rs' f.floor + ahead floors rs' r f.floor) (room_of floors f.floor)

    roomy : (a b : ℕ) → nat_lt a b ≡ true → nat_lt 0 b ≡ true
    roomy a b e = grind (arith, nat_tests)

    no : (b : Bool) → not b ≡ true → b ≡ false
    no true h = cc
    no false h = refl

    -- a floor with room and without a mark isn't one of c
    other : (r : Request) (f : RequestedFloor) → has_room' r f ≡ true → has_mark lines' f.floor ≡ false → names c f.floor ≡ false
    other r f roomy_here e = by (names c f.floor) refl
      where
        by : (b : Bool) → names c f.floor ≡ b → b ≡ false
        by true n = sym (m.fresh f.floor n (roomy _ _ roomy_here)) ∙ e
        by false n = refl

    -- nor c' itself, which has a floor
    last : unseen' c' ≡ false
    last = by (unseen' c') refl
      where
        by_floors : (fs : List RequestedFloor) → nat_lt 0 (length fs) ≡ true → list_all (has_room' c') fs ≡ true → list_any (λ f. has_mark lines' f.floor) fs ≡ false →
            ((id : ℕ) → list_any (λ f. f.floor == id) fs ≡ true → names c' id ≡ true) → true ≡ false
        by_floors [] few all none among = cc
        by_floors (f ∷ fs) few all none among =
            sym (among f.floor (any_left (f.floor == f.floor) (list_any (λ (g : RequestedFloor). g.floor == f.floor) fs) (equal f.floor)))
            ∙ named f.floor ∙ or_true (has_mark lines' f.floor) (list_any (λ (f : RequestedFloor). has_mark lines' f.floor) fs) none (λ e more. other c' f (and_left _ _ all) e)
          where
            equal : (k : ℕ) → (k == k) ≡ true
            equal k = grind (arith, nat_tests)

        by : (b : Bool) → unseen' c' ≡ b → b ≡ false
        by true e =
            by_floors c'.floors some (and_right (waits c') (list_all (has_room' c') c'.floors) (and_left (is_due floors rs' c') (not (names_marked lines' c')) e))
            (no (names_marked lines' c') (and_right (is_due floors rs' c') (not (names_marked lines' c')) e)) (λ id k. k)
        by false e = refl

    -- on a floor that isn't one of c nothing changed
    here : (r : Request) (f : RequestedFloor) → names c f.floor ≡ false → has_room' r f ≡ has_room r f
    here r f n =
        ap (λ k. nat_lt k (room_of floors f.floor))
        (omega (
          arith,
          change.same (λ q. q.is_granted && names q f.floor) (last_false c.is_granted (names c f.floor) n) (last_false c'.is_granted (names c' f.floor) (named f.floor ∙ n)),
          change.same (λ q. waits q && names q f.floor && earlier floors q r) (mid_false (waits c) (names c f.floor) (earlier floors c r) n) (mid_false (waits c') (names c' f.floor) (earlier floors c' r) (named f.floor ∙ n)),
        ))

    -- the floors had room before, and no marks
    before : (r : Request) (fs : List RequestedFloor) → list_all (has_room' r) fs ≡ true → list_any (λ f. has_mark lines' f.floor) fs ≡ false →
        (list_all (has_room r) fs ≡ true) × (list_any (λ f. has_mark lines f.floor) fs ≡ false)
    before r [] all none = (refl, refl)
    before r (f ∷ fs) all none =
        or_true (has_mark lines' f.floor) (list_any (λ (f : RequestedFloor). has_mark lines' f.floor) fs) none
        (λ e more.
        let rest : (list_all (has_room r) fs ≡ true) × (list_any (λ f. has_mark lines f.floor) fs ≡ false) = before r fs (and_right _ _ all) more in (
          and_both _ _ (sym (here r f (other r f (and_left _ _ all) e)) ∙ and_left _ _ all) rest.0,
          neither (has_mark lines f.floor) _ (not_then f.floor e) rest.1,
        ))
      where
        neither : (a b : Bool) → a ≡ false → b ≡ false → (a || b) ≡ false
        neither true b e k = e
        neither false b e k = k

        not_then : (id : ℕ) → has_mark lines' id ≡ false → has_mark lines id ≡ false
        not_then id e = by (has_mark lines id) refl
          where
            by : (b : Bool) → has_mark lines id ≡ b → b ≡ false
            by true k = sym (m.more id k) ∙ e
            by false k = refl

    earlier_unseen : (r : Request) → unseen' r ≡ true → unseen r ≡ true
    earlier_unseen r e =
        let due : is_due floors rs' r ≡ true = and_left (is_due floors rs' r) (not (names_marked lines' r)) e in
        let w : waits r ≡ true = and_left (waits r) (list_all (has_room' r) r.floors) due in
        let b : (list_all (has_room r) r.floors ≡ true) × (list_any (λ f. has_mark lines f.floor) r.floors ≡ false) =
        before r r.floors (and_right (waits r) (list_all (has_room' r) r.floors) due) (no (names_marked lines' r) (and_right (is_due floors rs' r) (not (names_marked lines' r)) e)) in
        and_both (is_due floors rs r) (not (names_marked lines r)) (and_both (waits r) (list_all (has_room r) r.floors) w b.0) (ap not b.1)

-- each change ---------------------------------------------------------------------------------

line_mark : (b : Bool) (l : FloorLine) (ks : List Rank) → (if b then record l { ranks = ks } else l).is_marked ≡ l.is_marked
line_mark true l ks = refl
line_mark false l ks = refl

pub AreMarked-added : (floors : List Floor) (rs : List Request) (lines : List FloorLine) (c : Request) (x : Rank) → nat_lt 0 (length c.floors) ≡ true → AreLines floors rs lines → AreMarked floors rs lines →
    AreMarked floors (rs ++ c ∷ []) (map (marked c) (map (added c x) lines))
AreMarked-added floors rs lines c x some h m =
    AreMarked-changed floors rs (rs ++ c ∷ []) lines (map (marked c) (map (added c x) lines)) c c (change-added rs c) (λ id. refl) some
    (marks floors lines c c (added c x) (λ l. line_floor (names c l.floor) l (with_rank x l.ranks)) (λ l. line_mark (names c l.floor) l (with_rank x l.ranks)) (λ id. refl) h.floors_same) m

pub AreMarked-ended : (floors : List Floor) (k : ℕ) (rs : List Request) (lines : List FloorLine) (c : Request) (x : Rank) → is_ascending rs ≡ true → request_at rs k ≡ Some c → nat_lt 0 (length c.floors) ≡ true →
    AreLines floors rs lines → AreMarked floors rs lines → AreMarked floors (without k rs) (map (marked c) (map (taken c x) lines))
AreMarked-ended floors k rs lines c x up at some h m =
    AreMarked-changed floors rs (without k rs) lines (map (marked c) (map (taken c x) lines)) c c (change-ended k rs c up at) (λ id. refl) some
    (marks floors lines c c (taken c x) (λ l. line_floor (names c l.floor) l (without_rank x l.ranks)) (λ l. line_mark (names c l.floor) l (without_rank x l.ranks)) (λ id. refl) h.floors_same) m

pub AreMarked-moved : (floors : List Floor) (k : ℕ) (g : Request → Request) (rs : List Request) (lines : List FloorLine) (c : Request) (x y : Rank) → is_ascending rs ≡ true → request_at rs k ≡ Some c →
    ((id : ℕ) → names (g c) id ≡ names c id) → nat_lt 0 (length (g c).floors) ≡ true → AreLines floors rs lines → AreMarked floors rs lines →
    AreMarked floors (map (changed_at k g) rs) (map (marked (g c)) (map (moved (g c) x y) lines))
AreMarked-moved floors k g rs lines c x y up at same some h m =
    AreMarked-changed floors rs (map (changed_at k g) rs) lines (map (marked (g c)) (map (moved (g c) x y) lines)) c (g c) (change-changed k g rs c up at) same some
    (marks floors lines c (g c) (moved (g c) x y) (λ l. line_floor (names (g c) l.floor) l (moved_rank x y l.ranks)) (λ l. line_mark (names (g c) l.floor) l (moved_rank x y l.ranks)) same h.floors_same) m

-- where nothing is due, nothing has to be marked
pub AreMarked-settled : (floors : List Floor) (rs : List Request) (lines : List FloorLine) → settle floors rs ≡ rs → AreMarked floors rs lines
AreMarked-settled floors rs lines calm =
    omega (arith, count_le (λ r. is_due floors rs r && not (names_marked lines r)) (is_due floors rs) (λ r e. and_left (is_due floors rs r) (not (names_marked lines r)) e) rs, none (is_due floors rs) rs ((settled_exactly floors rs).1 calm))
  where
    none : (p : Request → Bool) (qs : List Request) → not (list_any p qs) ≡ true → count_by p qs ≡ 0
    none p [] h = refl
    none p (q ∷ qs) h = by (p q) (none p qs) (count-cons p q qs) h
      where
        by : (b : Bool) → (not (list_any p qs) ≡ true → count_by p qs ≡ 0) → count_by p (q ∷ qs) ≡ one b + count_by p qs → not (b || list_any p qs) ≡ true → count_by p (q ∷ qs) ≡ 0
        by true rest e h = cc
        by false rest e h = omega (arith, rest h, e)
