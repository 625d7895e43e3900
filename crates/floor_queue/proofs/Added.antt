-- A floor that is added behind the others: the requests, their order and their lines stay, since none of them names it.
use Rattle.std.proofs.Common.{◌≡◌, ℕ, ◌≤◌, ◌+◌, Bool, true, false, cond, List, [], ◌∷◌, ◌++◌, map, refl, sym, ◌∙◌, ap, arith}
use Rattle.std.specs.Prelude.{not, ◌&&◌, ◌||◌, ◌==◌, nat_lt, count_by, find, Some, IsTrue, is_some}
use Rattle.std.specs.List.{list_any, list_all}
use Rattle.std.specs.Option.{option_map_or}
use Rattle.std.proofs.lemmas.Bool.{eqb-true}
use Rattle.std.proofs.lemmas.List.{map-append}
use Rattle.std.proofs.lemmas.List.Folds.{list_any-append}
use Rattle.std.proofs.lemmas.List.Elements.{All-push, All-weaker}
use Rattle.floor_config.specs.declared.floors.Floor.{Floor}
use Rattle.floor_config.specs.Lookup.{is_floor}
use Rattle.floor_queue.specs.declared.index.rank.Rank.{Rank}
use Rattle.floor_queue.specs.declared.request.Request.{Request}
use Rattle.floor_queue.specs.declared.requested_floor.RequestedFloor.{RequestedFloor}
use Rattle.floor_queue.specs.Requested.{is_granting}
use Rattle.floor_queue.specs.Order.{room_of, is_chaired, names, waits, is_express, earlier, earlier_by_priority, holders, ahead, is_due, granted_if, position, settle}
use Rattle.floor_queue.specs.Queue.{Queue, IsQueue, IsAddable, new_of, after_add_floor}
use Rattle.floor_queue.specs.steps.Lines.{FloorLine, IsLine, AreLines, AreMarked, empty_line, rank_of, has_mark, names_marked}
use Rattle.floor_queue.proofs.Counts.{one, count-cons, count_none, list_all_at_named, list_all_mono, and_left, and_right}
use Rattle.floor_queue.proofs.Earlier.{chosen}
use Rattle.floor_queue.proofs.Places.{have_rooms, queue_has_rooms}

-- lists of which each element passes t -----------------------------------------------------------

any_where : {X : Type 0} (t p q : X → Bool) → ((x : X) → t x ≡ true → p x ≡ q x) → (xs : List X) → list_all t xs ≡ true → list_any p xs ≡ list_any q xs
any_where t p q h [] k = refl
any_where t p q h (x ∷ xs) k = rw (h x (and_left (t x) (list_all t xs) k), any_where t p q h xs (and_right (t x) (list_all t xs) k)) refl

all_where : {X : Type 0} (t p q : X → Bool) → ((x : X) → t x ≡ true → p x ≡ q x) → (xs : List X) → list_all t xs ≡ true → list_all p xs ≡ list_all q xs
all_where t p q h [] k = refl
all_where t p q h (x ∷ xs) k = rw (h x (and_left (t x) (list_all t xs) k), all_where t p q h xs (and_right (t x) (list_all t xs) k)) refl

count_where : {X : Type 0} (t p q : X → Bool) → ((x : X) → t x ≡ true → p x ≡ q x) → (xs : List X) → list_all t xs ≡ true → count_by p xs ≡ count_by q xs
count_where t p q h [] k = refl
count_where t p q h (x ∷ xs) k = omega (arith, ap one (h x (and_left _ _ k)), count_where t p q h xs (and_right _ _ k), count-cons p x xs, count-cons q x xs)

-- floors behind the others -----------------------------------------------------------------------

no_room : (floors : List Floor) (id : ℕ) → is_floor floors id ≡ false → room_of floors id ≡ 0
no_room [] id h = refl
no_room (f ∷ floors) id h = by (f.id == id) (no_room floors id) h
  where
    by : (b : Bool) → (is_floor floors id ≡ false → room_of floors id ≡ 0) → (b || is_floor floors id) ≡ false →
        option_map_or (λ (f : Floor). f.room) (cond b (Some f) (find (λ (f : Floor). f.id == id) floors)) 0 ≡ 0
    by true rest k = cc
    by false rest k = rest k

room_behind : (floors : List Floor) (new : Floor) (id : ℕ) → (new.id == id) ≡ false → room_of (floors ++ new ∷ []) id ≡ room_of floors id
room_behind [] new id e = rw e refl
room_behind (f ∷ floors) new id e = by (f.id == id) (room_behind floors new id e)
  where
    by : (b : Bool) → room_of (floors ++ new ∷ []) id ≡ room_of floors id →
        option_map_or (λ (f : Floor). f.room) (cond b (Some f) (find (λ (f : Floor). f.id == id) (floors ++ new ∷ []))) 0
        ≡ option_map_or (λ (f : Floor). f.room) (cond b (Some f) (find (λ (f : Floor). f.id == id) floors)) 0
    by true rest = refl
    by false rest = rest

chaired_behind : (floors : List Floor) (new : Floor) (id : ℕ) → (new.id == id) ≡ false → is_chaired (floors ++ new ∷ []) id ≡ is_chaired floors id
chaired_behind [] new id e = rw e refl
chaired_behind (f ∷ floors) new id e = ap (λ b. (f.id == id && is_some f.chair) || b) (chaired_behind floors new id e)

floor_behind : (floors : List Floor) (new : Floor) (id : ℕ) → is_floor floors id ≡ true → is_floor (floors ++ new ∷ []) id ≡ true
floor_behind floors new id h = list_any-append (λ (f : Floor). f.id == id) floors (new ∷ []) ∙ by (is_floor floors id) h
  where
    by : (b : Bool) → b ≡ true → (b || list_any (λ (f : Floor). f.id == id) (new ∷ [])) ≡ true
    by true h = refl
    by false h = cc

mark_behind : (lines : List FloorLine) (new : Floor) (id : ℕ) → has_mark (lines ++ empty_line new ∷ []) id ≡ has_mark lines id
mark_behind [] new id = by (new.id == id)
  where
    by : (b : Bool) → ((b && false) || false) ≡ false
    by true = refl
    by false = refl
mark_behind (l ∷ lines) new id = ap (λ b. (l.floor == id && l.is_marked) || b) (mark_behind lines new id)

module _ (floors : List Floor) (new : Floor) (differs : is_floor floors new.id ≡ false) where
  abbrev more : List Floor
  more = floors ++ new ∷ []

  -- a floor that has room is another one
  other : (id : ℕ) → nat_lt 0 (room_of floors id) ≡ true → (new.id == id) ≡ false
  other id h = by (new.id == id) refl
    where
      by : (b : Bool) → (new.id == id) ≡ b → b ≡ false
      by true e =
          let none : room_of floors id ≡ 0 = ap (room_of floors) (sym (eqb-true new.id id e)) ∙ no_room floors new.id differs in
          let k : false ≡ true = ap (nat_lt 0) (sym none) ∙ h in cc
      by false e = refl

  room_le : (id : ℕ) → room_of floors id ≤ room_of more id
  room_le id = by (new.id == id) refl
    where
      by : (b : Bool) → (new.id == id) ≡ b → room_of floors id ≤ room_of more id
      by true e =
          let none : room_of floors id ≡ 0 = ap (room_of floors) (sym (eqb-true new.id id e)) ∙ no_room floors new.id differs in omega (arith, none)
      by false e = omega (arith, room_behind floors new id e)

  abbrev has_room : RequestedFloor → Bool
  has_room f = nat_lt 0 (room_of floors f.floor)

  express_same : (r : Request) → have_rooms floors r ≡ true → is_express more r ≡ is_express floors r
  express_same r h =
      let same : (f : RequestedFloor) → has_room f ≡ true → is_chaired more f.floor ≡ is_chaired floors f.floor = λ f k. chaired_behind floors new f.floor (other f.floor k) in
      let any : list_any (λ f. is_chaired more f.floor) r.floors ≡ list_any (λ f. is_chaired floors f.floor) r.floors =
      any_where has_room (λ f. is_chaired more f.floor) (λ f. is_chaired floors f.floor) same r.floors h in
      let all : list_all (λ f. not (is_chaired more f.floor) || is_granting f.word) r.floors ≡ list_all (λ f. not (is_chaired floors f.floor) || is_granting f.word) r.floors =
      all_where has_room (λ f. not (is_chaired more f.floor) || is_granting f.word) (λ f. not (is_chaired floors f.floor) || is_granting f.word)
      (λ f k. ap (λ b. not b || is_granting f.word) (same f k)) r.floors h in
      ap (λ b. b && list_all (λ f. not (is_chaired more f.floor) || is_granting f.word) r.floors) any ∙ ap (λ b. list_any (λ f. is_chaired floors f.floor) r.floors && b) all

  rank_same : (r : Request) → have_rooms floors r ≡ true → rank_of more r ≡ rank_of floors r
  unfolding rank_of
  rank_same r h =
      let made : Bool → Rank = λ e. record { is_granted = r.is_granted; waits = waits r; is_express = e; priority = r.priority; number = r.number } in
      ap made (express_same r h)

  earlier_same : (a b : Request) → have_rooms floors a ≡ true → have_rooms floors b ≡ true → earlier more a b ≡ earlier floors a b
  earlier_same a b h k =
      ap (λ e. chosen e (is_express more b) (earlier_by_priority a b)) (express_same a h) ∙ ap (λ e. chosen (is_express floors a) e (earlier_by_priority a b)) (express_same b k)

  -- requests of which each names other floors alone
  module _ (rs : List Request) (roomy : list_all (have_rooms floors) rs ≡ true) where
    ahead_same : (r : Request) → have_rooms floors r ≡ true → (id : ℕ) → ahead more rs r id ≡ ahead floors rs r id
    ahead_same r h id =
        count_where (have_rooms floors) (λ q. waits q && names q id && earlier more q r) (λ q. waits q && names q id && earlier floors q r)
        (λ q k. ap (λ b. waits q && names q id && b) (earlier_same q r k h)) rs roomy

    due_same : (r : Request) → have_rooms floors r ≡ true → is_due more rs r ≡ is_due floors rs r
    due_same r h =
        ap (λ b. waits r && b)
        (all_where has_room (λ f. nat_lt (holders rs f.floor + ahead more rs r f.floor) (room_of more f.floor)) (λ f. nat_lt (holders rs f.floor + ahead floors rs r f.floor) (room_of floors f.floor))
        (λ f k. ap (λ n. nat_lt (holders rs f.floor + n) (room_of more f.floor)) (ahead_same r h f.floor)
        ∙ ap (nat_lt (holders rs f.floor + ahead floors rs r f.floor)) (room_behind floors new f.floor (other f.floor k))) r.floors h)

    marks_same : (lines : List FloorLine) (r : Request) → names_marked (lines ++ empty_line new ∷ []) r ≡ names_marked lines r
    marks_same lines r = by r.floors
      where
        by : (fs : List RequestedFloor) → list_any (λ f. has_mark (lines ++ empty_line new ∷ []) f.floor) fs ≡ list_any (λ f. has_mark lines f.floor) fs
        by [] = refl
        by (f ∷ fs) = rw (mark_behind lines new f.floor, by fs) refl

    pub AreMarked-more : (lines : List FloorLine) → AreMarked floors rs lines → AreMarked more rs (lines ++ empty_line new ∷ [])
    AreMarked-more lines h =
        count_where (have_rooms floors) (λ r. is_due more rs r && not (names_marked (lines ++ empty_line new ∷ []) r)) (λ r. is_due floors rs r && not (names_marked lines r))
        (λ r k. ap (λ b. b && not (names_marked (lines ++ empty_line new ∷ []) r)) (due_same r k) ∙ ap (λ b. is_due floors rs r && not b) (marks_same lines r)) rs roomy
        ∙ h

    IsLine-more : (l : FloorLine) → IsLine floors rs l → IsLine more rs l
    IsLine-more l h =
        record {
          in_order = h.in_order;
          counts = λ p. h.counts p
              ∙ sym (count_where (have_rooms floors) (λ r. names r l.floor && p (rank_of more r)) (λ r. names r l.floor && p (rank_of floors r)) (λ r k. ap (λ x. names r l.floor && p x) (rank_same r k)) rs roomy);
        }

    unnamed : (r : Request) → have_rooms floors r ≡ true → names r new.id ≡ false
    unnamed r h = by (names r new.id) refl
      where
        by : (b : Bool) → names r new.id ≡ b → b ≡ false
        by true e =
            let k : false ≡ true = ap (nat_lt 0) (sym (no_room floors new.id differs)) ∙ list_all_at_named (λ (f : RequestedFloor). f.floor) (λ id. nat_lt 0 (room_of floors id)) new.id r.floors h e in cc
        by false e = refl

    IsLine-new : IsLine more rs (empty_line new)
    IsLine-new =
        record {
          in_order = refl;
          counts = λ p. sym (count_none (λ r. names r new.id && p (rank_of more r)) rs
              (list_all_mono (have_rooms floors) (λ r. not (names r new.id && p (rank_of more r))) (λ r k. ap (λ b. not (b && p (rank_of more r))) (unnamed r k)) rs roomy));
        }

    pub AreLines-more : (lines : List FloorLine) → AreLines floors rs lines → AreLines more rs (lines ++ empty_line new ∷ [])
    AreLines-more lines h =
        record {
          floors_same =
              map-append (λ (l : FloorLine). l.floor) lines (empty_line new ∷ [])
              ∙ ap (λ (ids : List ℕ). ids ++ new.id ∷ []) h.floors_same
              ∙ sym (map-append (λ (f : Floor). f.id) floors (new ∷ []));
          each = All-push (IsLine more rs) lines (empty_line new) (All-weaker (IsLine floors rs) (IsLine more rs) IsLine-more lines h.each) IsLine-new;
        }

pub IsQueue-add_floor : (q : Queue) (new : Floor) → is_floor q.floors new.id ≡ false → 1 ≤ new.room → IsQueue q → IsQueue (after_add_floor q new)
IsQueue-add_floor q new differs room h =
    record {
      rooms = All-push (λ (f : Floor). 1 ≤ f.room) q.floors new h.rooms room;
      ascending = h.ascending;
      numbers = h.numbers;
      few = h.few;
      addable = All-weaker (λ (r : Request). IsAddable q.floors (new_of r)) (λ (r : Request). IsAddable (q.floors ++ new ∷ []) (new_of r))
          (λ r a. record {
            floors_least = a.floors_least;
            floors_most = a.floors_most;
            floors_differ = a.floors_differ;
            floors_known = All-weaker (λ id. IsTrue (is_floor q.floors id)) (λ id. IsTrue (is_floor (q.floors ++ new ∷ []) id)) (λ id k. floor_behind q.floors new id k) (new_of r).floors a.floors_known;
            priority = a.priority;
            info = a.info;
          }) q.ongoing h.addable;
      reasons = h.reasons;
      holders_fit = λ id. omega (arith, h.holders_fit id, room_le q.floors new differs id);
    }

among_more : {X : Type 0} (p : X → Bool) (f g : X → X) → ((x : X) → p x ≡ true → f x ≡ g x) → (xs : List X) → list_all p xs ≡ true → map f xs ≡ map g xs
among_more p f g same [] h = refl
among_more {X = X} p f g same (x ∷ xs) h =
    ap (λ (y : X). y ∷ map f xs) (same x (and_left (p x) (list_all p xs) h)) ∙ ap (λ (ys : List X). g x ∷ ys) (among_more p f g same xs (and_right (p x) (list_all p xs) h))

-- a floor more changes neither who is due nor any position
pub settle-more : (q : Queue) (new : Floor) → is_floor q.floors new.id ≡ false → IsQueue q → settle (q.floors ++ new ∷ []) q.ongoing ≡ settle q.floors q.ongoing
settle-more q new differs h =
    let roomy = queue_has_rooms q h in
    among_more (have_rooms q.floors) (λ r. granted_if (is_due (q.floors ++ new ∷ []) q.ongoing r) r) (λ r. granted_if (is_due q.floors q.ongoing r) r)
    (λ r k. ap (λ b. granted_if b r) (due_same q.floors new differs q.ongoing roomy r k)) q.ongoing roomy

pub position-more : (q : Queue) (new : Floor) → is_floor q.floors new.id ≡ false → IsQueue q → (r : Request) → have_rooms q.floors r ≡ true → (floor : ℕ) →
    position (q.floors ++ new ∷ []) q.ongoing r floor ≡ position q.floors q.ongoing r floor
position-more q new differs h r roomy floor =
    ap (λ (n : ℕ). cond (waits r) (1 + n) 0) (ahead_same q.floors new differs q.ongoing (queue_has_rooms q h) r roomy floor)
