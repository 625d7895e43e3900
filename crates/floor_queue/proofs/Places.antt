-- In a settled queue no position is above 255.
use Rattle.std.proofs.Common.{◌≡◌, ℕ, ◌+◌, ◌<◌, ◌≤◌, Bool, true, false, cond, List, [], ◌∷◌, length, refl, sym, ◌∙◌, ap, subst, inl, inr, arith, map}
use Rattle.std.specs.Prelude.{not, ◌↔◌, ◌&&◌, ◌||◌, ◌⊎◌, ◌==◌, if◌then◌else◌, nat_lt, count_by, find, All, Some, IsTrue}
use Rattle.std.specs.List.{list_any, list_all, slice_index_or}
use Rattle.std.specs.Option.{option_map_or}
use Rattle.std.proofs.lemmas.Bool.Decides.{nat_tests}
use Rattle.std.proofs.lemmas.Bool.{lt-ltb}
use Rattle.std.proofs.lemmas.List.Elements.{All-head, All-tail, All-weaker}
use Rattle.std.proofs.lemmas.List.Sums.{list_all-from_AllPass, AllPass-from_list_all}
use Rattle.floor_config.specs.declared.floors.Floor.{Floor}
use Rattle.floor_config.specs.Lookup.{is_floor}
use Rattle.floor_queue.specs.declared.request.Request.{Request}
use Rattle.floor_queue.specs.declared.requested_floor.RequestedFloor.{RequestedFloor}
use Rattle.floor_queue.specs.Requested.{is_accepted}
use Rattle.floor_queue.specs.Order.{names, waits, earlier, holders, ahead, room_of, is_due, granted_if, settle, position}
use Rattle.floor_queue.specs.Queue.{Queue, IsQueue, IsSettled, IsAddable, new_of, request_at}
use Rattle.floor_queue.proofs.Counts.{one, count_le, count_none, counted, three_le, and_left, and_right, and_both, list_all_mono}
use Rattle.floor_queue.proofs.Earlier.{earlier_irreflexive, earlier_trans, IsAmong, skip, skip_right, none_then, back}
use Rattle.floor_queue.proofs.Settling.{due_waits}

-- of the requests that pass w, m is one that no other comes before
pub record IsFirst (floors : List Floor) (w : Request → Bool) (rs : List Request) (m : Request) : Type 0 where
  pub passes : w m ≡ true
  pub none_before : list_all (λ q. not (w q && earlier floors q m)) rs ≡ true
  pub among : IsAmong rs m

first : (floors : List Floor) (w : Request → Bool) (rs : List Request) → (list_all (λ q. not (w q)) rs ≡ true) ⊎ ((m : Request) × IsFirst floors w rs m)
first floors w [] = inl refl
first floors w (x ∷ xs) = step (w x) refl (first floors w xs)
  where
    choose : (m : Request) → IsFirst floors w xs m → w x ≡ true → (b : Bool) → b ≡ earlier floors x m → (k : Request) × IsFirst floors w (x ∷ xs) k
    choose m l h true e = (
      x,
      record {
        passes = h;
        none_before = and_both _ _ (skip_right (w x) _ (earlier_irreflexive floors x))
            (list_all_mono (λ q. not (w q && earlier floors q m)) (λ q. not (w q && earlier floors q x)) (λ q k. back (w q) _ _ (λ before. earlier_trans floors q x m before (sym e)) k) xs l.none_before);
        among = λ p a. and_left _ _ a;
      },
    )
    choose m l h false e = (m, record { passes = l.passes; none_before = and_both _ _ (skip_right (w x) _ (sym e)) l.none_before; among = λ p a. l.among p (and_right _ _ a) })

    step : (b : Bool) → b ≡ w x → (list_all (λ q. not (w q)) xs ≡ true) ⊎ ((m : Request) × IsFirst floors w xs m) → (list_all (λ q. not (w q)) (x ∷ xs) ≡ true) ⊎ ((m : Request) × IsFirst floors w (x ∷ xs) m)
    step false e (inl none) = inl (and_both _ _ (ap not (sym e)) none)
    step false e (inr l) = inr (l.0, record { passes = l.1.passes; none_before = and_both _ _ (skip (w x) _ (sym e)) l.1.none_before; among = λ p a. l.1.among p (and_right _ _ a) })
    step true e (inl none) =
        inr (
          x,
          record {
            passes = sym e;
            none_before = and_both _ _ (skip_right (w x) _ (earlier_irreflexive floors x))
                (list_all_mono (λ q. not (w q)) (λ q. not (w q && earlier floors q x)) (λ q k. none_then (w q) _ k) xs none);
            among = λ p a. and_left _ _ a;
          },
        )
    step true e (inr l) = inr (choose l.0 l.1 (sym e) (earlier floors x l.0) refl)

-- in a settled list nothing is due
pub not_due : (floors : List Floor) (all ys : List Request) → map (λ r. granted_if (is_due floors all r) r) ys ≡ ys → list_all (λ q. not (is_due floors all q)) ys ≡ true
not_due floors all [] h = refl
not_due floors all (y ∷ ys) h =
    and_both _ _ (here (is_due floors all y) (due_waits floors all y) (heads h)) (not_due floors all ys (tails h))
  where
    heads : {a b : Request} {as' bs : List Request} → (a ∷ as') ≡ (b ∷ bs) → a ≡ b
    heads e = cc

    tails : {a b : Request} {as' bs : List Request} → (a ∷ as') ≡ (b ∷ bs) → as' ≡ bs
    tails e = cc

    clash : (g : Bool) → true ≡ g → not g ≡ true → not true ≡ true
    clash true e n = n
    clash false e n = cc

    here : (b : Bool) → (b ≡ true → waits y ≡ true) → granted_if b y ≡ y → not b ≡ true
    here false w e = refl
    here true w e = clash y.is_granted (ap (λ (r : Request). r.is_granted) e) (and_left _ _ (w refl))

-- where nothing is due, settling changes nothing
pub settled_from : (floors : List Floor) (all ys : List Request) → list_all (λ q. not (is_due floors all q)) ys ≡ true → map (λ r. granted_if (is_due floors all r) r) ys ≡ ys
settled_from floors all [] h = refl
settled_from floors all (y ∷ ys) h = both (here (is_due floors all y) (and_left _ _ h)) (settled_from floors all ys (and_right _ _ h))
  where
    both : {a b : Request} {as' bs : List Request} → a ≡ b → as' ≡ bs → (a ∷ as') ≡ (b ∷ bs)
    both e f = cc

    here : (b : Bool) → not b ≡ true → granted_if b y ≡ y
    here true n = cc
    here false n = refl

pub count_pos : (p : Request → Bool) (rs : List Request) (r : Request) → IsAmong rs r → p r ≡ true → 1 ≤ count_by p rs
count_pos p rs r a h = by (counted p rs)
  where
    clash : (b : Bool) → b ≡ true → not b ≡ true → 1 ≤ count_by p rs
    clash true h n = let k : false ≡ true = n in cc
    clash false h n = cc

    by : (list_all (λ q. not (p q)) rs ≡ true) ⊎ (1 ≤ count_by p rs) → 1 ≤ count_by p rs
    by (inl n) = clash (p r) h (a (λ q. not (p q)) n)
    by (inr k) = k

-- where each floor has room and nobody is ahead, and m doesn't fit, someone holds a floor
holder : (floors : List Floor) (rs : List Request) (m : Request) → ((id : ℕ) → ahead floors rs m id ≡ 0) → (fs : List RequestedFloor) →
    list_all (λ f. nat_lt (holders rs f.floor + ahead floors rs m f.floor) (room_of floors f.floor)) fs ≡ false → list_all (λ f. nat_lt 0 (room_of floors f.floor)) fs ≡ true →
    (id : ℕ) × (1 ≤ holders rs id)
holder floors rs m first' [] h k = cc
holder floors rs m first' (f ∷ fs) h k =
    step (nat_lt (holders rs f.floor + ahead floors rs m f.floor) (room_of floors f.floor)) refl h (λ later. holder floors rs m first' fs later (and_right _ _ k))
  where
    held : (a b r : ℕ) → b ≡ 0 → nat_lt (a + b) r ≡ false → nat_lt 0 r ≡ true → 1 ≤ a
    held a b r z h k = grind (arith, nat_tests)

    step : (b : Bool) → b ≡ nat_lt (holders rs f.floor + ahead floors rs m f.floor) (room_of floors f.floor) → (b && list_all (λ g. nat_lt (holders rs g.floor + ahead floors rs m g.floor) (room_of floors g.floor)) fs) ≡ false →
        (list_all (λ g. nat_lt (holders rs g.floor + ahead floors rs m g.floor) (room_of floors g.floor)) fs ≡ false → (id : ℕ) × (1 ≤ holders rs id)) → (id : ℕ) × (1 ≤ holders rs id)
    step true e h later = later h
    step false e h later = (f.floor, held (holders rs f.floor) (ahead floors rs m f.floor) (room_of floors f.floor) (first' f.floor) (sym e) (and_left _ _ k))

-- each floor that the request names has room for someone
abbrev pub have_rooms : List Floor → Request → Bool
have_rooms floors r = list_all (λ f. nat_lt 0 (room_of floors f.floor)) r.floors

-- whoever waits first isn't due, so someone holds; the holder, r and those ahead of r are different requests
place_fits : (floors : List Floor) (rs : List Request) (r : Request) (id : ℕ) → settle floors rs ≡ rs → length rs ≤ 256 → list_all (have_rooms floors) rs ≡ true → IsAmong rs r → waits r ≡ true →
    ahead floors rs r id + 1 ≤ 255
place_fits floors rs r id calm few roomy among w = by (first floors waits rs)
  where
    not_both : (b : Bool) → b ≡ true → not b ≡ true → ahead floors rs r id + 1 ≤ 255
    not_both true h n = let k : false ≡ true = n in cc
    not_both false h n = cc

    tail_false : (a b : Bool) → a ≡ true → not (a && b) ≡ true → b ≡ false
    tail_false true true h n = cc
    tail_false true false h n = refl
    tail_false false b h n = cc

    disjoint : (g l e : Bool) → one ((not g && l) && e) + one ((not g && l) && not e) + one g ≤ 1
    disjoint true l e = omega arith
    disjoint false true true = omega arith
    disjoint false true false = omega arith
    disjoint false false e = omega arith

    drop_names : (a n e : Bool) → ((a && n) && e) ≡ true → (a && e) ≡ true
    drop_names a n e h = and_both a e (and_left a n (and_left (a && n) e h)) (and_right (a && n) e h)

    drop_names' : (a n e : Bool) → not (a && e) ≡ true → not ((a && n) && e) ≡ true
    drop_names' true true e h = h
    drop_names' true false e h = refl
    drop_names' false n e h = refl

    fits : (m : Request) → IsFirst floors waits rs m → ahead floors rs r id + 1 ≤ 255
    fits m l =
        let h : (f : ℕ) × (1 ≤ holders rs f) = holder floors rs m
        (λ f. count_none (λ q. waits q && names q f && earlier floors q m) rs
        (list_all_mono (λ (q : Request). not (waits q && earlier floors q m)) (λ (q : Request). not (waits q && names q f && earlier floors q m)) (λ q k. drop_names' (waits q) (names q f) _ k) rs l.none_before))
        m.floors (tail_false (waits m) (list_all (λ (f : RequestedFloor). nat_lt (holders rs f.floor + ahead floors rs m f.floor) (room_of floors f.floor)) m.floors) l.passes (l.among (λ q. not (is_due floors rs q)) (not_due floors rs rs calm))) (l.among (have_rooms floors) roomy) in
        let held : 1 ≤ holders rs h.0 = h.1 in
        omega (
          arith,
          three_le (λ q. waits q && earlier floors q r) (λ q. waits q && not (earlier floors q r)) (λ q. q.is_granted)
              (λ q. disjoint q.is_granted (list_all (λ f. is_accepted f.status) q.floors) (earlier floors q r)) rs,
          count_pos (λ q. waits q && not (earlier floors q r)) rs r among (and_both _ _ w (ap not (earlier_irreflexive floors r))),
          held,
          count_le (λ q. q.is_granted && names q h.0) (λ q. q.is_granted) (λ q k. and_left _ _ k) rs,
          count_le (λ q. waits q && names q id && earlier floors q r) (λ q. waits q && earlier floors q r) (λ q k. drop_names (waits q) (names q id) _ k) rs,
        )

    by : (list_all (λ q. not (waits q)) rs ≡ true) ⊎ ((m : Request) × IsFirst floors waits rs m) → ahead floors rs r id + 1 ≤ 255
    by (inl none) = not_both (waits r) w (among (λ q. not (waits q)) none)
    by (inr l) = fits l.0 l.1

-- a floor of the conference has room for someone
room_of_floor : (floors : List Floor) (id : ℕ) → All (λ f. 1 ≤ f.room) floors → is_floor floors id ≡ true → 1 ≤ room_of floors id
room_of_floor [] id h k = cc
room_of_floor (f ∷ floors) id h k = by (f.id == id) (room_of_floor floors id (All-tail (λ (f : Floor). 1 ≤ f.room) f floors h)) k
  where
    by : (b : Bool) → (is_floor floors id ≡ true → 1 ≤ room_of floors id) → (b || is_floor floors id) ≡ true →
        1 ≤ (option_map_or (λ (f : Floor). f.room) (cond b (Some f) (find (λ (f : Floor). f.id == id) floors)) 0)
    by true rest k = All-head (λ (f : Floor). 1 ≤ f.room) f floors h
    by false rest k = rest k

floors_have_rooms : (floors : List Floor) (fs : List RequestedFloor) → All (λ f. 1 ≤ f.room) floors → All (λ id. IsTrue (is_floor floors id)) (map (λ f. f.floor) fs) →
    list_all (λ f. nat_lt 0 (room_of floors f.floor)) fs ≡ true
floors_have_rooms floors [] h k = refl
floors_have_rooms floors (f ∷ fs) h k =
    and_both _ _ (lt-ltb 0 (room_of floors f.floor) (room_of_floor floors f.floor h (All-head (λ id. IsTrue (is_floor floors id)) f.floor (map (λ (f : RequestedFloor). f.floor) fs) k)))
    (floors_have_rooms floors fs h (All-tail (λ id. IsTrue (is_floor floors id)) f.floor (map (λ (f : RequestedFloor). f.floor) fs) k))

pub queue_has_rooms : (q : Queue) → IsQueue q → list_all (have_rooms q.floors) q.ongoing ≡ true
queue_has_rooms q h =
    list_all-from_AllPass (have_rooms q.floors) q.ongoing
    (All-weaker (λ (r : Request). IsAddable q.floors (new_of r)) (λ (r : Request). have_rooms q.floors r ≡ true)
    (λ r a. floors_have_rooms q.floors r.floors h.rooms a.floors_known) q.ongoing h.addable)

pub position_fits : (q : Queue) → IsQueue q → IsSettled q → (r : Request) → IsAmong q.ongoing r → (floor : ℕ) → position q.floors q.ongoing r floor ≤ 255
position_fits q h calm r among floor = by (waits r) (λ w. place_fits q.floors q.ongoing r floor calm h.few (queue_has_rooms q h) among w)
  where
    by : (b : Bool) → (b ≡ true → ahead q.floors q.ongoing r floor + 1 ≤ 255) → (if b then 1 + ahead q.floors q.ongoing r floor else 0) ≤ 255
    by true k = omega (arith, k refl)
    by false k = omega arith

pub among_at : (rs : List Request) (k : ℕ) (d : Request) → k < length rs → IsAmong rs (slice_index_or rs k d)
among_at rs k d within p h = AllPass-from_list_all p rs h k d within

pub among_found : (rs : List Request) (k : ℕ) (r : Request) → request_at rs k ≡ Some r → IsAmong rs r
among_found [] k r e p h = cc
among_found (x ∷ xs) k r e p h = by (x.number == k) (λ rest. among_found xs k r rest p (and_right _ _ h)) e
  where
    by : (b : Bool) → (request_at xs k ≡ Some r → p r ≡ true) → cond b (Some x) (request_at xs k) ≡ Some r → p r ≡ true
    by true rest e = let same : x ≡ r = cc in subst (λ (q : Request). p q ≡ true) same (and_left _ _ h)
    by false rest e = rest e

pub none_any : {X : Type 0} (p : X → Bool) (xs : List X) → not (list_any p xs) ≡ list_all (λ x. not (p x)) xs
none_any p [] = refl
none_any p (x ∷ xs) = by (p x) (none_any p xs)
  where
    by : (b : Bool) → not (list_any p xs) ≡ list_all (λ x. not (p x)) xs → not (b || list_any p xs) ≡ (not b && list_all (λ x. not (p x)) xs)
    by true e = refl
    by false e = e

-- nothing is due exactly where settling changes nothing
pub settled_exactly : (floors : List Floor) (rs : List Request) → (not (list_any (is_due floors rs) rs) ≡ true) ↔ (settle floors rs ≡ rs)
settled_exactly floors rs = (
  λ h. settled_from floors rs rs (sym (none_any (is_due floors rs) rs) ∙ h),
  λ calm. none_any (is_due floors rs) rs ∙ not_due floors rs rs calm,
)
