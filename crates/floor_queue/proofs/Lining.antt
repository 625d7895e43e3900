-- The lines of the floors after each change, and who is due by them.
use Rattle.std.proofs.Common.{◌≡◌, ℕ, ◌+◌, Bool, true, false, cond, eqb, List, [], ◌∷◌, ◌++◌, refl, sym, ◌∙◌, ap, subst, arith, map}
use Rattle.std.specs.Prelude.{not, ◌&&◌, ◌==◌, if◌then◌else◌, nat_lt, count_by, find, All, IsSome, Option, Some, None}
use Rattle.std.specs.List.{list_all}
use Rattle.std.specs.Option.{option_map_or}
use Rattle.std.proofs.lemmas.Bool.{eqb-true}
use Rattle.std.proofs.lemmas.Bool.Decides.{nat_tests}
use Rattle.std.proofs.lemmas.List.Elements.{All-map, All-weaker, All-head, All-tail}
use Rattle.std.proofs.lemmas.List.Sums.{sum_by_push}
use Rattle.floor_config.specs.declared.floors.Floor.{Floor}
use Rattle.floor_queue.specs.declared.index.rank.Rank.{Rank}
use Rattle.floor_queue.specs.declared.request.Request.{Request}
use Rattle.floor_queue.specs.declared.requested_floor.RequestedFloor.{RequestedFloor}
use Rattle.floor_queue.specs.Requested.{is_accepted}
use Rattle.floor_queue.specs.Order.{names, waits, earlier, holders, ahead, is_due, room_of}
use Rattle.floor_queue.specs.Queue.{Queue, IsQueue, is_ascending, request_at, without}
use Rattle.floor_queue.specs.steps.Lines.{FloorLine, IsLine, AreLines, added, taken, marked, moved, emptied, empty_line, unmarked, with_mark, rank_of, before, is_in_order, moved_rank, with_rank, without_rank, place_in, has_place, is_due_in}
use Rattle.floor_queue.proofs.Counts.{one, count-cons, and_left, and_right, and_both, list_all_at_named, list_all_mono, count_none}
use Rattle.floor_queue.proofs.Earlier.{IsAmong}
use Rattle.floor_queue.proofs.Kept.{map-map_key}
use Rattle.floor_queue.proofs.Places.{count_pos, among_found, have_rooms, queue_has_rooms}
use Rattle.floor_queue.proofs.Placing.{filter_all}
use Rattle.floor_queue.proofs.Ranking.{IsIn, in_order-with_rank, in_order-without_rank, count-with_rank, count-without_rank, count-place, moved-within, without-with}

-- r, changed by g where it has the number k
abbrev pub changed_at : ℕ → (Request → Request) → Request → Request
changed_at k g r = if r.number == k then g r else r

differs : (n m k : ℕ) → true ≡ eqb n k → nat_lt n m ≡ true → eqb m k ≡ false
differs n m k e l = grind (arith, nat_tests)

pub unchanged : (k : ℕ) (g : Request → Request) (n : ℕ) (rs : List Request) → true ≡ (n == k) → list_all (λ q. nat_lt n q.number) rs ≡ true → map (changed_at k g) rs ≡ rs
unchanged k g n [] e h = refl
unchanged k g n (x ∷ xs) e h = by (x.number == k) (differs n x.number k e (and_left _ _ h)) (unchanged k g n xs e (and_right _ _ h))
  where
    by : (b : Bool) → b ≡ false → map (changed_at k g) xs ≡ xs → (if b then g x else x) ∷ map (changed_at k g) xs ≡ x ∷ xs
    by true f rest = cc
    by false f rest = ap (λ (ys : List Request). x ∷ ys) rest

-- how a count goes where one request changes
pub count_changed : (q : Request → Bool) (g : Request → Request) (k : ℕ) (rs : List Request) (r : Request) → is_ascending rs ≡ true → request_at rs k ≡ Some r →
    one (q r) + count_by q (map (changed_at k g) rs) ≡ one (q (g r)) + count_by q rs
count_changed q g k [] r h e = cc
count_changed q g k (x ∷ xs) r h e =
    by (x.number == k) (count_changed q g k xs r (and_right _ _ h)) (λ n. unchanged k g x.number xs n (and_left _ _ h)) refl e
  where
    by : (b : Bool) → (request_at xs k ≡ Some r → one (q r) + count_by q (map (changed_at k g) xs) ≡ one (q (g r)) + count_by q xs) → (true ≡ (x.number == k) → map (changed_at k g) xs ≡ xs) →
        b ≡ (x.number == k) → cond b (Some x) (request_at xs k) ≡ Some r →
        one (q r) + count_by q ((if b then g x else x) ∷ map (changed_at k g) xs) ≡ one (q (g r)) + count_by q (x ∷ xs)
    by true rest same n e =
        let found : x ≡ r = cc in
        omega (arith, count-cons q (g x) (map (changed_at k g) xs), count-cons q x xs, ap (λ (ys : List Request). count_by q ys) (same n), ap (λ (t : Request). one (q t)) found, ap (λ (t : Request). one (q (g t))) found)
    by false rest same n e = omega (arith, rest e, count-cons q x (map (changed_at k g) xs), count-cons q x xs)

-- how a count goes where one request ends
pub count_ended : (q : Request → Bool) (k : ℕ) (rs : List Request) (r : Request) → is_ascending rs ≡ true → request_at rs k ≡ Some r → one (q r) + count_by q (without k rs) ≡ count_by q rs
count_ended q k [] r h e = cc
count_ended q k (x ∷ xs) r h e =
    by (x.number == k) (count_ended q k xs r (and_right _ _ h)) (λ n. filter_all (λ (t : Request). not (t.number == k)) xs
    (list_all_mono (λ (t : Request). nat_lt x.number t.number) (λ (t : Request). not (t.number == k)) (λ t l. ap not (differs x.number t.number k n l)) xs (and_left _ _ h))) refl e
  where
    by : (b : Bool) → (request_at xs k ≡ Some r → one (q r) + count_by q (without k xs) ≡ count_by q xs) → (true ≡ (x.number == k) → without k xs ≡ xs) →
        b ≡ (x.number == k) → cond b (Some x) (request_at xs k) ≡ Some r →
        one (q r) + count_by q (cond (not b) (x ∷ without k xs) (without k xs)) ≡ count_by q (x ∷ xs)
    by true rest same n e =
        let found : x ≡ r = cc in
        omega (arith, count-cons q x xs, ap (λ (ys : List Request). count_by q ys) (same n), ap (λ (t : Request). one (q t)) found)
    by false rest same n e = omega (arith, rest e, count-cons q x (without k xs), count-cons q x xs)

-- a request stands in the lines of its floors
pub in_line : (floors : List Floor) (rs : List Request) (l : FloorLine) (r : Request) → IsLine floors rs l → IsAmong rs r → names r l.floor ≡ true → IsIn l.ranks (rank_of floors r)
in_line floors rs l r h among named p all = by (p (rank_of floors r)) refl
  where
    twice : (b : Bool) → b ≡ true → not (not b) ≡ true
    twice true e = refl
    twice false e = e

    none : count_by (λ k. not (p k)) l.ranks ≡ 0
    none = count_none (λ k. not (p k)) l.ranks (list_all_mono p (λ k. not (not (p k))) (λ k e. twice (p k) e) l.ranks all)

    by : (b : Bool) → p (rank_of floors r) ≡ b → b ≡ true
    by true e = refl
    by false e =
        absurd (omega (arith, none, h.counts (λ k. not (p k)), count_pos (λ (q : Request). names q l.floor && not (p (rank_of floors q))) rs r among (and_both _ _ named (ap not e))))

pub IsLine-added : (floors : List Floor) (rs : List Request) (r : Request) (l : FloorLine) → IsLine floors rs l → IsLine floors (rs ++ r ∷ []) (added r (rank_of floors r) l)
IsLine-added floors rs r l h = by (names r l.floor) refl
  where
    x : Rank
    x = rank_of floors r

    by : (b : Bool) → names r l.floor ≡ b → IsLine floors (rs ++ r ∷ []) (if b then record l { ranks = with_rank x l.ranks } else l)
    by true e =
        record {
          in_order = in_order-with_rank x l.ranks h.in_order;
          counts = λ p. omega (arith, count-with_rank p x l.ranks, h.counts p, sum_by_push (λ (q : Request). one (names q l.floor && p (rank_of floors q))) rs r, ap (λ b. one (b && p x)) e);
        }
    by false e =
        record {
          in_order = h.in_order;
          counts = λ p. omega (arith, h.counts p, sum_by_push (λ (q : Request). one (names q l.floor && p (rank_of floors q))) rs r, ap (λ b. one (b && p x)) e);
        }

pub IsLine-changed : (floors : List Floor) (rs : List Request) (k : ℕ) (g : Request → Request) (r : Request) (l : FloorLine) → is_ascending rs ≡ true → request_at rs k ≡ Some r →
    ((id : ℕ) → names (g r) id ≡ names r id) → IsLine floors rs l → IsLine floors (map (changed_at k g) rs) (moved (g r) (rank_of floors r) (rank_of floors (g r)) l)
IsLine-changed floors rs k g r l up at same h = by (names (g r) l.floor) refl
  where
    x : Rank
    x = rank_of floors r

    y : Rank
    y = rank_of floors (g r)

    within : names (g r) l.floor ≡ true → IsIn l.ranks x
    within e = in_line floors rs l r h (among_found rs k r at) (sym (same l.floor) ∙ e)

    by : (b : Bool) → names (g r) l.floor ≡ b → IsLine floors (map (changed_at k g) rs) (if b then record l { ranks = moved_rank x y l.ranks } else l)
    by true e =
        record {
          in_order = ap is_in_order (moved-within x y l.ranks h.in_order (within e))
              ∙ in_order-with_rank y (without_rank x l.ranks) (in_order-without_rank x l.ranks h.in_order);
          counts = λ p. omega (
            arith,
            ap (λ (ks : List Rank). count_by p ks) (moved-within x y l.ranks h.in_order (within e)),
            count-with_rank p y (without_rank x l.ranks),
            count-without_rank x l.ranks h.in_order (within e) p,
            h.counts p,
            count_changed (λ (q : Request). names q l.floor && p (rank_of floors q)) g k rs r up at,
            ap (λ b. one (b && p y)) e,
            ap (λ b. one (b && p x)) (sym (same l.floor) ∙ e),
          );
        }
    by false e =
        record {
          in_order = h.in_order;
          counts = λ p. omega (
            arith,
            h.counts p,
            count_changed (λ (q : Request). names q l.floor && p (rank_of floors q)) g k rs r up at,
            ap (λ b. one (b && p y)) e,
            ap (λ b. one (b && p x)) (sym (same l.floor) ∙ e),
          );
        }

pub IsLine-ended : (floors : List Floor) (rs : List Request) (k : ℕ) (r : Request) (l : FloorLine) → is_ascending rs ≡ true → request_at rs k ≡ Some r → IsLine floors rs l →
    IsLine floors (without k rs) (taken r (rank_of floors r) l)
IsLine-ended floors rs k r l up at h = by (names r l.floor) refl
  where
    x : Rank
    x = rank_of floors r

    by : (b : Bool) → names r l.floor ≡ b → IsLine floors (without k rs) (if b then record l { ranks = without_rank x l.ranks } else l)
    by true e =
        record {
          in_order = in_order-without_rank x l.ranks h.in_order;
          counts = λ p. omega (
            arith,
            count-without_rank x l.ranks h.in_order (in_line floors rs l r h (among_found rs k r at) e) p,
            h.counts p,
            count_ended (λ (q : Request). names q l.floor && p (rank_of floors q)) k rs r up at,
            ap (λ b. one (b && p x)) e,
          );
        }
    by false e =
        record {
          in_order = h.in_order;
          counts = λ p. omega (arith, h.counts p, count_ended (λ (q : Request). names q l.floor && p (rank_of floors q)) k rs r up at, ap (λ b. one (b && p x)) e);
        }

-- the lines together --------------------------------------------------------------------------

AreLines-map : (floors : List Floor) (rs rs' : List Request) (lines : List FloorLine) (f : FloorLine → FloorLine) → ((l : FloorLine) → (f l).floor ≡ l.floor) →
    ((l : FloorLine) → IsLine floors rs l → IsLine floors rs' (f l)) → AreLines floors rs lines → AreLines floors rs' (map f lines)
AreLines-map floors rs rs' lines f same each h =
    record {
      floors_same = map-map_key (λ (l : FloorLine). l.floor) f same lines ∙ h.floors_same;
      each = All-map (IsLine floors rs') f lines (All-weaker (IsLine floors rs) (λ l. IsLine floors rs' (f l)) each lines h.each);
    }

pub line_floor : (b : Bool) (l : FloorLine) (ks : List Rank) → (if b then record l { ranks = ks } else l).floor ≡ l.floor
line_floor true l ks = refl
line_floor false l ks = refl

pub AreLines-added : (floors : List Floor) (rs : List Request) (r : Request) (lines : List FloorLine) → AreLines floors rs lines → AreLines floors (rs ++ r ∷ []) (map (added r (rank_of floors r)) lines)
AreLines-added floors rs r lines h =
    AreLines-map floors rs (rs ++ r ∷ []) lines (added r (rank_of floors r)) (λ l. line_floor (names r l.floor) l (with_rank (rank_of floors r) l.ranks)) (IsLine-added floors rs r) h

pub AreLines-changed : (floors : List Floor) (rs : List Request) (k : ℕ) (g : Request → Request) (r : Request) (lines : List FloorLine) → is_ascending rs ≡ true → request_at rs k ≡ Some r →
    ((id : ℕ) → names (g r) id ≡ names r id) → AreLines floors rs lines → AreLines floors (map (changed_at k g) rs) (map (moved (g r) (rank_of floors r) (rank_of floors (g r))) lines)
AreLines-changed floors rs k g r lines up at same h =
    AreLines-map floors rs (map (changed_at k g) rs) lines (moved (g r) (rank_of floors r) (rank_of floors (g r)))
    (λ l. line_floor (names (g r) l.floor) l (moved_rank (rank_of floors r) (rank_of floors (g r)) l.ranks))
    (λ l i. IsLine-changed floors rs k g r l up at same i) h

pub AreLines-ended : (floors : List Floor) (rs : List Request) (k : ℕ) (r : Request) (lines : List FloorLine) → is_ascending rs ≡ true → request_at rs k ≡ Some r →
    AreLines floors rs lines → AreLines floors (without k rs) (map (taken r (rank_of floors r)) lines)
AreLines-ended floors rs k r lines up at h =
    AreLines-map floors rs (without k rs) lines (taken r (rank_of floors r)) (λ l. line_floor (names r l.floor) l (without_rank (rank_of floors r) l.ranks))
    (λ l i. IsLine-ended floors rs k r l up at i) h

pub AreLines-cleared : (floors : List Floor) (rs : List Request) (lines : List FloorLine) → AreLines floors rs lines → AreLines floors [] (map emptied lines)
AreLines-cleared floors rs lines h =
    AreLines-map floors rs [] lines emptied (λ l. refl) (λ l i. record { in_order = refl; counts = λ p. refl }) h

pub AreLines-new : (floors : List Floor) → AreLines floors [] (map empty_line floors)
AreLines-new floors =
    record {
      floors_same = floors_of floors;
      each = All-map (IsLine floors []) empty_line floors (λ k d within. record { in_order = refl; counts = λ p. refl });
    }
  where
    floors_of : (fs : List Floor) → map (λ (l : FloorLine). l.floor) (map empty_line fs) ≡ map (λ (f : Floor). f.id) fs
    floors_of [] = refl
    floors_of (f ∷ fs) = ap (λ (ids : List ℕ). f.id ∷ ids) (floors_of fs)

pub AreLines-marked : (floors : List Floor) (rs : List Request) (r : Request) (lines : List FloorLine) → AreLines floors rs lines → AreLines floors rs (map (marked r) lines)
AreLines-marked floors rs r lines h = AreLines-map floors rs rs lines (marked r) (λ l. floor_of (names r l.floor) l) (λ l i. by (names r l.floor) l i) h
  where
    floor_of : (b : Bool) (l : FloorLine) → (if b then record l { is_marked = true } else l).floor ≡ l.floor
    floor_of true l = refl
    floor_of false l = refl

    by : (b : Bool) (l : FloorLine) → IsLine floors rs l → IsLine floors rs (if b then record l { is_marked = true } else l)
    by true l i = record { in_order = i.in_order; counts = i.counts }
    by false l i = i

pub AreLines-unmarked : (floors : List Floor) (rs : List Request) (lines : List FloorLine) → AreLines floors rs lines → AreLines floors rs (map unmarked lines)
AreLines-unmarked floors rs lines h = AreLines-map floors rs rs lines unmarked (λ l. refl) (λ l i. record { in_order = i.in_order; counts = i.counts }) h

pub AreLines-with_mark : (floors : List Floor) (rs : List Request) (lines : List FloorLine) → AreLines floors rs lines → AreLines floors rs (map with_mark lines)
AreLines-with_mark floors rs lines h = AreLines-map floors rs rs lines with_mark (λ l. refl) (λ l i. record { in_order = i.in_order; counts = i.counts }) h

-- what was added is taken out again
pub taken-added : (r : Request) (x : Rank) (l : FloorLine) → taken r x (added r x l) ≡ l
taken-added r x l = by (names r l.floor) refl
  where
    by : (b : Bool) → names r l.floor ≡ b → taken r x (if b then record l { ranks = with_rank x l.ranks } else l) ≡ l
    by true e = rw e (ap (λ (ks : List Rank). record l { ranks = ks }) (without-with x l.ranks))
    by false e = rw e refl

-- places in a line ----------------------------------------------------------------------------

count_same : (p q : Request → Bool) → ((r : Request) → p r ≡ q r) → (rs : List Request) → count_by p rs ≡ count_by q rs
count_same p q h [] = refl
count_same p q h (r ∷ rs) = omega (arith, ap one (h r), count_same p q h rs, count-cons p r rs, count-cons q r rs)

count_sum : (a b c : Request → Bool) → ((r : Request) → one (c r) ≡ one (a r) + one (b r)) → (rs : List Request) → count_by c rs ≡ count_by a rs + count_by b rs
count_sum a b c h [] = refl
count_sum a b c h (r ∷ rs) = omega (arith, h r, count_sum a b c h rs, count-cons a r rs, count-cons b r rs, count-cons c r rs)

-- those that hold the floor are those of its line that are marked so
pub holders-line : (floors : List Floor) (rs : List Request) (l : FloorLine) → IsLine floors rs l → count_by (λ k. k.is_granted) l.ranks ≡ holders rs l.floor
unfolding rank_of
holders-line floors rs l h =
    h.counts (λ k. k.is_granted)
    ∙ count_same (λ q. names q l.floor && q.is_granted) (λ q. q.is_granted && names q l.floor) (λ q. swapped (names q l.floor) q.is_granted) rs
  where
    swapped : (a b : Bool) → (a && b) ≡ (b && a)
    swapped true true = refl
    swapped true false = refl
    swapped false true = refl
    swapped false false = refl

-- the place of one that waits is how many hold the floor and are ahead
pub place-line : (floors : List Floor) (rs : List Request) (l : FloorLine) (r : Request) → IsLine floors rs l → waits r ≡ true →
    place_in (rank_of floors r) l.ranks ≡ holders rs l.floor + ahead floors rs r l.floor
unfolding rank_of before
place-line floors rs l r h w =
    sym (count-place (rank_of floors r) l.ranks h.in_order)
    ∙ h.counts (λ k. before k (rank_of floors r))
    ∙ count_sum (λ q. q.is_granted && names q l.floor) (λ q. waits q && names q l.floor && earlier floors q r) (λ q. names q l.floor && before (rank_of floors q) (rank_of floors r))
    (λ q. at q) rs
  where
    free : r.is_granted ≡ false
    free = no r.is_granted (and_left _ _ w)
      where
        no : (b : Bool) → not b ≡ true → b ≡ false
        no true h = cc
        no false h = refl

    parts : (g a n e : Bool) → one (n && (if g then true else (if (not g && a) then e else false))) ≡ one (g && n) + one ((not g && a) && n && e)
    parts true true true e = refl
    parts true true false e = refl
    parts true false true e = refl
    parts true false false e = refl
    parts false true true true = refl
    parts false true true false = refl
    parts false true false true = refl
    parts false true false false = refl
    parts false false true e = refl
    parts false false false e = refl

    at : (q : Request) → one (names q l.floor && before (rank_of floors q) (rank_of floors r)) ≡ one (q.is_granted && names q l.floor) + one (waits q && names q l.floor && earlier floors q r)
    at q = rw (w, free) (parts q.is_granted (list_all (λ f. is_accepted f.status) q.floors) (names q l.floor) (earlier floors q r))

-- the line that is found is one of them, and of that floor
pub found_line : (floor : ℕ) (P : FloorLine → Type 0) (lines : List FloorLine) (l : FloorLine) → All P lines → find (λ l. l.floor == floor) lines ≡ Some l → P l × (l.floor ≡ floor)
found_line floor P [] l h e = cc
found_line floor P (x ∷ xs) l h e = by (x.floor == floor) refl (found_line floor P xs l (All-tail P x xs h)) e
  where
    by : (b : Bool) → (x.floor == floor) ≡ b → (find (λ l. l.floor == floor) xs ≡ Some l → P l × (l.floor ≡ floor)) → cond b (Some x) (find (λ l. l.floor == floor) xs) ≡ Some l → P l × (l.floor ≡ floor)
    by true n rest e =
        let found : x ≡ l = cc in
        (subst P found (All-head P x xs h), ap (λ (l : FloorLine). l.floor) (sym found) ∙ eqb-true x.floor floor n)
    by false n rest e = rest e

-- a floor without a line has no room
pub no_line : (floor : ℕ) (floors : List Floor) (lines : List FloorLine) → map (λ (l : FloorLine). l.floor) lines ≡ map (λ (f : Floor). f.id) floors → find (λ l. l.floor == floor) lines ≡ None → room_of floors floor ≡ 0
no_line floor [] lines h e = refl
no_line floor (f ∷ floors) [] h e = cc
no_line floor (f ∷ floors) (l ∷ lines) h e = by (l.floor == floor) refl (no_line floor floors lines (tails h)) e
  where
    heads : {a b : ℕ} {as' bs : List ℕ} → (a ∷ as') ≡ (b ∷ bs) → a ≡ b
    heads e = cc

    tails : {a b : ℕ} {as' bs : List ℕ} → (a ∷ as') ≡ (b ∷ bs) → as' ≡ bs
    tails e = cc

    by : (b : Bool) → (l.floor == floor) ≡ b → (find (λ l. l.floor == floor) lines ≡ None → room_of floors floor ≡ 0) → cond b (Some l) (find (λ l. l.floor == floor) lines) ≡ None →
        room_of (f ∷ floors) floor ≡ 0
    by true n rest e = cc
    by false n rest e =
        let other : (f.id == floor) ≡ false = ap (λ id. id == floor) (sym (heads h)) ∙ n in
        let P : Bool → Type 0 = λ b. option_map_or (λ (f : Floor). f.room) (cond b (Some f) (find (λ (f : Floor). f.id == floor) floors)) 0 ≡ 0 in
        subst P (sym other) (rest e)

-- a floor that a request names has its line
pub has_line : (q : Queue) (lines : List FloorLine) (r : Request) (floor : ℕ) → IsQueue q → AreLines q.floors q.ongoing lines → IsAmong q.ongoing r → names r floor ≡ true →
    IsSome (find (λ l. l.floor == floor) lines)
has_line q lines r floor h l among named = by (find (λ l. l.floor == floor) lines) refl
  where
    by : (o : Option FloorLine) → find (λ l. l.floor == floor) lines ≡ o → IsSome o
    by None e =
        let k : false ≡ true = ap (nat_lt 0) (sym (no_line floor q.floors lines l.floors_same e)) ∙ list_all_at_named (λ (f : RequestedFloor). f.floor) (λ id. nat_lt 0 (room_of q.floors id)) floor r.floors (among (have_rooms q.floors) (queue_has_rooms q h)) named in cc
    by (Some l) e = refl

-- whoever waits has a place within the room exactly where those that hold and are ahead leave one
has_place-line : (floors : List Floor) (rs : List Request) (lines : List FloorLine) (r : Request) (floor : ℕ) → AreLines floors rs lines → waits r ≡ true →
    has_place floors lines (rank_of floors r) floor ≡ nat_lt (holders rs floor + ahead floors rs r floor) (room_of floors floor)
has_place-line floors rs lines r floor h w = by (find (λ l. l.floor == floor) lines) refl
  where
    none : (a b : ℕ) → b ≡ 0 → false ≡ nat_lt a b
    none a b e = grind (arith, nat_tests)

    by : (o : Option FloorLine) → find (λ l. l.floor == floor) lines ≡ o →
        option_map_or (λ (l : FloorLine). nat_lt (place_in (rank_of floors r) l.ranks) (room_of floors floor)) o false ≡ nat_lt (holders rs floor + ahead floors rs r floor) (room_of floors floor)
    by None e = none _ _ (no_line floor floors lines h.floors_same e)
    by (Some l) e =
        let found : IsLine floors rs l × (l.floor ≡ floor) = found_line floor (IsLine floors rs) lines l h.each e in
        ap (λ n. nat_lt n (room_of floors floor)) (place-line floors rs l r found.0 w ∙ ap (λ id. holders rs id + ahead floors rs r id) found.1)

pub list_all_same : (p q : RequestedFloor → Bool) → ((f : RequestedFloor) → p f ≡ q f) → (fs : List RequestedFloor) → list_all p fs ≡ list_all q fs
list_all_same p q h [] = refl
list_all_same p q h (f ∷ fs) = rw (h f, list_all_same p q h fs) refl

-- whoever is due by the lines is due
pub is_due-lines : (floors : List Floor) (rs : List Request) (lines : List FloorLine) → AreLines floors rs lines → (r : Request) → is_due_in floors lines r ≡ is_due floors rs r
is_due-lines floors rs lines h r = by (waits r) refl
  where
    by : (b : Bool) → waits r ≡ b →
        (b && list_all (λ f. has_place floors lines (rank_of floors r) f.floor) r.floors) ≡ (b && list_all (λ f. nat_lt (holders rs f.floor + ahead floors rs r f.floor) (room_of floors f.floor)) r.floors)
    by true w = list_all_same (λ f. has_place floors lines (rank_of floors r) f.floor) (λ f. nat_lt (holders rs f.floor + ahead floors rs r f.floor) (room_of floors f.floor)) (λ f. has_place-line floors rs lines r f.floor h w) r.floors
    by false w = refl
