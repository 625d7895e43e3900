-- A floor that gets another chair, or none: its requests stand where the chairs of now put them.
use Rattle.std.proofs.Common.{◌≡◌, ℕ, ◌≤◌, ◌<◌, ◌+◌, Bool, true, false, cond, List, [], ◌∷◌, ◌++◌, refl, sym, ◌∙◌, ap, subst, add-zero, zero-add, arith, length, get_or, take, drop, map}
use Rattle.std.specs.Prelude.{not, ◌&&◌, ◌||◌, ◌==◌, if◌then◌else◌, nat_lt, count_by, find, Option, Some, None, IfSome, IsTrue, All}
use Rattle.std.specs.List.{list_any, list_all}
use Rattle.std.specs.Option.{option_map_or}
use Rattle.std.proofs.lemmas.Bool.Decides.{nat_tests}
use Rattle.std.proofs.lemmas.List.{map_more, drop_more}
use Rattle.std.proofs.lemmas.List.Elements.{All-map, All-weaker}
use Rattle.std.proofs.lemmas.List.Sums.{sum_by_push}
use Rattle.floor_config.specs.declared.floors.Floor.{Floor}
use Rattle.floor_config.specs.Changed.{chaired}
use Rattle.floor_config.specs.Lookup.{is_floor}
use Rattle.floor_queue.specs.declared.index.rank.Rank.{Rank}
use Rattle.floor_queue.specs.declared.request.Request.{Request}
use Rattle.floor_queue.specs.declared.requested_floor.FloorStatus.TheVariants.{Accepted}
use Rattle.floor_queue.specs.declared.requested_floor.RequestedFloor.{RequestedFloor}
use Rattle.floor_queue.specs.Requested.{floor_without_chair}
use Rattle.floor_queue.specs.Order.{room_of, names, waits, holders, ahead, is_due}
use Rattle.floor_queue.specs.Queue.{Queue, IsQueue, IsAddable, IsReason, new_of, without_chair, loses_chair, involves}
use Rattle.floor_queue.specs.steps.Lines.{FloorLine, IsLine, AreLines, AreMarked, IsChangingLine, AreChangingLines, is_in_order, moved, moved_rank, rank_of, with_mark, without_lost, without_rank, has_mark, names_marked}
use Rattle.floor_queue.proofs.Counts.{one, count-cons, count_none, count_by-map, list_all_mono, and_left, and_right, and_both}
use Rattle.floor_queue.proofs.Kept.{KeepsRequest, IsQueue-map, list_any-map_same, map-map_key}
use Rattle.floor_queue.proofs.Lining.{line_floor, no_line}
use Rattle.floor_queue.proofs.Loops.{get_or-map_front}
use Rattle.floor_queue.proofs.Ranking.{IsIn, moved-within, in_order-with_rank, in_order-without_rank, count-with_rank, count-without_rank}

-- what a request keeps where a chair is taken away -----------------------------------------------

floor-without_chair : (floor : ℕ) (f : RequestedFloor) → (floor_without_chair floor f).floor ≡ f.floor
floor-without_chair floor f = by (f.floor == floor)
  where
    by : (b : Bool) → (if b then record { floor = f.floor; status = Accepted; word = None } else f).floor ≡ f.floor
    by true = refl
    by false = refl

-- nothing but the floors is another
apart : (lost : Option ℕ) (r : Request) → without_lost lost r ≡ record r { floors = (without_lost lost r).floors }
apart None r = refl
apart (Some floor) r = refl

pub number-without_lost : (lost : Option ℕ) (r : Request) → (without_lost lost r).number ≡ r.number
number-without_lost lost r = ap (λ (q : Request). q.number) (apart lost r)

pub involves-without_lost : (lost : Option ℕ) (r : Request) (user : ℕ) → involves (without_lost lost r) user ≡ involves r user
involves-without_lost lost r user = ap (λ (q : Request). involves q user) (apart lost r)

pub names-without_lost : (lost : Option ℕ) (r : Request) (id : ℕ) → names (without_lost lost r) id ≡ names r id
names-without_lost None r id = refl
names-without_lost (Some floor) r id = list_any-map_same (λ (f : RequestedFloor). f.floor) (λ n. n == id) (floor_without_chair floor) (floor-without_chair floor) r.floors

new_of-without_lost : (lost : Option ℕ) (r : Request) → new_of (without_lost lost r) ≡ new_of r
new_of-without_lost None r = refl
new_of-without_lost (Some floor) r = rw (map-map_key (λ (f : RequestedFloor). f.floor) (floor_without_chair floor) (floor-without_chair floor) r.floors) refl

keeps_without_lost : (lost : Option ℕ) → KeepsRequest (without_lost lost)
keeps_without_lost lost =
    record {
      number = number-without_lost lost;
      new = new_of-without_lost lost;
      reason = λ r h. subst (λ (q : Request). IfSome q.reason IsReason) (sym (apart lost r)) h;
    }

holders-without_lost : (lost : Option ℕ) (rs : List Request) (id : ℕ) → holders (map (without_lost lost) rs) id ≡ holders rs id
holders-without_lost lost rs id =
    count_by-map (λ (q : Request). q.is_granted && names q id) (λ (q : Request). q.is_granted && names q id) (without_lost lost)
    (λ q. rw (ap (λ (q : Request). q.is_granted) (apart lost q), names-without_lost lost q id) refl) rs

-- what the floors keep ---------------------------------------------------------------------------

id-chaired : (id : ℕ) (chair : Option ℕ) (f : Floor) → (chaired id chair f).id ≡ f.id
id-chaired id chair f = by (f.id == id)
  where
    by : (b : Bool) → (if b then record f { chair = chair } else f).id ≡ f.id
    by true = refl
    by false = refl

room-chaired : (id : ℕ) (chair : Option ℕ) (f : Floor) → (chaired id chair f).room ≡ f.room
room-chaired id chair f = by (f.id == id)
  where
    by : (b : Bool) → (if b then record f { chair = chair } else f).room ≡ f.room
    by true = refl
    by false = refl

pub ids-chaired : (id : ℕ) (chair : Option ℕ) (floors : List Floor) → map (λ (f : Floor). f.id) (map (chaired id chair) floors) ≡ map (λ (f : Floor). f.id) floors
ids-chaired id chair floors = map-map_key (λ (f : Floor). f.id) (chaired id chair) (id-chaired id chair) floors

is_floor-chaired : (id : ℕ) (chair : Option ℕ) (floors : List Floor) (floor : ℕ) → is_floor (map (chaired id chair) floors) floor ≡ is_floor floors floor
is_floor-chaired id chair floors floor = list_any-map_same (λ (f : Floor). f.id) (λ n. n == floor) (chaired id chair) (id-chaired id chair) floors

room_of-chaired : (id : ℕ) (chair : Option ℕ) (floors : List Floor) (floor : ℕ) → room_of (map (chaired id chair) floors) floor ≡ room_of floors floor
room_of-chaired id chair [] floor = refl
room_of-chaired id chair (f ∷ floors) floor =
    let P : ℕ → Type 0 = λ n. option_map_or (λ (f : Floor). f.room) (cond (n == floor) (Some (chaired id chair f)) (find (λ (f : Floor). f.id == floor) (map (chaired id chair) floors))) 0 ≡ room_of (f ∷ floors) floor in
    subst P (sym (id-chaired id chair f)) (by (f.id == floor) (room_of-chaired id chair floors floor))
  where
    by : (b : Bool) → room_of (map (chaired id chair) floors) floor ≡ room_of floors floor →
        option_map_or (λ (f : Floor). f.room) (cond b (Some (chaired id chair f)) (find (λ (f : Floor). f.id == floor) (map (chaired id chair) floors))) 0
        ≡ option_map_or (λ (f : Floor). f.room) (cond b (Some f) (find (λ (f : Floor). f.id == floor) floors)) 0
    by true rest = room-chaired id chair f
    by false rest = rest

-- the queue --------------------------------------------------------------------------------------

-- a queue of floors with the same ids and rooms
floors_changed : (q : Queue) (floors : List Floor) → All (λ f. 1 ≤ f.room) floors → ((id : ℕ) → is_floor floors id ≡ is_floor q.floors id) → ((id : ℕ) → room_of floors id ≡ room_of q.floors id) →
    IsQueue q → IsQueue (record q { floors = floors })
floors_changed q floors rooms known room h =
    record {
      rooms = rooms;
      ascending = h.ascending;
      numbers = h.numbers;
      few = h.few;
      addable = All-weaker (λ (r : Request). IsAddable q.floors (new_of r)) (λ (r : Request). IsAddable floors (new_of r))
          (λ r a. record {
            floors_least = a.floors_least;
            floors_most = a.floors_most;
            floors_differ = a.floors_differ;
            floors_known = All-weaker (λ id. IsTrue (is_floor q.floors id)) (λ id. IsTrue (is_floor floors id)) (λ id k. known id ∙ k) (new_of r).floors a.floors_known;
            priority = a.priority;
            info = a.info;
          }) q.ongoing h.addable;
      reasons = h.reasons;
      holders_fit = λ id. omega (arith, h.holders_fit id, room id);
    }

pub IsQueue-set_chair : (q : Queue) (floor : ℕ) (chair lost : Option ℕ) → IsQueue q → IsQueue (record q { floors = map (chaired floor chair) q.floors; ongoing = map (without_lost lost) q.ongoing })
IsQueue-set_chair q floor chair lost h =
    let floors : List Floor = map (chaired floor chair) q.floors in
    let rooms : All (λ f. 1 ≤ f.room) floors =
    All-map (λ (f : Floor). 1 ≤ f.room) (chaired floor chair) q.floors
    (All-weaker (λ (f : Floor). 1 ≤ f.room) (λ (f : Floor). 1 ≤ (chaired floor chair f).room) (λ f k. omega (arith, k, room-chaired floor chair f)) q.floors h.rooms) in
    let kept : IsQueue (record q { floors = floors }) = floors_changed q floors rooms (is_floor-chaired floor chair q.floors) (room_of-chaired floor chair q.floors) h in
    IsQueue-map (record q { floors = floors }) (without_lost lost) (keeps_without_lost lost) (λ id. omega (arith, holders-without_lost lost q.ongoing id, kept.holders_fit id)) kept

-- what the code makes is what the change says
pub ongoing_then : (floors : List Floor) (floor : ℕ) (chair : Option ℕ) (rs : List Request) →
    map (without_lost (if loses_chair floors floor chair then Some floor else None)) rs ≡ (if loses_chair floors floor chair then map (without_chair floor) rs else rs)
ongoing_then floors floor chair rs = by (loses_chair floors floor chair)
  where
    stays : (rs : List Request) → map (without_lost None) rs ≡ rs
    stays [] = refl
    stays (r ∷ rs) = ap (λ (qs : List Request). r ∷ qs) (stays rs)

    by : (b : Bool) → map (without_lost (if b then Some floor else None)) rs ≡ (if b then map (without_chair floor) rs else rs)
    by true = refl
    by false = stays rs

-- the lines --------------------------------------------------------------------------------------

-- the ranks of the request that changes next are by the floors of before
IsChangingLine-next : (before floors : List Floor) (first : List Request) (x : Request) (rest : List Request) (y : Request) → ((id : ℕ) → names y id ≡ names x id) → (l : FloorLine) →
    IsChangingLine before floors first (x ∷ rest) l → IsChangingLine before floors (first ++ y ∷ []) rest (moved y (rank_of before x) (rank_of floors y) l)
IsChangingLine-next before floors first x rest y same l h = by (names y l.floor) refl
  where
    old : Rank
    old = rank_of before x

    new : Rank
    new = rank_of floors y

    count_old : (p : Rank → Bool) → count_by (λ r. names r l.floor && p (rank_of before r)) (x ∷ rest) ≡ one (names x l.floor && p old) + count_by (λ r. names r l.floor && p (rank_of before r)) rest
    count_old p = count-cons (λ r. names r l.floor && p (rank_of before r)) x rest

    count_new : (p : Rank → Bool) → count_by (λ r. names r l.floor && p (rank_of floors r)) (first ++ y ∷ []) ≡ count_by (λ r. names r l.floor && p (rank_of floors r)) first + one (names y l.floor && p new)
    count_new p = sum_by_push (λ (r : Request). one (names r l.floor && p (rank_of floors r))) first y

    within : names y l.floor ≡ true → IsIn l.ranks old
    within named p all = by (p old) refl
      where
        twice : (b : Bool) → b ≡ true → not (not b) ≡ true
        twice true e = refl
        twice false e = e

        none : count_by (λ k. not (p k)) l.ranks ≡ 0
        none = count_none (λ k. not (p k)) l.ranks (list_all_mono p (λ k. not (not (p k))) (λ k e. twice (p k) e) l.ranks all)

        by : (b : Bool) → p old ≡ b → b ≡ true
        by true e = refl
        by false e =
            absurd (omega (arith, none, h.counts (λ k. not (p k)), count_old (λ k. not (p k)), ap one (and_both _ _ (sym (same l.floor) ∙ named) (ap not e))))

    by : (b : Bool) → names y l.floor ≡ b → IsChangingLine before floors (first ++ y ∷ []) rest (if b then record l { ranks = moved_rank old new l.ranks } else l)
    by true e =
        record {
          in_order = ap is_in_order (moved-within old new l.ranks h.in_order (within e))
              ∙ in_order-with_rank new (without_rank old l.ranks) (in_order-without_rank old l.ranks h.in_order);
          counts = λ p. omega (
            arith,
            ap (λ (ks : List Rank). count_by p ks) (moved-within old new l.ranks h.in_order (within e)),
            count-with_rank p new (without_rank old l.ranks),
            count-without_rank old l.ranks h.in_order (within e) p,
            h.counts p,
            count_old p,
            count_new p,
            ap (λ b. one (b && p new)) e,
            ap (λ b. one (b && p old)) (sym (same l.floor) ∙ e),
          );
        }
    by false e =
        record {
          in_order = h.in_order;
          counts = λ p. omega (arith, h.counts p, count_old p, count_new p, ap (λ b. one (b && p new)) e, ap (λ b. one (b && p old)) (sym (same l.floor) ∙ e));
        }

pub changing-next : (before floors : List Floor) (first : List Request) (x : Request) (rest : List Request) (y : Request) (lines : List FloorLine) → ((id : ℕ) → names y id ≡ names x id) →
    AreChangingLines before floors first (x ∷ rest) lines → AreChangingLines before floors (first ++ y ∷ []) rest (map (moved y (rank_of before x) (rank_of floors y)) lines)
changing-next before floors first x rest y lines same h =
    let f : FloorLine → FloorLine = moved y (rank_of before x) (rank_of floors y) in
    record {
      floors_same = map-map_key (λ (l : FloorLine). l.floor) f (λ l. line_floor (names y l.floor) l (moved_rank (rank_of before x) (rank_of floors y) l.ranks)) lines ∙ h.floors_same;
      each = All-map (IsChangingLine before floors (first ++ y ∷ []) rest) f lines
          (All-weaker (IsChangingLine before floors first (x ∷ rest)) (λ l. IsChangingLine before floors (first ++ y ∷ []) rest (f l)) (λ l i. IsChangingLine-next before floors first x rest y same l i) lines h.each);
    }

pub changing-first : (before floors : List Floor) (rs : List Request) (lines : List FloorLine) → AreLines before rs lines → AreChangingLines before floors [] rs lines
changing-first before floors rs lines h =
    record {
      floors_same = h.floors_same;
      each = All-weaker (IsLine before rs) (IsChangingLine before floors [] rs)
          (λ l i. record { in_order = i.in_order; counts = λ p. i.counts p ∙ sym (zero-add (count_by (λ r. names r l.floor && p (rank_of before r)) rs)) }) lines h.each;
    }

pub changing-last : (before floors : List Floor) (rs : List Request) (lines : List FloorLine) → map (λ (f : Floor). f.id) floors ≡ map (λ (f : Floor). f.id) before →
    AreChangingLines before floors rs [] lines → AreLines floors rs lines
changing-last before floors rs lines same h =
    record {
      floors_same = h.floors_same ∙ sym same;
      each = All-weaker (IsChangingLine before floors rs []) (IsLine floors rs)
          (λ l i. record { in_order = i.in_order; counts = λ p. i.counts p ∙ add-zero (count_by (λ r. names r l.floor && p (rank_of floors r)) rs) }) lines h.each;
    }

-- one more request was changed
pub changing_more : (before floors : List Floor) (g : Request → Request) (xs ys : List Request) (i : ℕ) (item new : Request) (lines lines' : List FloorLine) → ((r : Request) (id : ℕ) → names (g r) id ≡ names r id) →
    i < length xs → ys ≡ map g (take i xs) ++ drop i xs → item ≡ get_or ys i item → new ≡ g item → lines' ≡ map (moved new (rank_of before item) (rank_of floors new)) lines →
    AreChangingLines before floors (map g (take i xs)) (drop i xs) lines → AreChangingLines before floors (map g (take (i + 1) xs)) (drop (i + 1) xs) lines'
changing_more before floors g xs ys i item new lines lines' same within changed read is is_lines h =
    let at : item ≡ get_or xs i item = read ∙ ap (λ (zs : List Request). get_or zs i item) changed ∙ get_or-map_front g xs i item in
    let rest : drop i xs ≡ item ∷ drop (i + 1) xs = drop_more xs i item within ∙ ap (λ (r : Request). r ∷ drop (i + 1) xs) (sym at) in
    let first : map g (take (i + 1) xs) ≡ map g (take i xs) ++ new ∷ [] = map_more g xs i item within ∙ ap (λ (r : Request). map g (take i xs) ++ r ∷ []) (ap g (sym at) ∙ sym is) in
    let named : (id : ℕ) → names new id ≡ names item id = λ id. ap (λ (r : Request). names r id) is ∙ same item id in
    let next : AreChangingLines before floors (map g (take i xs) ++ new ∷ []) (drop (i + 1) xs) lines' =
    subst (AreChangingLines before floors (map g (take i xs) ++ new ∷ []) (drop (i + 1) xs)) (sym is_lines)
    (changing-next before floors (map g (take i xs)) item (drop (i + 1) xs) new lines named (subst (λ (rs : List Request). AreChangingLines before floors (map g (take i xs)) rs lines) rest h)) in
    subst (λ (rs : List Request). AreChangingLines before floors rs (drop (i + 1) xs) lines') (sym first) next

-- marks ------------------------------------------------------------------------------------------

-- a floor with a line is marked, where all are
has_mark-all : (lines : List FloorLine) (id : ℕ) (l : FloorLine) → find (λ l. l.floor == id) lines ≡ Some l → has_mark (map with_mark lines) id ≡ true
has_mark-all [] id l e = cc
has_mark-all (x ∷ xs) id l e = by (x.floor == id) (has_mark-all xs id l) e
  where
    by : (b : Bool) → (find (λ l. l.floor == id) xs ≡ Some l → has_mark (map with_mark xs) id ≡ true) → cond b (Some x) (find (λ l. l.floor == id) xs) ≡ Some l →
        ((b && true) || has_mark (map with_mark xs) id) ≡ true
    by true rest e = refl
    by false rest e = rest e

-- a floor with room is marked, where all are
has_mark-roomy : (floors : List Floor) (lines : List FloorLine) (id : ℕ) → map (λ (l : FloorLine). l.floor) lines ≡ map (λ (f : Floor). f.id) floors → nat_lt 0 (room_of floors id) ≡ true →
    has_mark (map with_mark lines) id ≡ true
has_mark-roomy floors lines id same roomy = by (find (λ l. l.floor == id) lines) refl
  where
    by : (o : Option FloorLine) → find (λ l. l.floor == id) lines ≡ o → has_mark (map with_mark lines) id ≡ true
    by None e = let k : false ≡ true = ap (nat_lt 0) (sym (no_line id floors lines same e)) ∙ roomy in cc
    by (Some l) e = has_mark-all lines id l e

-- where all floors are marked, nobody is due without a mark
pub AreMarked-all : (floors : List Floor) (rs : List Request) (lines : List FloorLine) → map (λ (l : FloorLine). l.floor) lines ≡ map (λ (f : Floor). f.id) floors →
    list_all (λ r. nat_lt 0 (length r.floors)) rs ≡ true → AreMarked floors rs (map with_mark lines)
AreMarked-all floors rs lines same some =
    count_none (λ r. is_due floors rs r && not (names_marked (map with_mark lines) r)) rs
    (list_all_mono (λ (r : Request). nat_lt 0 (length r.floors)) (λ (r : Request). not (is_due floors rs r && not (names_marked (map with_mark lines) r))) seen rs some)
  where
    roomy : (a b c : ℕ) → nat_lt (a + b) c ≡ true → nat_lt 0 c ≡ true
    roomy a b c e = grind (arith, nat_tests)

    first : (r : Request) (fs : List RequestedFloor) → nat_lt 0 (length fs) ≡ true → list_all (λ f. nat_lt (holders rs f.floor + ahead floors rs r f.floor) (room_of floors f.floor)) fs ≡ true →
        list_any (λ f. has_mark (map with_mark lines) f.floor) fs ≡ true
    first r [] some all = cc
    first r (f ∷ fs) some all =
        ap (λ b. b || list_any (λ f. has_mark (map with_mark lines) f.floor) fs)
        (has_mark-roomy floors lines f.floor same (roomy (holders rs f.floor) (ahead floors rs r f.floor) (room_of floors f.floor) (and_left _ _ all)))

    seen : (r : Request) → nat_lt 0 (length r.floors) ≡ true → not (is_due floors rs r && not (names_marked (map with_mark lines) r)) ≡ true
    seen r few = by (is_due floors rs r) refl
      where
        by : (b : Bool) → is_due floors rs r ≡ b → not (b && not (names_marked (map with_mark lines) r)) ≡ true
        by true e =
            ap (λ m. not (not m)) (first r r.floors few (and_right (waits r) (list_all (λ f. nat_lt (holders rs f.floor + ahead floors rs r f.floor) (room_of floors f.floor)) r.floors) e))
        by false e = refl
