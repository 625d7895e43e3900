-- Whether a request is due shows in the first places of the lines.
use Rattle.std.proofs.Common.{◌≡◌, ℕ, ◌≤◌, ◌<◌, ◌+◌, Bool, true, false, cond, zero, suc, List, [], ◌∷◌, take, refl, sym, ◌∙◌, ap, arith, length, map}
use Rattle.std.specs.Prelude.{not, ◌&&◌, ◌||◌, ◌==◌, nat_lt, All, Option, Some}
use Rattle.std.specs.List.{list_all, list_any}
use Rattle.std.specs.Option.{option_map_or}
use Rattle.std.proofs.lemmas.Bool.{eqb-true, lt-ltb}
use Rattle.std.proofs.lemmas.Bool.Decides.{nat_tests}
use Rattle.std.proofs.lemmas.List.Elements.{All-head, All-tail, All-weaker}
use Rattle.std.proofs.lemmas.List.Sums.{list_all-from_AllPass}
use Rattle.floor_config.specs.declared.floors.Floor.{Floor}
use Rattle.floor_queue.specs.declared.index.rank.Rank.{Rank}
use Rattle.floor_queue.specs.declared.request.Request.{Request}
use Rattle.floor_queue.specs.declared.requested_floor.RequestedFloor.{RequestedFloor}
use Rattle.floor_queue.specs.Order.{names, waits, holders, ahead, is_due, room_of, due_numbers}
use Rattle.floor_queue.specs.Queue.{Queue, IsQueue, IsAddable, new_of, is_ascending, request_at}
use Rattle.floor_queue.specs.steps.Lines.{FloorLine, IsLine, IsLined, rank_of, before, is_in_order, place_in, has_mark, names_marked, is_due_in, is_number_due, line_has_due, line_shows, rank_shows}
use Rattle.floor_queue.specs.steps.Numbers.{ascend, is_in}
use Rattle.floor_queue.proofs.Counts.{and_left, and_right, and_both}
use Rattle.floor_queue.proofs.Earlier.{IsAmong}
use Rattle.floor_queue.proofs.Places.{among_found, count_pos}
use Rattle.floor_queue.proofs.Ranking.{IsIn, rest_has, is_first}
use Rattle.floor_queue.proofs.Lining.{in_line, place-line, is_due-lines}
use Rattle.floor_queue.proofs.Numbering.{ascend-numbers, is_in-numbers, same_members}

any_left : (a b : Bool) → a ≡ true → (a || b) ≡ true
any_left true b h = refl
any_left false b h = cc

any_right : (a b : Bool) → b ≡ true → (a || b) ≡ true
any_right true b h = refl
any_right false b h = h

-- an element of which each brings c about
any_then : {X : Type 0} (p : X → Bool) (c : Bool) → ((x : X) → p x ≡ true → c ≡ true) → (xs : List X) → list_any p xs ≡ true → c ≡ true
any_then p c h [] e = cc
any_then p c h (x ∷ xs) e = by (p x) refl (any_then p c h xs) e
  where
    by : (b : Bool) → p x ≡ b → (list_any p xs ≡ true → c ≡ true) → (b || list_any p xs) ≡ true → c ≡ true
    by true k rest e = h x k
    by false k rest e = rest e

-- where x is in the line, its place is before n and it passes p, one of the first n does
any_take : (p : Rank → Bool) (x : Rank) (xs : List Rank) (n : ℕ) → is_in_order xs ≡ true → IsIn xs x → place_in x xs < n → p x ≡ true → list_any p (take n xs) ≡ true
any_take p x [] n h among l e = among (λ k. list_any p (take n [])) refl
any_take p x (y ∷ ys) zero h among l e = absurd (omega (arith, l))
any_take p x (y ∷ ys) (suc n) h among l e = by (before y x) refl (λ also. any_take p x ys n (and_right _ _ h) also) l
  where
    by : (b : Bool) → before y x ≡ b → (IsIn ys x → place_in x ys < n → p x ≡ true → list_any p (take n ys) ≡ true) → cond (not (not b)) (1 + place_in x ys) 0 < suc n →
        (p y || list_any p (take n ys)) ≡ true
    by true u rest l = any_right (p y) _ (rest (rest_has x y ys among u) (omega (arith, l)) e)
    by false u rest l = any_left (p y) _ (ap p (sym (is_first x y ys h among u)) ∙ e)

-- a request that passes p, found by its number
record Passing (p : Request → Bool) (rs : List Request) : Type 0 where
  request : Request
  found : request_at rs request.number ≡ Some request
  passes : p request ≡ true

passing : (p : Request → Bool) (rs : List Request) → is_ascending rs ≡ true → list_any p rs ≡ true → Passing p rs
passing p [] up h = cc
passing p (x ∷ xs) up h = by (p x) refl (passing p xs (and_right _ _ up)) h
  where
    same : (k : ℕ) → (k == k) ≡ true
    same k = grind (arith, nat_tests)

    differs : (k m : ℕ) → nat_lt k m ≡ true → (k == m) ≡ false
    differs k m l = grind (arith, nat_tests)

    at : (b c : Bool) (o : Option Request) (q : Request) → b ≡ c → cond c (Some x) o ≡ Some q → cond b (Some x) o ≡ Some q
    at true true o q e h = h
    at true false o q e h = cc
    at false true o q e h = cc
    at false false o q e h = h

    by : (b : Bool) → p x ≡ b → (list_any p xs ≡ true → Passing p xs) → (b || list_any p xs) ≡ true → Passing p (x ∷ xs)
    by true e rest h = record { request = x; found = at (x.number == x.number) true (request_at xs x.number) x (same x.number) refl; passes = e }
    by false e rest h =
        let r : Passing p xs = rest h in
        let above : nat_lt x.number r.request.number ≡ true = among_found xs r.request.number r.request r.found (λ (q : Request). nat_lt x.number q.number) (and_left _ _ up) in
        record {
          request = r.request;
          found = at (x.number == r.request.number) false (request_at xs r.request.number) r.request (differs x.number r.request.number above) r.found;
          passes = r.passes;
        }

rank_passes : (floors : List Floor) (rs : List Request) (lines : List FloorLine) (t : ℕ → Bool) (q : Request) → request_at rs q.number ≡ Some q → waits q ≡ true → is_due_in floors lines q ≡ true → t q.number ≡ true →
    rank_shows floors lines rs t (rank_of floors q) ≡ true
unfolding rank_of
rank_passes floors rs lines t q at h due e =
    and_both (waits q) (is_number_due floors lines rs q.number && t q.number) h
    (and_both (is_number_due floors lines rs q.number) (t q.number) (ap (λ o. option_map_or (is_due_in floors lines) o false) at ∙ due) e)

-- whoever is due names a marked floor, and stands in the first places of its line
due_shows : (floors : List Floor) (rs : List Request) (lines : List FloorLine) (t : ℕ → Bool) → IsLined floors rs lines → list_any (λ r. is_due floors rs r && t r.number) rs ≡ true →
    list_any (line_shows floors lines rs t) lines ≡ true
due_shows floors rs lines t h e = by_floors r.request.floors has_marks places (λ id k. k)
  where
    r : Passing (λ q. is_due floors rs q && t q.number) rs
    r = passing (λ q. is_due floors rs q && t q.number) rs h.ascending e

    among : IsAmong rs r.request
    among = among_found rs r.request.number r.request r.found

    due : is_due floors rs r.request ≡ true
    due = and_left (is_due floors rs r.request) (t r.request.number) r.passes

    has_room : RequestedFloor → Bool
    has_room f = nat_lt (holders rs f.floor + ahead floors rs r.request f.floor) (room_of floors f.floor)

    w : waits r.request ≡ true
    w = and_left (waits r.request) (list_all has_room r.request.floors) due

    places : list_all has_room r.request.floors ≡ true
    places = and_right (waits r.request) (list_all has_room r.request.floors) due

    has_marks : names_marked lines r.request ≡ true
    has_marks = by (names_marked lines r.request) refl
      where
        by : (b : Bool) → names_marked lines r.request ≡ b → b ≡ true
        by true k = refl
        by false k =
            absurd (omega (arith, h.marks, count_pos (λ (q : Request). is_due floors rs q && not (names_marked lines q)) rs r.request among (and_both (is_due floors rs r.request) (not (names_marked lines r.request)) due (ap not k))))

    lt_from : (a b : ℕ) → nat_lt a b ≡ true → a < b
    lt_from a b h = grind (arith, nat_tests)

    passes : rank_shows floors lines rs t (rank_of floors r.request) ≡ true
    passes =
        rank_passes floors rs lines t r.request r.found w (is_due-lines floors rs lines h.lined r.request ∙ due) (and_right (is_due floors rs r.request) (t r.request.number) r.passes)

    by_line : (f : RequestedFloor) → names r.request f.floor ≡ true → has_room f ≡ true → (l : FloorLine) → IsLine floors rs l → (l.floor == f.floor && l.is_marked) ≡ true → line_shows floors lines rs t l ≡ true
    by_line f named place l i m =
        let here : l.floor ≡ f.floor = eqb-true l.floor f.floor (and_left (l.floor == f.floor) l.is_marked m) in
        let within : place_in (rank_of floors r.request) l.ranks < room_of floors l.floor =
        lt_from (place_in (rank_of floors r.request) l.ranks) (room_of floors l.floor)
        (ap (λ n. nat_lt n (room_of floors l.floor)) (place-line floors rs l r.request i w)
        ∙ ap (λ id. nat_lt (holders rs id + ahead floors rs r.request id) (room_of floors id)) here ∙ place) in
        and_both l.is_marked (list_any (rank_shows floors lines rs t) (take (room_of floors l.floor) l.ranks)) (and_right (l.floor == f.floor) l.is_marked m)
        (any_take (rank_shows floors lines rs t) (rank_of floors r.request) l.ranks (room_of floors l.floor) i.in_order
        (in_line floors rs l r.request i among (ap (names r.request) here ∙ named)) within passes)

    by_lines : (f : RequestedFloor) → names r.request f.floor ≡ true → has_room f ≡ true → (ls : List FloorLine) → All (IsLine floors rs) ls → has_mark ls f.floor ≡ true → list_any (line_shows floors lines rs t) ls ≡ true
    by_lines f named place [] all m = cc
    by_lines f named place (l ∷ ls) all m = by (l.floor == f.floor && l.is_marked) refl (by_lines f named place ls (All-tail (IsLine floors rs) l ls all)) m
      where
        by : (b : Bool) → (l.floor == f.floor && l.is_marked) ≡ b → (has_mark ls f.floor ≡ true → list_any (line_shows floors lines rs t) ls ≡ true) → (b || has_mark ls f.floor) ≡ true →
            (line_shows floors lines rs t l || list_any (line_shows floors lines rs t) ls) ≡ true
        by true k rest m = any_left (line_shows floors lines rs t l) (list_any (line_shows floors lines rs t) ls) (by_line f named place l (All-head (IsLine floors rs) l ls all) k)
        by false k rest m = any_right (line_shows floors lines rs t l) (list_any (line_shows floors lines rs t) ls) (rest m)

    by_floors : (fs : List RequestedFloor) → list_any (λ f. has_mark lines f.floor) fs ≡ true → list_all has_room fs ≡ true → ((id : ℕ) → list_any (λ f. f.floor == id) fs ≡ true → names r.request id ≡ true) →
        list_any (line_shows floors lines rs t) lines ≡ true
    by_floors [] m all named = cc
    by_floors (f ∷ fs) m all named = by (has_mark lines f.floor) refl (λ m. by_floors fs m (and_right _ _ all) (λ id n. named id (any_right (f.floor == id) (list_any (λ (g : RequestedFloor). g.floor == id) fs) n))) m
      where
        same : (k : ℕ) → (k == k) ≡ true
        same k = grind (arith, nat_tests)

        by : (b : Bool) → has_mark lines f.floor ≡ b → (list_any (λ f. has_mark lines f.floor) fs ≡ true → list_any (line_shows floors lines rs t) lines ≡ true) → (b || list_any (λ f. has_mark lines f.floor) fs) ≡ true →
            list_any (line_shows floors lines rs t) lines ≡ true
        by true k rest m = by_lines f (named f.floor (any_left (f.floor == f.floor) (list_any (λ (g : RequestedFloor). g.floor == f.floor) fs) (same f.floor))) (and_left _ _ all) lines h.lined.each k
        by false k rest m = rest m

-- what shows there is due
shows_due : (floors : List Floor) (rs : List Request) (lines : List FloorLine) (t : ℕ → Bool) → list_any (line_shows floors lines rs t) lines ≡ true → list_any (λ r. is_due_in floors lines r && t r.number) rs ≡ true
shows_due floors rs lines t e =
    any_then (line_shows floors lines rs t) (list_any (λ r. is_due_in floors lines r && t r.number) rs)
    (λ l k. any_then (rank_shows floors lines rs t) (list_any (λ r. is_due_in floors lines r && t r.number) rs)
    (λ x n. number_due x.number rs (and_left (is_number_due floors lines rs x.number) (t x.number) (and_right x.waits _ n)) (and_right (is_number_due floors lines rs x.number) (t x.number) (and_right x.waits _ n)))
    (take (room_of floors l.floor) l.ranks) (and_right l.is_marked _ k)) lines e
  where
    number_due : (n : ℕ) (qs : List Request) → option_map_or (is_due_in floors lines) (request_at qs n) false ≡ true → t n ≡ true → list_any (λ r. is_due_in floors lines r && t r.number) qs ≡ true
    number_due n [] k m = k
    number_due n (q ∷ qs) k m = by (q.number == n) refl (λ k. number_due n qs k m) k
      where
        by : (b : Bool) → (q.number == n) ≡ b → (option_map_or (is_due_in floors lines) (request_at qs n) false ≡ true → list_any (λ r. is_due_in floors lines r && t r.number) qs ≡ true) →
            option_map_or (is_due_in floors lines) (cond b (Some q) (request_at qs n)) false ≡ true → ((is_due_in floors lines q && t q.number) || list_any (λ r. is_due_in floors lines r && t r.number) qs) ≡ true
        by true e rest k = any_left (is_due_in floors lines q && t q.number) _ (and_both (is_due_in floors lines q) (t q.number) k (ap t (eqb-true q.number n e) ∙ m))
        by false e rest k = any_right (is_due_in floors lines q && t q.number) _ (rest k)

any_same : {X : Type 0} (p q : X → Bool) → ((x : X) → p x ≡ q x) → (xs : List X) → list_any p xs ≡ list_any q xs
any_same p q h [] = refl
any_same p q h (x ∷ xs) = rw (h x, any_same p q h xs) refl

-- one of the requests is due, and passes, exactly where a line shows one
shown : (floors : List Floor) (rs : List Request) (lines : List FloorLine) (t : ℕ → Bool) → IsLined floors rs lines → list_any (line_shows floors lines rs t) lines ≡ list_any (λ r. is_due floors rs r && t r.number) rs
shown floors rs lines t h =
    both (list_any (line_shows floors lines rs t) lines) (list_any (λ r. is_due floors rs r && t r.number) rs)
    (λ e. sym (any_same (λ r. is_due_in floors lines r && t r.number) (λ r. is_due floors rs r && t r.number) (λ r. ap (λ b. b && t r.number) (is_due-lines floors rs lines h.lined r)) rs) ∙ shows_due floors rs lines t e)
    (due_shows floors rs lines t h)
  where
    both : (a b : Bool) → (a ≡ true → b ≡ true) → (b ≡ true → a ≡ true) → a ≡ b
    both true b f g = sym (f refl)
    both false true f g = g refl
    both false false f g = refl

and_true : (a : Bool) → (a && true) ≡ a
and_true true = refl
and_true false = refl

pub has_due-lines : (floors : List Floor) (rs : List Request) (lines : List FloorLine) → IsLined floors rs lines → list_any (line_has_due floors lines rs) lines ≡ list_any (is_due floors rs) rs
has_due-lines floors rs lines h =
    any_same (line_has_due floors lines rs) (line_shows floors lines rs (λ n. true))
    (λ l. ap (λ b. l.is_marked && b) (any_same (λ k. k.waits && is_number_due floors lines rs k.number) (rank_shows floors lines rs (λ n. true)) (λ k. ap (λ b. k.waits && b) (sym (and_true (is_number_due floors lines rs k.number)))) (take (room_of floors l.floor) l.ranks))) lines
    ∙ shown floors rs lines (λ n. true) h
    ∙ any_same (λ r. is_due floors rs r && true) (is_due floors rs) (λ r. and_true (is_due floors rs r)) rs

-- ascending numbers that are those that the lines show are those that are due
pub due_shown : (floors : List Floor) (rs : List Request) (lines : List FloorLine) (ns : List ℕ) → IsLined floors rs lines → ascend ns ≡ true →
    ((k : ℕ) → is_in k ns ≡ list_any (line_shows floors lines rs (λ n. n == k)) lines) → ns ≡ due_numbers floors rs
due_shown floors rs lines ns h up members =
    same_members ns (due_numbers floors rs) up (ascend-numbers (is_due floors rs) rs h.ascending)
    (λ k. members k ∙ shown floors rs lines (λ n. n == k) h ∙ sym (is_in-numbers (is_due floors rs) k rs))

-- each request of a queue names a floor
pub some_floors : (q : Queue) → IsQueue q → list_all (λ r. nat_lt 0 (length r.floors)) q.ongoing ≡ true
some_floors q h =
    list_all-from_AllPass (λ (r : Request). nat_lt 0 (length r.floors)) q.ongoing
    (All-weaker (λ (r : Request). IsAddable q.floors (new_of r)) (λ (r : Request). nat_lt 0 (length r.floors) ≡ true) (λ r a. some r.floors a.floors_least) q.ongoing h.addable)
  where
    some : (fs : List RequestedFloor) → 1 ≤ length (map (λ (f : RequestedFloor). f.floor) fs) → nat_lt 0 (length fs) ≡ true
    some [] k = absurd (omega (arith, k))
    some (f ∷ fs) k = lt-ltb 0 (length (f ∷ fs)) (omega arith)
