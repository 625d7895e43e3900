-- The requests that an event may have moved are on the floors of its marks, or have the numbers of marks or of requests that ended.
use Rattle.std.proofs.Common.{◌≡◌, ℕ, Bool, true, false, cond, List, [], ◌∷◌, ◌++◌, map, Option, Some, None, refl, sym, ap, ◌∙◌, append_assoc}
use Rattle.std.specs.Prelude.{◌==◌, ◌&&◌, ◌||◌, not, find, is_some, option_map}
use Rattle.std.specs.List.{flat_map, list_all, list_any}
use Rattle.std.specs.Option.{option_map_or}
use Rattle.std.proofs.lemmas.Bool.{eqb-true}
use Rattle.floor_queue.specs.declared.request.Request.{Request}
use Rattle.floor_queue.specs.Order.{names}
use Rattle.floor_queue.specs.Queue.{is_one_of, request_at}
use Rattle.floor_machine.specs.declared.course.Course.{Course}
use Rattle.floor_machine.specs.declared.course.Ended.{Ended}
use Rattle.floor_machine.specs.declared.marks.Mark.{Mark}
use Rattle.floor_machine.specs.Shown.{entry_of}
use Rattle.floor_machine.specs.steps.Marks.{concerns, is_before, is_marked}
use Rattle.floor_machine.specs.steps.Renewing.{AreMoved, AreSome, is_still}
use Rattle.floor_machine.specs.steps.Telling.{entry_at, entry_of_ended}
use Rattle.floor_machine.proofs.Found.{and_left, and_right, or_right, same_number}
use Rattle.floor_machine.proofs.Moved.{any-append}

or_left : (a b : Bool) → a ≡ true → (a || b) ≡ true
or_left true b h = refl
or_left false b h = cc

either : (a b : Bool) → (a || b) ≡ true → {P : Type 0} → (a ≡ true → P) → (b ≡ true → P) → P
either true b h f g = f refl
either false b h f g = g h

-- one that is found is among them
found-any : {A : Type 0} (p q : A → Bool) (xs : List A) (x : A) → find p xs ≡ Some x → q x ≡ true → list_any (λ y. p y && q y) xs ≡ true
found-any p q [] x h e = cc
found-any {A = A} p q (y ∷ xs) x h e = by (p y) h (λ rest. found-any p q xs x rest e)
  where
    by : (b : Bool) → cond b (Some y) (find p xs) ≡ Some x → (find p xs ≡ Some x → list_any (λ y. p y && q y) xs ≡ true) → ((b && q y) || list_any (λ y. p y && q y) xs) ≡ true
    by true h rest = let same : x ≡ y = cc in or_left (q y) (list_any (λ y. p y && q y) xs) (ap q (sym same) ∙ e)
    by false h rest = rest h

ended-any : (ended : List Ended) (n : ℕ) (d : Ended) → find (λ d. d.request.number == n) ended ≡ Some d → is_one_of n (map (λ d. d.request.number) ended) ≡ true
ended-any [] n d h = cc
ended-any (x ∷ ended) n d h = by (x.request.number == n) h (ended-any ended n d)
  where
    by : (b : Bool) → cond b (Some x) (find (λ d. d.request.number == n) ended) ≡ Some d → (find (λ d. d.request.number == n) ended ≡ Some d → is_one_of n (map (λ d. d.request.number) ended) ≡ true) →
        (b || is_one_of n (map (λ d. d.request.number) ended)) ≡ true
    by true h rest = refl
    by false h rest = rest h

request-number : (rs : List Request) (n : ℕ) (r : Request) → request_at rs n ≡ Some r → r.number ≡ n
request-number [] n r h = cc
request-number (x ∷ rs) n r h = by (x.number == n) refl h (request-number rs n r)
  where
    by : (b : Bool) → (x.number == n) ≡ b → cond b (Some x) (request_at rs n) ≡ Some r → (request_at rs n ≡ Some r → r.number ≡ n) → r.number ≡ n
    by true e h rest = let same : r ≡ x = cc in ap (λ (q : Request). q.number) same ∙ eqb-true x.number n e
    by false e h rest = rest h

-- a request that a mark concerns has its number, or one of its floors
marked-one : (m : Mark) (r : Request) → concerns r m ≡ true → (m.number == r.number || list_any (names r) m.floors) ≡ true
marked-one m r h = either (m.number == r.number) (precedes_part && list_any (names r) m.floors) h (λ e. or_left (m.number == r.number) (list_any (names r) m.floors) e)
    (λ e. or_right (m.number == r.number) (list_any (names r) m.floors) (and_right precedes_part (list_any (names r) m.floors) e))
  where
    precedes_part : Bool
    precedes_part = m.waits && (m.has_granting_chair || is_before m r)

marked-among : (ms : List Mark) (r : Request) → is_marked ms r ≡ true → (is_one_of r.number (map (λ m. m.number) ms) || list_any (names r) (flat_map (λ m. m.floors) ms)) ≡ true
marked-among [] r h = cc
marked-among (m ∷ ms) r h =
    ap (λ (b : Bool). (m.number == r.number || is_one_of r.number (map (λ x. x.number) ms)) || b) (any-append (names r) m.floors (flat_map (λ x. x.floors) ms))
    ∙ either (concerns r m) (is_marked ms r) h (λ e. first (m.number == r.number) (list_any (names r) m.floors) (marked-one m r e)) (λ e. later (m.number == r.number) (list_any (names r) m.floors) (marked-among ms r e))
  where
    first : (a b : Bool) → (a || b) ≡ true → ((a || is_one_of r.number (map (λ x. x.number) ms)) || (b || list_any (names r) (flat_map (λ x. x.floors) ms))) ≡ true
    first true b e = refl
    first false true e = or_right (is_one_of r.number (map (λ x. x.number) ms)) true refl
    first false false e = cc

    later : (a b : Bool) → (is_one_of r.number (map (λ x. x.number) ms) || list_any (names r) (flat_map (λ x. x.floors) ms)) ≡ true →
        ((a || is_one_of r.number (map (λ x. x.number) ms)) || (b || list_any (names r) (flat_map (λ x. x.floors) ms))) ≡ true
    later true b e = refl
    later false true e = or_right (is_one_of r.number (map (λ x. x.number) ms)) true refl
    later false false e = e

-- these numbers are of all that may be moved
pub are-moved : (ongoing : List Request) (course : Course) (floors others some : List ℕ) → floors ≡ flat_map (λ m. m.floors) course.marks.items →
    others ≡ map (λ m. m.number) course.marks.items ++ map (λ d. d.request.number) course.ended.items →
    ((n : ℕ) → is_one_of n some ≡ (is_one_of n others || list_any (λ r. r.number == n && list_any (names r) floors) ongoing)) → AreMoved ongoing course some
are-moved ongoing course floors others some on noted these = λ n whole. by n (find (λ d. d.request.number == n) course.ended.items) (request_at ongoing n) refl refl whole
  where
    marks : List Mark
    marks = course.marks.items

    own : List ℕ
    own = map (λ m. m.number) marks

    gone : List ℕ
    gone = map (λ d. d.request.number) course.ended.items

    among : (n : ℕ) → (is_one_of n own || is_one_of n gone) ≡ true → is_one_of n some ≡ true
    among n h =
        these n
        ∙ or_left (is_one_of n others) (list_any (λ r. r.number == n && list_any (names r) floors) ongoing)
        (ap (is_one_of n) noted ∙ any-append (λ x. x == n) own gone ∙ h)

    standing : (n : ℕ) (r : Request) → request_at ongoing n ≡ Some r → list_any (names r) floors ≡ true → is_one_of n some ≡ true
    standing n r at named =
        these n
        ∙ or_right (is_one_of n others) (list_any (λ r. r.number == n && list_any (names r) floors) ongoing)
        (found-any (λ r. r.number == n) (λ r. list_any (names r) floors) ongoing r at named)

    moved : (n : ℕ) (r : Request) → request_at ongoing n ≡ Some r → is_marked marks r ≡ true → is_one_of n some ≡ true
    moved n r at marked =
        either (is_one_of r.number own) (list_any (names r) (flat_map (λ m. m.floors) marks)) (marked-among marks r marked)
        (λ e. among n (or_left (is_one_of n own) (is_one_of n gone) (ap (λ (k : ℕ). is_one_of k own) (sym (request-number ongoing n r at)) ∙ e)))
        (λ e. standing n r at (ap (list_any (names r)) on ∙ e))

    still : (n : ℕ) (r : Request) → request_at ongoing n ≡ Some r → (b : Bool) → is_marked marks r ≡ b → (not b || is_one_of n some) ≡ true
    still n r at true marked = moved n r at marked
    still n r at false marked = refl

    by : (n : ℕ) (d : Option Ended) (o : Option Request) → find (λ d. d.request.number == n) course.ended.items ≡ d → request_at ongoing n ≡ o →
        is_some (option_map_or (λ x. Some (entry_of_ended x)) d (option_map entry_of o)) ≡ true →
        (option_map_or (λ r. not (is_marked marks r)) (option_map_or (λ x. None) d o) false || is_one_of n some) ≡ true
    by n (Some d) o found at whole = among n (or_right (is_one_of n own) (is_one_of n gone) (ended-any course.ended.items n d found))
    by n None (Some r) found at whole = still n r at (is_marked marks r) refl
    by n None None found at whole = cc

-- so each of the event's numbers is one of these, or stays as it is
pub are-some : (ongoing : List Request) (course : Course) (some : List ℕ) → AreMoved ongoing course some → list_all (λ n. is_some (entry_at course.ended.items ongoing n)) course.numbers.items ≡ true → AreSome ongoing course some
are-some ongoing course some moved whole = all course.numbers.items whole
  where
    both : (a b : Bool) → a ≡ true → b ≡ true → (a && b) ≡ true
    both true b e f = f
    both false b e f = e

    all : (ns : List ℕ) → list_all (λ n. is_some (entry_at course.ended.items ongoing n)) ns ≡ true → list_all (λ n. is_still ongoing course n || is_one_of n some) ns ≡ true
    all [] h = refl
    all (n ∷ ns) h =
        both (is_still ongoing course n || is_one_of n some) (list_all (λ n. is_still ongoing course n || is_one_of n some) ns)
        (moved n (and_left (is_some (entry_at course.ended.items ongoing n)) (list_all (λ n. is_some (entry_at course.ended.items ongoing n)) ns) h))
        (all ns (and_right (is_some (entry_at course.ended.items ongoing n)) (list_all (λ n. is_some (entry_at course.ended.items ongoing n)) ns) h))

-- as all its numbers are
pub all-some : (ongoing : List Request) (course : Course) → AreSome ongoing course course.numbers.items
all-some ongoing course = all [] course.numbers.items
  where
    both : (a b : Bool) → a ≡ true → b ≡ true → (a && b) ≡ true
    both true b e f = f
    both false b e f = e

    own : (pre : List ℕ) (n : ℕ) (ns : List ℕ) → is_one_of n (pre ++ n ∷ ns) ≡ true
    own [] n ns = or_left (n == n) (is_one_of n ns) (same_number n)
    own (x ∷ pre) n ns = or_right (x == n) (is_one_of n (pre ++ n ∷ ns)) (own pre n ns)

    all : (pre ns : List ℕ) → list_all (λ n. is_still ongoing course n || is_one_of n (pre ++ ns)) ns ≡ true
    all pre [] = refl
    all pre (n ∷ ns) =
        both (is_still ongoing course n || is_one_of n (pre ++ n ∷ ns)) (list_all (λ m. is_still ongoing course m || is_one_of m (pre ++ n ∷ ns)) ns)
        (or_right (is_still ongoing course n) (is_one_of n (pre ++ n ∷ ns)) (own pre n ns))
        (ap (λ (all : List ℕ). list_all (λ m. is_still ongoing course m || is_one_of m all) ns) (sym (append_assoc pre (n ∷ []) ns)) ∙ all (pre ++ n ∷ []) ns)
