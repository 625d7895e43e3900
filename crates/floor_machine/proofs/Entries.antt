-- The requests that an event leaves: which are ongoing, which ended, and how each is found by its number.
use Rattle.std.proofs.Common.{◌≡◌, ℕ, Bool, true, false, cond, List, [], ◌∷◌, ◌++◌, map, Option, Some, None, refl, sym, ap, ◌∙◌, arith}
use Rattle.std.specs.Prelude.{◌==◌, ◌||◌, nat_lt, find, filter, is_some, is_none, option_map}
use Rattle.std.specs.List.{list_any, list_all, flat_map}
use Rattle.std.specs.Option.{option_map_or}
use Rattle.std.proofs.lemmas.Bool.Decides.{nat_tests}
use Rattle.floor_config.specs.declared.floors.Floor.{Floor}
use Rattle.floor_queue.specs.declared.request.Request.{Request}
use Rattle.floor_queue.specs.Order.{settle, is_due, granted_if}
use Rattle.floor_queue.specs.Queue.{request_at, numbers_of}
use Rattle.floor_message.specs.declared.status.RequestStatus.{RequestStatus}
use Rattle.floor_machine.specs.declared.course.Ended.{Ended}
use Rattle.floor_machine.specs.Shown.{Entry, entry_of, ongoing_of, settle_entries}
use Rattle.floor_machine.specs.steps.Telling.{entry_of_ended, entry_at}
use Rattle.floor_machine.specs.steps.Serving.{ended_of, numbers_in, is_rising}
use Rattle.floor_machine.proofs.Found.{and_left, and_right, or_right, same_number}

pub ongoing_of-entries : (rs : List Request) → ongoing_of (map entry_of rs) ≡ rs
ongoing_of-entries [] = refl
ongoing_of-entries (r ∷ rs) = ap (λ (qs : List Request). r ∷ qs) (ongoing_of-entries rs)

pub ended_of-entries : (rs : List Request) → ended_of (map entry_of rs) ≡ []
ended_of-entries [] = refl
ended_of-entries (r ∷ rs) = ended_of-entries rs

pub numbers_in-entries : (rs : List Request) → numbers_in (map entry_of rs) ≡ numbers_of rs
numbers_in-entries [] = refl
numbers_in-entries (r ∷ rs) = ap (λ (ns : List ℕ). r.number ∷ ns) (numbers_in-entries rs)

pub ongoing_of-append : (es fs : List Entry) → ongoing_of (es ++ fs) ≡ ongoing_of es ++ ongoing_of fs
ongoing_of-append [] fs = refl
ongoing_of-append (e ∷ es) fs = by (is_none e.ending) (ongoing_of-append es fs)
  where
    by : (b : Bool) → ongoing_of (es ++ fs) ≡ ongoing_of es ++ ongoing_of fs →
        map (λ (x : Entry). x.request) (cond b (e ∷ filter (λ x. is_none x.ending) (es ++ fs)) (filter (λ x. is_none x.ending) (es ++ fs)))
        ≡ map (λ (x : Entry). x.request) (cond b (e ∷ filter (λ x. is_none x.ending) es) (filter (λ x. is_none x.ending) es)) ++ ongoing_of fs
    by true h = ap (λ (rs : List Request). e.request ∷ rs) h
    by false h = h

pub ended_of-append : (es fs : List Entry) → ended_of (es ++ fs) ≡ ended_of es ++ ended_of fs
ended_of-append [] fs = refl
ended_of-append (e ∷ es) fs = by (is_some e.ending) (ended_of-append es fs)
  where
    by : (b : Bool) → ended_of (es ++ fs) ≡ ended_of es ++ ended_of fs →
        cond b (e ∷ ended_of (es ++ fs)) (ended_of (es ++ fs)) ≡ cond b (e ∷ ended_of es) (ended_of es) ++ ended_of fs
    by true h = ap (λ (xs : List Entry). e ∷ xs) h
    by false h = h

-- settles one entry, where all are ongoing
abbrev settle_entry : List Floor → List Request → Entry → Entry
settle_entry floors all e = cond (is_none e.ending) (record e { request = granted_if (is_due floors all e.request) e.request }) e

abbrev settle_one : List Floor → List Request → Request → Request
settle_one floors all r = granted_if (is_due floors all r) r

number-granted : (b : Bool) (r : Request) → (granted_if b r).number ≡ r.number
number-granted true r = refl
number-granted false r = refl

ongoing_of-each : (floors : List Floor) (all : List Request) (es : List Entry) → ongoing_of (map (settle_entry floors all) es) ≡ map (settle_one floors all) (ongoing_of es)
ongoing_of-each floors all [] = refl
ongoing_of-each floors all (e ∷ es) = by e.request e.ending (ongoing_of-each floors all es)
  where
    by : (r : Request) (o : Option RequestStatus) → ongoing_of (map (settle_entry floors all) es) ≡ map (settle_one floors all) (ongoing_of es) →
        ongoing_of (map (settle_entry floors all) (record { request = r; ending = o } ∷ es)) ≡ map (settle_one floors all) (ongoing_of (record { request = r; ending = o } ∷ es))
    by r None h = ap (λ (rs : List Request). settle_one floors all r ∷ rs) h
    by r (Some x) h = h

ended_of-each : (floors : List Floor) (all : List Request) (es : List Entry) → ended_of (map (settle_entry floors all) es) ≡ ended_of es
ended_of-each floors all [] = refl
ended_of-each floors all (e ∷ es) = by e.request e.ending (ended_of-each floors all es)
  where
    by : (r : Request) (o : Option RequestStatus) → ended_of (map (settle_entry floors all) es) ≡ ended_of es →
        ended_of (map (settle_entry floors all) (record { request = r; ending = o } ∷ es)) ≡ ended_of (record { request = r; ending = o } ∷ es)
    by r None h = h
    by r (Some x) h = ap (λ (xs : List Entry). record { request = r; ending = Some x } ∷ xs) h

numbers_in-each : (floors : List Floor) (all : List Request) (es : List Entry) → numbers_in (map (settle_entry floors all) es) ≡ numbers_in es
numbers_in-each floors all [] = refl
numbers_in-each floors all (e ∷ es) = by e.request e.ending (numbers_in-each floors all es)
  where
    by : (r : Request) (o : Option RequestStatus) → numbers_in (map (settle_entry floors all) es) ≡ numbers_in es →
        numbers_in (map (settle_entry floors all) (record { request = r; ending = o } ∷ es)) ≡ r.number ∷ numbers_in es
    by r None h = ap (λ (n : ℕ). n ∷ numbers_in (map (settle_entry floors all) es)) (number-granted (is_due floors all r) r) ∙ ap (λ (ns : List ℕ). r.number ∷ ns) h
    by r (Some x) h = ap (λ (ns : List ℕ). r.number ∷ ns) h

-- settling settles those that are ongoing
pub ongoing_of-settled : (floors : List Floor) (es : List Entry) → ongoing_of (settle_entries floors es) ≡ settle floors (ongoing_of es)
ongoing_of-settled floors es = ongoing_of-each floors (ongoing_of es) es

-- settling leaves those that ended
pub ended_of-settled : (floors : List Floor) (es : List Entry) → ended_of (settle_entries floors es) ≡ ended_of es
ended_of-settled floors es = ended_of-each floors (ongoing_of es) es

-- settling leaves the numbers
pub numbers_in-settled : (floors : List Floor) (es : List Entry) → numbers_in (settle_entries floors es) ≡ numbers_in es
numbers_in-settled floors es = numbers_in-each floors (ongoing_of es) es

-- the entry with this number
abbrev pub find_entry : List Entry → List Request → ℕ → Option Entry
find_entry ended ongoing number =
    option_map_or (λ e. Some e) (find (λ e. e.request.number == number) ended) (option_map entry_of (request_at ongoing number))

find-ended : (ended : List Ended) (number : ℕ) (d : Option Entry) →
    option_map_or (λ e. Some (entry_of_ended e)) (find (λ e. e.request.number == number) ended) d
    ≡ option_map_or (λ e. Some e) (find (λ e. e.request.number == number) (map entry_of_ended ended)) d
find-ended [] number d = refl
find-ended (e ∷ ended) number d = by (e.request.number == number) (find-ended ended number d)
  where
    by : (b : Bool) →
        option_map_or (λ e. Some (entry_of_ended e)) (find (λ e. e.request.number == number) ended) d
        ≡ option_map_or (λ e. Some e) (find (λ e. e.request.number == number) (map entry_of_ended ended)) d →
        option_map_or (λ e. Some (entry_of_ended e)) (cond b (Some e) (find (λ e. e.request.number == number) ended)) d
        ≡ option_map_or (λ e. Some e) (cond b (Some (entry_of_ended e)) (find (λ e. e.request.number == number) (map entry_of_ended ended))) d
    by true h = refl
    by false h = h

pub entry_at-find : (ended : List Ended) (ongoing : List Request) (number : ℕ) → entry_at ended ongoing number ≡ find_entry (map entry_of_ended ended) ongoing number
entry_at-find ended ongoing number = find-ended ended number (option_map entry_of (request_at ongoing number))

-- the number is one of the entries'
abbrev pub is_in : ℕ → List Entry → Bool
is_in n es = list_any (λ e. e.request.number == n) es

-- of entries, the one with this number
abbrev pub entry_with : List Entry → ℕ → Option Entry
entry_with es n = find_entry (ended_of es) (ongoing_of es) n

-- an entry with another number is passed over
pub entry_with-other : (e : Entry) (es : List Entry) (n : ℕ) → (e.request.number == n) ≡ false → entry_with (e ∷ es) n ≡ entry_with es n
entry_with-other e es n h = by e.request e.ending h
  where
    by : (r : Request) (o : Option RequestStatus) → (r.number == n) ≡ false → entry_with (record { request = r; ending = o } ∷ es) n ≡ entry_with es n
    by r None h = rw h refl
    by r (Some x) h = rw h refl

below_differs : (a b : ℕ) → nat_lt a b ≡ true → (a == b) ≡ false
below_differs a b h = grind (arith, nat_tests)

above_differs : (a b : ℕ) → nat_lt a b ≡ true → (b == a) ≡ false
above_differs a b h = grind (arith, nat_tests)

none_ended : (es : List Entry) (n : ℕ) → list_all (nat_lt n) (numbers_in es) ≡ true → find (λ e. e.request.number == n) (ended_of es) ≡ None
none_ended [] n h = refl
none_ended (e ∷ es) n h = by e.request e.ending h (none_ended es n (and_right _ _ h))
  where
    by : (r : Request) (o : Option RequestStatus) → list_all (nat_lt n) (numbers_in (record { request = r; ending = o } ∷ es)) ≡ true →
        find (λ e. e.request.number == n) (ended_of es) ≡ None → find (λ e. e.request.number == n) (ended_of (record { request = r; ending = o } ∷ es)) ≡ None
    by r None h rest = rest
    by r (Some x) h rest = rw (above_differs n r.number (and_left _ _ h)) rest

-- the first entry is found by its number, where all others' are above it
pub entry_with-own : (e : Entry) (es : List Entry) → list_all (nat_lt e.request.number) (numbers_in es) ≡ true → entry_with (e ∷ es) e.request.number ≡ Some e
entry_with-own e es h = by e.request e.ending h
  where
    by : (r : Request) (o : Option RequestStatus) → list_all (nat_lt r.number) (numbers_in es) ≡ true → entry_with (record { request = r; ending = o } ∷ es) r.number ≡ Some record { request = r; ending = o }
    by r None h = rw (none_ended es r.number h, same_number r.number) refl
    by r (Some x) h = rw (same_number r.number) refl

-- an entry that stands in the list has a number above n, if all have
above_in : (es : List Entry) (n m : ℕ) → list_all (nat_lt n) (numbers_in es) ≡ true → is_in m es ≡ true → (n == m) ≡ false
above_in [] n m h k = cc
above_in (e ∷ es) n m h k = by (e.request.number == m) refl k (above_in es n m (and_right _ _ h))
  where
    met : (a : ℕ) → true ≡ (a == m) → nat_lt n a ≡ true → (n == m) ≡ false
    met a e l = grind (arith, nat_tests)

    by : (b : Bool) → b ≡ (e.request.number == m) → (b || is_in m es) ≡ true → (is_in m es ≡ true → (n == m) ≡ false) → (n == m) ≡ false
    by true same k rest = met e.request.number same (and_left _ _ h)
    by false other k rest = rest k

-- where each number of the entries finds its entry by g, a list made number by number is made entry by entry
pub by_number : {Y : Type 0} (g : ℕ → Option Entry) (f : Entry → List Y) (es : List Entry) → is_rising (numbers_in es) ≡ true →
    ((n : ℕ) → is_in n es ≡ true → g n ≡ entry_with es n) →
    flat_map (λ n. option_map_or f (g n) []) (numbers_in es) ≡ flat_map f es
by_number g f [] h finds = refl
by_number {Y = Y} g f (e ∷ es) h finds =
    ap (λ (o : Option Entry). option_map_or f o [] ++ flat_map (λ n. option_map_or f (g n) []) (numbers_in es))
    (finds e.request.number (first (e.request.number == e.request.number) (same_number e.request.number)) ∙ entry_with-own e es (and_left _ _ h))
    ∙ ap (λ (ys : List Y). f e ++ ys) (by_number g f es (and_right _ _ h) (λ n k.
    finds n (or_right (e.request.number == n) _ k) ∙ entry_with-other e es n (above_in es e.request.number n (and_left _ _ h) k)))
  where
    first : (b : Bool) → b ≡ true → (b || is_in e.request.number es) ≡ true
    first b h = ap (λ (x : Bool). x || is_in e.request.number es) h

none_with : (es : List Entry) (n : ℕ) → list_all (nat_lt n) (numbers_in es) ≡ true → filter (λ e. e.request.number == n) es ≡ []
none_with [] n h = refl
none_with (e ∷ es) n h = rw (above_differs n e.request.number (and_left _ _ h)) (none_with es n (and_right _ _ h))

-- the entries with a number are the one that is found by it
pub filter-number : {Y : Type 0} (f : Entry → Y) (es : List Entry) (n : ℕ) → is_rising (numbers_in es) ≡ true →
    map f (filter (λ e. e.request.number == n) es) ≡ option_map_or (λ e. f e ∷ []) (entry_with es n) []
filter-number f [] n h = refl
filter-number {Y = Y} f (e ∷ es) n h = by (e.request.number == n) refl (filter-number f es n (and_right _ _ h))
  where
    equal : (a b : ℕ) → true ≡ (a == b) → a ≡ b
    equal a b h = grind (arith, nat_tests)

    found : e.request.number ≡ n → map f (e ∷ filter (λ x. x.request.number == n) es) ≡ option_map_or (λ x. f x ∷ []) (entry_with (e ∷ es) n) []
    found same =
        let others : list_all (nat_lt n) (numbers_in es) ≡ true = ap (λ (m : ℕ). list_all (nat_lt m) (numbers_in es)) (sym same) ∙ and_left _ _ h in
        ap (λ (xs : List Entry). map f (e ∷ xs)) (none_with es n others)
        ∙ sym (ap (λ (o : Option Entry). option_map_or (λ x. f x ∷ []) o []) (ap (λ (m : ℕ). entry_with (e ∷ es) m) (sym same) ∙ entry_with-own e es (and_left _ _ h)))

    by : (b : Bool) → b ≡ (e.request.number == n) → map f (filter (λ e. e.request.number == n) es) ≡ option_map_or (λ e. f e ∷ []) (entry_with es n) [] →
        map f (cond b (e ∷ filter (λ x. x.request.number == n) es) (filter (λ x. x.request.number == n) es)) ≡ option_map_or (λ x. f x ∷ []) (entry_with (e ∷ es) n) []
    by true same rest = found (equal e.request.number n same)
    by false other rest =
        rest
        ∙ sym (ap (λ (o : Option Entry). option_map_or (λ x. f x ∷ []) o []) (entry_with-other e es n (sym other)))
