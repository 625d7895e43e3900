-- What is due to the live members, told one after another: each is told all or nothing of it, whatever the others are told.
use Rattle.std.proofs.Common.{◌≡◌, ℕ, ◌+◌, Bool, true, false, cond, List, [], ◌∷◌, ◌++◌, length, map, Option, Some, None, refl, sym, ap, ◌∙◌, ◌<◌, arith, append_assoc, append-nil}
use Rattle.std.specs.Prelude.{◌==◌, ◌&&◌, ◌||◌, nat_le, nat_lt, not, filter, find}
use Rattle.std.specs.List.{flat_map}
use Rattle.std.specs.Option.{option_map_or}
use Rattle.std.proofs.lemmas.Bool.Decides.{nat_tests}
use Rattle.std.proofs.lemmas.List.Elements.{filter-append}
use Rattle.floor_machine.specs.declared.member.Member.{Member}
use Rattle.floor_machine.specs.Parcel.{Parcel}
use Rattle.floor_machine.specs.Conference.{is_numbered_from, live_numbers, member_with}
use Rattle.floor_machine.specs.Journal.{sent_to}
use Rattle.floor_machine.specs.steps.Counting.{counted_at, counted_of, due_at, is_told, is_told_at, members_at, members_each, taken_on, told_at, told_each, told_of_all}
use Rattle.floor_machine.proofs.Found.{and_left, and_right, same_number}
use Rattle.floor_machine.proofs.Live.{changed-below, found-below, if_live, live-found, numbered-map}
use Rattle.floor_machine.proofs.Telling.{flat_map-same}

-- a member behind others has a later number
later : (pre : List Member) (m : Member) (ms : List Member) (k : ℕ) → is_numbered_from k (pre ++ m ∷ ms) ≡ true → nat_le k m.n ≡ true
later [] m ms k h = own m.n k (and_left _ _ h)
  where
    own : (a k : ℕ) → (a == k) ≡ true → nat_le k a ≡ true
    own a k e = grind (arith, nat_tests)
later (x ∷ pre) m ms k h = nearer k m.n (later pre m ms (k + 1) (and_right (x.n == k) (is_numbered_from (k + 1) (pre ++ m ∷ ms)) h))
  where
    nearer : (k n : ℕ) → nat_le (k + 1) n ≡ true → nat_le k n ≡ true
    nearer k n l = grind (arith, nat_tests)

-- so none of the others has it
other : (a k n : ℕ) → (a == k) ≡ true → nat_le (k + 1) n ≡ true → (a == n) ≡ false
other a k n e l = grind (arith, nat_tests)

-- each member is found by its number
pub find-own : (pre : List Member) (m : Member) (ms : List Member) (k : ℕ) → is_numbered_from k (pre ++ m ∷ ms) ≡ true → find (λ x. x.n == m.n) (pre ++ m ∷ ms) ≡ Some m
find-own [] m ms k h = rw (same_number m.n) refl
find-own (x ∷ pre) m ms k h =
    let rest : is_numbered_from (k + 1) (pre ++ m ∷ ms) ≡ true = and_right (x.n == k) (is_numbered_from (k + 1) (pre ++ m ∷ ms)) h in
    rw (other x.n k m.n (and_left (x.n == k) (is_numbered_from (k + 1) (pre ++ m ∷ ms)) h) (later pre m ms (k + 1) rest)) (find-own pre m ms (k + 1) rest)

-- what is made of each member that is found by its number is made of itself
found-own : {B : Type 0} (h : Member → Option Member → List B) (pre ms : List Member) → is_numbered_from 1 (pre ++ ms) ≡ true →
    flat_map (λ m. h m (find (λ x. x.n == m.n) (pre ++ ms))) ms ≡ flat_map (λ m. h m (Some m)) ms
found-own h pre [] numbered = refl
found-own {B = B} h pre (m ∷ ms) numbered =
    ap (λ (o : Option Member). h m o ++ flat_map (λ x. h x (find (λ y. y.n == x.n) (pre ++ m ∷ ms))) ms) (find-own pre m ms 1 numbered)
    ∙ ap (λ (bs : List B). h m (Some m) ++ bs)
    (ap (λ (all : List Member). flat_map (λ x. h x (find (λ y. y.n == x.n) all)) ms) (sym (append_assoc pre (m ∷ []) ms))
    ∙ found-own h (pre ++ m ∷ []) ms (ap (is_numbered_from 1) (append_assoc pre (m ∷ []) ms) ∙ numbered))

pub each-own : {B : Type 0} (h : Member → Option Member → List B) (ms : List Member) → is_numbered_from 1 ms ≡ true →
    flat_map (λ m. h m (find (λ x. x.n == m.n) ms)) ms ≡ flat_map (λ m. h m (Some m)) ms
each-own h ms numbered = found-own h [] ms numbered

pub map-flat : {A B : Type 0} (f : A → B) (xs : List A) → map f xs ≡ flat_map (λ x. f x ∷ []) xs
map-flat f [] = refl
map-flat {B = B} f (x ∷ xs) = ap (λ (ys : List B). f x ∷ ys) (map-flat f xs)

-- a member to which nothing is due stays as it was
pub taken-nothing : (m : Member) → taken_on 0 m ≡ m
taken-nothing m = by (is_told 0 m)
  where
    none : (c : Bool) → (c || nat_lt 0 0) ≡ c
    none true = refl
    none false = refl

    by : (b : Bool) → cond b (record m { backlog = m.backlog + 0 }) (record m { is_cut = m.is_cut || nat_lt 0 0 }) ≡ m
    by true =
        let same : m.backlog + 0 ≡ m.backlog = omega arith in
        ap (λ (n : ℕ). record m { backlog = n }) same
    by false = ap (λ (c : Bool). record m { is_cut = c }) (none m.is_cut)

-- one member is counted, and those before and behind it stay
counted-one : (many : ℕ) (pre : List Member) (m : Member) (ms : List Member) (k : ℕ) → is_numbered_from k (pre ++ m ∷ ms) ≡ true →
    map (counted_at many m.n) (pre ++ m ∷ ms) ≡ pre ++ taken_on many m ∷ ms
counted-one many [] m ms k h =
    rw (same_number m.n) (ap (λ (xs : List Member). taken_on many m ∷ xs) (changed-below ms (k + 1) m.n (taken_on many) (and_right _ _ h) (below m.n k (and_left _ _ h))))
  where
    below : (a k : ℕ) → (a == k) ≡ true → a < k + 1
    below a k e = grind (arith, nat_tests)
counted-one many (x ∷ pre) m ms k h =
    let rest : is_numbered_from (k + 1) (pre ++ m ∷ ms) ≡ true = and_right (x.n == k) (is_numbered_from (k + 1) (pre ++ m ∷ ms)) h in
    rw (other x.n k m.n (and_left (x.n == k) (is_numbered_from (k + 1) (pre ++ m ∷ ms)) h) (later pre m ms (k + 1) rest))
    (ap (λ (xs : List Member). x ∷ xs) (counted-one many pre m ms (k + 1) rest))

-- the members keep their numbers, and stay live
pub n-taken : (many : ℕ) (m : Member) → (taken_on many m).n ≡ m.n
n-taken many m = by (is_told many m)
  where
    by : (b : Bool) → (cond b (record m { backlog = m.backlog + many }) (record m { is_cut = m.is_cut || nat_lt 0 many })).n ≡ m.n
    by true = refl
    by false = refl

pub n-counted : (many n : ℕ) (m : Member) → (counted_at many n m).n ≡ m.n
n-counted many n m = by (m.n == n)
  where
    by : (b : Bool) → (cond b (taken_on many m) m).n ≡ m.n
    by true = n-taken many m
    by false = refl

pub live-taken : (many : ℕ) (m : Member) → (taken_on many m).is_live ≡ m.is_live
live-taken many m = by (is_told many m)
  where
    by : (b : Bool) → (cond b (record m { backlog = m.backlog + many }) (record m { is_cut = m.is_cut || nat_lt 0 many })).is_live ≡ m.is_live
    by true = refl
    by false = refl

pub live-at : (many n : ℕ) (m : Member) → (counted_at many n m).is_live ≡ m.is_live
live-at many n m = by (m.n == n)
  where
    by : (b : Bool) → (cond b (taken_on many m) m).is_live ≡ m.is_live
    by true = live-taken many m
    by false = refl

-- what is due to a member, where only a live one is told anything
abbrev pub due_to_live : (Member → List Parcel) → Member → List Parcel
due_to_live to m = cond m.is_live (to m) []

-- what it is told of that
abbrev told_by : (Member → List Parcel) → Member → List Parcel
told_by to m = cond (is_told (length (due_to_live to m)) m) (due_to_live to m) []

-- the member after it
abbrev counted_by : (Member → List Parcel) → Member → Member
counted_by to m = taken_on (length (due_to_live to m)) m

-- the live ones among the members behind others are told one after another, and those before them stay
record IsEach (to : Member → List Parcel) (pre ms : List Member) : Type 0 where
  told : told_each to (live_numbers ms) (pre ++ ms) ≡ flat_map (told_by to) ms
  members : members_each to (live_numbers ms) (pre ++ ms) ≡ pre ++ map (counted_by to) ms

each : (to : Member → List Parcel) (pre ms : List Member) → is_numbered_from 1 (pre ++ ms) ≡ true → IsEach to pre ms
each to pre [] numbered = record { told = refl; members = refl }
each to pre (m ∷ ms) numbered =
    by m.is_live refl (λ live. each to (pre ++ next ∷ []) ms (numbered-left live)) (each to (pre ++ m ∷ []) ms (ap (is_numbered_from 1) (append_assoc pre (m ∷ []) ms) ∙ numbered))
  where
    all : List Member
    all = pre ++ m ∷ ms

    -- the member is found live by its number, and what is due to it is so, too
    found : m.is_live ≡ true → member_with all m.n ≡ Some m
    found live = live-found all 1 m.n numbered ∙ ap (λ (o : Option Member). option_map_or if_live o None) (find-own pre m ms 1 numbered) ∙ ap (λ (l : Bool). cond l (Some m) None) live

    due : m.is_live ≡ true → due_at to m.n all ≡ to m
    due live = ap (λ (o : Option Member). option_map_or to o []) (found live)

    one : m.is_live ≡ true → told_at to m.n all ≡ cond (is_told (length (to m)) m) (to m) []
    one live =
        ap (λ (ps : List Parcel). cond (is_told_at (length ps) m.n all) ps []) (due live)
        ∙ ap (λ (o : Option Member). cond (option_map_or (is_told (length (to m))) o false) (to m) []) (find-own pre m ms 1 numbered)

    next : Member
    next = taken_on (length (to m)) m

    left : m.is_live ≡ true → members_at to m.n all ≡ (pre ++ next ∷ []) ++ ms
    left live =
        ap (λ (ps : List Parcel). map (counted_at (length ps) m.n) all) (due live)
        ∙ counted-one (length (to m)) pre m ms 1 numbered
        ∙ sym (append_assoc pre (next ∷ []) ms)

    numbered-left : m.is_live ≡ true → is_numbered_from 1 ((pre ++ next ∷ []) ++ ms) ≡ true
    numbered-left live =
        ap (is_numbered_from 1) (sym (left live))
        ∙ numbered-map (counted_at (length (due_at to m.n all)) m.n) (n-counted (length (due_at to m.n all)) m.n) 1 all numbered

    same : (l : Bool) → m.is_live ≡ l → IsEach to (pre ++ cond l next m ∷ []) ms → IsEach to pre (m ∷ ms)
    same true live rest =
        record {
          told =
              ap (λ (l : Bool). told_each to (map (λ x. x.n) (cond l (m ∷ filter (λ x. x.is_live) ms) (filter (λ x. x.is_live) ms))) all) live
              ∙ ap (λ (ps : List Parcel). ps ++ told_each to (live_numbers ms) (members_at to m.n all)) (one live)
              ∙ ap (λ (xs : List Member). cond (is_told (length (to m)) m) (to m) [] ++ told_each to (live_numbers ms) xs) (left live)
              ∙ ap (λ (ps : List Parcel). cond (is_told (length (to m)) m) (to m) [] ++ ps) rest.told
              ∙ ap (λ (l : Bool). cond (is_told (length (cond l (to m) [])) m) (cond l (to m) []) [] ++ flat_map (told_by to) ms) (sym live);
          members =
              ap (λ (l : Bool). members_each to (map (λ x. x.n) (cond l (m ∷ filter (λ x. x.is_live) ms) (filter (λ x. x.is_live) ms))) all) live
              ∙ ap (λ (xs : List Member). members_each to (live_numbers ms) xs) (left live)
              ∙ rest.members
              ∙ append_assoc pre (next ∷ []) (map (counted_by to) ms)
              ∙ ap (λ (l : Bool). pre ++ taken_on (length (cond l (to m) [])) m ∷ map (counted_by to) ms) (sym live);
        }
    same false live rest =
        record {
          told =
              ap (λ (l : Bool). told_each to (map (λ x. x.n) (cond l (m ∷ filter (λ x. x.is_live) ms) (filter (λ x. x.is_live) ms))) all) live
              ∙ ap (λ (xs : List Member). told_each to (live_numbers ms) xs) (sym (append_assoc pre (m ∷ []) ms))
              ∙ rest.told
              ∙ nothing (is_told 0 m)
              ∙ ap (λ (l : Bool). cond (is_told (length (cond l (to m) [])) m) (cond l (to m) []) [] ++ flat_map (told_by to) ms) (sym live);
          members =
              ap (λ (l : Bool). members_each to (map (λ x. x.n) (cond l (m ∷ filter (λ x. x.is_live) ms) (filter (λ x. x.is_live) ms))) all) live
              ∙ ap (λ (xs : List Member). members_each to (live_numbers ms) xs) (sym (append_assoc pre (m ∷ []) ms))
              ∙ rest.members
              ∙ append_assoc pre (m ∷ []) (map (counted_by to) ms)
              ∙ ap (λ (x : Member). pre ++ x ∷ map (counted_by to) ms) (sym (taken-nothing m))
              ∙ ap (λ (l : Bool). pre ++ taken_on (length (cond l (to m) [])) m ∷ map (counted_by to) ms) (sym live);
        }
      where
        nothing : (b : Bool) → flat_map (told_by to) ms ≡ cond b [] [] ++ flat_map (told_by to) ms
        nothing true = refl
        nothing false = refl

    by : (l : Bool) → m.is_live ≡ l → (m.is_live ≡ true → IsEach to (pre ++ next ∷ []) ms) → IsEach to (pre ++ m ∷ []) ms → IsEach to pre (m ∷ ms)
    by true live told passed = same true live (told live)
    by false live told passed = same false live passed

-- the parcels that are due to a member are to it
abbrev pub AreOwn : (Member → List Parcel) → Type 0
AreOwn to = (m : Member) (k : ℕ) → sent_to k (to m) ≡ cond (m.n == k) (to m) []

-- all that is due, by ascending number
abbrev pub due_to_all : (Member → List Parcel) → List Member → List Parcel
due_to_all to ms = flat_map (due_to_live to) ms

-- of all that is due, what is due to the member with this number
pub sent-due : (to : Member → List Parcel) → AreOwn to → (n k : ℕ) (ms : List Member) → is_numbered_from k ms ≡ true → sent_to n (due_to_all to ms) ≡ due_at to n ms
sent-due to own n k [] h = refl
sent-due to own n k (m ∷ ms) h =
    filter-append (λ p. p.n == n) (due_to_live to m) (due_to_all to ms)
    ∙ ap (λ (ps : List Parcel). sent_to n (due_to_live to m) ++ ps) (sent-due to own n (k + 1) ms (and_right _ _ h))
    ∙ live m.is_live
  where
    reached : (a k n : ℕ) → (a == k) ≡ true → (a == n) ≡ true → n < k + 1
    reached a k n e same = grind (arith, nat_tests)

    gone : (m.n == n) ≡ true → member_with ms n ≡ None
    gone same = found-below ms (k + 1) n (and_right (m.n == k) (is_numbered_from (k + 1) ms) h) (reached m.n k n (and_left (m.n == k) (is_numbered_from (k + 1) ms) h) same)

    here : (b : Bool) → (m.n == n) ≡ b → cond b (to m) [] ++ due_at to n ms ≡ option_map_or to (cond (b && true) (Some m) (member_with ms n)) []
    here true same = ap (λ (o : Option Member). to m ++ option_map_or to o []) (gone same) ∙ append-nil (to m)
    here false same = refl

    away : (b : Bool) → due_at to n ms ≡ option_map_or to (cond (b && false) (Some m) (member_with ms n)) []
    away true = refl
    away false = refl

    live : (l : Bool) → sent_to n (cond l (to m) []) ++ due_at to n ms ≡ option_map_or to (cond (m.n == n && l) (Some m) (member_with ms n)) []
    live true = ap (λ (ps : List Parcel). ps ++ due_at to n ms) (own m n) ∙ here (m.n == n) refl
    live false = away (m.n == n)

-- of all that is due, what is due to a member that is found
abbrev due_found : (Member → List Parcel) → Option Member → List Parcel
due_found to o = option_map_or to (option_map_or if_live o None) []

sent-found : (to : Member → List Parcel) → AreOwn to → (ms : List Member) → is_numbered_from 1 ms ≡ true → (n : ℕ) →
    sent_to n (due_to_all to ms) ≡ due_found to (find (λ x. x.n == n) ms)
sent-found to own ms h n = sent-due to own n 1 ms h ∙ ap (λ (o : Option Member). option_map_or to o []) (live-found ms 1 n h)

found-live : (to : Member → List Parcel) (m : Member) → due_found to (Some m) ≡ due_to_live to m
found-live to m = by m.is_live
  where
    by : (l : Bool) → option_map_or to (cond l (Some m) None) [] ≡ cond l (to m) []
    by true = refl
    by false = refl

-- what is made of a member and of what is due to it, of all that is due
sent-each : {B : Type 0} (h : Member → List Parcel → List B) (to : Member → List Parcel) → AreOwn to → (ms : List Member) → is_numbered_from 1 ms ≡ true →
    flat_map (λ m. h m (sent_to m.n (due_to_all to ms))) ms ≡ flat_map (λ m. h m (due_to_live to m)) ms
sent-each h to own ms numbered =
    flat_map-same (λ m. h m (sent_to m.n (due_to_all to ms))) (λ m. h m (due_found to (find (λ x. x.n == m.n) ms))) (λ m. ap (h m) (sent-found to own ms numbered m.n)) ms
    ∙ each-own (λ m o. h m (due_found to o)) ms numbered
    ∙ flat_map-same (λ m. h m (due_found to (Some m))) (λ m. h m (due_to_live to m)) (λ m. ap (h m) (found-live to m)) ms

-- the live members, told one after another, are told what all are told of all that is due
pub told-each : (to : Member → List Parcel) → AreOwn to → (ms : List Member) → is_numbered_from 1 ms ≡ true →
    told_each to (live_numbers ms) ms ≡ told_of_all (due_to_all to ms) ms
told-each to own ms numbered =
    (each to [] ms numbered).told
    ∙ sym (sent-each (λ m ps. cond (is_told (length ps) m) ps []) to own ms numbered)

-- and are counted so
pub members-each : (to : Member → List Parcel) → AreOwn to → (ms : List Member) → is_numbered_from 1 ms ≡ true →
    members_each to (live_numbers ms) ms ≡ map (counted_of (due_to_all to ms)) ms
members-each to own ms numbered =
    (each to [] ms numbered).members
    ∙ map-flat (counted_by to) ms
    ∙ sym (sent-each (λ m ps. taken_on (length ps) m ∷ []) to own ms numbered)
    ∙ sym (map-flat (counted_of (due_to_all to ms)) ms)

-- whoever is cut stays as it was, whatever is due to it
taken-cut : (many : ℕ) (m : Member) → m.is_cut ≡ true → taken_on many m ≡ m
taken-cut many m cut = by m.is_cut cut refl
  where
    by : (c : Bool) → c ≡ true → c ≡ m.is_cut → cond (not c && nat_le (m.backlog + many) 1024) (record m { backlog = m.backlog + many }) (record m { is_cut = c || nat_lt 0 many }) ≡ m
    by true e is = ap (λ (b : Bool). record m { is_cut = b }) is
    by false e is = cc

pub members-cut : (many n k : ℕ) (ms : List Member) → is_numbered_from k ms ≡ true → option_map_or (λ m. m.is_cut) (find (λ m. m.n == n) ms) false ≡ true → map (counted_at many n) ms ≡ ms
members-cut many n k [] h cut = refl
members-cut many n k (m ∷ ms) h cut = by (m.n == n) refl cut (members-cut many n (k + 1) ms (and_right _ _ h))
  where
    below : (a k n : ℕ) → (a == k) ≡ true → (a == n) ≡ true → n < k + 1
    below a k n e same = grind (arith, nat_tests)

    by : (b : Bool) → (m.n == n) ≡ b → option_map_or (λ m. m.is_cut) (cond b (Some m) (find (λ x. x.n == n) ms)) false ≡ true →
        (option_map_or (λ m. m.is_cut) (find (λ x. x.n == n) ms) false ≡ true → map (counted_at many n) ms ≡ ms) → cond b (taken_on many m) m ∷ map (counted_at many n) ms ≡ m ∷ ms
    by true same cut rest =
        ap (λ (x : Member). x ∷ map (counted_at many n) ms) (taken-cut many m cut)
        ∙ ap (λ (xs : List Member). m ∷ xs) (changed-below ms (k + 1) n (taken_on many) (and_right _ _ h) (below m.n k n (and_left _ _ h) same))
    by false other cut rest = ap (λ (xs : List Member). m ∷ xs) (rest cut)

-- and is told nothing
pub told-cut : (to : Member → List Parcel) (n : ℕ) (ms : List Member) → option_map_or (λ m. m.is_cut) (find (λ m. m.n == n) ms) false ≡ true → told_at to n ms ≡ []
told-cut to n ms cut = by (find (λ m. m.n == n) ms) cut
  where
    by : (o : Option Member) → option_map_or (λ m. m.is_cut) o false ≡ true → cond (option_map_or (is_told (length (due_at to n ms))) o false) (due_at to n ms) [] ≡ []
    by None cut = cc
    by (Some m) cut = rw cut refl

-- the live members stay the same, however they are counted
pub live-counted : (f : Member → Member) → ((m : Member) → (f m).n ≡ m.n) → ((m : Member) → (f m).is_live ≡ m.is_live) → (ms : List Member) → live_numbers (map f ms) ≡ live_numbers ms
live-counted f number live [] = refl
live-counted f number live (m ∷ ms) =
    ap (λ (l : Bool). map (λ x. x.n) (cond l (f m ∷ filter (λ x. x.is_live) (map f ms)) (filter (λ x. x.is_live) (map f ms)))) (live m) ∙ by m.is_live (live-counted f number live ms)
  where
    by : (l : Bool) → live_numbers (map f ms) ≡ live_numbers ms → map (λ x. x.n) (cond l (f m ∷ filter (λ x. x.is_live) (map f ms)) (filter (λ x. x.is_live) (map f ms))) ≡ map (λ x. x.n) (cond l (m ∷ filter (λ x. x.is_live) ms) (filter (λ x. x.is_live) ms))
    by true rest = ap (λ (n : ℕ). n ∷ live_numbers (map f ms)) (number m) ∙ ap (λ (ns : List ℕ). m.n ∷ ns) rest
    by false rest = rest
