-- The members that are live, and where a member stands.
use Rattle.std.proofs.Common.{◌≡◌, ℕ, ◌+◌, ◌-◌, ◌<◌, ◌≤◌, Bool, true, false, cond, zero, suc, List, [], ◌∷◌, ◌++◌, length, get_or, set, map, Option, Some, None, refl, sym, ap, subst, ◌∙◌, arith}
use Rattle.std.specs.Prelude.{◌==◌, ◌&&◌, ◌||◌, not, nat_le, filter, find, count_by, if◌then◌else◌}
use Rattle.std.specs.List.{list_any, flat_map, position_or_len}
use Rattle.std.specs.Option.{option_map_or}
use Rattle.std.proofs.Math.Numerals.{one-add}
use Rattle.std.proofs.lemmas.Bool.Decides.{nat_tests}
use Rattle.std.proofs.lemmas.List.{length-map}
use Rattle.std.proofs.lemmas.List.Sums.{length-filter}
use Rattle.floor_machine.specs.declared.member.Member.{Member}
use Rattle.floor_machine.specs.Conference.{is_numbered_from, live_numbers, member_with}
use Rattle.floor_machine.specs.Change.{leaving, watching}
use Rattle.floor_machine.proofs.Found.{and_left, and_right, same_number}

-- members that keep their numbers stay numbered
pub numbered-map : (f : Member → Member) → ((m : Member) → (f m).n ≡ m.n) → (k : ℕ) (ms : List Member) → is_numbered_from k ms ≡ true → is_numbered_from k (map f ms) ≡ true
numbered-map f same k [] h = refl
numbered-map f same k (m ∷ ms) h =
    rw (same m, and_left (m.n == k) (is_numbered_from (k + 1) ms) h) (numbered-map f same (k + 1) ms (and_right (m.n == k) (is_numbered_from (k + 1) ms) h))

-- nobody of those from k on has a number below k
pub place-below : (ms : List Member) (k n : ℕ) → is_numbered_from k ms ≡ true → n < k → position_or_len (λ m. m.n == n) ms ≡ length ms
place-below [] k n h below = refl
place-below (m ∷ ms) k n h below =
    rw (differs m.n k n (and_left (m.n == k) (is_numbered_from (k + 1) ms) h) below, place-below ms (k + 1) n (and_right (m.n == k) (is_numbered_from (k + 1) ms) h) (omega (arith, below))) (one-add (length ms))
  where
    differs : (a k n : ℕ) → (a == k) ≡ true → n < k → (a == n) ≡ false
    differs a k n e l = grind (arith, nat_tests)

-- nor one beyond the last
pub place-beyond : (ms : List Member) (k n : ℕ) → is_numbered_from k ms ≡ true → k + length ms ≤ n → position_or_len (λ m. m.n == n) ms ≡ length ms
place-beyond [] k n h beyond = refl
place-beyond (m ∷ ms) k n h beyond =
    rw (differs m.n k n (and_left (m.n == k) (is_numbered_from (k + 1) ms) h) (omega (arith, beyond)), place-beyond ms (k + 1) n (and_right (m.n == k) (is_numbered_from (k + 1) ms) h) (omega (arith, beyond))) (one-add (length ms))
  where
    differs : (a k n : ℕ) → (a == k) ≡ true → k < n → (a == n) ≡ false
    differs a k n e l = grind (arith, nat_tests)

-- each of the others stands where its number says
pub place-within : (ms : List Member) (k n i : ℕ) → is_numbered_from k ms ≡ true → n ≡ k + i → i < length ms → position_or_len (λ m. m.n == n) ms ≡ i
place-within [] k n i h e within = absurd (omega (arith, within))
place-within (m ∷ ms) k n zero h e within = rw (first m.n k n (and_left (m.n == k) (is_numbered_from (k + 1) ms) h) e) refl
  where
    first : (a k n : ℕ) → (a == k) ≡ true → n ≡ k + 0 → (a == n) ≡ true
    first a k n t e = grind (arith, nat_tests)
place-within (m ∷ ms) k n (suc i) h e within =
    rw (differs m.n k n i (and_left (m.n == k) (is_numbered_from (k + 1) ms) h) e, place-within ms (k + 1) n i (and_right (m.n == k) (is_numbered_from (k + 1) ms) h) (omega (arith, e)) (omega (arith, within))) (one-add i)
  where
    differs : (a k n i : ℕ) → (a == k) ≡ true → n ≡ k + suc i → (a == n) ≡ false
    differs a k n i t e = grind (arith, nat_tests)

-- the member with this number after g, and any other as it is
abbrev pub changed_at : ℕ → (Member → Member) → Member → Member
changed_at n g m = if m.n == n then g m else m

pub changed-below : (ms : List Member) (k n : ℕ) (g : Member → Member) → is_numbered_from k ms ≡ true → n < k → map (changed_at n g) ms ≡ ms
changed-below [] k n g h below = refl
changed-below (m ∷ ms) k n g h below =
    rw (differs m.n k n (and_left (m.n == k) (is_numbered_from (k + 1) ms) h) below) (ap (λ (ms : List Member). m ∷ ms) (changed-below ms (k + 1) n g (and_right _ _ h) (omega (arith, below))))
  where
    differs : (a k n : ℕ) → (a == k) ≡ true → n < k → (a == n) ≡ false
    differs a k n e l = grind (arith, nat_tests)

-- a member is changed at its place
pub set-place : (k n : ℕ) (g : Member → Member) (ms : List Member) (d : Member) → is_numbered_from k ms ≡ true → position_or_len (λ m. m.n == n) ms < length ms →
    set ms (position_or_len (λ m. m.n == n) ms) (g (get_or ms (position_or_len (λ m. m.n == n) ms) d)) ≡ map (changed_at n g) ms
set-place k n g [] d h within = absurd (omega (arith, within))
set-place k n g (m ∷ ms) d h within = by (m.n == n) refl (set-place (k + 1) n g ms d (and_right _ _ h)) within
  where
    at : ℕ
    at = position_or_len (λ (m : Member). m.n == n) ms

    lower : (a k n : ℕ) → (a == k) ≡ true → (a == n) ≡ true → n < k + 1
    lower a k n e t = grind (arith, nat_tests)

    by : (b : Bool) → (m.n == n) ≡ b → (at < length ms → set ms at (g (get_or ms at d)) ≡ map (changed_at n g) ms) → cond (not b) (1 + at) 0 < length (m ∷ ms) →
        set (m ∷ ms) (cond (not b) (1 + at) 0) (g (get_or (m ∷ ms) (cond (not b) (1 + at) 0) d)) ≡ (if b then g m else m) ∷ map (changed_at n g) ms
    by true e rest l = ap (λ (ys : List Member). g m ∷ ys) (sym (changed-below ms (k + 1) n g (and_right _ _ h) (lower m.n k n (and_left _ _ h) e)))
    by false e rest l = rw (one-add at) (ap (λ (ys : List Member). m ∷ ys) (rest (omega (arith, l))))

pub changed-there : (n place : ℕ) (g : Member → Member) (ms : List Member) (m : Member) → is_numbered_from 1 ms ≡ true → place ≡ position_or_len (λ m. m.n == n) ms → place < length ms → m ≡ get_or ms place m →
    set ms place (g m) ≡ map (changed_at n g) ms
changed-there n place g ms m h is within found =
    ap (λ (x : Member). set ms place (g x)) found
    ∙ subst (λ i. set ms i (g (get_or ms i m)) ≡ map (changed_at n g) ms) (sym is) (set-place 1 n g ms m h (omega (arith, is, within)))

-- the member with a number is found where it stands
pub found-there : (n place : ℕ) (ms : List Member) (m : Member) → place ≡ position_or_len (λ m. m.n == n) ms → place < length ms → m ≡ get_or ms place m → find (λ m. m.n == n) ms ≡ Some m
found-there n place [] m is within found = absurd (omega (arith, within))
found-there n place (x ∷ ms) m is within found = by (x.n == n) place (found-there n (place - 1) ms m) is within found
  where
    at : ℕ
    at = position_or_len (λ (m : Member). m.n == n) ms

    by : (b : Bool) (place : ℕ) → (place - 1 ≡ at → place - 1 < length ms → m ≡ get_or ms (place - 1) m → find (λ m. m.n == n) ms ≡ Some m) → place ≡ cond (not b) (1 + at) 0 →
        place < length (x ∷ ms) → m ≡ get_or (x ∷ ms) place m → cond b (Some x) (find (λ m. m.n == n) ms) ≡ Some m
    by true zero rest is within found = ap (λ (y : Member). Some y) (sym found)
    by true (suc k) rest is within found = absurd (omega (arith, is))
    by false zero rest is within found = absurd (omega (arith, is))
    by false (suc k) rest is within found =
        let back : suc k - 1 ≡ k = omega arith in
        rest (omega (arith, is)) (omega (arith, within)) (found ∙ ap (λ (i : ℕ). get_or ms i m) (sym back))

-- where no member has the number, none is found
pub none-found : (n : ℕ) (ms : List Member) → length ms ≤ position_or_len (λ m. m.n == n) ms → find (λ m. m.n == n) ms ≡ None
none-found n [] h = refl
none-found n (m ∷ ms) h = by (m.n == n) (none-found n ms) h
  where
    at : ℕ
    at = position_or_len (λ (m : Member). m.n == n) ms

    by : (b : Bool) → (length ms ≤ at → find (λ m. m.n == n) ms ≡ None) → length (m ∷ ms) ≤ cond (not b) (1 + at) 0 → cond b (Some m) (find (λ m. m.n == n) ms) ≡ None
    by true rest l = absurd (omega (arith, l))
    by false rest l = rest (omega (arith, l))

-- where no member has the number, none changes
pub none-changed : (n : ℕ) (g : Member → Member) (ms : List Member) → length ms ≤ position_or_len (λ m. m.n == n) ms → map (changed_at n g) ms ≡ ms
none-changed n g [] h = refl
none-changed n g (m ∷ ms) h = by (m.n == n) (none-changed n g ms) h
  where
    at : ℕ
    at = position_or_len (λ (m : Member). m.n == n) ms

    by : (b : Bool) → (length ms ≤ at → map (changed_at n g) ms ≡ ms) → length (m ∷ ms) ≤ cond (not b) (1 + at) 0 → (if b then g m else m) ∷ map (changed_at n g) ms ≡ m ∷ ms
    by true rest l = absurd (omega (arith, l))
    by false rest l = ap (λ (ys : List Member). m ∷ ys) (rest (omega (arith, l)))

-- no number is another member's, so that the one that has it is live or nobody with it is
pub found-below : (ms : List Member) (k n : ℕ) → is_numbered_from k ms ≡ true → n < k → member_with ms n ≡ None
found-below [] k n h below = refl
found-below (m ∷ ms) k n h below =
    rw (differs m.n k n (and_left (m.n == k) (is_numbered_from (k + 1) ms) h) below) (found-below ms (k + 1) n (and_right _ _ h) (omega (arith, below)))
  where
    differs : (a k n : ℕ) → (a == k) ≡ true → n < k → (a == n) ≡ false
    differs a k n e l = grind (arith, nat_tests)

-- the member, if it is live
abbrev pub if_live : Member → Option Member
if_live m = if m.is_live then Some m else None

pub live-found : (ms : List Member) (k n : ℕ) → is_numbered_from k ms ≡ true → member_with ms n ≡ option_map_or if_live (find (λ m. m.n == n) ms) None
live-found [] k n h = refl
live-found (m ∷ ms) k n h = by (m.n == n) refl (live-found ms (k + 1) n (and_right _ _ h))
  where
    lower : (a k n : ℕ) → (a == k) ≡ true → (a == n) ≡ true → n < k + 1
    lower a k n e t = grind (arith, nat_tests)

    here : (l : Bool) → member_with ms n ≡ None → cond l (Some m) (member_with ms n) ≡ cond l (Some m) None
    here true none = refl
    here false none = none

    by : (b : Bool) → (m.n == n) ≡ b → member_with ms n ≡ option_map_or if_live (find (λ m. m.n == n) ms) None →
        cond (b && m.is_live) (Some m) (member_with ms n) ≡ option_map_or if_live (cond b (Some m) (find (λ m. m.n == n) ms)) None
    by true e rest = here m.is_live (found-below ms (k + 1) n (and_right _ _ h) (lower m.n k n (and_left _ _ h) e))
    by false e rest = rest

-- the first of the members from k on is found by its number, if it is live, and the others are found behind it
record IsAhead (all : List Member) (m : Member) (ms : List Member) (k : ℕ) : Type 0 where
  live : m.is_live ≡ true → member_with all m.n ≡ Some m
  rest : (n : ℕ) → nat_le (k + 1) n ≡ true → member_with all n ≡ member_with ms n

ahead : (all : List Member) (m : Member) (ms : List Member) (k : ℕ) → is_numbered_from k (m ∷ ms) ≡ true →
    ((n : ℕ) → nat_le k n ≡ true → member_with all n ≡ member_with (m ∷ ms) n) → IsAhead all m ms k
ahead all m ms k h same =
    record {
      live = λ l. same m.n (least m.n k (and_left _ _ h)) ∙ own (m.n == m.n) m.is_live (same_number m.n) l;
      rest = λ n l. same n (nearer k n l) ∙ passed (m.n == n) m.is_live (other m.n k n (and_left _ _ h) l) n;
    }
  where
    least : (a k : ℕ) → (a == k) ≡ true → nat_le k a ≡ true
    least a k e = grind (arith, nat_tests)

    nearer : (k n : ℕ) → nat_le (k + 1) n ≡ true → nat_le k n ≡ true
    nearer k n l = grind (arith, nat_tests)

    other : (a k n : ℕ) → (a == k) ≡ true → nat_le (k + 1) n ≡ true → (a == n) ≡ false
    other a k n e l = grind (arith, nat_tests)

    own : (b l : Bool) → b ≡ true → l ≡ true → cond (b && l) (Some m) (member_with ms m.n) ≡ Some m
    own b l e f = rw (e, f) refl

    passed : (b l : Bool) → b ≡ false → (n : ℕ) → cond (b && l) (Some m) (member_with ms n) ≡ member_with ms n
    passed b l e n = rw e refl

-- what is made of the live members, each looked up by its number
each-found : {B : Type 0} (g : Member → List B) (all ms : List Member) (k : ℕ) → is_numbered_from k ms ≡ true →
    ((n : ℕ) → nat_le k n ≡ true → member_with all n ≡ member_with ms n) →
    flat_map (λ n. option_map_or g (member_with all n) []) (live_numbers ms) ≡ flat_map (λ m. if m.is_live then g m else []) ms
each-found g all [] k h same = refl
each-found {B = B} g all (m ∷ ms) k h same =
    let a : IsAhead all m ms k = ahead all m ms k h same in
    by m.is_live a.live (each-found g all ms (k + 1) (and_right _ _ h) a.rest)
  where
    by : (l : Bool) → (l ≡ true → member_with all m.n ≡ Some m) →
        flat_map (λ n. option_map_or g (member_with all n) []) (live_numbers ms) ≡ flat_map (λ m. if m.is_live then g m else []) ms →
        flat_map (λ n. option_map_or g (member_with all n) []) (map (λ m. m.n) (cond l (m ∷ filter (λ m. m.is_live) ms) (filter (λ m. m.is_live) ms)))
        ≡ cond l (g m) [] ++ flat_map (λ m. if m.is_live then g m else []) ms
    by true e rest =
        ap (λ (o : Option Member). option_map_or g o [] ++ flat_map (λ n. option_map_or g (member_with all n) []) (live_numbers ms)) (e refl)
        ∙ ap (λ (bs : List B). g m ++ bs) rest
    by false e rest = rest

pub each-live : {B : Type 0} (g : Member → List B) (ms : List Member) → is_numbered_from 1 ms ≡ true →
    flat_map (λ n. option_map_or g (member_with ms n) []) (live_numbers ms) ≡ flat_map (λ m. if m.is_live then g m else []) ms
each-live g ms h = each-found g ms ms 1 h (λ n l. refl)

-- whether one of the live members passes, each looked up by its number
any-found : (p : Member → Bool) (all ms : List Member) (k : ℕ) → is_numbered_from k ms ≡ true →
    ((n : ℕ) → nat_le k n ≡ true → member_with all n ≡ member_with ms n) →
    list_any (λ n. option_map_or p (member_with all n) false) (live_numbers ms) ≡ list_any (λ m. m.is_live && p m) ms
any-found p all [] k h same = refl
any-found p all (m ∷ ms) k h same =
    let a : IsAhead all m ms k = ahead all m ms k h same in
    by m.is_live a.live (any-found p all ms (k + 1) (and_right _ _ h) a.rest)
  where
    by : (l : Bool) → (l ≡ true → member_with all m.n ≡ Some m) →
        list_any (λ n. option_map_or p (member_with all n) false) (live_numbers ms) ≡ list_any (λ m. m.is_live && p m) ms →
        list_any (λ n. option_map_or p (member_with all n) false) (map (λ m. m.n) (cond l (m ∷ filter (λ m. m.is_live) ms) (filter (λ m. m.is_live) ms)))
        ≡ ((l && p m) || list_any (λ m. m.is_live && p m) ms)
    by true e rest =
        ap (λ (o : Option Member). option_map_or p o false || list_any (λ n. option_map_or p (member_with all n) false) (live_numbers ms)) (e refl)
        ∙ ap (λ (b : Bool). p m || b) rest
    by false e rest = rest

pub any-live : (p : Member → Bool) (ms : List Member) → is_numbered_from 1 ms ≡ true →
    list_any (λ n. option_map_or p (member_with ms n) false) (live_numbers ms) ≡ list_any (λ m. m.is_live && p m) ms
any-live p ms h = any-found p ms ms 1 h (λ n l. refl)

-- tests that agree find the same
pub any-same : (p q : Member → Bool) → ((m : Member) → p m ≡ q m) → (ms : List Member) → list_any p ms ≡ list_any q ms
any-same p q same [] = refl
any-same p q same (m ∷ ms) = ap (λ (b : Bool). b || list_any p ms) (same m) ∙ ap (λ (b : Bool). q m || b) (any-same p q same ms)

-- how many are live
pub live-count : (ms : List Member) → length (live_numbers ms) ≡ count_by (λ m. m.is_live) ms
live-count ms = length-map (filter (λ m. m.is_live) ms) (λ m. m.n) ∙ length-filter (λ m. m.is_live) ms

-- who joins is the last of the live ones
pub live-push : (ms : List Member) (m : Member) → m.is_live ≡ true → live_numbers (ms ++ m ∷ []) ≡ live_numbers ms ++ m.n ∷ []
live-push [] m h = rw h refl
live-push (x ∷ ms) m h = by x.is_live (live-push ms m h)
  where
    by : (l : Bool) → live_numbers (ms ++ m ∷ []) ≡ live_numbers ms ++ m.n ∷ [] →
        map (λ m. m.n) (cond l (x ∷ filter (λ m. m.is_live) (ms ++ m ∷ [])) (filter (λ m. m.is_live) (ms ++ m ∷ [])))
        ≡ map (λ m. m.n) (cond l (x ∷ filter (λ m. m.is_live) ms) (filter (λ m. m.is_live) ms)) ++ m.n ∷ []
    by true e = ap (λ (ns : List ℕ). x.n ∷ ns) e
    by false e = e

-- who watches other floors is live as before
pub live-watching : (n : ℕ) (floors : List ℕ) (ms : List Member) → live_numbers (map (watching n floors) ms) ≡ live_numbers ms
live-watching n floors [] = refl
live-watching n floors (m ∷ ms) = by (m.n == n) (live-watching n floors ms)
  where
    tail : (x : Member) → x.n ≡ m.n → (l : Bool) → live_numbers (map (watching n floors) ms) ≡ live_numbers ms →
        map (λ m. m.n) (cond l (x ∷ filter (λ m. m.is_live) (map (watching n floors) ms)) (filter (λ m. m.is_live) (map (watching n floors) ms)))
        ≡ map (λ m. m.n) (cond l (m ∷ filter (λ m. m.is_live) ms) (filter (λ m. m.is_live) ms))
    tail x same true e = ap (λ (k : ℕ). k ∷ live_numbers (map (watching n floors) ms)) same ∙ ap (λ (ns : List ℕ). m.n ∷ ns) e
    tail x same false e = e

    by : (b : Bool) → live_numbers (map (watching n floors) ms) ≡ live_numbers ms →
        live_numbers (cond b (record m { watched = floors }) m ∷ map (watching n floors) ms) ≡ live_numbers (m ∷ ms)
    by true e = tail (record m { watched = floors }) refl m.is_live e
    by false e = tail m refl m.is_live e

-- who leaves is the only one that isn't live any more
pub live-leaving : (n : ℕ) (ms : List Member) → live_numbers (map (leaving n) ms) ≡ filter (λ k. not (k == n)) (live_numbers ms)
live-leaving n [] = refl
live-leaving n (m ∷ ms) = by (m.n == n) refl (live-leaving n ms)
  where
    gone : (l : Bool) → (m.n == n) ≡ true →
        filter (λ k. not (k == n)) (live_numbers ms) ≡ filter (λ k. not (k == n)) (map (λ m. m.n) (cond l (m ∷ filter (λ m. m.is_live) ms) (filter (λ m. m.is_live) ms)))
    gone true e = rw e refl
    gone false e = refl

    stays : (l : Bool) → (m.n == n) ≡ false → live_numbers (map (leaving n) ms) ≡ filter (λ k. not (k == n)) (live_numbers ms) →
        map (λ m. m.n) (cond l (m ∷ filter (λ m. m.is_live) (map (leaving n) ms)) (filter (λ m. m.is_live) (map (leaving n) ms)))
        ≡ filter (λ k. not (k == n)) (map (λ m. m.n) (cond l (m ∷ filter (λ m. m.is_live) ms) (filter (λ m. m.is_live) ms)))
    stays true e h = rw e (ap (λ (ns : List ℕ). m.n ∷ ns) h)
    stays false e h = h

    by : (b : Bool) → (m.n == n) ≡ b → live_numbers (map (leaving n) ms) ≡ filter (λ k. not (k == n)) (live_numbers ms) →
        live_numbers (cond b (record m { is_live = false }) m ∷ map (leaving n) ms)
        ≡ filter (λ k. not (k == n)) (map (λ m. m.n) (cond m.is_live (m ∷ filter (λ m. m.is_live) ms) (filter (λ m. m.is_live) ms)))
    by true e h = h ∙ gone m.is_live e
    by false e h = stays m.is_live e h
