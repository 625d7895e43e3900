-- What the marks of an event note of the requests that it left alone.
use Rattle.std.proofs.Common.{◌≡◌, ℕ, ◌+◌, Bool, true, false, cond, List, [], ◌∷◌, ◌++◌, map, Option, Some, None, refl, sym, ap, subst, ◌∙◌, arith, append_assoc, append-nil}
use Rattle.std.specs.Prelude.{◌==◌, ◌&&◌, ◌||◌, not, nat_lt, count_by, filter, option_map, All, IsSome}
use Rattle.std.specs.List.{flat_map, list_all, list_any}
use Rattle.std.specs.Option.{option_map_or}
use Rattle.std.proofs.lemmas.Bool.{eqb-true}
use Rattle.std.proofs.lemmas.Bool.Decides.{nat_tests}
use Rattle.std.proofs.lemmas.List.Elements.{All-head, All-tail}
use Rattle.std.proofs.lemmas.List.Sums.{sum_by-cons}
use Rattle.floor_config.specs.Configuration.{Configuration}
use Rattle.floor_config.specs.declared.floors.Floor.{Floor}
use Rattle.floor_queue.specs.declared.request.Request.{Request}
use Rattle.floor_queue.specs.declared.requested_floor.RequestedFloor.{RequestedFloor}
use Rattle.floor_queue.specs.Order.{ahead, due_numbers, earlier, earlier_by_priority, granted_if, is_chaired, is_due, is_express, names, settle, waits}
use Rattle.floor_queue.specs.Queue.{is_ascending, request_at, with_reason, without}
use Rattle.floor_queue.specs.Requested.{is_granting}
use Rattle.floor_message.specs.declared.verdicts.Verdict.{Verdict}
use Rattle.floor_message.specs.Status.{status_number}
use Rattle.floor_machine.specs.declared.marks.Mark.{Mark}
use Rattle.floor_machine.specs.Change.{decided, decided_at}
use Rattle.floor_machine.specs.Shown.{entry_of, floor_shown, floor_status, info, overall_status}
use Rattle.floor_machine.specs.steps.Marks.{AreNoted, KeepsNoted, concerns, is_before, is_marked, is_noted, has_granting_chair, mark_of, marks_at, marks_waiting, precedes, waiting_mark}
use Rattle.floor_machine.specs.steps.Telling.{info_with}
use Rattle.floor_queue.proofs.Reasons.{ahead_same}
use Rattle.floor_machine.proofs.Found.{and_left, and_right, or_right, request_at_place, same_number}
use Rattle.floor_machine.proofs.Shows.{info_with-ongoing}

-- of two lists of which none passes, none of the first and none of the second does
pub none-first : {A : Type 0} (p : A → Bool) (xs ys : List A) → list_any p (xs ++ ys) ≡ false → list_any p xs ≡ false
none-first p [] ys h = refl
none-first p (x ∷ xs) ys h = by (p x) h (none-first p xs ys)
  where
    by : (b : Bool) → (b || list_any p (xs ++ ys)) ≡ false → (list_any p (xs ++ ys) ≡ false → list_any p xs ≡ false) → (b || list_any p xs) ≡ false
    by true h rest = h
    by false h rest = rest h

pub none-second : {A : Type 0} (p : A → Bool) (xs ys : List A) → list_any p (xs ++ ys) ≡ false → list_any p ys ≡ false
none-second p [] ys h = h
none-second p (x ∷ xs) ys h = none-second p xs ys (or_false (p x) _ h)
  where
    or_false : (a b : Bool) → (a || b) ≡ false → b ≡ false
    or_false true b h = absurd (let clash : true ≡ false = h in cc)
    or_false false b h = h

or_left_false : (a b : Bool) → (a || b) ≡ false → a ≡ false
or_left_false true b h = h
or_left_false false b h = refl

or_right_false : (a b : Bool) → (a || b) ≡ false → b ≡ false
or_right_false true b h = absurd (let clash : true ≡ false = h in cc)
or_right_false false b h = h

-- of floors of which some is chaired, and each chaired one has the word Granted, some has it
granting-in : (floors : List Floor) (fs : List RequestedFloor) → list_any (λ f. is_chaired floors f.floor) fs ≡ true →
    list_all (λ f. not (is_chaired floors f.floor) || is_granting f.word) fs ≡ true → list_any (λ f. is_granting f.word) fs ≡ true
granting-in floors [] h k = h
granting-in floors (f ∷ fs) h k = by (is_chaired floors f.floor) (is_granting f.word) h (and_left _ _ k) (λ any. granting-in floors fs any (and_right _ _ k))
  where
    by : (b g : Bool) → (b || list_any (λ x. is_chaired floors x.floor) fs) ≡ true → (not b || g) ≡ true →
        (list_any (λ x. is_chaired floors x.floor) fs ≡ true → list_any (λ x. is_granting x.word) fs ≡ true) → (g || list_any (λ x. is_granting x.word) fs) ≡ true
    by b true h k rest = refl
    by true false h k rest = cc
    by false false h k rest = rest h

-- an express request has a word Granted
granting-express : (floors : List Floor) (q : Request) → is_express floors q ≡ true → has_granting_chair q ≡ true
granting-express floors q h = granting-in floors q.floors (and_left _ _ h) (and_right _ _ h)

-- a request that is earlier has a word Granted, or is before the other
earlier-before : (floors : List Floor) (q r : Request) → earlier floors q r ≡ true → (has_granting_chair q || is_before (mark_of q) r) ≡ true
earlier-before floors q r h = by (is_express floors q) (is_express floors r) refl h
  where
    either : (a b : Bool) → a ≡ true → (a || b) ≡ true
    either true b h = refl
    either false b h = cc

    by : (b d : Bool) → is_express floors q ≡ b →
        cond b (cond d (earlier_by_priority q r) true) (cond d false (earlier_by_priority q r)) ≡ true → (has_granting_chair q || is_before (mark_of q) r) ≡ true
    by true d e h = either (has_granting_chair q) _ (granting-express floors q e)
    by false true e h = cc
    by false false e h = or_right (has_granting_chair q) _ h

-- where two requests name a floor, the one names a floor of the other
names-shared : (r : Request) (floor : ℕ) (fs : List RequestedFloor) → names r floor ≡ true → list_any (λ f. f.floor == floor) fs ≡ true →
    list_any (names r) (map (λ (f : RequestedFloor). f.floor) fs) ≡ true
names-shared r floor [] h k = k
names-shared r floor (f ∷ fs) h k = by (f.floor == floor) refl k (names-shared r floor fs h)
  where
    own : f.floor ≡ floor → (names r f.floor || list_any (names r) (map (λ (x : RequestedFloor). x.floor) fs)) ≡ true
    own e = rw (e, h) refl

    by : (b : Bool) → (f.floor == floor) ≡ b → (b || list_any (λ x. x.floor == floor) fs) ≡ true →
        (list_any (λ x. x.floor == floor) fs ≡ true → list_any (names r) (map (λ (x : RequestedFloor). x.floor) fs) ≡ true) →
        (names r f.floor || list_any (names r) (map (λ (x : RequestedFloor). x.floor) fs)) ≡ true
    by true e k rest = own (eqb-true f.floor floor e)
    by false e k rest = or_right (names r f.floor) _ (rest k)

not-ahead : (w n e u l : Bool) → (w && u && l) ≡ false → (n ≡ true → l ≡ true) → (e ≡ true → u ≡ true) → (w && n && e) ≡ false
not-ahead false n e u l h f g = refl
not-ahead true false e u l h f g = refl
not-ahead true true false u l h f g = refl
not-ahead true true true u l h f g = let a : u ≡ true = g refl in let b : l ≡ true = f refl in rw (a, b) at h

-- a request whose mark doesn't precede another isn't ahead of it on any floor that it names
pub passed : (floors : List Floor) (q r : Request) (floor : ℕ) → precedes (mark_of q) r ≡ false → names r floor ≡ true →
    (waits q && names q floor && earlier floors q r) ≡ false
passed floors q r floor h named =
    not-ahead (waits q) (names q floor) (earlier floors q r) (has_granting_chair q || is_before (mark_of q) r) (list_any (names r) (map (λ (f : RequestedFloor). f.floor) q.floors)) h
    (names-shared r floor q.floors named) (earlier-before floors q r)

-- nothing is to be noted where nothing has changed
pub noted-none : (floors : List Floor) (rs : List Request) (marks : List Mark) → AreNoted floors rs rs marks
noted-none floors rs marks = record { same = λ n h. refl; places = λ r floor h named. refl }

unmarked-number : (marks : List Mark) (r : Request) → is_marked marks r ≡ false → is_noted marks r.number ≡ false
unmarked-number [] r h = refl
unmarked-number (m ∷ marks) r h = by (m.number == r.number) h (unmarked-number marks r)
  where
    by : (b : Bool) → ((b || precedes m r) || is_marked marks r) ≡ false → (is_marked marks r ≡ false → is_noted marks r.number ≡ false) → (b || is_noted marks r.number) ≡ false
    by true h rest = h
    by false h rest = rest (or_right_false (precedes m r) _ h)

abbrev one : Bool → ℕ
one b = cond b 1 0

count-cons : {A : Type 0} (p : A → Bool) (x : A) (xs : List A) → count_by p (x ∷ xs) ≡ one (p x) + count_by p xs
count-cons p x xs = sum_by-cons (λ y. one (p y)) x xs

count-failed : {A : Type 0} (p : A → Bool) (x : A) (xs : List A) → p x ≡ false → count_by p (x ∷ xs) ≡ count_by p xs
count-failed p x xs h = omega (arith, ap one h, count-cons p x xs)

count-both : {A : Type 0} (p : A → Bool) (x y : A) (xs ys : List A) → p x ≡ p y → count_by p xs ≡ count_by p ys → count_by p (x ∷ xs) ≡ count_by p (y ∷ ys)
count-both p x y xs ys h k = omega (arith, ap one h, k, count-cons p x xs, count-cons p y ys)

-- one more that fails isn't counted
count-added : {A : Type 0} (p : A → Bool) (xs : List A) (x : A) → p x ≡ false → count_by p (xs ++ x ∷ []) ≡ count_by p xs
count-added p [] x h = count-failed p x [] h
count-added p (y ∷ xs) x h = count-both p y y (xs ++ x ∷ []) xs refl (count-added p xs x h)

-- of ascending requests, none of those behind one has its number
without-higher : (k : ℕ) (rs : List Request) → list_all (λ q. nat_lt k q.number) rs ≡ true → without k rs ≡ rs
without-higher k [] h = refl
without-higher k (r ∷ rs) h = rw (other k r.number (and_left _ _ h)) (ap (λ (qs : List Request). r ∷ qs) (without-higher k rs (and_right _ _ h)))
  where
    other : (a b : ℕ) → nat_lt a b ≡ true → (b == a) ≡ false
    other a b h = grind (arith, nat_tests)

behind : (q : Request) (rs : List Request) (k : ℕ) → is_ascending (q ∷ rs) ≡ true → (q.number == k) ≡ true → list_all (λ x. nat_lt k x.number) rs ≡ true
behind q rs k h e = let P : ℕ → Type 0 = λ n. list_all (λ x. nat_lt n x.number) rs ≡ true in subst P (eqb-true q.number k e) (and_left _ _ h)

-- a request that fails is taken out, and as many are counted
count-ended : (p : Request → Bool) (rs : List Request) (k : ℕ) (r : Request) → is_ascending rs ≡ true → request_at rs k ≡ Some r → p r ≡ false → count_by p (without k rs) ≡ count_by p rs
count-ended p [] k r h found fails = cc
count-ended p (q ∷ rs) k r h found fails = by (q.number == k) refl found (λ e. count-ended p rs k r (and_right _ _ h) e fails)
  where
    by : (b : Bool) → (q.number == k) ≡ b → cond b (Some q) (request_at rs k) ≡ Some r → (request_at rs k ≡ Some r → count_by p (without k rs) ≡ count_by p rs) →
        count_by p (cond (not b) (q ∷ without k rs) (without k rs)) ≡ count_by p (q ∷ rs)
    by true e found rest =
        let same : q ≡ r = cc in
        ap (count_by p) (without-higher k rs (behind q rs k h e)) ∙ sym (count-failed p q rs (ap p same ∙ fails))
    by false e found rest = count-both p q q (without k rs) rs refl (rest found)

-- another number finds what it found
at-ended : (rs : List Request) (k n : ℕ) → (k == n) ≡ false → request_at (without k rs) n ≡ request_at rs n
at-ended [] k n h = refl
at-ended (q ∷ rs) k n h = by (q.number == k) refl (at-ended rs k n h)
  where
    other : (a k n : ℕ) → (a == k) ≡ true → (k == n) ≡ false → (a == n) ≡ false
    other a k n e d = grind (arith, nat_tests)

    by : (b : Bool) → (q.number == k) ≡ b → request_at (without k rs) n ≡ request_at rs n → request_at (cond (not b) (q ∷ without k rs) (without k rs)) n ≡ request_at (q ∷ rs) n
    by true e rest = rw (other q.number k n e h) rest
    by false e rest = ap (λ (o : Option Request). cond (q.number == n) (Some q) o) rest

-- a step whose marks come behind the others
stepped : (rs qs : List Request) (marks own more : List Mark) → more ≡ marks ++ own →
    ((n : ℕ) → is_noted own n ≡ false → request_at qs n ≡ request_at rs n) →
    ((floors : List Floor) (r : Request) (floor : ℕ) → is_marked own r ≡ false → names r floor ≡ true → ahead floors qs r floor ≡ ahead floors rs r floor) →
    KeepsNoted rs marks qs more
stepped rs qs marks own more put same places = λ floors before noted.
    let N : List Mark → Type 0 = λ ms. AreNoted floors before qs ms in
    subst N (sym put) record {
      same = λ n h. same n (none-second (λ m. m.number == n) marks own h) ∙ noted.same n (none-first (λ m. m.number == n) marks own h);
      places = λ r floor h named. places floors r floor (none-second (concerns r) marks own h) named ∙ noted.places r floor (none-first (concerns r) marks own h) named;
    }

own-number : (m : Mark) (n : ℕ) → is_noted (m ∷ []) n ≡ false → (m.number == n) ≡ false
own-number m n h = or_left_false (m.number == n) false h

own-precedes : (m : Mark) (r : Request) → is_marked (m ∷ []) r ≡ false → precedes m r ≡ false
own-precedes m r h = or_right_false (m.number == r.number) _ (or_left_false (concerns r m) false h)

found-own : (rs : List Request) (k : ℕ) (r : Request) → request_at rs k ≡ Some r → r.number ≡ k
found-own [] k r h = cc
found-own (x ∷ xs) k r h = by (x.number == k) refl h (found-own xs k r)
  where
    by : (b : Bool) → (x.number == k) ≡ b → cond b (Some x) (request_at xs k) ≡ Some r → (request_at xs k ≡ Some r → r.number ≡ k) → r.number ≡ k
    by true e f rest = let same : x ≡ r = cc in ap (λ (y : Request). y.number) (sym same) ∙ eqb-true x.number k e
    by false e f rest = rest f

-- a request has ended, and is marked as it was
pub noted-ended : (rs : List Request) (k : ℕ) (r : Request) (marks more : List Mark) → is_ascending rs ≡ true → request_at rs k ≡ Some r → more ≡ marks ++ mark_of r ∷ [] →
    KeepsNoted rs marks (without k rs) more
noted-ended rs k r marks more h found put =
    stepped rs (without k rs) marks (mark_of r ∷ []) more put
    (λ n own. at-ended rs k n (ap (λ (m : ℕ). m == n) (sym (found-own rs k r found)) ∙ own-number (mark_of r) n own))
    (λ floors q floor own named. count-ended (λ x. waits x && names x floor && earlier floors x q) rs k r h found (passed floors r q floor (own-precedes (mark_of r) q own) named))

at-added : (rs : List Request) (r : Request) (n : ℕ) → (r.number == n) ≡ false → request_at (rs ++ r ∷ []) n ≡ request_at rs n
at-added [] r n h = ap (λ (b : Bool). cond b (Some r) None) h
at-added (q ∷ rs) r n h = ap (λ (o : Option Request). cond (q.number == n) (Some q) o) (at-added rs r n h)

-- the one that was added is found by its number, where no other has it
pub found-added : (rs : List Request) (r : Request) → request_at rs r.number ≡ None → request_at (rs ++ r ∷ []) r.number ≡ Some r
found-added [] r h = ap (λ (b : Bool). cond b (Some r) None) (same_number r.number)
found-added (q ∷ rs) r h = by (q.number == r.number) h (found-added rs r)
  where
    by : (b : Bool) → cond b (Some q) (request_at rs r.number) ≡ None → (request_at rs r.number ≡ None → request_at (rs ++ r ∷ []) r.number ≡ Some r) →
        cond b (Some q) (request_at (rs ++ r ∷ []) r.number) ≡ Some r
    by true h rest = cc
    by false h rest = rest h

-- a request was added, and is marked
pub noted-added : (rs : List Request) (r : Request) (marks more : List Mark) → more ≡ marks ++ mark_of r ∷ [] → KeepsNoted rs marks (rs ++ r ∷ []) more
noted-added rs r marks more put =
    stepped rs (rs ++ r ∷ []) marks (mark_of r ∷ []) more put
    (λ n own. at-added rs r n (own-number (mark_of r) n own))
    (λ floors q floor own named. count-added (λ x. waits x && names x floor && earlier floors x q) rs r (passed floors r q floor (own-precedes (mark_of r) q own) named))

-- verdicts leave all other requests
decided-higher : (k : ℕ) (verdicts : List (ℕ × Verdict)) (rs : List Request) → list_all (λ q. nat_lt k q.number) rs ≡ true → map (decided_at k verdicts) rs ≡ rs
decided-higher k verdicts [] h = refl
decided-higher k verdicts (r ∷ rs) h = rw (other k r.number (and_left _ _ h)) (ap (λ (qs : List Request). r ∷ qs) (decided-higher k verdicts rs (and_right _ _ h)))
  where
    other : (a b : ℕ) → nat_lt a b ≡ true → (b == a) ≡ false
    other a b h = grind (arith, nat_tests)

decided-none : (k : ℕ) (verdicts : List (ℕ × Verdict)) (rs : List Request) → request_at rs k ≡ None → map (decided_at k verdicts) rs ≡ rs
decided-none k verdicts [] h = refl
decided-none k verdicts (r ∷ rs) h = by (r.number == k) h (decided-none k verdicts rs)
  where
    by : (b : Bool) → cond b (Some r) (request_at rs k) ≡ None → (request_at rs k ≡ None → map (decided_at k verdicts) rs ≡ rs) →
        cond b (record r { floors = map (decided verdicts) r.floors }) r ∷ map (decided_at k verdicts) rs ≡ r ∷ rs
    by true h rest = cc
    by false h rest = ap (λ (qs : List Request). r ∷ qs) (rest h)

abbrev worded : List (ℕ × Verdict) → Request → Request
worded verdicts r = record r { floors = map (decided verdicts) r.floors }

-- a request that fails before the verdicts and after them is counted at no time
count-decided : (p : Request → Bool) (verdicts : List (ℕ × Verdict)) (rs : List Request) (k : ℕ) (r : Request) → is_ascending rs ≡ true → request_at rs k ≡ Some r →
    p r ≡ false → p (worded verdicts r) ≡ false → count_by p (map (decided_at k verdicts) rs) ≡ count_by p rs
count-decided p verdicts [] k r h found fails then_fails = cc
count-decided p verdicts (q ∷ rs) k r h found fails then_fails = by (q.number == k) refl found (λ e. count-decided p verdicts rs k r (and_right _ _ h) e fails then_fails)
  where
    by : (b : Bool) → (q.number == k) ≡ b → cond b (Some q) (request_at rs k) ≡ Some r → (request_at rs k ≡ Some r → count_by p (map (decided_at k verdicts) rs) ≡ count_by p rs) →
        count_by p (cond b (worded verdicts q) q ∷ map (decided_at k verdicts) rs) ≡ count_by p (q ∷ rs)
    by true e found rest =
        let same : q ≡ r = cc in
        count-both p (worded verdicts q) q (map (decided_at k verdicts) rs) rs
        (ap (λ (x : Request). p (worded verdicts x)) same ∙ then_fails ∙ sym fails ∙ ap p (sym same))
        (ap (count_by p) (decided-higher k verdicts rs (behind q rs k h e)))
    by false e found rest = count-both p q q (map (decided_at k verdicts) rs) rs refl (rest found)

at-decided : (k n : ℕ) (verdicts : List (ℕ × Verdict)) (rs : List Request) → (k == n) ≡ false → request_at (map (decided_at k verdicts) rs) n ≡ request_at rs n
at-decided k n verdicts [] h = refl
at-decided k n verdicts (q ∷ rs) h = by (q.number == k) refl (at-decided k n verdicts rs h)
  where
    other : (a k n : ℕ) → (a == k) ≡ true → (k == n) ≡ false → (a == n) ≡ false
    other a k n e d = grind (arith, nat_tests)

    by : (b : Bool) → (q.number == k) ≡ b → request_at (map (decided_at k verdicts) rs) n ≡ request_at rs n →
        request_at (cond b (worded verdicts q) q ∷ map (decided_at k verdicts) rs) n ≡ request_at (q ∷ rs) n
    by true e rest = rw (other q.number k n e h) rest
    by false e rest = ap (λ (o : Option Request). cond (q.number == n) (Some q) o) rest

found-decided : (k : ℕ) (verdicts : List (ℕ × Verdict)) (rs : List Request) (r : Request) → request_at rs k ≡ Some r → request_at (map (decided_at k verdicts) rs) k ≡ Some (worded verdicts r)
found-decided k verdicts [] r h = cc
found-decided k verdicts (q ∷ rs) r h = by (q.number == k) refl h (found-decided k verdicts rs r)
  where
    by : (b : Bool) → (q.number == k) ≡ b → cond b (Some q) (request_at rs k) ≡ Some r → (request_at rs k ≡ Some r → request_at (map (decided_at k verdicts) rs) k ≡ Some (worded verdicts r)) →
        request_at (cond b (worded verdicts q) q ∷ map (decided_at k verdicts) rs) k ≡ Some (worded verdicts r)
    by true e h rest = let same : q ≡ r = cc in rw e (ap (λ (x : Request). Some (worded verdicts x)) same)
    by false e h rest = rw e (rest h)

-- verdicts have left their words on a request, which is marked as it was and as it is
pub noted-decided : (rs : List Request) (k : ℕ) (verdicts : List (ℕ × Verdict)) (marks some more : List Mark) → is_ascending rs ≡ true →
    some ≡ marks ++ marks_at rs k → more ≡ some ++ marks_at (map (decided_at k verdicts) rs) k → KeepsNoted rs marks (map (decided_at k verdicts) rs) more
noted-decided rs k verdicts marks some more h before after = by (request_at rs k) refl
  where
    none : request_at rs k ≡ None → KeepsNoted rs marks (map (decided_at k verdicts) rs) more
    none e =
        let same : map (decided_at k verdicts) rs ≡ rs = decided-none k verdicts rs e in
        let nothing : more ≡ marks ++ [] ++ [] =
        after
        ∙ ap (λ (qs : List Request). some ++ marks_at qs k) same
        ∙ ap (λ (o : Option Request). some ++ option_map_or (λ r. mark_of r ∷ []) o []) e
        ∙ ap (λ (ms : List Mark). ms ++ []) (before ∙ ap (λ (o : Option Request). marks ++ option_map_or (λ r. mark_of r ∷ []) o []) e) in
        λ floors all noted.
        let P : List Request → Type 0 = λ qs. AreNoted floors all qs more in
        let N : List Mark → Type 0 = λ ms. AreNoted floors all rs ms in
        subst P (sym same) (subst N (sym (nothing ∙ append-nil (marks ++ []) ∙ append-nil marks)) noted)

    found : (r : Request) → request_at rs k ≡ Some r → KeepsNoted rs marks (map (decided_at k verdicts) rs) more
    found r e =
        let own : List Mark = mark_of r ∷ mark_of (worded verdicts r) ∷ [] in
        let put : more ≡ marks ++ own =
        after
        ∙ ap (λ (o : Option Request). some ++ option_map_or (λ x. mark_of x ∷ []) o []) (found-decided k verdicts rs r e)
        ∙ ap (λ (ms : List Mark). ms ++ mark_of (worded verdicts r) ∷ []) (before ∙ ap (λ (o : Option Request). marks ++ option_map_or (λ x. mark_of x ∷ []) o []) e)
        ∙ append_assoc marks (mark_of r ∷ []) (mark_of (worded verdicts r) ∷ []) in
        stepped rs (map (decided_at k verdicts) rs) marks own more put
        (λ n free. at-decided k n verdicts rs (ap (λ (m : ℕ). m == n) (sym (found-own rs k r e)) ∙ or_left_false (r.number == n) _ free))
        (λ floors q floor free named.
        count-decided (λ x. waits x && names x floor && earlier floors x q) verdicts rs k r h e
        (passed floors r q floor (or_right_false (r.number == q.number) _ (or_left_false (concerns q (mark_of r)) _ free)) named)
        (passed floors (worded verdicts r) q floor (own-precedes (mark_of (worded verdicts r)) q (or_right_false (concerns q (mark_of r)) _ free)) named))

    by : (o : Option Request) → request_at rs k ≡ o → KeepsNoted rs marks (map (decided_at k verdicts) rs) more
    by None e = none e
    by (Some r) e = found r e

at-reasoned : (k n : ℕ) (reason : List ℕ) (rs : List Request) → (k == n) ≡ false → request_at (map (with_reason k reason) rs) n ≡ request_at rs n
at-reasoned k n reason [] h = refl
at-reasoned k n reason (q ∷ rs) h = by (q.number == k) refl (at-reasoned k n reason rs h)
  where
    other : (a k n : ℕ) → (a == k) ≡ true → (k == n) ≡ false → (a == n) ≡ false
    other a k n e d = grind (arith, nat_tests)

    by : (b : Bool) → (q.number == k) ≡ b → request_at (map (with_reason k reason) rs) n ≡ request_at rs n →
        request_at (cond b (record q { reason = Some reason }) q ∷ map (with_reason k reason) rs) n ≡ request_at (q ∷ rs) n
    by true e rest = rw (other q.number k n e h) rest
    by false e rest = ap (λ (o : Option Request). cond (q.number == n) (Some q) o) rest

-- a request has another reason, and is marked: no other is ahead of it, or behind it, that wasn't
pub noted-reasoned : (rs : List Request) (k : ℕ) (reason : List ℕ) (marks more : List Mark) → IsSome (request_at rs k) → more ≡ marks ++ marks_at rs k →
    KeepsNoted rs marks (map (with_reason k reason) rs) more
noted-reasoned rs k reason marks more some put = by (request_at rs k) refl some
  where
    by : (o : Option Request) → request_at rs k ≡ o → IsSome o → KeepsNoted rs marks (map (with_reason k reason) rs) more
    by None e h = cc
    by (Some r) e h =
        stepped rs (map (with_reason k reason) rs) marks (mark_of r ∷ []) more
        (put ∙ ap (λ (o : Option Request). marks ++ option_map_or (λ x. mark_of x ∷ []) o []) e)
        (λ n own. at-reasoned k n reason rs (ap (λ (m : ℕ). m == n) (sym (found-own rs k r e)) ∙ own-number (mark_of r) n own))
        (λ floors q floor own named. ahead_same floors k reason rs q floor)

-- settles one request
abbrev pub settle_one : List Floor → List Request → Request → Request
settle_one floors all r = granted_if (is_due floors all r) r

number-granted : (b : Bool) (r : Request) → (granted_if b r).number ≡ r.number
number-granted true r = refl
number-granted false r = refl

pub at-settled : (floors : List Floor) (all rs : List Request) (n : ℕ) → request_at (map (settle_one floors all) rs) n ≡ option_map (settle_one floors all) (request_at rs n)
at-settled floors all [] n = refl
at-settled floors all (r ∷ rs) n =
    ap (λ (k : ℕ). cond (k == n) (Some (settle_one floors all r)) (request_at (map (settle_one floors all) rs) n)) (number-granted (is_due floors all r) r)
    ∙ by (r.number == n) (at-settled floors all rs n)
  where
    by : (b : Bool) → request_at (map (settle_one floors all) rs) n ≡ option_map (settle_one floors all) (request_at rs n) →
        cond b (Some (settle_one floors all r)) (request_at (map (settle_one floors all) rs) n) ≡ option_map (settle_one floors all) (cond b (Some r) (request_at rs n))
    by true h = refl
    by false h = h

-- the mark of a granted request as it was while it waited is the mark of the request before
waiting-due : (floors : List Floor) (all : List Request) (q : Request) → request_at all q.number ≡ Some q → is_due floors all q ≡ true →
    marks_waiting (settle floors all) q.number ≡ mark_of q ∷ []
waiting-due floors all q found due =
    ap (λ (o : Option Request). option_map_or (λ r. waiting_mark r ∷ []) o [])
    (at-settled floors all all q.number ∙ ap (option_map (settle_one floors all)) found ∙ ap (λ (b : Bool). Some (granted_if b q)) due)
    ∙ ap (λ (b : Bool). record (mark_of q) { waits = b } ∷ []) (sym (and_left (waits q) _ due))

-- the marks of those that were granted
marks-granted : (floors : List Floor) (all xs : List Request) → All (λ q. request_at all q.number ≡ Some q) xs →
    flat_map (marks_waiting (settle floors all)) (map (λ (r : Request). r.number) (filter (is_due floors all) xs)) ≡ map mark_of (filter (is_due floors all) xs)
marks-granted floors all [] h = refl
marks-granted floors all (q ∷ xs) h =
    by (is_due floors all q) refl (marks-granted floors all xs (All-tail (λ q. request_at all q.number ≡ Some q) q xs h))
  where
    number : Request → ℕ
    number r = r.number

    by : (b : Bool) → is_due floors all q ≡ b →
        flat_map (marks_waiting (settle floors all)) (map number (filter (is_due floors all) xs)) ≡ map mark_of (filter (is_due floors all) xs) →
        flat_map (marks_waiting (settle floors all)) (map number (cond b (q ∷ filter (is_due floors all) xs) (filter (is_due floors all) xs)))
        ≡ map mark_of (cond b (q ∷ filter (is_due floors all) xs) (filter (is_due floors all) xs))
    by true due rest =
        ap (λ (ms : List Mark). ms ++ flat_map (marks_waiting (settle floors all)) (map number (filter (is_due floors all) xs)))
        (waiting-due floors all q (All-head (λ q. request_at all q.number ≡ Some q) q xs h) due)
        ∙ ap (λ (ms : List Mark). mark_of q ∷ ms) rest
    by false due rest = rest

-- a request that is found and due is noted
noted-due : (p : Request → Bool) (xs : List Request) (n : ℕ) (q : Request) → request_at xs n ≡ Some q → p q ≡ true → is_noted (map mark_of (filter p xs)) n ≡ true
noted-due p [] n q h due = cc
noted-due p (x ∷ xs) n q h due = by (x.number == n) refl h (noted-due p xs n q)
  where
    later : (b : Bool) → is_noted (map mark_of (filter p xs)) n ≡ true → is_noted (map mark_of (cond b (x ∷ filter p xs) (filter p xs))) n ≡ true
    later true h = or_right (x.number == n) _ h
    later false h = h

    by : (b : Bool) → (x.number == n) ≡ b → cond b (Some x) (request_at xs n) ≡ Some q →
        (request_at xs n ≡ Some q → p q ≡ true → is_noted (map mark_of (filter p xs)) n ≡ true) →
        is_noted (map mark_of (cond (p x) (x ∷ filter p xs) (filter p xs))) n ≡ true
    by true e h rest = let same : x ≡ q = cc in rw (ap p same ∙ due, e) refl
    by false e h rest = later (p x) (rest h due)

-- a request that is granted and fails is counted at no time
count-settled : (floors : List Floor) (all xs : List Request) (r : Request) (floor : ℕ) → is_marked (map mark_of (filter (is_due floors all) xs)) r ≡ false → names r floor ≡ true →
    ahead floors (map (settle_one floors all) xs) r floor ≡ ahead floors xs r floor
count-settled floors all [] r floor h named = refl
count-settled floors all (q ∷ xs) r floor h named = by (is_due floors all q) h (λ free. count-settled floors all xs r floor free named)
  where
    p : Request → Bool
    p x = waits x && names x floor && earlier floors x r

    by : (b : Bool) → is_marked (map mark_of (cond b (q ∷ filter (is_due floors all) xs) (filter (is_due floors all) xs))) r ≡ false →
        (is_marked (map mark_of (filter (is_due floors all) xs)) r ≡ false → count_by p (map (settle_one floors all) xs) ≡ count_by p xs) →
        count_by p (granted_if b q ∷ map (settle_one floors all) xs) ≡ count_by p (q ∷ xs)
    by true h rest =
        count-both p (granted_if true q) q (map (settle_one floors all) xs) xs
        (sym (passed floors q r floor (or_right_false (q.number == r.number) _ (or_left_false (concerns r (mark_of q)) _ h)) named))
        (rest (or_right_false (concerns r (mark_of q)) _ h))
    by false h rest = count-both p q q (map (settle_one floors all) xs) xs refl (rest h)

-- the requests that were due are granted, and marked as they were while they waited
pub noted-settled : (floors : List Floor) (rs : List Request) (marks more : List Mark) → is_ascending rs ≡ true →
    more ≡ marks ++ flat_map (marks_waiting (settle floors rs)) (due_numbers floors rs) →
    (before : List Request) → AreNoted floors before rs marks → AreNoted floors before (settle floors rs) more
noted-settled floors rs marks more h put before noted =
    let own : List Mark = map mark_of (filter (is_due floors rs) rs) in
    let put' : more ≡ marks ++ own = put ∙ ap (λ (ms : List Mark). marks ++ ms) (marks-granted floors rs rs (λ i d within. request_at_place rs i d h within)) in
    let N : List Mark → Type 0 = λ ms. AreNoted floors before (settle floors rs) ms in
    subst N (sym put') record {
      same = λ n free.
          still n (request_at rs n) refl (none-second (λ m. m.number == n) marks own free)
          ∙ noted.same n (none-first (λ m. m.number == n) marks own free);
      places = λ r floor free named.
          count-settled floors rs rs r floor (none-second (concerns r) marks own free) named
          ∙ noted.places r floor (none-first (concerns r) marks own free) named;
    }
  where
    undue : (b : Bool) (q : Request) → (b ≡ true → true ≡ false) → Some (granted_if b q) ≡ Some q
    undue true q h = absurd (let clash : true ≡ false = h refl in cc)
    undue false q h = refl

    still : (n : ℕ) (o : Option Request) → request_at rs n ≡ o → is_noted (map mark_of (filter (is_due floors rs) rs)) n ≡ false → request_at (settle floors rs) n ≡ request_at rs n
    still n None e free = at-settled floors rs rs n ∙ ap (option_map (settle_one floors rs)) e ∙ sym e
    still n (Some q) e free =
        at-settled floors rs rs n
        ∙ ap (option_map (settle_one floors rs)) e
        ∙ undue (is_due floors rs q) q (λ due. sym (noted-due (is_due floors rs) rs n q e due) ∙ free)
        ∙ sym e

-- a request names each of its floors
names-own : (all fs : List RequestedFloor) → ((x : ℕ) → list_any (λ f. f.floor == x) fs ≡ true → list_any (λ f. f.floor == x) all ≡ true) →
    list_all (λ g. list_any (λ f. f.floor == g.floor) all) fs ≡ true
names-own all [] h = refl
names-own all (f ∷ fs) h =
    rw (h f.floor (own (f.floor == f.floor) (same_number f.floor))) (names-own all fs (λ x k. h x (or_right (f.floor == x) _ k)))
  where
    own : (b : Bool) → b ≡ true → (b || list_any (λ g. g.floor == f.floor) fs) ≡ true
    own true e = refl
    own false e = cc

-- a request of which as many are ahead on each of its floors is shown as before
shown-alike : (floors : List Floor) (before after : List Request) (r : Request) (fs : List RequestedFloor) →
    ((floor : ℕ) → names r floor ≡ true → ahead floors after r floor ≡ ahead floors before r floor) → list_all (λ f. names r f.floor) fs ≡ true →
    map (floor_shown floors after (entry_of r)) fs ≡ map (floor_shown floors before (entry_of r)) fs
shown-alike floors before after r [] h named = refl
shown-alike floors before after r (f ∷ fs) h named =
    let one_more : ℕ → ℕ × Option (ℕ × ℕ) = λ k. (f.floor, Some (status_number (floor_status (entry_of r) f), cond (waits r) (1 + k) 0)) in
    ap (λ (k : ℕ). one_more k ∷ map (floor_shown floors after (entry_of r)) fs) (h f.floor (and_left _ _ named))
    ∙ ap (λ (ys : List (ℕ × Option (ℕ × ℕ))). floor_shown floors before (entry_of r) f ∷ ys) (shown-alike floors before after r fs h (and_right _ _ named))

-- a request that no mark concerns is shown as before
pub info-unmarked : (config : Configuration) (before after : List Request) (marks : List Mark) (r : Request) → AreNoted config.floors before after marks → is_marked marks r ≡ false →
    info config after r ≡ info config before r
info-unmarked config before after marks r noted free =
    sym (info_with-ongoing config after r)
    ∙ ap (info_with config r (status_number (overall_status (entry_of r))))
    (shown-alike config.floors before after r r.floors (λ floor named. noted.places r floor free named) (names-own r.floors r.floors (λ x k. k)))
    ∙ info_with-ongoing config before r

-- and is the one that it was
pub found-unmarked : (floors : List Floor) (before after : List Request) (marks : List Mark) (r : Request) (n : ℕ) → AreNoted floors before after marks → is_marked marks r ≡ false →
    request_at after n ≡ Some r → request_at before n ≡ Some r
found-unmarked floors before after marks r n noted free found =
    sym (noted.same n (ap (is_noted marks) (sym (found-own after n r found)) ∙ unmarked-number marks r free)) ∙ found
