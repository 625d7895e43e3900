-- The walk over the numbers of an event, where it goes past those that stay as they are shown.
use Rattle.std.proofs.Common.{◌≡◌, ℕ, suc, zero, ◌+◌, ◌-◌, ◌<◌, ◌≤◌, Bool, true, false, List, [], ◌∷◌, length, get_or, take, drop, Option, Some, None, refl, sym, ap, subst, ◌∙◌, arith}
use Rattle.std.specs.Prelude.{◌==◌, ◌&&◌, ◌||◌, not, find, nat_lt, option_map}
use Rattle.std.specs.List.{list_all}
use Rattle.std.specs.List.Sorted.{IsPartitionedBy}
use Rattle.std.specs.Option.{option_map_or}
use Rattle.std.proofs.lemmas.Bool.Decides.{nat_tests}
use Rattle.std.proofs.lemmas.List.Sums.{AllPass-from_list_all}
use Rattle.floor_config.specs.Configuration.{Configuration}
use Rattle.floor_queue.specs.declared.request.Request.{Request}
use Rattle.floor_queue.specs.Queue.{are_ascending, is_one_of, request_at}
use Rattle.floor_message.specs.declared.information.Info.{Info}
use Rattle.floor_machine.specs.declared.course.Course.{Course}
use Rattle.floor_machine.specs.declared.course.Ended.{Ended}
use Rattle.floor_machine.specs.declared.information.shown.Shown.{Shown}
use Rattle.floor_machine.specs.declared.tell.renewing.Changes.{Changes}
use Rattle.floor_machine.specs.Shown.{entry_of, info}
use Rattle.floor_machine.specs.steps.Marks.{is_marked}
use Rattle.floor_machine.specs.steps.Renewing.{IsCourse, IsRenewed, info_here, info_with, is_still, left_at, moved, now_at}
use Rattle.floor_machine.specs.steps.Serving.{is_rising}
use Rattle.floor_machine.specs.steps.Telling.{entry_at, entry_of_ended, listed, shown_at, shown_of, updates}
use Rattle.floor_machine.proofs.Found.{and_left, and_right}
use Rattle.floor_machine.proofs.Renewed.{renewed-standing}
use Rattle.floor_machine.proofs.Walk.{IsAt, above, floors-more, info-there, left-keyed, next-at, unmarked-there, updates-more}

-- where the walk stands, with what it has noted of the numbers behind it
pub record IsWalked (config : Configuration) (ended : List Ended) (ongoing : List Request) (before : List Info) (ns : List ℕ) (k place : ℕ) (shown : List Info) (changes : Changes) : Type 0 where
  pub at : IsAt config ended ongoing before ns k place shown
  pub updates : changes.updates ≡ updates config ongoing ended before (take k ns)
  pub floors : changes.floors.items ≡ moved config ongoing ended before (take k ns)

-- what is left of a number is its entry
entry-left : (ended : List Ended) (ongoing : List Request) (n : ℕ) (r : Request) → left_at ended ongoing n ≡ Some r → entry_at ended ongoing n ≡ Some (entry_of r)
entry-left ended ongoing n r h = by (find (λ d. d.request.number == n) ended) h
  where
    by : (d : Option Ended) → option_map_or (λ x. None) d (request_at ongoing n) ≡ Some r → option_map_or (λ x. Some (entry_of_ended x)) d (option_map entry_of (request_at ongoing n)) ≡ Some (entry_of r)
    by None h = ap (option_map entry_of) h
    by (Some d) h = cc

module _ (config : Configuration) (course : Course) (ongoing : List Request) (before : List Info) (known : IsCourse config ongoing before course) where
  -- one number further
  pub walked-more : (k place place' : ℕ) (infos infos' : List Info) (changes changes' : Changes) → k < length course.numbers.items →
      IsWalked config course.ended.items ongoing before course.numbers.items k place infos changes →
      IsRenewed place (info_here infos place (get_or course.numbers.items k 0)) (now_at config course.ended.items ongoing (get_or course.numbers.items k 0))
      (shown_at config ongoing course.ended.items (get_or course.numbers.items k 0)) infos infos' changes changes' →
      place' ≡ place + length (listed (left_at course.ended.items ongoing (get_or course.numbers.items k 0))) →
      IsWalked config course.ended.items ongoing before course.numbers.items (k + 1) place' infos' changes'
  walked-more k place place' infos infos' changes changes' within walked renewed behind =
      let ns : List ℕ = course.numbers.items in
      let ended : List Ended = course.ended.items in
      let n : ℕ = get_or ns k 0 in
      let there : info_here infos place n ≡ info_with before n = info-there config ended ongoing before ns k 0 place infos known.rising within walked.at in
      record {
        at = next-at config ended ongoing before ns k 0 place place' infos infos' (info_here infos place n) within walked.at there renewed.infos behind;
        updates = updates-more config ongoing ended before ns k 0 changes.updates changes'.updates (info_here infos place n) within walked.updates there renewed.updates;
        floors = floors-more config ongoing ended before ns k 0 changes.floors.items changes'.floors.items (info_here infos place n) within walked.floors there renewed.floors;
      }

  -- past one number that stays as it is
  walked-still : (k place : ℕ) (infos : List Info) (changes : Changes) → k < length course.numbers.items → is_still ongoing course (get_or course.numbers.items k 0) ≡ true →
      IsWalked config course.ended.items ongoing before course.numbers.items k place infos changes → IsWalked config course.ended.items ongoing before course.numbers.items (k + 1) (place + 1) infos changes
  walked-still k place infos changes within still walked = by (left_at ended ongoing n) refl still
    where
      ns : List ℕ
      ns = course.numbers.items

      ended : List Ended
      ended = course.ended.items

      n : ℕ
      n = get_or course.numbers.items k 0

      free : (b : Bool) → not b ≡ true → b ≡ false
      free true h = sym h
      free false h = refl

      by : (o : Option Request) → left_at course.ended.items ongoing (get_or course.numbers.items k 0) ≡ o → option_map_or (λ r. not (is_marked course.marks.items r)) o false ≡ true →
          IsWalked config course.ended.items ongoing before course.numbers.items (k + 1) (place + 1) infos changes
      by None left h = cc
      by (Some r) left h =
          let now : Info = info config ongoing r in
          let number : r.number ≡ n = left-keyed ended ongoing n r left in
          let stands : info_here infos place n ≡ Some now =
          info-there config ended ongoing before ns k 0 place infos known.rising within walked.at
          ∙ unmarked-there config course ongoing before n r known left (free (is_marked course.marks.items r) h) in
          let N : ℕ → Type 0 = λ m. IsRenewed place (info_here infos place m) (Some now) (Some (shown_of config ongoing (entry_of r))) infos infos changes changes in
          let O : Option Info → Type 0 = λ o. IsRenewed place (info_here infos place n) o (Some (shown_of config ongoing (entry_of r))) infos infos changes changes in
          let S : Option Shown → Type 0 = λ o. IsRenewed place (info_here infos place n) (now_at config ended ongoing n) o infos infos changes changes in
          walked-more k place (place + 1) infos infos changes changes within walked
          (subst S (sym (ap (option_map (shown_of config ongoing)) (entry-left ended ongoing n r left)))
          (subst O (sym (ap (option_map (info config ongoing)) left))
          (subst N number (renewed-standing config ongoing r place infos changes (ap (info_here infos place) number ∙ stands)))))
          (ap (λ (o : Option Request). place + length (listed o)) (sym left))

  -- past so many numbers that stay as they are
  pub walked-run : (d k place : ℕ) (infos : List Info) (changes : Changes) → k + d ≤ length course.numbers.items →
      ((i : ℕ) → k ≤ i → i < k + d → is_still ongoing course (get_or course.numbers.items i 0) ≡ true) →
      IsWalked config course.ended.items ongoing before course.numbers.items k place infos changes → IsWalked config course.ended.items ongoing before course.numbers.items (k + d) (place + d) infos changes
  walked-run zero k place infos changes within still walked =
      let P : ℕ → ℕ → Type 0 = λ a b. IsWalked config course.ended.items ongoing before course.numbers.items a b infos changes in
      subst (P (k + 0)) (same place) (subst (λ (a : ℕ). P a place) (same k) walked)
    where
      same : (a : ℕ) → a ≡ a + 0
      same a = omega arith
  walked-run (suc d) k place infos changes within still walked =
      let P : ℕ → ℕ → Type 0 = λ a b. IsWalked config course.ended.items ongoing before course.numbers.items a b infos changes in
      subst (P (k + suc d)) (same place) (subst (λ (a : ℕ). P a (place + 1 + d)) (same k)
      (walked-run d (k + 1) (place + 1) infos changes (omega (arith, within)) (λ i from below. still i (omega (arith, from)) (omega (arith, below)))
      (walked-still k place infos changes (omega (arith, within)) (still k (omega arith) (omega arith)) walked)))
    where
      same : (a : ℕ) → a + 1 + d ≡ a + suc d
      same a = omega arith

-- of rising numbers those below one come first
pub partitioned-rising : (k : ℕ) (ns : List ℕ) → is_rising ns ≡ true → IsPartitionedBy (λ n. nat_lt n k) ns
partitioned-rising k [] h i j d l within e = absurd (omega (arith, within))
partitioned-rising k (y ∷ ys) h zero zero d l within e = e
partitioned-rising k (y ∷ ys) h (suc i) zero d l within e = absurd (omega (arith, l))
partitioned-rising k (y ∷ ys) h (suc i) (suc j) d l within e = partitioned-rising k ys (and_right _ _ h) i j d (omega (arith, l)) (omega (arith, within)) e
partitioned-rising k (y ∷ ys) h zero (suc j) d l within e =
    lower y (get_or ys j d) k (AllPass-from_list_all (nat_lt y) ys (and_left _ _ h) j d (omega (arith, within))) e
  where
    lower : (a b c : ℕ) → nat_lt a b ≡ true → nat_lt b c ≡ true → nat_lt a c ≡ true
    lower a b c h k = grind (arith, nat_tests)

-- no number below the first of ascending ones is among them
none-below : (m n : ℕ) (ns : List ℕ) → list_all (nat_lt n) ns ≡ true → nat_lt m n ≡ true → is_one_of m ns ≡ false
none-below m n [] h below = refl
none-below m n (x ∷ ns) h below = neither (x == m) (is_one_of m ns) (differs m n x below (and_left (nat_lt n x) (list_all (nat_lt n) ns) h)) (none-below m n ns (and_right (nat_lt n x) (list_all (nat_lt n) ns) h) below)
  where
    differs : (m n x : ℕ) → nat_lt m n ≡ true → nat_lt n x ≡ true → (x == m) ≡ false
    differs m n x e f = grind (arith, nat_tests)

    neither : (a b : Bool) → a ≡ false → b ≡ false → (a || b) ≡ false
    neither true b e f = e
    neither false b e f = f

-- so what is below the first of those that are left stays as it is
pub still-below : (s : Bool) (m n : ℕ) (ns : List ℕ) → are_ascending (n ∷ ns) ≡ true → nat_lt m n ≡ true → (s || is_one_of m (n ∷ ns)) ≡ true → s ≡ true
still-below true m n ns ascending below h = refl
still-below false m n ns ascending below h =
    let other : (n == m) ≡ false = differs m n below in
    let none : is_one_of m ns ≡ false = none-below m n ns (and_left (list_all (nat_lt n) ns) (are_ascending ns) ascending) below in
    sym (ap (λ (b : Bool). b || is_one_of m ns) other ∙ none) ∙ h
  where
    differs : (m n : ℕ) → nat_lt m n ≡ true → (n == m) ≡ false
    differs m n e = grind (arith, nat_tests)

-- and what is above it is among the others, or stays as it is
pub rest-above : (s : Bool) (m n : ℕ) (ns : List ℕ) → nat_lt n m ≡ true → (s || is_one_of m (n ∷ ns)) ≡ true → (s || is_one_of m ns) ≡ true
rest-above s m n ns above h = ap (λ (b : Bool). s || (b || is_one_of m ns)) (sym (differs m n above)) ∙ h
  where
    differs : (m n : ℕ) → nat_lt n m ≡ true → (n == m) ≡ false
    differs m n e = grind (arith, nat_tests)

-- what is left of ascending numbers ascends
pub ascending-drop : (k : ℕ) (ns : List ℕ) → are_ascending ns ≡ true → are_ascending (drop k ns) ≡ true
ascending-drop zero ns h = h
ascending-drop (suc k) [] h = refl
ascending-drop (suc k) (n ∷ ns) h = ascending-drop k ns (and_right (list_all (nat_lt n) ns) (are_ascending ns) h)

-- of rising numbers a later one is above
rising-pair : (ns : List ℕ) (i j : ℕ) → is_rising ns ≡ true → i < j → j < length ns → nat_lt (get_or ns i 0) (get_or ns j 0) ≡ true
rising-pair [] i j h l within = absurd (omega (arith, within))
rising-pair (y ∷ ys) i zero h l within = absurd (omega (arith, l))
rising-pair (y ∷ ys) zero (suc j) h l within = AllPass-from_list_all (nat_lt y) ys (and_left _ _ h) j 0 (omega (arith, within))
rising-pair (y ∷ ys) (suc i) (suc j) h l within = rising-pair ys i j (and_right _ _ h) (omega (arith, l)) (omega (arith, within))

-- none from the first on is below what the first isn't below
pub over-first : (ns : List ℕ) (from i n : ℕ) → is_rising ns ≡ true → from ≤ i → i < length ns → n ≤ get_or ns from 0 → nat_lt (get_or ns i 0) n ≡ false
over-first ns from i n rising at within least = by (from == i) refl
  where
    first : (a n : ℕ) → n ≤ a → nat_lt a n ≡ false
    first a n l = grind (arith, nat_tests)

    later : (a b n : ℕ) → n ≤ a → nat_lt a b ≡ true → nat_lt b n ≡ false
    later a b n l m = grind (arith, nat_tests)

    equal : (a b : ℕ) → (a == b) ≡ true → a ≡ b
    equal a b e = grind (arith, nat_tests)

    apart : (a b : ℕ) → (a == b) ≡ false → a ≤ b → a < b
    apart a b e l = grind (arith, nat_tests)

    by : (b : Bool) → (from == i) ≡ b → nat_lt (get_or ns i 0) n ≡ false
    by true e = ap (λ (k : ℕ). nat_lt (get_or ns k 0) n) (sym (equal from i e)) ∙ first (get_or ns from 0) n least
    by false e = later (get_or ns from 0) (get_or ns i 0) n least (rising-pair ns from i rising (apart from i e at) within)

-- where the walk has gone past n, whatever is left isn't n
pub rest-behind : (ns : List ℕ) (still : ℕ → Bool) (next n : ℕ) (later : List ℕ) → is_rising ns ≡ true → next < length ns → nat_lt (get_or ns next 0) n ≡ false →
    ((i : ℕ) → next ≤ i → i < length ns → (still (get_or ns i 0) || is_one_of (get_or ns i 0) (n ∷ later)) ≡ true) →
    (i : ℕ) → next + 1 ≤ i → i < length ns → (still (get_or ns i 0) || is_one_of (get_or ns i 0) later) ≡ true
rest-behind ns still next n later rising inside behind rest i from within =
    rest-above (still (get_or ns i 0)) (get_or ns i 0) n later
    (over n (get_or ns next 0) (get_or ns i 0) behind (rising-pair ns next i rising (omega (arith, from)) within))
    (rest i (omega (arith, from)) within)
  where
    over : (n a b : ℕ) → nat_lt a n ≡ false → nat_lt a b ≡ true → nat_lt n b ≡ true
    over n a b e f = grind (arith, nat_tests)

module _ (config : Configuration) (course : Course) (ongoing : List Request) (before : List Info) (known : IsCourse config ongoing before course) where
  -- past all that stays as it is, up to the first that isn't below n
  pub walked-to : (k next place n : ℕ) (later : List ℕ) (infos : List Info) (changes : Changes) → k ≤ next → next ≤ length course.numbers.items → are_ascending (n ∷ later) ≡ true →
      ((i : ℕ) → k ≤ i → i < next → nat_lt (get_or course.numbers.items i 0) n ≡ true) →
      ((i : ℕ) → k ≤ i → i < length course.numbers.items →
      (is_still ongoing course (get_or course.numbers.items i 0) || is_one_of (get_or course.numbers.items i 0) (n ∷ later)) ≡ true) →
      IsWalked config course.ended.items ongoing before course.numbers.items k place infos changes →
      IsWalked config course.ended.items ongoing before course.numbers.items next (place + (next - k)) infos changes
  walked-to k next place n later infos changes from within ascending below rest walked =
      let P : ℕ → Type 0 = λ a. IsWalked config course.ended.items ongoing before course.numbers.items a (place + (next - k)) infos changes in
      subst P (whole k next from)
      (walked-run config course ongoing before known (next - k) k place infos changes (omega (arith, from, within))
      (λ i at short. still-below (is_still ongoing course (get_or course.numbers.items i 0)) (get_or course.numbers.items i 0) n later ascending
      (below i at (omega (arith, short, from))) (rest i at (omega (arith, short, from, within)))) walked)
    where
      whole : (a b : ℕ) → a ≤ b → a + (b - a) ≡ b
      whole a b l = omega (arith, l)

  -- past all that is left, where it stays as it is
  pub walked-end : (k place : ℕ) (infos : List Info) (changes : Changes) → k ≤ length course.numbers.items →
      ((i : ℕ) → k ≤ i → i < length course.numbers.items → is_still ongoing course (get_or course.numbers.items i 0) ≡ true) →
      IsWalked config course.ended.items ongoing before course.numbers.items k place infos changes →
      IsWalked config course.ended.items ongoing before course.numbers.items (length course.numbers.items) (place + (length course.numbers.items - k)) infos changes
  walked-end k place infos changes within still walked =
      let P : ℕ → Type 0 = λ a. IsWalked config course.ended.items ongoing before course.numbers.items a (place + (length course.numbers.items - k)) infos changes in
      subst P (whole k (length course.numbers.items) within)
      (walked-run config course ongoing before known (length course.numbers.items - k) k place infos changes (omega (arith, within))
      (λ i at short. still i at (omega (arith, short, within))) walked)
    where
      whole : (a b : ℕ) → a ≤ b → a + (b - a) ≡ b
      whole a b l = omega (arith, l)

pub ascending-rising : (ns : List ℕ) → are_ascending ns ≡ is_rising ns
ascending-rising [] = refl
ascending-rising (n ∷ ns) = ap (λ (b : Bool). list_all (nat_lt n) ns && b) (ascending-rising ns)
