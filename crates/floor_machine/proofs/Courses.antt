-- What the course of an event knows, before the requests are settled and after.
use Rattle.std.proofs.Common.{◌≡◌, ℕ, Bool, true, false, cond, List, [], ◌∷◌, ◌++◌, map, Option, Some, None, refl, sym, ap, subst, ◌∙◌, arith}
use Rattle.std.specs.Prelude.{◌==◌, ◌&&◌, ◌||◌, find, is_none, is_some, nat_lt, option_map}
use Rattle.std.specs.List.{flat_map, list_all}
use Rattle.std.proofs.lemmas.Bool.Decides.{nat_tests}
use Rattle.std.proofs.lemmas.List.Elements.{All-nil}
use Rattle.std.specs.Option.{option_map_or}
use Rattle.floor_config.specs.Configuration.{Configuration}
use Rattle.floor_config.specs.declared.floors.Floor.{Floor}
use Rattle.floor_queue.specs.declared.request.Request.{Request}
use Rattle.floor_queue.specs.Order.{due_numbers, settle}
use Rattle.floor_queue.specs.Queue.{is_ascending, numbers_of, request_at}
use Rattle.floor_message.specs.declared.information.Info.{Info}
use Rattle.floor_message.specs.declared.status.RequestStatus.{RequestStatus}
use Rattle.floor_machine.specs.declared.course.Course.{Course}
use Rattle.floor_machine.specs.declared.course.Ended.{Ended}
use Rattle.floor_machine.specs.declared.marks.Mark.{Mark}
use Rattle.floor_machine.specs.Change.{Change}
use Rattle.floor_machine.specs.Conference.{Conference}
use Rattle.floor_machine.specs.Reply.{infos}
use Rattle.floor_machine.specs.Shown.{Entry, entry_of, info, ongoing_of}
use Rattle.floor_machine.specs.steps.Fitting.{AreFit, IsFit}
use Rattle.floor_machine.specs.steps.Marks.{AreNoted, concerns, is_marked, mark_of, marks_waiting}
use Rattle.floor_machine.specs.steps.Renewing.{IsCourse, info_with, left_at}
use Rattle.floor_machine.specs.steps.Serving.{IsChanged, IsMade, ended_of, is_rising, numbers_in}
use Rattle.floor_machine.specs.steps.Telling.{entry_at, entry_of_ended, infos_of, listed}
use Rattle.floor_machine.proofs.Entries.{by_number, entry_with, entry_with-other, entry_with-own}
use Rattle.floor_machine.proofs.Found.{and_left, and_right}
use Rattle.floor_machine.proofs.Moved.{any-append}
use Rattle.floor_machine.proofs.Noting.{at-settled, found-unmarked, info-unmarked, noted-none, noted-settled, settle_one}
use Rattle.floor_machine.proofs.Telling.{finds}
use Rattle.floor_machine.proofs.Walk.{flat_map-alike, info_with-infos, listed-map}

-- the request of an entry, if it is ongoing
abbrev left_of : Entry → List Request
left_of e = cond (is_none e.ending) (e.request ∷ []) []

left-entry : (ended : List Ended) (ongoing : List Request) (n : ℕ) → listed (left_at ended ongoing n) ≡ option_map_or left_of (entry_at ended ongoing n) []
left-entry ended ongoing n = by (find (λ d. d.request.number == n) ended) (request_at ongoing n)
  where
    by : (d : Option Ended) (r : Option Request) →
        listed (option_map_or (λ x. None) d r) ≡ option_map_or left_of (option_map_or (λ x. Some (entry_of_ended x)) d (option_map entry_of r)) []
    by None None = refl
    by None (Some r) = refl
    by (Some d) r = refl

left-entries : (es : List Entry) → flat_map left_of es ≡ ongoing_of es
left-entries [] = refl
left-entries (e ∷ es) = by e.request e.ending (left-entries es)
  where
    by : (r : Request) (o : Option RequestStatus) → flat_map left_of es ≡ ongoing_of es →
        left_of (record { request = r; ending = o }) ++ flat_map left_of es ≡ ongoing_of (record { request = r; ending = o } ∷ es)
    by r None h = ap (λ (rs : List Request). r ∷ rs) h
    by r (Some x) h = h

-- the ongoing requests stand by the numbers
left-numbers : (ended : List Ended) (es : List Entry) (ongoing : List Request) (ns : List ℕ) → ongoing ≡ ongoing_of es → map entry_of_ended ended ≡ ended_of es → ns ≡ numbers_in es →
    is_rising ns ≡ true → flat_map (λ n. listed (left_at ended ongoing n)) ns ≡ ongoing
left-numbers ended es ongoing ns left gone numbered rising =
    ap (λ (rs : List Request). flat_map (λ n. listed (left_at ended rs n)) ns) left
    ∙ ap (flat_map (λ n. listed (left_at ended (ongoing_of es) n))) numbered
    ∙ flat_map-alike (λ n. listed (left_at ended (ongoing_of es) n)) (λ n. option_map_or left_of (entry_at ended (ongoing_of es) n) []) (left-entry ended (ongoing_of es)) (numbers_in es)
    ∙ by_number (entry_at ended (ongoing_of es)) left_of es (ap is_rising (sym numbered) ∙ rising) (λ n k. finds es ended gone n)
    ∙ left-entries es
    ∙ sym left

and_both : (a b : Bool) → a ≡ true → b ≡ true → (a && b) ≡ true
and_both true b e f = f
and_both false b e f = e

all-weaker : (p q : ℕ → Bool) → ((n : ℕ) → p n ≡ true → q n ≡ true) → (ns : List ℕ) → list_all p ns ≡ true → list_all q ns ≡ true
all-weaker p q h [] all = refl
all-weaker p q h (n ∷ ns) all = and_both (q n) (list_all q ns) (h n (and_left (p n) (list_all p ns) all)) (all-weaker p q h ns (and_right (p n) (list_all p ns) all))

-- an entry is found also behind another
more-found : (e : Entry) (es : List Entry) → list_all (nat_lt e.request.number) (numbers_in es) ≡ true → (n : ℕ) → is_some (entry_with es n) ≡ true → is_some (entry_with (e ∷ es) n) ≡ true
more-found e es above n h = by (e.request.number == n) refl
  where
    equal : (a b : ℕ) → (a == b) ≡ true → b ≡ a
    equal a b e = grind (arith, nat_tests)

    by : (b : Bool) → (e.request.number == n) ≡ b → is_some (entry_with (e ∷ es) n) ≡ true
    by true same = ap (λ (m : ℕ). is_some (entry_with (e ∷ es) m)) (equal e.request.number n same) ∙ ap (λ (o : Option Entry). is_some o) (entry_with-own e es above)
    by false other = ap (λ (o : Option Entry). is_some o) (entry_with-other e es n other) ∙ h

-- each entry is found by its number
entries-found : (es : List Entry) → is_rising (numbers_in es) ≡ true → list_all (λ n. is_some (entry_with es n)) (numbers_in es) ≡ true
entries-found [] rising = refl
entries-found (e ∷ es) rising =
    let above : list_all (nat_lt e.request.number) (numbers_in es) ≡ true = and_left (list_all (nat_lt e.request.number) (numbers_in es)) (is_rising (numbers_in es)) rising in
    and_both (is_some (entry_with (e ∷ es) e.request.number)) (list_all (λ n. is_some (entry_with (e ∷ es) n)) (numbers_in es))
    (ap (λ (o : Option Entry). is_some o) (entry_with-own e es above))
    (all-weaker (λ n. is_some (entry_with es n)) (λ n. is_some (entry_with (e ∷ es) n)) (more-found e es above) (numbers_in es)
    (entries-found es (and_right (list_all (nat_lt e.request.number) (numbers_in es)) (is_rising (numbers_in es)) rising)))

-- the numbers of an event are of requests that ended or are ongoing
numbers-whole : (ended : List Ended) (es : List Entry) (ongoing : List Request) (ns : List ℕ) → ongoing ≡ ongoing_of es → map entry_of_ended ended ≡ ended_of es → ns ≡ numbers_in es →
    is_rising ns ≡ true → list_all (λ n. is_some (entry_at ended ongoing n)) ns ≡ true
numbers-whole ended es ongoing ns left gone numbered rising =
    ap (λ (rs : List Request). list_all (λ n. is_some (entry_at ended rs n)) ns) left
    ∙ ap (list_all (λ n. is_some (entry_at ended (ongoing_of es) n))) numbered
    ∙ (λ i. list_all (λ n. is_some (finds es ended gone n i)) (numbers_in es))
    ∙ entries-found es (ap is_rising (sym numbered) ∙ rising)

-- whatever the marks have not noted is shown as it was
unmarked-noted : (config : Configuration) (requests ongoing : List Request) (before : List Info) (marks : List Mark) → before ≡ infos_of config requests → AreNoted config.floors requests ongoing marks →
    (n : ℕ) (r : Request) → request_at ongoing n ≡ Some r → is_marked marks r ≡ false → info_with before n ≡ Some (info config ongoing r)
unmarked-noted config requests ongoing before marks shows noted n r found free =
    ap (λ (is : List Info). info_with is n) shows
    ∙ info_with-infos config requests requests n
    ∙ ap (option_map (info config requests)) (found-unmarked config.floors requests ongoing marks r n noted free found)
    ∙ ap (λ (i : Info). Some i) (sym (info-unmarked config requests ongoing marks r noted free))

-- what the course of a changed event knows
pub course-changed : (s t : Conference) (c : Change) (course : Course) → IsChanged s c t course → course.before.items ≡ infos s → AreFit t.config.floors course.ended.items →
    IsCourse t.config t.ongoing course.before.items course
course-changed s t c course changed before addable =
    let C : Configuration → Type 0 = λ config. IsCourse config t.ongoing course.before.items course in
    let A : Configuration → Type 0 = λ config. AreFit config.floors course.ended.items in
    let made : IsMade s c t course = changed.made in
    subst C (sym changed.config) record {
      was = s.config;
      requests = s.ongoing;
      before = before;
      unmarked = unmarked-noted s.config s.ongoing t.ongoing course.before.items course.marks.items before changed.noted;
      rising = made.rising;
      old = made.old;
      left = left-numbers course.ended.items c.entries t.ongoing course.numbers.items made.ongoing made.ended made.numbers made.rising;
      whole = numbers-whole course.ended.items c.entries t.ongoing course.numbers.items made.ongoing made.ended made.numbers made.rising;
      addable = subst A changed.config addable;
    }

-- among the marks of all requests is that of one of the same numbers
marked-own : (qs rs : List Request) (n : ℕ) (r : Request) → numbers_of rs ≡ numbers_of qs → request_at rs n ≡ Some r → is_marked (map mark_of qs) r ≡ true
marked-own qs [] n r same found = cc
marked-own [] (x ∷ rs) n r same found = cc
marked-own (q ∷ qs) (x ∷ rs) n r same found = by (x.number == n) found (marked-own qs rs n r rest)
  where
    one : x.number ≡ q.number
    one = cc

    rest : numbers_of rs ≡ numbers_of qs
    rest = cc

    own : (a b : ℕ) → a ≡ b → (b == a) ≡ true
    own a b e = grind (arith, nat_tests)

    or_true : (b : Bool) → (b || true) ≡ true
    or_true true = refl
    or_true false = refl

    by : (b : Bool) → cond b (Some x) (request_at rs n) ≡ Some r → (request_at rs n ≡ Some r → is_marked (map mark_of qs) r ≡ true) → is_marked (map mark_of (q ∷ qs)) r ≡ true
    by true h behind =
        let is : x ≡ r = cc in
        let mine : (q.number == r.number) ≡ true = own r.number q.number (ap (λ (y : Request). y.number) (sym is) ∙ one) in
        rw mine refl
    by false h behind = ap (λ (b : Bool). concerns r (mark_of q) || b) (behind h) ∙ or_true (concerns r (mark_of q))

-- what the course of an event knows that has marked all requests, and ends none of them
pub course-marked : (s t : Conference) (c : Change) (course : Course) → IsMade s c t course → course.before.items ≡ infos s → course.ended.items ≡ [] → course.marks.items ≡ map mark_of s.ongoing →
    numbers_of t.ongoing ≡ numbers_of s.ongoing → IsCourse t.config t.ongoing course.before.items course
course-marked s t c course made before none marks numbers =
    let A : List Ended → Type 0 = λ ds. AreFit t.config.floors ds in
    record {
      was = s.config;
      requests = s.ongoing;
      before = before;
      unmarked = λ n r found free.
          absurd (let no : true ≡ false = sym (marked-own s.ongoing t.ongoing n r numbers found) ∙ ap (λ (ms : List Mark). is_marked ms r) (sym marks) ∙ free in cc);
      rising = made.rising;
      old = made.old;
      left = left-numbers course.ended.items c.entries t.ongoing course.numbers.items made.ongoing made.ended made.numbers made.rising;
      whole = numbers-whole course.ended.items c.entries t.ongoing course.numbers.items made.ongoing made.ended made.numbers made.rising;
      addable = subst A (sym none) (All-nil (λ d. IsFit t.config.floors d.request));
    }

left-settled : (floors : List Floor) (ended : List Ended) (ongoing : List Request) (n : ℕ) → left_at ended (settle floors ongoing) n ≡ option_map (settle_one floors ongoing) (left_at ended ongoing n)
left-settled floors ended ongoing n = by (find (λ d. d.request.number == n) ended)
  where
    by : (d : Option Ended) → option_map_or (λ x. None) d (request_at (settle floors ongoing) n) ≡ option_map (settle_one floors ongoing) (option_map_or (λ x. None) d (request_at ongoing n))
    by None = at-settled floors ongoing ongoing n
    by (Some d) = refl

entry-settled : (floors : List Floor) (ended : List Ended) (ongoing : List Request) (n : ℕ) → is_some (entry_at ended (settle floors ongoing) n) ≡ is_some (entry_at ended ongoing n)
entry-settled floors ended ongoing n = by (find (λ d. d.request.number == n) ended)
  where
    kept : (o : Option Request) → is_some (option_map entry_of (option_map (settle_one floors ongoing) o)) ≡ is_some (option_map entry_of o)
    kept None = refl
    kept (Some r) = refl

    by : (d : Option Ended) → is_some (option_map_or (λ x. Some (entry_of_ended x)) d (option_map entry_of (request_at (settle floors ongoing) n)))
        ≡ is_some (option_map_or (λ x. Some (entry_of_ended x)) d (option_map entry_of (request_at ongoing n)))
    by None = ap (λ (o : Option Request). is_some (option_map entry_of o)) (at-settled floors ongoing ongoing n) ∙ kept (request_at ongoing n)
    by (Some d) = refl

-- and once the requests are settled, and those marked that were granted
pub course-settled : (config : Configuration) (floors : List Floor) (ongoing : List Request) (shown : List Info) (course course' : Course) → floors ≡ config.floors → is_ascending ongoing ≡ true →
    IsCourse config ongoing shown course → course'.numbers ≡ course.numbers → course'.ended ≡ course.ended →
    course'.marks.items ≡ course.marks.items ++ flat_map (marks_waiting (settle floors ongoing)) (due_numbers floors ongoing) →
    IsCourse config (settle floors ongoing) shown course'
course-settled config floors ongoing shown course course' same ascending known numbers ended marked =
    let ns : List ℕ = course.numbers.items in
    let numbered : course'.numbers.items ≡ ns = ap (λ x. x.items) numbers in
    let gone : course'.ended.items ≡ course.ended.items = ap (λ x. x.items) ended in
    let A : List Ended → Type 0 = λ ds. AreFit config.floors ds in
    let granted : List Mark = flat_map (marks_waiting (settle floors ongoing)) (due_numbers floors ongoing) in
    let F : List Floor → Type 0 = λ fs. AreNoted fs ongoing (settle floors ongoing) granted in
    let noted : AreNoted config.floors ongoing (settle floors ongoing) granted =
    subst F same (noted-settled floors ongoing [] granted ascending refl ongoing (noted-none floors ongoing [])) in
    record {
      was = known.was;
      requests = known.requests;
      before = known.before;
      unmarked = λ n r found free.
          let apart : (is_marked course.marks.items r || is_marked granted r) ≡ false =
          sym (any-append (concerns r) course.marks.items granted) ∙ ap (λ (ms : List Mark). is_marked ms r) (sym marked) ∙ free in
          let first : is_marked course.marks.items r ≡ false = or_left (is_marked course.marks.items r) (is_marked granted r) apart in
          let second : is_marked granted r ≡ false = or_right (is_marked course.marks.items r) (is_marked granted r) apart in
          known.unmarked n r (found-unmarked config.floors ongoing (settle floors ongoing) granted r n noted second found) first
          ∙ ap (λ (i : Info). Some i) (sym (info-unmarked config ongoing (settle floors ongoing) granted r noted second));
      rising = ap is_rising numbered ∙ known.rising;
      old = ap (flat_map (λ n. listed (request_at known.requests n))) numbered ∙ known.old;
      left =
          ap (flat_map (λ n. listed (left_at course'.ended.items (settle floors ongoing) n))) numbered
          ∙ ap (λ (ds : List Ended). flat_map (λ n. listed (left_at ds (settle floors ongoing) n)) ns) gone
          ∙ flat_map-alike (λ n. listed (left_at course.ended.items (settle floors ongoing) n)) (λ n. listed (option_map (settle_one floors ongoing) (left_at course.ended.items ongoing n)))
          (λ n. ap (λ (o : Option Request). listed o) (left-settled floors course.ended.items ongoing n)) ns
          ∙ listed-map (settle_one floors ongoing) (left_at course.ended.items ongoing) ns
          ∙ ap (map (settle_one floors ongoing)) known.left;
      whole =
          ap (list_all (λ n. is_some (entry_at course'.ended.items (settle floors ongoing) n))) numbered
          ∙ ap (λ (ds : List Ended). list_all (λ n. is_some (entry_at ds (settle floors ongoing) n)) ns) gone
          ∙ (λ i. list_all (λ n. entry-settled floors course.ended.items ongoing n i) ns)
          ∙ known.whole;
      addable = subst A (sym gone) known.addable;
    }
  where
    or_left : (a b : Bool) → (a || b) ≡ false → a ≡ false
    or_left true b h = h
    or_left false b h = refl

    or_right : (a b : Bool) → (a || b) ≡ false → b ≡ false
    or_right true b h = cc
    or_right false b h = h
