-- What a state is after an accepted message.
use Rattle.std.proofs.Common.{◌≡◌, ℕ, ◌+◌, ◌≤◌, true, false, List, [], ◌∷◌, ◌++◌, map, Option, Some, None, Result, Ok, Err, refl, sym, ap, ◌∙◌, arith, append-nil}
use Rattle.std.specs.Prelude.{◌==◌, All, OnOk, IfSome, IsSome}
use Rattle.std.specs.List.{flat_map}
use Rattle.std.specs.Option.{option_map_or}
use Rattle.std.proofs.lemmas.Bool.Decides.{nat_tests}
use Rattle.std.proofs.lemmas.Grind.{flat_map-append}
use Rattle.std.proofs.lemmas.List.Elements.{All-head, All-tail}
use Rattle.floor_config.specs.declared.floors.Floor.{Floor}
use Rattle.floor_queue.specs.declared.request.New.{New}
use Rattle.floor_queue.specs.declared.request.Request.{Request}
use Rattle.floor_queue.specs.Queue.{IsQueue, request_at, numbers_of, is_ascending, first_request, after_add, without}
use Rattle.floor_message.specs.declared.verdicts.Verdict.{Verdict}
use Rattle.floor_message.specs.declared.status.RequestStatus.{RequestStatus}
use Rattle.floor_machine.specs.declared.course.Course.{Course}
use Rattle.floor_machine.specs.declared.course.Ended.{Ended}
use Rattle.floor_machine.specs.declared.conference.State.{State}
use Rattle.floor_machine.specs.Conference.{Conference}
use Rattle.floor_machine.specs.Change.{no_change, ending, ends_at, decided_at, reasoned, reasoned_among}
use Rattle.floor_machine.specs.steps.Telling.{entry_of_ended, listed}
use Rattle.floor_machine.specs.steps.Marks.{AreNoted}
use Rattle.floor_machine.specs.steps.Deciding.{change_adding, change_words}
use Rattle.floor_machine.specs.steps.Serving.{IsChanged, conference_of, is_rising, with_requests}
use Rattle.floor_machine.proofs.Found.{request_at_place}
use Rattle.floor_machine.proofs.Noting.{noted-none}
use Rattle.floor_machine.proofs.Reasoned.{numbers-reasoned}
use Rattle.floor_machine.proofs.Entries.{ongoing_of-entries, ended_of-entries, numbers_in-entries}
use Rattle.floor_machine.proofs.Changing.{rising-numbers, rising-next, entries-added, none-ended-added, numbers-added, ongoing_of-ending, ended_of-ending, numbers_in-ending, ongoing_of-decided, ended_of-decided, numbers_in-decided}

pub on_ok : {T E P Q : Type 0} (r : Result T E) → (P → Q) → OnOk r P → OnOk r Q
on_ok (Ok x) f p = f p
on_ok (Err e) f p = tt

pub on_ok_both : {T E P Q R : Type 0} (r : Result T E) → (P → Q → R) → OnOk r P → OnOk r Q → OnOk r R
on_ok_both (Ok x) f p q = f p q
on_ok_both (Err e) f p q = tt

pub on_ok_three : {T E P Q R S : Type 0} (r : Result T E) → (P → Q → R → S) → OnOk r P → OnOk r Q → OnOk r R → OnOk r S
on_ok_three (Ok x) f p q k = f p q k
on_ok_three (Err e) f p q k = tt

pub on_ok_all : {T E P : Type 0} (r : Result T E) → P → OnOk r P
on_ok_all (Ok x) p = p
on_ok_all (Err e) p = tt

-- requests that are found by their numbers stand by them
pub old-numbers : (at : ℕ → Option Request) (rs : List Request) → All (λ q. at q.number ≡ Some q) rs → flat_map (λ n. listed (at n)) (numbers_of rs) ≡ rs
old-numbers at [] h = refl
old-numbers at (r ∷ rs) h =
    ap (λ (o : Option Request). listed o ++ flat_map (λ n. listed (at n)) (numbers_of rs)) (All-head (λ q. at q.number ≡ Some q) r rs h)
    ∙ ap (λ (qs : List Request). r ∷ qs) (old-numbers at rs (All-tail (λ q. at q.number ≡ Some q) r rs h))

-- no request has the next number
pub none-next : (given : ℕ) (rs : List Request) → All (λ r. (1 ≤ r.number) × (r.number ≤ given)) rs → request_at rs (given + 1) ≡ None
none-next given [] h = refl
none-next given (r ∷ rs) h =
    rw (lower r.number given (All-head (λ (q : Request). (1 ≤ q.number) × (q.number ≤ given)) r rs h).1)
    (none-next given rs (All-tail (λ (q : Request). (1 ≤ q.number) × (q.number ≤ given)) r rs h))
  where
    lower : (n given : ℕ) → n ≤ given → (n == given + 1) ≡ false
    lower n given h = grind (arith, nat_tests)

-- nothing is changed as an event begins
pub begun : (s : Conference) (course : Course) → is_ascending s.ongoing ≡ true →
    course.numbers.items ≡ numbers_of s.ongoing → course.ended.items ≡ [] → IsChanged s (no_change s) s course
begun s course h numbers ended = record {
  made = record {
    config = refl;
    given = refl;
    members = refl;
    is_open = refl;
    ongoing = sym (ongoing_of-entries s.ongoing);
    ended = ap (map entry_of_ended) ended ∙ sym (ended_of-entries s.ongoing);
    numbers = numbers ∙ sym (numbers_in-entries s.ongoing);
    rising = ap is_rising numbers ∙ rising-numbers s.ongoing ∙ h;
    old = ap (flat_map (λ n. listed (request_at s.ongoing n))) numbers ∙ old-numbers (request_at s.ongoing) s.ongoing (λ i d within. request_at_place s.ongoing i d h within);
  };
  config = refl;
  noted = noted-none s.config.floors s.ongoing course.marks.items;
}

-- a request has been added
pub changed-add : (s : State) (course course' : Course) (new : New) →
    IsQueue s.requests → IsChanged (conference_of s) (no_change (conference_of s)) (conference_of s) course →
    course'.numbers.items ≡ course.numbers.items ++ (s.requests.given + 1) ∷ [] → course'.ended ≡ course.ended →
    AreNoted s.config.floors s.requests.ongoing (after_add s.requests new).ongoing course'.marks.items →
    IsChanged (conference_of s) (change_adding (conference_of s) new) (with_requests (conference_of s) (after_add s.requests new)) course'
changed-add s course course' new queue begun numbers ended noted =
    let rs = s.requests.ongoing in
    let mine : Request = first_request s.requests.floors (s.requests.given + 1) new in
    let spec : Request = first_request s.config.floors (s.requests.given + 1) new in
    let same : mine ≡ spec = ap (λ (fs : List Floor). first_request fs (s.requests.given + 1) new) s.same_floors in
    record {
      made = record {
        config = refl;
        given = refl;
        members = refl;
        is_open = refl;
        ongoing = ap (λ (r : Request). rs ++ r ∷ []) same ∙ sym (entries-added rs spec);
        ended = ap (λ (es : List Ended). map entry_of_ended es) (ap (λ x. x.items) ended) ∙ begun.made.ended ∙ ended_of-entries rs ∙ sym (none-ended-added rs spec);
        numbers = numbers ∙ ap (λ (ns : List ℕ). ns ++ (s.requests.given + 1) ∷ []) (begun.made.numbers ∙ numbers_in-entries rs) ∙ sym (numbers-added rs spec);
        rising = ap is_rising (numbers ∙ ap (λ (ns : List ℕ). ns ++ (s.requests.given + 1) ∷ []) (begun.made.numbers ∙ numbers_in-entries rs)) ∙ rising-next rs s.requests.given queue.ascending queue.numbers;
        old =
            ap (flat_map (λ n. listed (request_at rs n))) numbers
            ∙ flat_map-append (λ n. listed (request_at rs n)) course.numbers.items ((s.requests.given + 1) ∷ [])
            ∙ ap (λ (qs : List Request). qs ++ (listed (request_at rs (s.requests.given + 1)) ++ [])) begun.made.old
            ∙ ap (λ (o : Option Request). rs ++ (listed o ++ [])) (none-next s.requests.given rs queue.numbers)
            ∙ append-nil rs;
      };
      config = refl;
      noted = noted;
    }

-- nothing has ended as an event begins
pub none-ended : (s : Conference) (course : Course) → IsChanged s (no_change s) s course → course.ended.items ≡ []
none-ended s course begun = empty course.ended.items (begun.made.ended ∙ ended_of-entries s.ongoing)
  where
    empty : (es : List Ended) → map entry_of_ended es ≡ [] → es ≡ []
    empty [] h = refl
    empty (e ∷ es) h = cc

-- a chair's reason is stored, and nothing else is changed yet
pub begun-reasoned : (s : Conference) (course course' : Course) (request : ℕ) (reason : Option (List ℕ)) → is_ascending s.ongoing ≡ true → IsChanged s (no_change s) s course →
    course'.ended ≡ course.ended → course'.numbers ≡ course.numbers → AreNoted s.config.floors s.ongoing (reasoned_among request reason s.ongoing) course'.marks.items →
    IsChanged s (no_change (reasoned s request reason)) (reasoned s request reason) course'
begun-reasoned s course course' request reason h begun ended numbers noted =
    let rs = s.ongoing in
    let qs = reasoned_among request reason rs in
    let same : course'.numbers.items ≡ numbers_of rs = ap (λ x. x.items) numbers ∙ begun.made.numbers ∙ numbers_in-entries rs in
    record {
      made = record {
        config = refl;
        given = refl;
        members = refl;
        is_open = refl;
        ongoing = sym (ongoing_of-entries qs);
        ended = ap (map entry_of_ended) (ap (λ x. x.items) ended ∙ none-ended s course begun) ∙ sym (ended_of-entries qs);
        numbers = same ∙ sym (numbers-reasoned request reason rs) ∙ sym (numbers_in-entries qs);
        rising = ap is_rising same ∙ rising-numbers rs ∙ h;
        old = ap (λ (ns : List ℕ). flat_map (λ n. listed (request_at rs n)) ns) (ap (λ x. x.items) numbers) ∙ begun.made.old;
      };
      config = refl;
      noted = noted;
    }

-- nothing has ended where nothing but a reason is stored
none-ended-reasoned : (s t : Conference) (course : Course) → IsChanged s (no_change t) t course → course.ended.items ≡ []
none-ended-reasoned s t course begun = empty course.ended.items (begun.made.ended ∙ ended_of-entries t.ongoing)
  where
    empty : (es : List Ended) → map entry_of_ended es ≡ [] → es ≡ []
    empty [] h = refl
    empty (e ∷ es) h = cc

-- a request has ended, as `how` says
pub changed-end : (s t : Conference) (how : Request → RequestStatus) (course course' : Course) (request : ℕ) →
    is_ascending t.ongoing ≡ true → IsChanged s (no_change t) t course →
    IsSome (request_at t.ongoing request) →
    IfSome (request_at t.ongoing request) (λ r. course'.ended.items ≡ course.ended.items ++ record { request = r; ending = how r } ∷ []) →
    course'.numbers ≡ course.numbers →
    AreNoted s.config.floors s.ongoing (without request t.ongoing) course'.marks.items →
    IsChanged s (record (no_change t) { entries = ending t (ends_at request how) }) (record t { ongoing = without request t.ongoing }) course'
changed-end s t how course course' request h begun ongoing told numbers noted =
    let rs = t.ongoing in
    let same : course'.numbers.items ≡ numbers_of rs = ap (λ x. x.items) numbers ∙ begun.made.numbers ∙ numbers_in-entries rs in
    record {
      made = record {
        config = refl;
        given = refl;
        members = refl;
        is_open = refl;
        ongoing = sym (ongoing_of-ending request how rs);
        ended = by (request_at rs request) ongoing told ∙ sym (ended_of-ending request how rs h);
        numbers = same ∙ sym (numbers_in-ending request how rs);
        rising = ap is_rising same ∙ rising-numbers rs ∙ h;
        old = ap (λ (ns : List ℕ). flat_map (λ n. listed (request_at s.ongoing n)) ns) (ap (λ x. x.items) numbers) ∙ begun.made.old;
      };
      config = begun.config;
      noted = noted;
    }
  where
    by : (o : Option Request) → IsSome o → IfSome o (λ r. course'.ended.items ≡ course.ended.items ++ record { request = r; ending = how r } ∷ []) →
        map entry_of_ended course'.ended.items ≡ option_map_or (λ r. entry_of_ended record { request = r; ending = how r } ∷ []) o []
    by None some h = cc
    by (Some r) some h = ap (map entry_of_ended) (h ∙ ap (λ (es : List Ended). es ++ record { request = r; ending = how r } ∷ []) (none-ended-reasoned s t course begun))

-- verdicts that end no request have left their words
pub changed-words : (s t : Conference) (course course' : Course) (request : ℕ) (verdicts : List (ℕ × Verdict)) →
    is_ascending t.ongoing ≡ true → IsChanged s (no_change t) t course →
    course'.ended ≡ course.ended → course'.numbers ≡ course.numbers →
    AreNoted s.config.floors s.ongoing (map (decided_at request verdicts) t.ongoing) course'.marks.items →
    IsChanged s (change_words t request verdicts) (record t { ongoing = map (decided_at request verdicts) t.ongoing }) course'
changed-words s t course course' request verdicts h begun ended numbers noted =
    let rs = t.ongoing in
    let same : course'.numbers.items ≡ numbers_of rs = ap (λ x. x.items) numbers ∙ begun.made.numbers ∙ numbers_in-entries rs in
    record {
      made = record {
        config = refl;
        given = refl;
        members = refl;
        is_open = refl;
        ongoing = sym (ongoing_of-decided request verdicts rs);
        ended = ap (map entry_of_ended) (ap (λ x. x.items) ended ∙ none-ended-reasoned s t course begun) ∙ sym (ended_of-decided request verdicts rs);
        numbers = same ∙ sym (numbers_in-decided request verdicts rs);
        rising = ap is_rising same ∙ rising-numbers rs ∙ h;
        old = ap (λ (ns : List ℕ). flat_map (λ n. listed (request_at s.ongoing n)) ns) (ap (λ x. x.items) numbers) ∙ begun.made.old;
      };
      config = begun.config;
      noted = noted;
    }
