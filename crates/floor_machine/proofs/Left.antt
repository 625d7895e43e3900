-- What a state is after a member has left, or a request is revoked, before the requests are settled.
use Rattle.std.proofs.Common.{◌≡◌, ℕ, Bool, true, false, cond, List, [], ◌∷◌, ◌++◌, map, Some, None, refl, sym, ap, subst, ◌∙◌}
use Rattle.std.specs.Prelude.{◌==◌, ◌&&◌, not, filter}
use Rattle.std.specs.List.{flat_map}
use Rattle.floor_queue.specs.declared.request.Request.{Request}
use Rattle.floor_queue.specs.Queue.{IsQueue, request_at, numbers_of}
use Rattle.floor_machine.specs.declared.course.Course.{Course}
use Rattle.floor_machine.specs.declared.course.Ended.{Ended}
use Rattle.floor_machine.specs.declared.event.Event.TheVariants.{Leave, Revoke}
use Rattle.floor_machine.specs.declared.member.Member.{Member}
use Rattle.floor_machine.specs.declared.conference.State.{State}
use Rattle.floor_machine.specs.Shown.{Entry, entry_of}
use Rattle.floor_machine.specs.Conference.{Conference, user_of, is_present}
use Rattle.floor_machine.specs.Change.{Change, no_change, change, ending, ends_at, ends_without, leaving, released, dismissed}
use Rattle.floor_machine.specs.steps.Telling.{entry_of_ended, listed}
use Rattle.floor_machine.specs.steps.Marks.{AreNoted}
use Rattle.floor_machine.specs.steps.Serving.{IsChanged, conference_of, after_release_for, is_rising, released_for, with_requests}
use Rattle.floor_machine.proofs.Entries.{numbers_in-entries}
use Rattle.floor_machine.proofs.Changing.{rising-numbers}
use Rattle.floor_machine.proofs.Asked.{none-ended}
use Rattle.floor_machine.proofs.Ended.{ended_entry, ending_if, ongoing_of-ends, ended_of-ends, numbers_in-ends}

-- what is left of a conference that a connection of this user left, with these requests
abbrev pub left_change : Conference → ℕ → List Entry → Change
left_change s n entries = record { config = s.config; given = s.given; entries = entries; members = map (leaving n) s.members; is_open = s.is_open }

pub change-leave : (s : Conference) (n : ℕ) → change s (Leave n) ≡ left_change s n (ending s (ends_without (map (leaving n) s.members) (user_of s n)))
unfolding change
change-leave s n = refl

pub map-same : {A B : Type 0} (f g : A → B) → ((x : A) → f x ≡ g x) → (xs : List A) → map f xs ≡ map g xs
map-same f g same [] = refl
map-same {B = B} f g same (x ∷ xs) = ap (λ (y : B). y ∷ map f xs) (same x) ∙ ap (λ (ys : List B). g x ∷ ys) (map-same f g same xs)

-- a request that is given back, if it is said to be
abbrev pub entry_if : Request → Bool → Entry
entry_if r b = record { request = r; ending = cond b (Some (released r)) None }

-- a request that is given back where it is the user's and the user is gone
abbrev pub entry_without : ℕ → Bool → Request → Entry
entry_without user present r = entry_if r (r.beneficiary == user && not present)

-- while the user is present, none of the requests ends
pub none-without : (user : ℕ) (rs : List Request) → map (entry_without user true) rs ≡ map entry_of rs
none-without user rs = map-same (entry_without user true) entry_of (λ r. by r (r.beneficiary == user)) rs
  where
    by : (r : Request) (b : Bool) → entry_if r (b && false) ≡ entry_of r
    by r true = refl
    by r false = refl

-- once the user is gone, its requests end
all-without : (user : ℕ) (rs : List Request) → map (entry_without user false) rs ≡ map (ending_if (λ r. r.beneficiary == user) released) rs
all-without user rs = map-same (entry_without user false) (ending_if (λ r. r.beneficiary == user) released) (λ r. by r (r.beneficiary == user)) rs
  where
    by : (r : Request) (b : Bool) → entry_if r (b && true) ≡ entry_if r b
    by r true = refl
    by r false = refl

-- a member has left whose user is still present
pub changed-present : (s : State) (course : Course) (n user : ℕ) (members : List Member) → user ≡ user_of (conference_of s) n → IsQueue s.requests →
    IsChanged (conference_of s) (no_change (conference_of s)) (conference_of s) course →
    members ≡ map (leaving n) s.members → true ≡ is_present members user →
    IsChanged (conference_of s) (change (conference_of s) (Leave n)) (conference_of (record s { members = members })) course
changed-present s course n user members is_user queue begun left present =
    let rs = s.requests.ongoing in
    let C : Change → Type 0 = λ c. IsChanged (conference_of s) c (conference_of (record s { members = members })) course in
    let here : is_present (map (leaving n) s.members) (user_of (conference_of s) n) ≡ true =
    ap (is_present (map (leaving n) s.members)) (sym is_user) ∙ ap (λ (ms : List Member). is_present ms user) (sym left) ∙ sym present in
    let none : map entry_of rs ≡ ending (conference_of s) (ends_without (map (leaving n) s.members) (user_of (conference_of s) n)) =
    sym (none-without (user_of (conference_of s) n) rs)
    ∙ ap (λ (b : Bool). map (entry_without (user_of (conference_of s) n) b) rs) (sym here) in
    subst C (ap (left_change (conference_of s) n) none ∙ sym (change-leave (conference_of s) n)) record {
      made = record {
        config = refl;
        given = refl;
        members = left;
        is_open = refl;
        ongoing = begun.made.ongoing;
        ended = begun.made.ended;
        numbers = begun.made.numbers;
        rising = begun.made.rising;
        old = begun.made.old;
      };
      config = refl;
      noted = begun.noted;
    }

-- a member has left that was the last of its user, whose requests have ended
pub changed-absent : (s : State) (course course' : Course) (n user : ℕ) (members : List Member) → user ≡ user_of (conference_of s) n → IsQueue s.requests →
    IsChanged (conference_of s) (no_change (conference_of s)) (conference_of s) course →
    members ≡ map (leaving n) s.members → false ≡ is_present members user →
    course'.ended.items ≡ course.ended.items ++ released_for s.requests user → course'.numbers ≡ course.numbers →
    AreNoted s.config.floors s.requests.ongoing (after_release_for s.requests user).ongoing course'.marks.items →
    IsChanged (conference_of s) (change (conference_of s) (Leave n)) (with_requests (conference_of (record s { members = members })) (after_release_for s.requests user)) course'
changed-absent s course course' n user members is_user queue begun left absent told numbers noted =
    let rs = s.requests.ongoing in
    let p : Request → Bool = λ r. r.beneficiary == user in
    let C : Change → Type 0 = λ c. IsChanged (conference_of s) c (with_requests (conference_of (record s { members = members })) (after_release_for s.requests user)) course' in
    let gone : is_present (map (leaving n) s.members) user ≡ false = ap (λ (ms : List Member). is_present ms user) (sym left) ∙ sym absent in
    let all : map (ending_if p released) rs ≡ ending (conference_of s) (ends_without (map (leaving n) s.members) (user_of (conference_of s) n)) =
    sym (all-without user rs)
    ∙ ap (λ (b : Bool). map (entry_without user b) rs) (sym gone)
    ∙ ap (λ (u : ℕ). ending (conference_of s) (ends_without (map (leaving n) s.members) u)) is_user in
    let same : course'.numbers.items ≡ numbers_of rs = ap (λ x. x.items) numbers ∙ begun.made.numbers ∙ numbers_in-entries rs in
    subst C (ap (left_change (conference_of s) n) all ∙ sym (change-leave (conference_of s) n)) record {
      made = record {
        config = refl;
        given = refl;
        members = left;
        is_open = refl;
        ongoing = sym (ongoing_of-ends p released rs);
        ended =
            ap (map entry_of_ended) (told ∙ ap (λ (es : List Ended). es ++ released_for s.requests user) (none-ended (conference_of s) course begun))
            ∙ entries (filter p rs)
            ∙ sym (ended_of-ends p released rs);
        numbers = same ∙ sym (numbers_in-ends p released rs);
        rising = ap is_rising same ∙ rising-numbers rs ∙ queue.ascending;
        old = ap (λ (ns : List ℕ). flat_map (λ n. listed (request_at rs n)) ns) (ap (λ x. x.items) numbers) ∙ begun.made.old;
      };
      config = refl;
      noted = noted;
    }
  where
    entries : (qs : List Request) → map entry_of_ended (map (λ r. record { request = r; ending = released r }) qs) ≡ map (ended_entry released) qs
    entries [] = refl
    entries (q ∷ qs) = ap (λ (es : List Entry). ended_entry released q ∷ es) (entries qs)

pub change-revoke : (s : Conference) (request : ℕ) → change s (Revoke request) ≡ record (no_change s) { entries = ending s (ends_at request dismissed) }
unfolding change
change-revoke s request = refl
