-- An act of the administrator changes the configuration, and leaves the ongoing requests their numbers.
use Rattle.std.proofs.Common.{◌≡◌, ℕ, Bool, true, false, cond, List, [], ◌∷◌, map, Option, refl, sym, ap, ◌∙◌}
use Rattle.floor_config.specs.declared.floors.Floor.{Floor}
use Rattle.floor_config.specs.declared.users.User.{User}
use Rattle.floor_config.specs.Changed.{with_chair, with_floor, with_user}
use Rattle.floor_queue.specs.declared.request.Request.{Request}
use Rattle.floor_queue.specs.Queue.{Queue, after_set_chair, is_ascending, loses_chair, numbers_of, request_at, without_chair}
use Rattle.std.specs.List.{flat_map}
use Rattle.floor_machine.specs.declared.conference.State.{State}
use Rattle.floor_machine.specs.declared.course.Course.{Course}
use Rattle.floor_machine.specs.declared.event.Event.TheVariants.{AddFloor, AddUser, SetChair}
use Rattle.floor_machine.specs.Conference.{Conference}
use Rattle.floor_machine.specs.Shown.{Entry, entry_of, ongoing_of}
use Rattle.floor_machine.specs.Change.{Change, change}
use Rattle.floor_machine.specs.steps.Serving.{IsMade, conference_of, ended_of, is_rising, numbers_in, with_requests}
use Rattle.floor_machine.specs.steps.Telling.{entry_of_ended, listed}
use Rattle.floor_machine.proofs.Asked.{old-numbers}
use Rattle.floor_machine.proofs.Changing.{rising-numbers}
use Rattle.floor_machine.proofs.Entries.{ended_of-entries, numbers_in-entries, ongoing_of-entries}
use Rattle.floor_machine.proofs.Found.{request_at_place}

-- a change that ends no request, and leaves them their numbers
made-acted : (s t : Conference) (c : Change) (course : Course) → is_ascending s.ongoing ≡ true → t.config ≡ c.config → t.given ≡ c.given → t.members ≡ c.members → t.is_open ≡ c.is_open →
    c.entries ≡ map entry_of t.ongoing → numbers_of t.ongoing ≡ numbers_of s.ongoing → course.numbers.items ≡ numbers_of s.ongoing → course.ended.items ≡ [] → IsMade s c t course
made-acted s t c course h config given members opened entries same numbers ended =
    record {
      config = config;
      given = given;
      members = members;
      is_open = opened;
      ongoing = sym (ap ongoing_of entries ∙ ongoing_of-entries t.ongoing);
      ended = ap (map entry_of_ended) ended ∙ sym (ap (λ (es : List Entry). ended_of es) entries ∙ ended_of-entries t.ongoing);
      numbers = numbers ∙ sym same ∙ sym (ap (λ (es : List Entry). numbers_in es) entries ∙ numbers_in-entries t.ongoing);
      rising = ap is_rising numbers ∙ rising-numbers s.ongoing ∙ h;
      old = ap (flat_map (λ n. listed (request_at s.ongoing n))) numbers ∙ old-numbers (request_at s.ongoing) s.ongoing (λ i d within. request_at_place s.ongoing i d h within);
    }

-- the requests that the floor loses its chair on have their numbers still
numbers-unchaired : (floor : ℕ) (rs : List Request) → numbers_of (map (without_chair floor) rs) ≡ numbers_of rs
numbers-unchaired floor [] = refl
numbers-unchaired floor (r ∷ rs) = ap (λ (ns : List ℕ). r.number ∷ ns) (numbers-unchaired floor rs)

pub numbers-chaired : (q : Queue) (floor : ℕ) (chair : Option ℕ) → numbers_of (after_set_chair q floor chair).ongoing ≡ numbers_of q.ongoing
numbers-chaired q floor chair = by (loses_chair q.floors floor chair)
  where
    by : (b : Bool) → numbers_of (cond b (map (without_chair floor) q.ongoing) q.ongoing) ≡ numbers_of q.ongoing
    by true = numbers-unchaired floor q.ongoing
    by false = refl

-- a user more
pub made-user : (s t : Conference) (course : Course) (user : User) → is_ascending s.ongoing ≡ true → t ≡ record s { config = with_user s.config user } →
    course.numbers.items ≡ numbers_of s.ongoing → course.ended.items ≡ [] → IsMade s (change s (AddUser user)) t course
unfolding change
made-user s t course user h same =
    made-acted s t (change s (AddUser user)) course h (ap (λ (x : Conference). x.config) same) (ap (λ (x : Conference). x.given) same) (ap (λ (x : Conference). x.members) same) (ap (λ (x : Conference). x.is_open) same)
    (ap (λ (x : Conference). map entry_of x.ongoing) (sym same)) (ap (λ (x : Conference). numbers_of x.ongoing) same)

-- a floor more
pub made-floor : (s t : Conference) (course : Course) (floor : Floor) → is_ascending s.ongoing ≡ true → t ≡ record s { config = with_floor s.config floor } →
    course.numbers.items ≡ numbers_of s.ongoing → course.ended.items ≡ [] → IsMade s (change s (AddFloor floor)) t course
unfolding change
made-floor s t course floor h same =
    made-acted s t (change s (AddFloor floor)) course h (ap (λ (x : Conference). x.config) same) (ap (λ (x : Conference). x.given) same) (ap (λ (x : Conference). x.members) same) (ap (λ (x : Conference). x.is_open) same)
    (ap (λ (x : Conference). map entry_of x.ongoing) (sym same)) (ap (λ (x : Conference). numbers_of x.ongoing) same)

-- another chair, or none
pub made-chair : (s : State) (t : Conference) (course : Course) (floor : ℕ) (chair : Option ℕ) → is_ascending s.requests.ongoing ≡ true →
    t ≡ record (with_requests (conference_of s) (after_set_chair s.requests floor chair)) { config = with_chair s.config floor chair } →
    course.numbers.items ≡ numbers_of s.requests.ongoing → course.ended.items ≡ [] → IsMade (conference_of s) (change (conference_of s) (SetChair floor chair)) t course
unfolding change
made-chair s t course floor chair h same =
    made-acted (conference_of s) t (change (conference_of s) (SetChair floor chair)) course h (ap (λ (x : Conference). x.config) same) (ap (λ (x : Conference). x.given) same) (ap (λ (x : Conference). x.members) same) (ap (λ (x : Conference). x.is_open) same)
    (ap (λ (fs : List Floor). map entry_of (after_set_chair (record s.requests { floors = fs }) floor chair).ongoing) (sym s.same_floors) ∙ ap (λ (x : Conference). map entry_of x.ongoing) (sym same))
    (ap (λ (x : Conference). numbers_of x.ongoing) same ∙ numbers-chaired s.requests floor chair)
