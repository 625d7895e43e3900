-- What is shown after an event, number by number: of some requests it is made anew, and of all others it stays.
use Rattle.std.specs.Prelude.{◌≡◌, ℕ, ◌+◌, ◌/◌, ◌==◌, ◌&&◌, ◌||◌, nat_le, nat_lt, is_some, not, if◌then◌else◌, Bool, true, false, List, [], ◌∷◌, ◌++◌, count_by, drop, find, length, map, sum_by, take, Option, Some, None, option_and_then, option_map}
use Rattle.std.specs.List.{flat_map, list_all, slice_get}
use Rattle.std.specs.Option.{option_map_or}
use Rattle.floor_config.specs.Configuration.{Configuration}
use Rattle.floor_queue.specs.declared.request.Request.{Request}
use Rattle.floor_queue.specs.Order.{names}
use Rattle.floor_queue.specs.Queue.{is_one_of, request_at}
use Rattle.floor_message.specs.declared.information.Info.{Info}
use Rattle.floor_machine.specs.declared.course.Course.{Course}
use Rattle.floor_machine.specs.declared.course.Ended.{Ended}
use Rattle.floor_machine.specs.declared.information.shown.Shown.{Shown}
use Rattle.floor_machine.specs.declared.tell.renewing.Changes.{Changes}
use Rattle.floor_machine.specs.declared.tell.changed.Update.{Update}
use Rattle.floor_machine.specs.Shown.{info}
use Rattle.floor_machine.specs.Same.{same_info}
use Rattle.floor_machine.specs.steps.Fitting.{AreFit}
use Rattle.floor_machine.specs.steps.Marks.{is_marked}
use Rattle.floor_machine.specs.steps.Serving.{is_rising}
use Rattle.floor_machine.specs.steps.Telling.{entry_at, infos_of, listed, update_of}

-- the item at this place, if it passes
abbrev pub here : {A : Type 0} → (A → Bool) → List A → ℕ → Option A
here p xs place = option_and_then (λ x. if p x then Some x else None) (slice_get xs place)

-- the info at this place, if it is that of the request with this number
abbrev pub info_here : List Info → ℕ → ℕ → Option Info
info_here infos place number = here (λ i. i.request == number) infos place

-- the request at this place, if it has this number
abbrev pub request_here : List Request → ℕ → ℕ → Option Request
request_here requests place number = here (λ r. r.number == number) requests place

-- the info of the request with this number
abbrev pub info_with : List Info → ℕ → Option Info
info_with infos number = find (λ i. i.request == number) infos

-- the ongoing request with this number, if it hasn't ended
abbrev pub left_at : List Ended → List Request → ℕ → Option Request
left_at ended ongoing number = option_map_or (λ d. None) (find (λ d. d.request.number == number) ended) (request_at ongoing number)

-- what is shown of the ongoing request with this number
abbrev pub now_at : Configuration → List Ended → List Request → ℕ → Option Info
now_at config ended ongoing number = option_map (info config ongoing) (left_at ended ongoing number)

-- a request is shown otherwise than before
abbrev pub differs : Option Info → Info → Bool
differs old now = option_map_or (λ i. not (same_info i now)) old true

-- what is shown of a request, if it is shown otherwise than before
abbrev pub shown_if : Bool → Info → Option Info
shown_if changed now = if changed then Some now else None

-- the floors that a request names, as it is shown
abbrev pub floors_shown : Info → List ℕ
floors_shown i = map (λ f. f.0) i.floors

-- the floors that it named before, if it was shown
abbrev pub floors_before : Option Info → List ℕ
floors_before old = option_map_or floors_shown old []

-- the floors of a request that is shown otherwise than before, or no more
abbrev pub floors_moved : Option Info → Option Info → List ℕ
floors_moved old None = floors_before old
floors_moved old (Some now) = if differs old now then floors_before old ++ floors_shown now else []

-- the status of a request, if it is shown otherwise than before
abbrev pub update_from : Option Info → Option Shown → List Update
update_from old shown = option_map_or (λ s. if differs old s.info then update_of s ∷ [] else []) shown []

-- What is done at one number: its info in the stead of the old one, and what that changed.
pub record IsRenewed (place : ℕ) (old now : Option Info) (shown : Option Shown) (before after : List Info) (changes changes' : Changes) : Type 0 where
  pub infos : after ≡ take place before ++ listed now ++ drop (place + length (listed old)) before
  pub updates : changes'.updates ≡ changes.updates ++ update_from old shown
  pub floors : changes'.floors.items ≡ changes.floors.items ++ floors_moved old now

-- the ongoing request with this number stays as it is shown: no mark concerns it
abbrev pub is_still : List Request → Course → ℕ → Bool
is_still ongoing course number = option_map_or (λ r. not (is_marked course.marks.items r)) (left_at course.ended.items ongoing number) false

-- of the requests that ended or are ongoing, these numbers are of each that doesn't stay so
abbrev pub AreMoved : List Request → Course → List ℕ → Type 0
AreMoved ongoing course some =
    (number : ℕ) → is_some (entry_at course.ended.items ongoing number) ≡ true → (is_still ongoing course number || is_one_of number some) ≡ true

-- how many requests name each of the floors, together: one of two of them counts twice
abbrev pub naming : List Request → List ℕ → ℕ
naming ongoing floors = sum_by (λ f. count_by (λ r. names r f) ongoing) floors

-- An event looks at the requests on its marks' floors alone where it has more than 16 numbers and at most a quarter as many name these floors.
abbrev pub is_narrowed : List Request → Course → Bool
is_narrowed ongoing course =
    nat_lt 16 (length course.numbers.items) && nat_le (naming ongoing (flat_map (λ m. m.floors) course.marks.items)) (length course.numbers.items / 4)

-- of the event's numbers, each is one of these, or of a request that stays so
abbrev pub AreSome : List Request → Course → List ℕ → Type 0
AreSome ongoing course some = list_all (λ n. is_still ongoing course n || is_one_of n some) course.numbers.items ≡ true

-- What the course of an event knows: there were some requests, which were shown by the configuration of then; of what became of them,
-- whatever no mark concerns is shown as it was; its numbers rise, are those of the requests before and after, and each is of one that ended or is ongoing; and each that ended
-- could be added once.
pub record IsCourse (config : Configuration) (ongoing : List Request) (shown : List Info) (course : Course) : Type 0 where
  pub was : Configuration
  pub requests : List Request
  pub before : shown ≡ infos_of was requests
  pub unmarked : (n : ℕ) (r : Request) → request_at ongoing n ≡ Some r → is_marked course.marks.items r ≡ false → info_with shown n ≡ Some (info config ongoing r)
  pub rising : is_rising course.numbers.items ≡ true
  pub old : flat_map (λ n. listed (request_at requests n)) course.numbers.items ≡ requests
  pub left : flat_map (λ n. listed (left_at course.ended.items ongoing n)) course.numbers.items ≡ ongoing
  pub whole : list_all (λ n. is_some (entry_at course.ended.items ongoing n)) course.numbers.items ≡ true
  pub addable : AreFit config.floors course.ended.items

-- the floors that the requests with these numbers named or name, of each that is shown otherwise than before, or no more
abbrev pub moved : Configuration → List Request → List Ended → List Info → List ℕ → List ℕ
moved config ongoing ended before numbers = flat_map (λ n. floors_moved (info_with before n) (now_at config ended ongoing n)) numbers
