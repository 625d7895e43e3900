-- The requests that an event ended are such as can be shown.
use Rattle.std.proofs.Common.{◌≡◌, ℕ, suc, ◌+◌, Bool, true, false, cond, List, [], ◌∷◌, map, Option, Some, None, sym, subst, ap, arith}
use Rattle.std.specs.Prelude.{◌==◌, All, IfSome}
use Rattle.std.proofs.lemmas.List.Elements.{All-nil, All-cons, All-map}
use Rattle.floor_config.specs.Configuration.{Configuration}
use Rattle.floor_config.specs.declared.floors.Floor.{Floor}
use Rattle.floor_queue.specs.declared.request.New.{New}
use Rattle.floor_queue.specs.declared.request.Request.{Request}
use Rattle.floor_queue.specs.Queue.{IsQueue, IsReason, first_request, with_reason}
use Rattle.floor_message.specs.declared.status.RequestStatus.{RequestStatus}
use Rattle.floor_message.specs.declared.verdicts.Verdict.{Verdict}
use Rattle.floor_machine.specs.declared.course.Course.{Course}
use Rattle.floor_machine.specs.declared.course.Ended.{Ended}
use Rattle.floor_machine.specs.declared.decision.EndedBy.{EndedBy}
use Rattle.floor_machine.specs.declared.conference.State.{State}
use Rattle.floor_machine.specs.declared.event.Event.TheVariants.{Leave}
use Rattle.floor_machine.specs.Conference.{Conference, user_of}
use Rattle.floor_machine.specs.Shown.{Entry, entry_of}
use Rattle.floor_machine.specs.Change.{Change, change, leaving, ends_without, ends_at, decided_at, reasoned, reasoned_among}
use Rattle.floor_machine.specs.steps.Telling.{entry_of_ended}
use Rattle.floor_machine.specs.steps.Deciding.{change_adding, change_words}
use Rattle.floor_machine.specs.steps.Ending.{change_ending, ending_by}
use Rattle.floor_machine.specs.steps.Serving.{IsChanged, ended_of}
use Rattle.floor_machine.specs.steps.Fitting.{AreFit, IsFit}
use Rattle.floor_machine.proofs.Changing.{ended_of-decided, none-ended-added}

-- what holds of all ongoing requests holds of those that end
ending_all : (P : Request → Type 0) (ends : Request → Option RequestStatus) (rs : List Request) → All P rs →
    All (λ e. P e.request) (ended_of (map {A = Request} (λ r. record { request = r; ending = ends r }) rs))
ending_all P ends [] h = All-nil (λ e. P e.request)
ending_all P ends (r ∷ rs) h = by (ends r) (h 0 r (omega arith)) (ending_all P ends rs (λ k d l. h (suc k) d (omega arith)))
  where
    others : List Entry
    others = ended_of (map {A = Request} (λ r. record { request = r; ending = ends r }) rs)

    by : (o : Option RequestStatus) → P r → All (λ e. P e.request) others → All (λ e. P e.request) (ended_of (record { request = r; ending = o } ∷ map {A = Request} (λ r. record { request = r; ending = ends r }) rs))
    by None own rest = rest
    by (Some status) own rest = All-cons (λ e. P e.request) (record { request = r; ending = Some status }) others own rest

-- what holds of the entries that ended holds of what the course has noted
noted_all : (P : Request → Type 0) (ended : List Ended) → All (λ e. P e.request) (map entry_of_ended ended) → All (λ d. P d.request) ended
noted_all P [] h = All-nil (λ d. P d.request)
noted_all P (d ∷ ended) h = All-cons (λ d. P d.request) d ended (h 0 (entry_of_ended d) (omega arith)) (noted_all P ended (λ k e l. h (suc k) e (omega arith)))

none_all : (P : Request → Type 0) (es : List Entry) → es ≡ [] → All (λ e. P e.request) es
none_all P es same = let Q : List Entry → Type 0 = λ xs. All (λ e. P e.request) xs in subst Q (sym same) (All-nil (λ e. P e.request))

-- a request with another reason is as fit as it was
with_fit : (floors : List Floor) (k : ℕ) (reason : List ℕ) (r : Request) → IsReason reason → IsFit floors r → IsFit floors (with_reason k reason r)
with_fit floors k reason r fits h = by (r.number == k)
  where
    by : (b : Bool) → IsFit floors (cond b (record r { reason = Some reason }) r)
    by true = record { addable = h.addable; reason = fits }
    by false = h

reasoned_fit : (floors : List Floor) (k : ℕ) (reason : Option (List ℕ)) (rs : List Request) → IfSome reason IsReason → All (IsFit floors) rs → All (IsFit floors) (reasoned_among k reason rs)
reasoned_fit floors k None rs fits h = h
reasoned_fit floors k (Some reason) rs fits h =
    All-map (IsFit floors) (with_reason k reason) rs (λ i d within. with_fit floors k reason _ fits (h i d within))

-- of a request that is added none ends
pub fit-added : (s : Conference) (new : New) → All (λ e. IsFit s.config.floors e.request) (ended_of (change_adding s new).entries)
fit-added s new = none_all (IsFit s.config.floors) (ended_of (change_adding s new).entries) (none-ended-added s.ongoing (first_request s.config.floors (s.given + 1) new))

-- the one that ends is an ongoing one
pub fit-ended : (s : Conference) (request : ℕ) (by : EndedBy) (reason : Option (List ℕ)) → IfSome reason IsReason → All (IsFit s.config.floors) s.ongoing →
    All (λ e. IsFit s.config.floors e.request) (ended_of (change_ending (reasoned s request reason) request by).entries)
fit-ended s request by reason fits h =
    ending_all (IsFit s.config.floors) (ends_at request (ending_by by)) (reasoned_among request reason s.ongoing) (reasoned_fit s.config.floors request reason s.ongoing fits h)

-- of verdicts that leave words none ends
pub fit-words : (s : Conference) (request : ℕ) (verdicts : List (ℕ × Verdict)) (reason : Option (List ℕ)) →
    All (λ e. IsFit s.config.floors e.request) (ended_of (change_words (reasoned s request reason) request verdicts).entries)
fit-words s request verdicts reason =
    let qs = reasoned_among request reason s.ongoing in
    none_all (IsFit s.config.floors) (ended_of (map (λ r. entry_of (decided_at request verdicts r)) qs)) (ended_of-decided request verdicts qs)

-- where the entries that ended are ones that could be added, so are those that the course has noted
noted_addable : (floors : List Floor) (ended : List Ended) (es : List Entry) → map entry_of_ended ended ≡ es → All (λ e. IsFit floors e.request) es → AreFit floors ended
noted_addable floors ended es same h =
    let Q : List Entry → Type 0 = λ xs. All (λ e. IsFit floors e.request) xs in
    noted_all (λ r. IsFit floors r) ended (subst Q (sym same) h)

-- the ongoing requests are so
pub queue_addable : (t : State) → IsQueue t.requests → All (λ r. IsFit t.config.floors r) t.requests.ongoing
queue_addable t queue =
    let Q : List Floor → Type 0 = λ fs. All (λ r. IsFit fs r) t.requests.ongoing in
    subst Q t.same_floors (λ i d within. record { addable = queue.addable i d within; reason = queue.reasons i d within })

-- those that a change ended, by the configuration that it leaves
pub addable : (s t : Conference) (c : Change) (course : Course) → All (λ e. IsFit s.config.floors e.request) (ended_of c.entries) → IsChanged s c t course → AreFit t.config.floors course.ended.items
addable s t c course h changed =
    let Q : List Floor → Type 0 = λ fs. AreFit fs course.ended.items in
    subst Q (sym (ap (λ (k : Configuration). k.floors) changed.config)) (noted_addable s.config.floors course.ended.items (ended_of c.entries) changed.made.ended h)

-- so those that a leave ended
pub left_addable : (s t : Conference) (n : ℕ) (course : Course) → All (λ r. IsFit s.config.floors r) s.ongoing →
    IsChanged s (change s (Leave n)) t course → AreFit t.config.floors course.ended.items
unfolding change
left_addable s t n course h changed =
    addable s t (change s (Leave n)) course (ending_all (IsFit s.config.floors) (ends_without (map (leaving n) s.members) (user_of s n)) s.ongoing h) changed
