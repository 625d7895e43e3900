-- How much an event tells a member at most.
use Rattle.std.proofs.Common.{◌≡◌, ◌≢◌, ℕ, ◌+◌, ◌*◌, ◌/◌, ◌<◌, ◌≤◌, Bool, true, false, cond, eqb, List, [], ◌∷◌, ◌++◌, length, map, Option, Some, None, refl, sym, ap, subst, ◌∙◌, arith, length-append}
use Rattle.std.specs.Cmp.{IsEquivalence}
use Rattle.std.specs.Prelude.{◌==◌, ◌||◌, not, filter, is_some}
use Rattle.std.specs.List.{list_any, list_all}
use Rattle.std.specs.Option.{option_map_or}
use Rattle.std.proofs.lemmas.Bool.Decides.{nat_tests}
use Rattle.std.proofs.lemmas.List.{length-map}
use Rattle.std.proofs.lemmas.List.Sums.{count_by-le-length, length-filter}
use Rattle.std.proofs.lemmas.Map.Keys.{IsDistinct-from_apart}
use Rattle.std.proofs.lemmas.Map.Made.{length-le_from_is_member}
use Rattle.floor_config.specs.Configuration.{Configuration, IsConfiguration}
use Rattle.floor_config.specs.declared.floors.Floor.{Floor}
use Rattle.floor_queue.specs.declared.request.Request.{Request}
use Rattle.floor_queue.specs.Queue.{after_set_chair, numbers_of}
use Rattle.floor_message.specs.Ask.{Answer, asks, refused, unanswered, ask}
use Rattle.floor_wire.specs.Header.{header_bytes}
use Rattle.floor_wire.specs.Spelling.{canon}
use Rattle.floor_wire.specs.View.{attributes_of}
use Rattle.floor_message.specs.Written.{message_bytes, tell_attrs, tell_primitive}
use Rattle.floor_message.specs.Primitive.{primitive_number}
use Rattle.floor_message.specs.declared.primitive.Primitive.{Primitive}
use Rattle.floor_wire.specs.declared.attribute.Attr.{Attr}
use Rattle.floor_config.specs.Lookup.{is_floor}
use Rattle.floor_message.specs.Code.{code_number}
use Rattle.floor_message.specs.Laws.{FitsButForCounts, WhatIsAskedFits}
use Rattle.floor_message.specs.Picked.{IsOnceBy}
use Rattle.floor_message.specs.declared.ask.Ask.{Ask}
use Rattle.floor_message.specs.declared.ask.Ask.TheVariants.{FloorRequest, FloorRelease, FloorRequestQuery, UserQuery, FloorQuery, ChairAction, Hello}
use Rattle.floor_message.specs.declared.code.ErrorCode.{ErrorCode}
use Rattle.floor_message.specs.declared.code.ErrorCode.TheVariants.{InvalidFloorId}
use Rattle.floor_message.specs.declared.head.Head.{Head}
use Rattle.floor_message.specs.declared.tell.Tell.{Tell}
use Rattle.floor_message.specs.declared.tell.Tell.TheVariants.{FloorRequestStatus, Error}
use Rattle.floor_message.specs.declared.status.RequestStatus.{RequestStatus}
use Rattle.floor_message.specs.Head.{response_head}
use Rattle.floor_machine.proofs.Speaking.{said-asks}
use Rattle.floor_machine.proofs.Spoken.{MaySay, said-may}
use Rattle.floor_machine.specs.Said.{said}
use Rattle.floor_machine.specs.declared.event.Event.{Event}
use Rattle.floor_machine.specs.declared.event.Event.TheVariants.{Join, Message, Took, Leave, Revoke, Close, AddUser, AddFloor, SetChair, Say}
use Rattle.floor_machine.specs.declared.decision.Decision.{Decision}
use Rattle.floor_machine.specs.declared.member.Member.{Member}
use Rattle.floor_machine.specs.Amount.{MessageIsShort}
use Rattle.floor_machine.specs.Conference.{Conference, binding, binding_for, member_with, opening, user_of}
use Rattle.floor_machine.specs.Shown.{Entry, entry_of, info_of, ongoing_of}
use Rattle.floor_machine.specs.Checks.{first_of, refusal, when}
use Rattle.floor_machine.specs.Change.{Change, asked_change, change, decided_at, dismissed, ending, ends_at, ends_without, entries_after, is_final, leaving, IsLawful, message_change, queue_of, settled, no_change, reasoned, reasoned_among, released, shown}
use Rattle.floor_machine.specs.Same.{same_infos}
use Rattle.floor_machine.specs.Reply.{answer_tells, floor_answers, floor_status_tell, headed, infos, infos_on, reply, reply_tells, request_answer}
use Rattle.floor_machine.specs.Outgoing.{Outgoing, notice, outgoing_bytes}
use Rattle.floor_machine.specs.Told.{Changed, changed_floors, changed_of, changed_requests, floor_notices, is_changed, is_sender, is_told, reply_to, request_notices, due, due_to}
use Rattle.floor_machine.specs.Journal.{after_from, told_from, IsLawfulFrom}
use Rattle.floor_machine.specs.steps.Deciding.{MayServe, accepted, change_by, decision_of, refused_by}
use Rattle.floor_machine.specs.steps.Serving.{is_telling, is_rising, numbers_in}
use Rattle.floor_machine.specs.Next.{keeps_up, next, told}
use Rattle.floor_machine.proofs.Acts.{numbers-chaired}
use Rattle.floor_machine.proofs.Configs.{config-change, keeps_config}
use Rattle.floor_machine.proofs.Grows.{limits-change}
use Rattle.floor_machine.proofs.Allowed.{may_serve, once_differ}
use Rattle.floor_machine.proofs.AskedOnce.{asked_once}
use Rattle.floor_machine.proofs.Changing.{numbers-added, numbers_in-decided, rising-next, rising-numbers}
use Rattle.floor_machine.proofs.Entries.{entry_with, filter-number, numbers_in-entries, numbers_in-settled}
use Rattle.floor_machine.proofs.Found.{and_left, and_right}
use Rattle.floor_machine.proofs.Quiet.{floors-kept, requests-kept, still}
use Rattle.floor_machine.proofs.Served.{change-decided, change-message}
use Rattle.floor_machine.proofs.Reachable.{Keeps, SettlesOnce, keeps-after, keeps-next, keeps-opening}
use Rattle.floor_machine.proofs.Reasoned.{numbers-reasoned}
use Rattle.floor_machine.proofs.Telling.{due-member}

filter-few : {A : Type 0} (p : A → Bool) (xs : List A) → length (filter p xs) ≤ length xs
filter-few p xs = omega (arith, length-filter p xs, count_by-le-length p xs)

-- what is made of those that pass is no more than all
picked-few : {A B : Type 0} (f : A → B) (p : A → Bool) (xs : List A) → length (map f (filter p xs)) ≤ length xs
picked-few f p xs = omega (arith, length-map (filter p xs) f, filter-few p xs)

-- at most 256 entries, by ascending number
pub record AreFew (es : List Entry) : Type 0 where
  pub few : length (numbers_in es) ≤ 256
  pub rising : is_rising (numbers_in es) ≡ true

of_numbers : (es : List Entry) (ns : List ℕ) → numbers_in es ≡ ns → length ns ≤ 256 → is_rising ns ≡ true → AreFew es
of_numbers es ns same few rising =
    record {
      few = let P : List ℕ → Type 0 = λ l. length l ≤ 256 in subst P (sym same) few;
      rising = ap is_rising same ∙ rising;
    }

-- entries of the ongoing requests
of_ongoing : (s : Conference) (es : List Entry) → Keeps s → numbers_in es ≡ numbers_of s.ongoing → AreFew es
of_ongoing s es k same =
    of_numbers es (numbers_of s.ongoing) same (omega (arith, length-map s.ongoing (λ (r : Request). r.number), k.queue.few))
    (rising-numbers s.ongoing ∙ k.queue.ascending)

numbers_in-ends : (ends : Request → Option RequestStatus) (rs : List Request) → numbers_in (map (λ r. record { request = r; ending = ends r }) rs) ≡ numbers_of rs
numbers_in-ends ends [] = refl
numbers_in-ends ends (r ∷ rs) = ap (λ (ns : List ℕ). r.number ∷ ns) (numbers_in-ends ends rs)

-- one more
added-few : (s : Conference) (r : Request) → Keeps s → length s.ongoing < 256 → r.number ≡ s.given + 1 → AreFew (map entry_of s.ongoing ++ entry_of r ∷ [])
added-few s r k room next_number =
    of_numbers (map entry_of s.ongoing ++ entry_of r ∷ []) (numbers_of s.ongoing ++ (s.given + 1) ∷ [])
    (numbers-added s.ongoing r ∙ ap (λ (n : ℕ). numbers_of s.ongoing ++ n ∷ []) next_number)
    (omega (arith, length-append (numbers_of s.ongoing) ((s.given + 1) ∷ []), length-map s.ongoing (λ (r : Request). r.number), room))
    (rising-next s.ongoing s.given k.queue.ascending k.queue.numbers)

few-asked : (s : Conference) (user : ℕ) (a : Ask) → Keeps s → MayServe s user a → AreFew (entries_after s user a)
few-asked s user (FloorRequest beneficiary floors priority info) k may = added-few s _ k may.1.few refl
few-asked s user (FloorRelease request) k may = of_ongoing s _ k (numbers_in-ends (ends_at request released) s.ongoing)
few-asked s user (FloorRequestQuery request) k may = of_ongoing s _ k (numbers_in-entries s.ongoing)
few-asked s user (UserQuery beneficiary) k may = of_ongoing s _ k (numbers_in-entries s.ongoing)
few-asked s user (FloorQuery floors) k may = of_ongoing s _ k (numbers_in-entries s.ongoing)
few-asked s user (ChairAction request verdicts reason) k may = by (list_any (λ v. is_final v.1) verdicts)
  where
    qs : List Request
    qs = reasoned_among request reason s.ongoing

    by : (b : Bool) → AreFew (cond b (ending (reasoned s request reason) (ends_at request dismissed)) (map (λ r. entry_of (decided_at request verdicts r)) qs))
    by true = of_ongoing s _ k (numbers_in-ends (ends_at request dismissed) qs ∙ numbers-reasoned request reason s.ongoing)
    by false = of_ongoing s _ k (numbers_in-decided request verdicts qs ∙ numbers-reasoned request reason s.ongoing)
few-asked s user Hello k may = of_ongoing s _ k (numbers_in-entries s.ongoing)

few-message : (s : Conference) (n : Option ℕ) (user : ℕ) (a : Answer) → ((x : Ask) → a ≡ asks x → FitsButForCounts x) → Keeps s → AreFew (message_change s n user a).entries
few-message s n user unanswered fits k = of_ongoing s _ k (numbers_in-entries s.ongoing)
few-message s n user (refused code details) fits k = of_ongoing s _ k (numbers_in-entries s.ongoing)
few-message s n user (asks a) fits k = by (refusal s user a) refl
  where
    by : (o : Option ErrorCode) → o ≡ refusal s user a → AreFew (cond (is_some o) (no_change s) (asked_change s n user a)).entries
    by None is = few-asked s user a k (may_serve s user a (fits a refl) is)
    by (Some code) is = of_ongoing s _ k (numbers_in-entries s.ongoing)

few-change : (s : Conference) (e : Event) → WhatIsAskedFits → Keeps s → AreFew (change s e).entries
unfolding change
few-change s (Join user) law k = of_ongoing s _ k (numbers_in-entries s.ongoing)
few-change s (Message n bytes) law k = few-message s (Some n) (user_of s n) (ask bytes (binding s n)) (λ x is. law bytes (binding s n) x is) k
few-change s (Say user bytes) law k =
    few-message s None user (said bytes (binding_for s user)) (λ x is. law bytes (binding_for s user) x (said-asks bytes (binding_for s user) x is)) k
few-change s (Took n j) law k = of_ongoing s _ k (numbers_in-entries s.ongoing)
few-change s (Leave n) law k = of_ongoing s _ k (numbers_in-ends (ends_without (map (leaving n) s.members) (user_of s n)) s.ongoing)
few-change s (Revoke request) law k = of_ongoing s _ k (numbers_in-ends (ends_at request dismissed) s.ongoing)
few-change s Close law k = record { few = omega arith; rising = refl }
few-change s (AddUser user) law k = of_ongoing s _ k (numbers_in-entries s.ongoing)
few-change s (AddFloor floor) law k = of_ongoing s _ k (numbers_in-entries s.ongoing)
few-change s (SetChair floor chair) law k =
    of_ongoing s _ k (numbers_in-entries (after_set_chair (queue_of s) floor chair).ongoing ∙ numbers-chaired (queue_of s) floor chair)

-- the requests that an event leaves, the ended ones among them
few-shown : (s : Conference) (e : Event) → WhatIsAskedFits → Keeps s → AreFew (shown s e)
unfolding shown
few-shown s e law k =
    let few = few-change s e law k in
    of_numbers (shown s e) (numbers_in (change s e).entries) (numbers_in-settled (change s e).config.floors (change s e).entries) few.few few.rising

-- those of them that are shown otherwise than before
requests-few : (s : Conference) (e : Event) → WhatIsAskedFits → Keeps s → length (changed_requests s e) ≤ 256
unfolding changed_requests
requests-few s e law k =
    omega (
      arith,
      filter-few (λ c. is_changed (infos s) c.info) (map (changed_of (settled s e).config (shown s e)) (shown s e)),
      length-map (shown s e) (changed_of (settled s e).config (shown s e)),
      length-map (shown s e) (λ (x : Entry). x.request.number),
      (few-shown s e law k).few,
    )

-- and the floors whose requests are
floors-changed-few : (s : Conference) (e : Event) → length (changed_floors s e) ≤ length (change s e).config.floors
unfolding changed_floors settled
floors-changed-few s e = filter-few (λ f. not (same_infos (infos_on f.id (infos s)) (infos_on f.id (infos (settled s e))))) (settled s e).config.floors

floors-few : (s : Conference) (e : Event) → keeps_config e ≡ true → length (changed_floors s e) ≤ length s.config.floors
floors-few s e keeps = omega (arith, floors-changed-few s e, ap (λ (config : Configuration). length config.floors) (config-change s e keeps))

-- the configuration that an event leaves has at most 32
floors-bound : (s : Conference) (e : Event) → IsLawful s e → Keeps s → length (changed_floors s e) ≤ 32
floors-bound s e lawful k = omega (arith, floors-changed-few s e, (limits-change s e lawful k.limits).floors_count)

-- at most one request has a number
status-few : (config : Configuration) (es : List Entry) (k : ℕ) → AreFew es → length (request_answer config es k) ≤ 1
status-few config es k few =
    let f : Entry → Tell = λ e. FloorRequestStatus (info_of config (ongoing_of es) e) in
    omega (arith, ap (λ (tells : List Tell). length tells) (filter-number f es k few.rising), one f (entry_with es k))
  where
    one : (f : Entry → Tell) (o : Option Entry) → length (option_map_or (λ e. f e ∷ []) o []) ≤ 1
    one f None = omega arith
    one f (Some e) = omega arith

-- floors that are named once, each of them one of the configuration's, are no more than it has
alike : IsEquivalence eqb
alike = record { refl = λ x. own x; symm = λ x y. turned x y; congr = λ x y z h. led x y z h }
  where
    own : (x : ℕ) → eqb x x ≡ true
    own x = grind (arith, nat_tests)

    turned : (x y : ℕ) → eqb x y ≡ eqb y x
    turned x y = grind (arith, nat_tests)

    led : (x y z : ℕ) → eqb x y ≡ true → eqb x z ≡ eqb y z
    led x y z h = grind (arith, nat_tests)

or_turned : (a q : ℕ) (b d : Bool) → b ≡ d → (eqb q a || b) ≡ ((a == q) || d)
or_turned a q b d h = rw (h, IsEquivalence.symm alike q a) refl

member-floor : (q : ℕ) (fs : List Floor) → list_any (eqb q) (map (λ f. f.id) fs) ≡ is_floor fs q
member-floor q [] = refl
member-floor q (f ∷ fs) = or_turned f.id q _ _ (member-floor q fs)

known-floor : (q : ℕ) (xs : List ℕ) (fs : List Floor) → list_all (is_floor fs) xs ≡ true → list_any (eqb q) xs ≡ true → is_floor fs q ≡ true
known-floor q [] fs all found = cc
known-floor q (x ∷ xs) fs all found = by (eqb q x) refl found (known-floor q xs fs (and_right (is_floor fs x) (list_all (is_floor fs) xs) all))
  where
    equal : (a b : ℕ) → true ≡ eqb a b → b ≡ a
    equal a b h = grind (arith, nat_tests)

    by : (b : Bool) → b ≡ eqb q x → (b || list_any (eqb q) xs) ≡ true → (list_any (eqb q) xs ≡ true → is_floor fs q ≡ true) → is_floor fs q ≡ true
    by true is found rest = ap (is_floor fs) (sym (equal q x is)) ∙ and_left (is_floor fs x) (list_all (is_floor fs) xs) all
    by false is found rest = rest found

floors-within : (xs : List ℕ) (fs : List Floor) → IsOnceBy (λ n. n) xs → list_all (is_floor fs) xs ≡ true → length xs ≤ length fs
floors-within xs fs once all =
    omega (
      arith,
      length-map fs (λ (f : Floor). f.id),
      length-le_from_is_member alike xs (map (λ f. f.id) fs) (IsDistinct-from_apart eqb xs (λ i j d below within. apart _ _ (once_differ xs once i j d below within)))
          (λ q found. member-floor q fs ∙ known-floor q xs fs all found),
    )
  where
    apart : (a b : ℕ) → a ≢ b → eqb a b ≡ false
    apart a b h = grind (arith, nat_tests)

-- a query that isn't refused asks about floors of the configuration
queried-floors : (s : Conference) (user : ℕ) (floors : List ℕ) → None ≡ refusal s user (FloorQuery floors) → list_all (is_floor s.config.floors) floors ≡ true
unfolding refusal
queried-floors s user floors none = by (list_all (is_floor s.config.floors) floors) none
  where
    by : (b : Bool) → None ≡ first_of (when (not b) InvalidFloorId ∷ []) → b ≡ true
    by true h = refl
    by false h = cc

answers-few : (s : Conference) (floors : List ℕ) → length floors ≤ 32 → length (floor_answers s floors) ≤ 32
answers-few s [] few = omega arith
answers-few s (f ∷ floors) few = omega (arith, length-map (f ∷ floors) (floor_status_tell s), few)

-- a sum of what is told
abbrev Sum : Conference → Event → ℕ → Type 0
Sum s e replied = replied + length (changed_requests s e) + length (changed_floors s e) ≤ 289

-- a FloorQuery changes no request, and so nothing else is told
sum-queried : (s : Conference) (n : ℕ) (bytes : List ℕ) (floors : List ℕ) → ask bytes (binding s n) ≡ asks (FloorQuery floors) → None ≡ refusal s (user_of s n) (FloorQuery floors) →
    Keeps s → length s.config.floors ≤ 32 → Sum s (Message n bytes) (length (floor_answers (settled s (Message n bytes)) floors))
sum-queried s n bytes floors is none k most =
    let e : Event = Message n bytes in
    let j : Decision = accepted (Some n) (user_of s n) (FloorQuery floors) in
    let heard : j ≡ decision_of s (Some n) (user_of s n) (ask bytes (binding s n)) =
    ap (λ (o : Option ErrorCode). option_map_or refused_by o j) none ∙ ap (decision_of s (Some n) (user_of s n)) (sym is) in
    let entries : (change s e).entries ≡ map entry_of s.ongoing =
    ap (λ (c : Change). c.entries) (change-message s n bytes ∙ change-decided s (Some n) (user_of s n) (ask bytes (binding s n)) ∙ ap (λ (d : Decision). change_by s d.change) (sym heard)) in
    let no_requests : length (changed_requests s e) ≡ 0 = ap (λ (cs : List Changed). length cs) (requests-kept s e (still s e refl entries k.settled) k.queue.ascending) in
    let no_floors : length (changed_floors s e) ≡ 0 = ap (λ (fs : List Floor). length fs) (floors-kept s e (still s e refl entries k.settled)) in
    let known : list_all (is_floor s.config.floors) floors ≡ true = queried-floors s (user_of s n) floors none in
    omega (
      arith,
      no_requests,
      no_floors,
      answers-few (settled s e) floors
          (omega (arith, floors-within floors s.config.floors (asked_once bytes (binding s n) floors is) known, most)),
    )

-- an accepted message
sum-asked : (s : Conference) (n : ℕ) (bytes : List ℕ) (a : Ask) → ask bytes (binding s n) ≡ asks a → None ≡ refusal s (user_of s n) a → WhatIsAskedFits → Keeps s → length s.config.floors ≤ 32 →
    Sum s (Message n bytes) (length (answer_tells s (Message n bytes) (user_of s n) a))
sum-asked s n bytes (FloorRequest beneficiary floors priority info) is none law k most =
    let e : Event = Message n bytes in
    omega (arith, status-few s.config (shown s e) (s.given + 1) (few-shown s e law k), requests-few s e law k, floors-few s e refl, most)
sum-asked s n bytes (FloorRelease request) is none law k most =
    let e : Event = Message n bytes in
    omega (arith, status-few s.config (shown s e) request (few-shown s e law k), requests-few s e law k, floors-few s e refl, most)
sum-asked s n bytes (FloorRequestQuery request) is none law k most =
    let e : Event = Message n bytes in
    omega (arith, status-few s.config (shown s e) request (few-shown s e law k), requests-few s e law k, floors-few s e refl, most)
sum-asked s n bytes (UserQuery beneficiary) is none law k most = let e : Event = Message n bytes in omega (arith, requests-few s e law k, floors-few s e refl, most)
sum-asked s n bytes (FloorQuery floors) is none law k most = sum-queried s n bytes floors is none k most
sum-asked s n bytes (ChairAction request verdicts reason) is none law k most = let e : Event = Message n bytes in omega (arith, requests-few s e law k, floors-few s e refl, most)
sum-asked s n bytes Hello is none law k most = let e : Event = Message n bytes in omega (arith, requests-few s e law k, floors-few s e refl, most)

sum-answered : (s : Conference) (n : ℕ) (bytes : List ℕ) (a : Answer) → ask bytes (binding s n) ≡ a → WhatIsAskedFits → Keeps s → length s.config.floors ≤ 32 →
    Sum s (Message n bytes) (length (reply_tells s (Message n bytes) (user_of s n) a))
sum-answered s n bytes unanswered is law k most = let e : Event = Message n bytes in omega (arith, requests-few s e law k, floors-few s e refl, most)
sum-answered s n bytes (refused code details) is law k most = let e : Event = Message n bytes in omega (arith, requests-few s e law k, floors-few s e refl, most)
sum-answered s n bytes (asks a) is law k most = by (refusal s (user_of s n) a) refl
  where
    by : (o : Option ErrorCode) → o ≡ refusal s (user_of s n) a →
        Sum s (Message n bytes) (length (option_map_or (λ code. Error (code_number code) [] ∷ []) o (answer_tells s (Message n bytes) (user_of s n) a)))
    by None none = sum-asked s n bytes a is none law k most
    by (Some code) some = let e : Event = Message n bytes in omega (arith, requests-few s e law k, floors-few s e refl, most)

headed-length : (head : Head) (tells : List Tell) → length (headed head tells) ≡ length tells
headed-length head [] = refl
headed-length head (tell ∷ tells) = omega (arith, length-map tells (notice head.conference head.user))

-- what is said is answered by one message at most
answer-once : (s : Conference) (e : Event) (user : ℕ) (a : Ask) → MaySay a → AreFew (shown s e) → length (answer_tells s e user a) ≤ 1
answer-once s e user (FloorRequest beneficiary floors priority info) may few = status-few s.config (shown s e) (s.given + 1) few
answer-once s e user (FloorRelease request) may few = status-few s.config (shown s e) request few
answer-once s e user (FloorRequestQuery request) may few = absurd may
answer-once s e user (UserQuery beneficiary) may few = absurd may
answer-once s e user (FloorQuery floors) may few = absurd may
answer-once s e user (ChairAction request verdicts reason) may few = omega arith
answer-once s e user Hello may few = absurd may

reply-once : (s : Conference) (e : Event) (user : ℕ) (a : Answer) → ((x : Ask) → a ≡ asks x → MaySay x) → AreFew (shown s e) → length (reply_tells s e user a) ≤ 1
reply-once s e user unanswered may few = omega arith
reply-once s e user (refused code details) may few = omega arith
reply-once s e user (asks a) may few = by (refusal s user a)
  where
    by : (o : Option ErrorCode) → length (option_map_or (λ code. Error (code_number code) [] ∷ []) o (answer_tells s e user a)) ≤ 1
    by None = answer-once s e user a (may a refl) few
    by (Some code) = omega arith

pub said-once : (s : Conference) (user : ℕ) (bytes : List ℕ) → WhatIsAskedFits → Keeps s → length (reply s (Say user bytes)) ≤ 1
unfolding reply
said-once s user bytes law k =
    let e : Event = Say user bytes in
    let a : Answer = said bytes (binding_for s user) in
    let once : length (reply_tells s e user a) ≤ 1 = reply-once s e user a (λ x is. said-may bytes (binding_for s user) x is) (few-shown s e law k) in
    omega (arith, headed-length (response_head bytes) (reply_tells s e user a), once)

-- the answer that a member is told
abbrev reply_told : Conference → Event → List Outgoing
reply_told s (Message n bytes) = reply s (Message n bytes)
reply_told s _ = []

-- any event
sum-few : (s : Conference) (e : Event) → WhatIsAskedFits → IsLawful s e → Keeps s → Sum s e (length (reply_told s e))
unfolding reply
sum-few s (Join user) law lawful k = let e : Event = Join user in omega (arith, requests-few s e law k, floors-few s e refl, k.limits.floors_count)
sum-few s (Message n bytes) law lawful k =
    let tells : List Tell = reply_tells s (Message n bytes) (user_of s n) (ask bytes (binding s n)) in
    omega (arith, headed-length (response_head bytes) tells, sum-answered s n bytes (ask bytes (binding s n)) refl law k k.limits.floors_count)
sum-few s (Took n j) law lawful k = let e : Event = Took n j in omega (arith, requests-few s e law k, floors-few s e refl, k.limits.floors_count)
sum-few s (Leave n) law lawful k = let e : Event = Leave n in omega (arith, requests-few s e law k, floors-few s e refl, k.limits.floors_count)
sum-few s (Revoke request) law lawful k = let e : Event = Revoke request in omega (arith, requests-few s e law k, floors-few s e refl, k.limits.floors_count)
sum-few s Close law lawful k = omega (arith, requests-few s Close law k, floors-few s Close refl, k.limits.floors_count)
sum-few s (AddUser user) law lawful k = let e : Event = AddUser user in omega (arith, requests-few s e law k, floors-bound s e lawful k)
sum-few s (AddFloor floor) law lawful k = let e : Event = AddFloor floor in omega (arith, requests-few s e law k, floors-bound s e lawful k)
sum-few s (SetChair floor chair) law lawful k = let e : Event = SetChair floor chair in omega (arith, requests-few s e law k, floors-bound s e lawful k)
sum-few s (Say user bytes) law lawful k = let e : Event = Say user bytes in omega (arith, requests-few s e law k, floors-few s e refl, k.limits.floors_count)

replied-few : (s : Conference) (e : Event) (n : ℕ) → length (reply_to s e n) ≤ length (reply_told s e)
replied-few s (Join user) n = omega arith
replied-few s (Message k bytes) n = by (k == n)
  where
    by : (b : Bool) → length (cond b (reply s (Message k bytes)) []) ≤ length (reply s (Message k bytes))
    by true = omega arith
    by false = omega arith
replied-few s (Took j k) n = omega arith
replied-few s (Leave k) n = omega arith
replied-few s (Revoke request) n = omega arith
replied-few s Close n = omega arith
replied-few s (AddUser user) n = omega arith
replied-few s (AddFloor floor) n = omega arith
replied-few s (SetChair floor chair) n = omega arith
replied-few s (Say user bytes) n = omega arith

due_to-few : (s : Conference) (e : Event) (m : Member) → Sum s e (length (reply_told s e)) → length (due_to s e m) ≤ 289
due_to-few s e m sum =
    omega (
      arith,
      sum,
      replied-few s e m.n,
      length-append (reply_to s e m.n ++ request_notices s e m) (floor_notices s e m),
      length-append (reply_to s e m.n) (request_notices s e m),
      picked-few (λ c. notice s.config.conference m.user (FloorRequestStatus c.info)) (is_told (reply_to s e m.n) m.user) (changed_requests s e),
      picked-few (λ f. notice s.config.conference m.user (floor_status_tell (settled s e) f.id)) (λ f. list_any (λ floor. floor == f.id) m.watched) (changed_floors s e),
    )

-- nothing is due to anybody after Close
due-silent : (s : Conference) (e : Event) (n : ℕ) → is_telling e ≡ false → due s e n ≡ []
unfolding due
due-silent s (Join user) n h = cc
due-silent s (Message k bytes) n h = cc
due-silent s (Took j k) n h = cc
due-silent s (Leave k) n h = cc
due-silent s (Revoke request) n h = cc
due-silent s Close n h = refl
due-silent s (AddUser user) n h = cc
due-silent s (AddFloor floor) n h = cc
due-silent s (SetChair floor chair) n h = cc
due-silent s (Say user bytes) n h = cc

-- what is due to anyone
due-few : (s : Conference) (e : Event) (n : ℕ) → WhatIsAskedFits → IsLawful s e → Keeps s → length (due s e n) ≤ 289
due-few s e n law lawful k = by (is_telling e) refl
  where
    found : (o : Option Member) → length (option_map_or (due_to s e) o []) ≤ 289
    found None = omega arith
    found (Some m) = due_to-few s e m (sum-few s e law lawful k)

    by : (b : Bool) → b ≡ is_telling e → length (due s e n) ≤ 289
    by true telling =
        omega (arith, ap (λ (ms : List Outgoing). length ms) (due-member s e n (sym telling)), found (member_with (settled s e).members n))
    by false silent = omega (arith, ap (λ (ms : List Outgoing). length ms) (due-silent s e n (sym silent)))

-- no more is told than is due
told-le : (s : Conference) (e : Event) (n : ℕ) → length (told s e n) ≤ length (due s e n)
unfolding told
told-le s e n = by (keeps_up s e n)
  where
    by : (b : Bool) → length (cond b (due s e n) []) ≤ length (due s e n)
    by true = omega arith
    by false = omega arith

-- what an event tells anyone
pub told-few : (s : Conference) (e : Event) (n : ℕ) → WhatIsAskedFits → IsLawful s e → Keeps s → length (told s e n) ≤ 289
told-few s e n law lawful k = omega (arith, told-le s e n, due-few s e n law lawful k)

-- what a journal calls for
pub called-few : (s : Conference) (es : List Event) (n : ℕ) → WhatIsAskedFits → SettlesOnce → IsLawfulFrom s es → Keeps s → length (told_from s es n) ≤ 289 * length es
called-few s [] n law settles lawful k = omega arith
called-few s (e ∷ es) n law settles lawful k =
    omega (
      arith,
      length-append (told s e n) (told_from (next s e) es n),
      told-few s e n law lawful.0 k,
      called-few (next s e) es n law settles lawful.1 (keeps-next s e law settles lawful.0 k),
    )

-- what an event tells after a journal
pub told_after-few : (config : Configuration) (es : List Event) (e : Event) (n : ℕ) → WhatIsAskedFits → SettlesOnce → IsConfiguration config → IsLawfulFrom (opening config) es →
    IsLawful (after_from (opening config) es) e → length (told (after_from (opening config) es) e n) ≤ 289
told_after-few config es e n law settles is lawful next_lawful =
    told-few (after_from (opening config) es) e n law next_lawful (keeps-after (opening config) es law settles lawful (keeps-opening config is))

-- a message is its header and what it tells
message-length : (p : Primitive) (head : Head) (attrs : List Attr) → length (message_bytes p head attrs) ≡ 12 + length (canon (attributes_of attrs))
message-length p head attrs =
    let payload : List ℕ = canon (attributes_of attrs) in
    omega (arith, length-append (header_bytes (primitive_number p) (length payload / 4) head.conference head.transaction head.user) payload)

pub message-short : MessageIsShort
unfolding outgoing_bytes
message-short = λ message fits. omega (arith, fits.attributes.bytes, message-length (tell_primitive message.tell) message.head (tell_attrs message.tell))
