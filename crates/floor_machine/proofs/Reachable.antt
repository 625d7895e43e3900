-- What each journal of a configuration keeps.
use Rattle.std.proofs.Common.{◌≡◌, ℕ, ◌+◌, ◌-◌, ◌≤◌, Bool, true, false, cond, List, [], ◌∷◌, ◌++◌, length, map, Option, Some, None, refl, sym, ap, subst, arith}
use Rattle.std.specs.Prelude.{◌==◌, ◌&&◌, All, IfSome, not, filter, count_by, is_some}
use Rattle.std.specs.List.{list_all, list_any}
use Rattle.std.proofs.lemmas.List.Elements.{All-nil, All-weaker}
use Rattle.std.proofs.lemmas.List.Sums.{sum_by_push}
use Rattle.floor_config.specs.Configuration.{Configuration, IsConfiguration, IsFloor}
use Rattle.floor_config.specs.declared.floors.Floor.{Floor}
use Rattle.floor_queue.specs.declared.request.Request.{Request}
use Rattle.floor_queue.specs.Order.{settle, position}
use Rattle.floor_queue.specs.Queue.{Queue, IsAddable, IsQueue, IsReason, IsSettled, after_set_chair, after_settle, first_request, loses_chair, new_of, without}
use Rattle.floor_config.specs.Changed.{chaired}
use Rattle.floor_config.specs.Lookup.{is_user}
use Rattle.floor_config.proofs.KeptAfter.{floor_free}
use Rattle.floor_queue.proofs.Added.{IsQueue-add_floor}
use Rattle.floor_queue.proofs.Chairs.{IsQueue-set_chair, ongoing_then}
use Rattle.floor_queue.proofs.Counts.{count-cons, count_by-map, one}
use Rattle.floor_queue.proofs.Kept.{IsQueue-add, IsQueue-end, IsQueue-filter, IsQueue-set_floor, IsQueue-settle}
use Rattle.floor_message.specs.Ask.{Answer, asks, refused, unanswered, ask}
use Rattle.floor_message.specs.Laws.{FitsButForCounts, WhatIsAskedFits}
use Rattle.floor_message.specs.declared.ask.Ask.{Ask}
use Rattle.floor_message.specs.declared.ask.Ask.TheVariants.{FloorRequest, FloorRelease, FloorRequestQuery, UserQuery, FloorQuery, ChairAction, Hello}
use Rattle.floor_message.specs.declared.verdicts.Verdict.{Verdict}
use Rattle.floor_message.specs.declared.code.ErrorCode.{ErrorCode}
use Rattle.floor_machine.proofs.Speaking.{said-asks}
use Rattle.floor_machine.specs.Said.{said}
use Rattle.floor_machine.specs.declared.event.Event.{Event}
use Rattle.floor_machine.specs.declared.event.Event.TheVariants.{Join, Message, Took, Leave, Revoke, Close, AddUser, AddFloor, SetChair, Say}
use Rattle.floor_machine.specs.declared.member.Member.{Member}
use Rattle.floor_machine.specs.Conference.{Conference, binding, binding_for, is_numbered_from, is_present, joining, opening, user_of}
use Rattle.floor_machine.specs.Shown.{Entry, entry_of, ongoing_of}
use Rattle.floor_machine.specs.Checks.{refusal}
use Rattle.floor_machine.specs.Change.{Change, IsLawful, asked_change, change, decided_at, dismissed, ending, ends_at, ends_without, entries_after, given_after, is_final, leaving, members_after, message_change, queue_of, settled, no_change, reasoned, released, shown, acknowledging, watching, word_of}
use Rattle.floor_machine.specs.Journal.{IsLawfulFrom, after_from}
use Rattle.floor_machine.specs.Reachable.{HasGrown, IsReachable}
use Rattle.floor_machine.specs.steps.Deciding.{MayServe, new_of_ask}
use Rattle.floor_machine.specs.Next.{counted, next}
use Rattle.floor_machine.proofs.Allowed.{all_true, may_serve}
use Rattle.floor_machine.proofs.Changing.{entries-added, ongoing_of-decided, ongoing_of-ending}
use Rattle.floor_machine.proofs.Ended.{ongoing_of-ends}
use Rattle.floor_machine.proofs.Configs.{config-change, keeps_config}
use Rattle.floor_machine.proofs.Entries.{ongoing_of-entries, ongoing_of-settled}
use Rattle.floor_machine.proofs.Grows.{are_known, grown-change, known-next, limits-change, users-next}
use Rattle.floor_machine.proofs.Counted.{AreWithin, within-next}
use Rattle.floor_machine.proofs.Reasoned.{queue-reasoned}
use Rattle.floor_machine.proofs.Sent.{numbered-next}
use Rattle.floor_machine.proofs.Verdicts.{undecided, word-after}

-- those that an event leaves, before they are settled
abbrev queue_changed : Conference → ℕ → List Request → Queue
queue_changed s given rs = record { floors = s.config.floors; given = given; ongoing = rs }

-- these floors and requests
abbrev queue_by : List Floor → ℕ → List Request → Queue
queue_by floors given rs = record { floors = floors; given = given; ongoing = rs }

-- the ongoing ones of some entries
queue-of_entries : (s : Conference) (given : ℕ) (es : List Entry) (rs : List Request) → ongoing_of es ≡ rs → IsQueue (queue_changed s given rs) → IsQueue (queue_changed s given (ongoing_of es))
queue-of_entries s given es rs is h = let P : List Request → Type 0 = λ xs. IsQueue (queue_changed s given xs) in subst P (sym is) h

queue-unchanged : (s : Conference) → IsQueue (queue_of s) → IsQueue (queue_changed s s.given (ongoing_of (map entry_of s.ongoing)))
queue-unchanged s h = queue-of_entries s s.given (map entry_of s.ongoing) s.ongoing (ongoing_of-entries s.ongoing) h

-- after the words of a chair
queue-decided : (q : Queue) (k : ℕ) (verdicts : List (ℕ × Verdict)) → IsQueue q → IsQueue (record q { ongoing = map (decided_at k verdicts) q.ongoing })
queue-decided q k [] h = let P : List Request → Type 0 = λ rs. IsQueue (record q { ongoing = rs }) in subst P (sym (undecided k q.ongoing)) h
queue-decided q k (v ∷ verdicts) h =
    let P : List Request → Type 0 = λ rs. IsQueue (record q { ongoing = rs }) in
    subst P (word-after k v verdicts q.ongoing)
    (IsQueue-set_floor (record q { ongoing = map (decided_at k verdicts) q.ongoing }) k v.0 (word_of v.1) (queue-decided q k verdicts h))

-- after what an accepted message does
queue-asked : (s : Conference) (user : ℕ) (a : Ask) → MayServe s user a → IsQueue (queue_of s) → IsQueue (queue_changed s (given_after s a) (ongoing_of (entries_after s user a)))
queue-asked s user (FloorRequest beneficiary floors priority info) may h =
    queue-of_entries s (s.given + 1) (entries_after s user (FloorRequest beneficiary floors priority info))
    (s.ongoing ++ first_request s.config.floors (s.given + 1) (new_of_ask user beneficiary floors priority info) ∷ [])
    (entries-added s.ongoing (first_request s.config.floors (s.given + 1) (new_of_ask user beneficiary floors priority info)))
    (IsQueue-add (queue_of s) (new_of_ask user beneficiary floors priority info) h may.1.few may.0)
queue-asked s user (FloorRelease request) may h =
    queue-of_entries s s.given (ending s (ends_at request released)) (without request s.ongoing) (ongoing_of-ending request released s.ongoing) (IsQueue-end (queue_of s) request h)
queue-asked s user (FloorRequestQuery request) may h = queue-unchanged s h
queue-asked s user (UserQuery beneficiary) may h = queue-unchanged s h
queue-asked s user (FloorQuery floors) may h = queue-unchanged s h
queue-asked s user (ChairAction request verdicts reason) may h = by (list_any (λ v. is_final v.1) verdicts)
  where
    t : Conference
    t = reasoned s request reason

    stays : IsQueue (queue_of t)
    stays = queue-reasoned (queue_of s) request reason may.1 h

    by : (b : Bool) → IsQueue (queue_changed s s.given (ongoing_of (cond b (ending t (ends_at request dismissed)) (map (λ r. entry_of (decided_at request verdicts r)) t.ongoing))))
    by true =
        queue-of_entries t s.given (ending t (ends_at request dismissed)) (without request t.ongoing) (ongoing_of-ending request dismissed t.ongoing) (IsQueue-end (queue_of t) request stays)
    by false =
        queue-of_entries t s.given (map (λ r. entry_of (decided_at request verdicts r)) t.ongoing) (map (decided_at request verdicts) t.ongoing)
        (ongoing_of-decided request verdicts t.ongoing) (queue-decided (queue_of t) request verdicts stays)
queue-asked s user Hello may h = queue-unchanged s h

-- after a message
queue-message : (s : Conference) (n : Option ℕ) (user : ℕ) (a : Answer) → ((x : Ask) → a ≡ asks x → FitsButForCounts x) → IsQueue (queue_of s) →
    IsQueue (queue_changed s (message_change s n user a).given (ongoing_of (message_change s n user a).entries))
queue-message s n user unanswered fits h = queue-unchanged s h
queue-message s n user (refused code details) fits h = queue-unchanged s h
queue-message s n user (asks a) fits h = by (refusal s user a) refl
  where
    by : (o : Option ErrorCode) → o ≡ refusal s user a →
        (let c : Change = cond (is_some o) (no_change s) (asked_change s n user a) in IsQueue (queue_changed s c.given (ongoing_of c.entries)))
    by None is = queue-asked s user a (may_serve s user a (fits a refl) is) h
    by (Some code) is = queue-unchanged s h

-- after a leave
queue-left : (s : Conference) (members : List Member) (user : ℕ) → IsQueue (queue_of s) → IsQueue (queue_changed s s.given (ongoing_of (ending s (ends_without members user))))
queue-left s members user h =
    let ends : Request → Bool = λ r. r.beneficiary == user && not (is_present members user) in
    queue-of_entries s s.given (ending s (ends_without members user)) (filter (λ r. not (ends r)) s.ongoing) (ongoing_of-ends ends released s.ongoing)
    (IsQueue-filter (queue_of s) (λ r. not (ends r)) h)

-- after an event that leaves the configuration as it is
queue-kept : (s : Conference) (e : Event) → keeps_config e ≡ true → WhatIsAskedFits → IsQueue (queue_of s) → IsQueue (queue_changed s (change s e).given (ongoing_of (change s e).entries))
unfolding change
queue-kept s (Join user) keeps law h = queue-unchanged s h
queue-kept s (Message n bytes) keeps law h = queue-message s (Some n) (user_of s n) (ask bytes (binding s n)) (λ x is. law bytes (binding s n) x is) h
queue-kept s (Took n k) keeps law h = queue-unchanged s h
queue-kept s (Leave n) keeps law h = queue-left s (map (leaving n) s.members) (user_of s n) h
queue-kept s (Revoke request) keeps law h =
    queue-of_entries s s.given (ending s (ends_at request dismissed)) (without request s.ongoing) (ongoing_of-ending request dismissed s.ongoing) (IsQueue-end (queue_of s) request h)
queue-kept s Close keeps law h =
    record {
      rooms = h.rooms;
      ascending = refl;
      numbers = All-nil (λ (r : Request). (1 ≤ r.number) × (r.number ≤ s.given));
      few = omega arith;
      addable = All-nil (λ (r : Request). IsAddable s.config.floors (new_of r));
      reasons = All-nil (λ (r : Request). IfSome r.reason IsReason);
      holders_fit = λ floor. omega arith;
    }
queue-kept s (AddUser user) keeps law h = cc
queue-kept s (AddFloor floor) keeps law h = cc
queue-kept s (SetChair floor chair) keeps law h = cc
queue-kept s (Say user bytes) keeps law h =
    queue-message s None user (said bytes (binding_for s user)) (λ x is. law bytes (binding_for s user) x (said-asks bytes (binding_for s user) x is)) h

-- the queue that an event leaves, before it is settled
abbrev queue_left : Conference → Event → Queue
queue_left s e = queue_by (change s e).config.floors (change s e).given (ongoing_of (change s e).entries)

queue-config : (s : Conference) (e : Event) → keeps_config e ≡ true → WhatIsAskedFits → IsQueue (queue_of s) → IsQueue (queue_left s e)
queue-config s e keeps law h =
    let P : Configuration → Type 0 = λ config. IsQueue (queue_by config.floors (change s e).given (ongoing_of (change s e).entries)) in
    subst P (sym (config-change s e keeps)) (queue-kept s e keeps law h)

queue-entries : (q : Queue) (floors : List Floor) (rs : List Request) → IsQueue (record q { floors = floors; ongoing = rs }) → IsQueue (record q { floors = floors; ongoing = ongoing_of (map entry_of rs) })
queue-entries q floors rs h = let P : List Request → Type 0 = λ xs. IsQueue (record q { floors = floors; ongoing = xs }) in subst P (sym (ongoing_of-entries rs)) h

queue-chair : (q : Queue) (floor : ℕ) (chair : Option ℕ) → IsQueue q → IsQueue (after_set_chair q floor chair)
queue-chair q floor chair h =
    let lost : Option ℕ = cond (loses_chair q.floors floor chair) (Some floor) None in
    let P : List Request → Type 0 = λ rs. IsQueue (record q { floors = map (chaired floor chair) q.floors; ongoing = rs }) in
    subst P (ongoing_then q.floors floor chair q.ongoing) (IsQueue-set_chair q floor chair lost h)

-- after any event
queue-change : (s : Conference) (e : Event) → WhatIsAskedFits → IsLawful s e → IsQueue (queue_of s) → IsQueue (queue_left s e)
unfolding change
queue-change s (Join user) law lawful h = queue-config s (Join user) refl law h
queue-change s (Message n bytes) law lawful h = queue-config s (Message n bytes) refl law h
queue-change s (Say user bytes) law lawful h = queue-config s (Say user bytes) refl law h
queue-change s (Took n k) law lawful h = queue-config s (Took n k) refl law h
queue-change s (Leave n) law lawful h = queue-config s (Leave n) refl law h
queue-change s (Revoke request) law lawful h = queue-config s (Revoke request) refl law h
queue-change s Close law lawful h = queue-config s Close refl law h
queue-change s (AddUser user) law lawful h = queue-entries (queue_of s) s.config.floors s.ongoing h
queue-change s (AddFloor floor) law lawful h =
    let free = floor_free s.config floor lawful.1 in
    queue-entries (queue_of s) (s.config.floors ++ floor ∷ []) s.ongoing (IsQueue-add_floor (queue_of s) floor free.0 free.1 h)
queue-change s (SetChair floor chair) law lawful h =
    let q : Queue = after_set_chair (queue_of s) floor chair in queue-entries (queue_of s) q.floors q.ongoing (queue-chair (queue_of s) floor chair h)

-- the floors and requests after an event are those of its change, settled
queue-next : (s : Conference) (e : Event) → queue_of (next s e) ≡ after_settle (queue_left s e)
unfolding next settled shown
queue-next s e = ap (queue_by (change s e).config.floors (change s e).given) (ongoing_of-settled (change s e).config.floors (change s e).entries)

is_live-watching : (n : ℕ) (floors : List ℕ) (m : Member) → (watching n floors m).is_live ≡ m.is_live
is_live-watching n floors m = by (m.n == n)
  where
    by : (b : Bool) → (cond b (record m { watched = floors }) m).is_live ≡ m.is_live
    by true = refl
    by false = refl

is_live-acknowledging : (n k : ℕ) (m : Member) → (acknowledging n k m).is_live ≡ m.is_live
is_live-acknowledging n k m = by (m.n == n)
  where
    by : (b : Bool) → (cond b (record m { backlog = m.backlog - k }) m).is_live ≡ m.is_live
    by true = refl
    by false = refl

live-leaving : (n : ℕ) (ms : List Member) → count_by (λ m. m.is_live) (map (leaving n) ms) ≤ count_by (λ m. m.is_live) ms
live-leaving n [] = omega arith
live-leaving n (m ∷ ms) =
    omega (arith, count-cons (λ (x : Member). x.is_live) (leaving n m) (map (leaving n) ms), count-cons (λ (x : Member). x.is_live) m ms, live-leaving n ms, by (m.n == n))
  where
    by : (b : Bool) → one (cond b (record m { is_live = false }) m).is_live ≤ one m.is_live
    by true = omega arith
    by false = omega arith

live-asked : (s : Conference) (n : Option ℕ) (a : Ask) → count_by (λ m. m.is_live) s.members ≤ 64 → count_by (λ m. m.is_live) (members_after s n a) ≤ 64
live-asked s n (FloorRequest beneficiary floors priority info) h = h
live-asked s n (FloorRelease request) h = h
live-asked s n (FloorRequestQuery request) h = h
live-asked s n (UserQuery beneficiary) h = h
live-asked s None (FloorQuery floors) h = h
live-asked s (Some n) (FloorQuery floors) h =
    omega (arith, count_by-map (λ (m : Member). m.is_live) (λ (m : Member). m.is_live) (watching n floors) (is_live-watching n floors) s.members, h)
live-asked s n (ChairAction request verdicts reason) h = h
live-asked s n Hello h = h

live-message : (s : Conference) (n : Option ℕ) (user : ℕ) (a : Answer) → count_by (λ m. m.is_live) s.members ≤ 64 → count_by (λ m. m.is_live) (message_change s n user a).members ≤ 64
live-message s n user unanswered h = h
live-message s n user (refused code details) h = h
live-message s n user (asks a) h = by (is_some (refusal s user a))
  where
    by : (b : Bool) → count_by (λ m. m.is_live) (cond b (no_change s) (asked_change s n user a)).members ≤ 64
    by true = h
    by false = live-asked s n a h

live-change : (s : Conference) (e : Event) → IsLawful s e → count_by (λ m. m.is_live) s.members ≤ 64 → count_by (λ m. m.is_live) (change s e).members ≤ 64
unfolding change
live-change s (Join user) lawful h =
    omega (arith, sum_by_push (λ (m : Member). cond m.is_live 1 0) s.members (joining (length s.members + 1) user), lawful.2)
live-change s (Message n bytes) lawful h = live-message s (Some n) (user_of s n) (ask bytes (binding s n)) h
live-change s (Took n k) lawful h =
    omega (arith, count_by-map (λ (m : Member). m.is_live) (λ (m : Member). m.is_live) (acknowledging n k) (is_live-acknowledging n k) s.members, h)
live-change s (Leave n) lawful h = omega (arith, live-leaving n s.members, h)
live-change s (Revoke request) lawful h = h
live-change s Close lawful h = h
live-change s (AddUser user) lawful h = h
live-change s (AddFloor floor) lawful h = h
live-change s (SetChair floor chair) lawful h = h
live-change s (Say user bytes) lawful h = live-message s None user (said bytes (binding_for s user)) h

live-next : (s : Conference) (e : Event) → IsLawful s e → count_by (λ m. m.is_live) s.members ≤ 64 → count_by (λ m. m.is_live) (next s e).members ≤ 64
unfolding next settled
live-next s e lawful h =
    omega (arith, count_by-map (λ (m : Member). m.is_live) (λ (m : Member). m.is_live) (counted s e) (λ m. refl) (settled s e).members, live-change s e lawful h)

-- what each lawful event keeps
pub record Keeps (s : Conference) : Type 0 where
  pub limits : IsConfiguration s.config
  pub queue : IsQueue (queue_of s)
  pub settled : IsSettled (queue_of s)
  pub numbered : is_numbered_from 1 s.members ≡ true
  pub users : list_all (λ m. is_user s.config m.user) s.members ≡ true
  pub known : list_all (are_known s.config) s.ongoing ≡ true
  pub live : count_by (λ m. m.is_live) s.members ≤ 64
  pub backlogs : AreWithin s.members

-- settling twice is settling once
abbrev pub SettlesOnce : Type 0
SettlesOnce = (floors : List Floor) (requests : List Request) → settle floors (settle floors requests) ≡ settle floors requests

limits-next : (s : Conference) (e : Event) → IsLawful s e → IsConfiguration s.config → IsConfiguration (next s e).config
unfolding next settled
limits-next s e lawful h = limits-change s e lawful h

-- a lawful event keeps it
pub keeps-next : (s : Conference) (e : Event) → WhatIsAskedFits → SettlesOnce → IsLawful s e → Keeps s → Keeps (next s e)
keeps-next s e law once lawful k =
    let q : Queue = queue_left s e in
    record {
      limits = limits-next s e lawful k.limits;
      queue = subst IsQueue (sym (queue-next s e)) (IsQueue-settle q (queue-change s e law lawful k.queue));
      settled = subst IsSettled (sym (queue-next s e)) (once q.floors q.ongoing);
      numbered = numbered-next s e k.numbered;
      users = users-next s e lawful k.users;
      known = known-next s e lawful k.users k.known;
      live = live-next s e lawful k.live;
      backlogs = within-next s e k.settled k.queue.ascending k.numbered k.backlogs;
    }

-- each run of lawful events keeps it
pub keeps-after : (s : Conference) (es : List Event) → WhatIsAskedFits → SettlesOnce → IsLawfulFrom s es → Keeps s → Keeps (after_from s es)
keeps-after s [] law once lawful k = k
keeps-after s (e ∷ es) law once lawful k = keeps-after (next s e) es law once lawful.1 (keeps-next s e law once lawful.0 k)

-- a conference that opens has it
pub keeps-opening : (config : Configuration) → IsConfiguration config → Keeps (opening config)
keeps-opening config h =
    record {
      limits = h;
      queue = record {
        rooms = All-weaker IsFloor (λ (f : Floor). 1 ≤ f.room) (λ f k. k.room_least) config.floors h.floors;
        ascending = refl;
        numbers = All-nil (λ (r : Request). (1 ≤ r.number) × (r.number ≤ 0));
        few = omega arith;
        addable = All-nil (λ (r : Request). IsAddable config.floors (new_of r));
        reasons = All-nil (λ (r : Request). IfSome r.reason IsReason);
        holders_fit = λ floor. omega arith;
      };
      settled = refl;
      numbered = refl;
      users = refl;
      known = refl;
      live = omega arith;
      backlogs = All-nil (λ (m : Member). m.backlog ≤ 1024);
    }

grown-next : (config : Configuration) (s : Conference) (e : Event) → HasGrown config s.config → HasGrown config (next s e).config
unfolding next settled
grown-next config s e h = grown-change config s e h

-- the configuration grows from the opening one
pub grown-after : (config : Configuration) (s : Conference) (es : List Event) → HasGrown config s.config → HasGrown config (after_from s es).config
grown-after config s [] h = h
grown-after config s (e ∷ es) h = grown-after config (next s e) es (grown-next config s e h)

-- queue positions fit
abbrev pub PositionsFit : Type 0
PositionsFit = (q : Queue) → IsQueue q → IsSettled q → All (λ r. (floor : ℕ) → position q.floors q.ongoing r floor ≤ 255) q.ongoing

pub reachable : (config : Configuration) (s : Conference) → PositionsFit → HasGrown config s.config → Keeps s → IsReachable config s
reachable config s positions grown k =
    record {
      limits = k.limits;
      grown = grown;
      ascending = k.queue.ascending;
      numbers = k.queue.numbers;
      few = k.queue.few;
      room = k.queue.holders_fit;
      settled = k.settled;
      positions = positions (queue_of s) k.queue k.settled;
      numbered = k.numbered;
      users = all_true (λ m. is_user s.config m.user) s.members k.users;
      live = k.live;
      backlogs = k.backlogs;
    }
