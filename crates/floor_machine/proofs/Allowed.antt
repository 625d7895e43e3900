-- What no check refuses may be done.
use Rattle.std.proofs.Common.{◌≡◌, ◌≢◌, ℕ, zero, suc, ◌<◌, ◌≤◌, Bool, true, false, List, [], ◌∷◌, length, get_or, cond, Option, Some, None, Result, Ok, Err, refl, sym, subst, arith}
use Rattle.std.specs.Prelude.{◌==◌, ◌||◌, ◌&&◌, not, nat_lt, nat_le, All, IsTrue, IfOk, IfSome, IsSome, IsSomeAnd}
use Rattle.std.specs.List.{list_any, list_all}
use Rattle.std.specs.Option.{option_map_or}
use Rattle.std.proofs.lemmas.Bool.Decides.{nat_tests}
use Rattle.std.proofs.lemmas.List.Elements.{All-nil, All-cons}
use Rattle.floor_config.specs.Doubles.{AllDiffer}
use Rattle.floor_config.specs.Lookup.{is_floor, is_user, has_proxy, chair_is}
use Rattle.floor_queue.specs.declared.request.Request.{Request}
use Rattle.floor_queue.specs.Order.{names}
use Rattle.floor_queue.specs.Queue.{IsReason, MaySetFloor, Queue, request_at}
use Rattle.floor_message.specs.Picked.{IsOnceBy}
use Rattle.floor_message.specs.Fits.{FloorRequestFits, TextFits}
use Rattle.floor_message.specs.Laws.{FitsButForCounts}
use Rattle.floor_message.specs.declared.ask.Ask.{Ask}
use Rattle.floor_message.specs.declared.verdicts.Verdict.{Verdict}
use Rattle.floor_message.specs.declared.verdicts.Verdict.TheVariants.{Accepted, Granted, Denied, Revoked}
use Rattle.floor_message.specs.declared.ask.Ask.TheVariants.{FloorRequest, FloorRelease, FloorRequestQuery, UserQuery, FloorQuery, ChairAction, Hello}
use Rattle.floor_message.specs.declared.code.ErrorCode.{ErrorCode}
use Rattle.floor_message.specs.declared.code.ErrorCode.TheVariants.{FloorRequestIdDoesNotExist, UnauthorizedOperation, UserDoesNotExist, InvalidFloorId, GenericError, MaximumFloorRequestsReached}
use Rattle.floor_machine.specs.Conference.{Conference}
use Rattle.floor_machine.specs.Checks.{Check, when, first_of, beneficiary_of, requests_for, release_checks, chair_checks, is_allowed, refusal}
use Rattle.floor_machine.specs.Change.{is_final}
use Rattle.floor_machine.specs.declared.decision.Change.TheVariants as to
use Rattle.floor_machine.specs.declared.decision.Decision.{Decision}
use Rattle.floor_machine.specs.declared.decision.EndedBy.TheVariants.{Chair}
use Rattle.floor_machine.specs.steps.Deciding.{HasRoom, MayChange, MayDecide, MayServe, accepted, asked, refused_by}
use Rattle.floor_machine.specs.steps.Fitting.{DetailsFit}
use Rattle.floor_machine.proofs.Found.{and_left, and_right}

-- of six checks that none refuses by, the third, the fourth and the sixth don't apply
six : (a b c d e f : Bool) (k l m n o p : ErrorCode) → first_of (when a k ∷ when b l ∷ when c m ∷ when d n ∷ when e o ∷ when f p ∷ []) ≡ None → (c ≡ false) × (d ≡ false) × (f ≡ false)
six true b c d e f k l m n o p h = cc
six false true c d e f k l m n o p h = cc
six false false true d e f k l m n o p h = cc
six false false false true e f k l m n o p h = cc
six false false false false true f k l m n o p h = cc
six false false false false false true k l m n o p h = cc
six false false false false false false k l m n o p h = (refl, refl, refl)

not_false : (b : Bool) → not b ≡ false → b ≡ true
not_false true h = refl
not_false false h = cc

-- what passes a test each
pub all_true : {X : Type 0} (p : X → Bool) (xs : List X) → list_all p xs ≡ true → All (λ x. IsTrue (p x)) xs
all_true p [] h = All-nil (λ x. IsTrue (p x))
all_true p (x ∷ xs) h = All-cons (λ x. IsTrue (p x)) x xs (and_left (p x) (list_all p xs) h) (all_true p xs (and_right (p x) (list_all p xs) h))

or_first : (a b : Bool) → (a || b) ≡ false → a ≡ false
or_first true b h = h
or_first false b h = refl

or_second : (a b : Bool) → (a || b) ≡ false → b ≡ false
or_second true b h = cc
or_second false b h = h

-- a number that stands in the list is found there
not_among : (xs : List ℕ) (n : ℕ) (i : ℕ) (d : ℕ) → list_any (λ y. y == n) xs ≡ false → i < length xs → n ≢ get_or xs i d
not_among [] n i d h within = absurd (omega arith)
not_among (x ∷ xs) n zero d h within = λ e. differs x n (or_first _ _ h) e
  where
    differs : (x n : ℕ) → (x == n) ≡ false → n ≢ x
    differs x n h e = grind (arith, nat_tests)
not_among (x ∷ xs) n (suc i) d h within = not_among xs n i d (or_second (x == n) _ h) (omega arith)

-- floors that are named once differ
pub once_differ : (xs : List ℕ) → IsOnceBy (λ n. n) xs → AllDiffer xs
once_differ [] h = λ i j d below within. absurd (omega arith)
once_differ (x ∷ xs) h = λ i j d below within. at (once_differ xs h.1) i j d below within
  where
    at : AllDiffer xs → (i j : ℕ) (d : ℕ) → i < j → j < length (x ∷ xs) → get_or (x ∷ xs) i d ≢ get_or (x ∷ xs) j d
    at rest i zero d below within = absurd (omega arith)
    at rest zero (suc j) d below within = not_among xs x j d h.0 (omega arith)
    at rest (suc i) (suc j) d below within = rest i j d (omega arith) (omega arith)

text_kept : (info : Option (List ℕ)) → IfSome info (TextFits 62) → IfSome info (λ text. (1 ≤ length text) × (length text ≤ 62))
text_kept None h = tt
text_kept (Some text) h = (omega (arith, h.some), h.short)

-- a chair's reason that is read is one
is_reason : (reason : Option (List ℕ)) → IfSome reason (TextFits 30) → IfSome reason IsReason
is_reason None h = tt
is_reason (Some reason) h = record { utf8 = h.utf8; some = omega (arith, h.some); short = h.short }

at_most : (n : ℕ) → nat_lt 8 n ≡ false → n ≤ 8
at_most n h = grind (arith, nat_tests)

-- fewer than 256 requests, and a number left
room : (ongoing : List Request) (given : ℕ) → (nat_le 256 (length ongoing) || given == 65535) ≡ false → HasRoom ongoing given
room ongoing given h = record {
  few = below (length ongoing) (or_first (nat_le 256 (length ongoing)) (given == 65535) h);
  left = apart given (or_second (nat_le 256 (length ongoing)) (given == 65535) h);
}
  where
    below : (n : ℕ) → nat_le 256 n ≡ false → n < 256
    below n h = grind (arith, nat_tests)

    apart : (n : ℕ) → (n == 65535) ≡ false → n ≢ 65535
    apart n h = grind (arith, nat_tests)

found : (o : Option Request) (checks : Request → List Check) → option_map_or (λ r. first_of (checks r)) o (Some FloorRequestIdDoesNotExist) ≡ None → IsSome o
found None checks h = cc
found (Some r) checks h = refl

-- of three checks that none refuses by, the first and the third don't apply
three : (a b c : Bool) (k l m : ErrorCode) → first_of (when a k ∷ when b l ∷ when c m ∷ []) ≡ None → (a ≡ false) × (c ≡ false)
three true b c k l m h = cc
three false true c k l m h = cc
three false false true k l m h = cc
three false false false k l m h = (refl, refl)

-- verdicts that no check refuses may be done
decidable : (s : Conference) (user : ℕ) (verdicts : List (ℕ × Verdict)) (o : Option Request) →
    option_map_or (λ r. first_of (chair_checks s user verdicts r)) o (Some FloorRequestIdDoesNotExist) ≡ None →
    IsSomeAnd o (λ r. (list_all (λ v. names r v.0) verdicts ≡ true) × (list_all (λ v. is_allowed r.is_granted v.1) verdicts ≡ true))
decidable s user verdicts None h = cc
decidable s user verdicts (Some r) h =
    let free =
    three (not (list_all (λ v. names r v.0) verdicts)) (not (list_all (λ v. chair_is s.config v.0 user) verdicts)) (not (list_all (λ v. is_allowed r.is_granted v.1) verdicts))
    InvalidFloorId UnauthorizedOperation GenericError h in
    (not_false (list_all (λ v. names r v.0) verdicts) free.0, not_false (list_all (λ v. is_allowed r.is_granted v.1) verdicts) free.1)

-- what no own check refuses, and is read of a message, may be done
pub may_serve : (s : Conference) (user : ℕ) (a : Ask) → FitsButForCounts a → None ≡ refusal s user a → MayServe s user a
unfolding refusal
may_serve s user (FloorRequest beneficiary floors priority info) fits none =
    let b = beneficiary_of user beneficiary in
    let free =
    six (not (b == user) && not (has_proxy s.config user)) (not (is_user s.config b)) (not (list_all (is_floor s.config.floors) floors)) (nat_lt 8 (length floors))
    (list_any (λ floor. nat_le s.config.limit (requests_for s.ongoing b floor)) floors) (nat_le 256 (length s.ongoing) || s.given == 65535)
    UnauthorizedOperation UserDoesNotExist InvalidFloorId GenericError MaximumFloorRequestsReached GenericError (sym none) in
    let few : length floors ≤ 8 = at_most (length floors) free.1 in
    let fit : FloorRequestFits floors priority info = fits.parts (omega arith) in (
      record {
        floors_least = omega (arith, fit.some);
        floors_most = few;
        floors_differ = once_differ floors fit.floors_fit.once;
        floors_known = all_true (is_floor s.config.floors) floors (not_false (list_all (is_floor s.config.floors) floors) free.0);
        priority = fit.priority_fits;
        info = text_kept info fit.text;
      },
      room s.ongoing s.given free.2,
    )
may_serve s user (FloorRelease request) fits none = found (request_at s.ongoing request) (release_checks user) (sym none)
may_serve s user (FloorRequestQuery request) fits none = tt
may_serve s user (UserQuery beneficiary) fits none = tt
may_serve s user (FloorQuery floors) fits none = tt
may_serve s user (ChairAction request verdicts reason) fits none = (decidable s user verdicts (request_at s.ongoing request) (sym none), is_reason reason fits.text)
may_serve s user Hello fits none = tt

-- a verdict that a request allows, and that doesn't end it, finds it not granted
not_granted : (b : Bool) (v : Verdict) → is_allowed b v ≡ true → is_final v ≡ false → not b ≡ true
not_granted b Accepted h k = h
not_granted b Granted h k = h
not_granted b Denied h k = cc
not_granted b Revoked h k = cc

may_each : (r : Request) (verdicts : List (ℕ × Verdict)) → list_all (λ v. names r v.0) verdicts ≡ true → list_all (λ v. is_allowed r.is_granted v.1) verdicts ≡ true →
    list_any (λ v. is_final v.1) verdicts ≡ false → All (λ v. IsTrue (names r v.0) × IsTrue (not r.is_granted)) verdicts
may_each r [] named allowed lasting = All-nil (λ v. IsTrue (names r v.0) × IsTrue (not r.is_granted))
may_each r (v ∷ verdicts) named allowed lasting =
    All-cons (λ v. IsTrue (names r v.0) × IsTrue (not r.is_granted)) v verdicts
    (and_left (names r v.0) _ named, not_granted r.is_granted v.1 (and_left (is_allowed r.is_granted v.1) _ allowed) (or_first (is_final v.1) _ lasting))
    (may_each r verdicts (and_right (names r v.0) _ named) (and_right (is_allowed r.is_granted v.1) _ allowed) (or_second (is_final v.1) _ lasting))

-- verdicts that may be done, none of which ends the request, may leave their words
pub may_words : (q : Queue) (request : ℕ) (verdicts : List (ℕ × Verdict)) → MayDecide q.ongoing request verdicts → list_any (λ v. is_final v.1) verdicts ≡ false →
    All (λ v. MaySetFloor q request v.0) verdicts
may_words q request verdicts may lasting = by (request_at q.ongoing request) may
  where
    by : (o : Option Request) → IsSomeAnd o (λ r. (list_all (λ v. names r v.0) verdicts ≡ true) × (list_all (λ v. is_allowed r.is_granted v.1) verdicts ≡ true)) →
        All (λ v. IsSomeAnd o (λ r. IsTrue (names r v.0) × IsTrue (not r.is_granted))) verdicts
    by None h = absurd h
    by (Some r) h = may_each r verdicts h.0 h.1 lasting

-- so may what it comes to
may_accept : (s : Conference) (n : Option ℕ) (user : ℕ) (a : Ask) → MayServe s user a → MayChange s (accepted n user a).change
may_accept s n user (FloorRequest beneficiary floors priority info) may = may
may_accept s n user (FloorRelease request) may = (may, tt)
may_accept s n user (FloorRequestQuery request) may = tt
may_accept s n user (UserQuery beneficiary) may = tt
may_accept s None user (FloorQuery floors) may = tt
may_accept s (Some n) user (FloorQuery floors) may = tt
may_accept s n user (ChairAction request verdicts reason) may = by (list_any (λ v. is_final v.1) verdicts) refl
  where
    ongoing : (P : Request → Type 0) (o : Option Request) → IsSomeAnd o P → IsSome o
    ongoing P None h = absurd h
    ongoing P (Some r) h = refl

    by : (b : Bool) → list_any (λ v. is_final v.1) verdicts ≡ b → MayChange s (cond b (to.End request Chair reason) (to.Words request verdicts reason))
    by true is = (ongoing _ (request_at s.ongoing request) may.0, may.1)
    by false is = (may.0, is, may.1)
may_accept s n user Hello may = tt

-- what is asked comes to what may be done
may_asked : (s : Conference) (n : Option ℕ) (user : ℕ) (a : Ask) → FitsButForCounts a → MayChange s (asked s n user a).change
may_asked s n user a fits = by (refusal s user a) refl
  where
    by : (o : Option ErrorCode) → o ≡ refusal s user a → MayChange s (option_map_or refused_by o (accepted n user a)).change
    by None free = may_accept s n user a (may_serve s user a fits free)
    by (Some code) free = tt

details_accepted : (n : Option ℕ) (user : ℕ) (a : Ask) → DetailsFit (accepted n user a).reply
details_accepted n user (FloorRequest beneficiary floors priority info) = tt
details_accepted n user (FloorRelease request) = tt
details_accepted n user (FloorRequestQuery request) = tt
details_accepted n user (UserQuery beneficiary) = tt
details_accepted n user (FloorQuery floors) = tt
details_accepted n user (ChairAction request verdicts reason) = tt
details_accepted n user Hello = tt

-- and the details of its Error, if it is answered by one, fit
details_asked : (s : Conference) (n : Option ℕ) (user : ℕ) (a : Ask) → DetailsFit (asked s n user a).reply
details_asked s n user a = by (refusal s user a)
  where
    by : (o : Option ErrorCode) → DetailsFit (option_map_or refused_by o (accepted n user a)).reply
    by None = details_accepted n user a
    by (Some code) = omega arith

if_same : {E : Type 0} (P : Decision → Type 0) (d : Decision) (r : Result Decision E) → P d → IfOk r (λ x. x ≡ d) → IfOk r P
if_same P d (Ok x) h same = subst P (sym same) h
if_same P d (Err e) h same = tt

-- what is decided of what is asked may be done
pub may_decided : {E : Type 0} (s : Conference) (n : Option ℕ) (user : ℕ) (a : Ask) (r : Result Decision E) → FitsButForCounts a → IfOk r (λ d. d ≡ asked s n user a) → IfOk r (λ d. MayChange s d.change)
may_decided s n user a r fits same = if_same (λ d. MayChange s d.change) (asked s n user a) r (may_asked s n user a fits) same

-- and the details of its Error fit
pub details_decided : {E : Type 0} (s : Conference) (n : Option ℕ) (user : ℕ) (a : Ask) (r : Result Decision E) → IfOk r (λ d. d ≡ asked s n user a) → IfOk r (λ d. DetailsFit d.reply)
details_decided s n user a r same = if_same (λ d. DetailsFit d.reply) (asked s n user a) r (details_asked s n user a) same
