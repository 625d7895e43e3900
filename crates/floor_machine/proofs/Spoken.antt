-- What is said for a user is a FloorRequest, a FloorRelease or a ChairAction, and does what it would as a message of a member of the user.
use Rattle.std.proofs.Common.{◌≡◌, ℕ, Bool, true, false, cond, List, [], ◌∷◌, ◌+◌, Option, Some, None, refl, sym, ap, subst, ◌∙◌}
use Rattle.std.specs.Prelude.{drop, is_some, option_and_then, option_map}
use Rattle.std.specs.Option.{option_map_or}
use Rattle.floor_wire.specs.Attributes.{Attributes}
use Rattle.floor_wire.specs.Header.{CommonHeader, header_of}
use Rattle.floor_wire.specs.Spelled.{spelled}
use Rattle.floor_wire.specs.Types.{FLOOR_ID, BENEFICIARY_ID, FLOOR_REQUEST_ID, PRIORITY, PARTICIPANT_PROVIDED_INFO, FLOOR_REQUEST_INFORMATION}
use Rattle.floor_wire.specs.View.{items}
use Rattle.floor_wire.specs.declared.attribute.Attr.{Attr}
use Rattle.floor_message.specs.Ask.{Answer, ask, asks, refused, unanswered, wanted}
use Rattle.floor_message.specs.Binding.{Binding}
use Rattle.floor_message.specs.Code.{code_number}
use Rattle.floor_message.specs.Fields.{chair_action, chair_asked, fields, floor_request, floors_judged, given, priority_asked, reason_kept}
use Rattle.floor_message.specs.Head.{response_head}
use Rattle.floor_message.specs.Picked.{distinct, first, groups, numbers, octet_strings, pairs}
use Rattle.floor_message.specs.Primitive.{primitive_of}
use Rattle.floor_message.specs.Text.{text_kept}
use Rattle.floor_message.specs.declared.ask.Ask.{Ask}
use Rattle.floor_message.specs.declared.ask.Ask.TheVariants.{FloorRequest, FloorRelease, FloorRequestQuery, UserQuery, FloorQuery, ChairAction, Hello}
use Rattle.floor_message.specs.declared.code.ErrorCode.{ErrorCode}
use Rattle.floor_message.specs.declared.primitive.Primitive.{Primitive}
use Rattle.floor_message.specs.declared.primitive.Primitive.TheVariants as primitive
use Rattle.floor_message.specs.declared.tell.Tell.{Tell}
use Rattle.floor_message.specs.declared.tell.Tell.TheVariants.{Error}
use Rattle.floor_message.specs.declared.verdicts.Verdict.{Verdict}
use Rattle.floor_machine.specs.declared.event.Event.{Event}
use Rattle.floor_machine.specs.declared.event.Event.TheVariants.{Message, Say}
use Rattle.floor_machine.specs.Conference.{Conference, binding, binding_for, user_of}
use Rattle.floor_machine.specs.Said.{answer_said, said, sayable}
use Rattle.floor_machine.specs.Shown.{Entry, settle_entries}
use Rattle.floor_machine.specs.Checks.{refusal}
use Rattle.floor_machine.specs.Change.{Change, asked_change, change, message_change, no_change, settled, shown}
use Rattle.floor_machine.specs.Reply.{answer_tells, headed, reply, reply_tells, request_answer}
use Rattle.floor_machine.specs.Laws.{SaidIsSent}
use Rattle.floor_machine.proofs.AskedOnce.{asked-wanted}
use Rattle.floor_machine.proofs.Served.{change-message, change-said, reply-message, reply-said}
use Rattle.floor_machine.proofs.Speaking.{said-same}

-- what may be said
abbrev pub MaySay : Ask → Type 0
MaySay (FloorRequest beneficiary floors priority info) = Unit {0}
MaySay (FloorRelease request) = Unit {0}
MaySay (FloorRequestQuery request) = ⊥
MaySay (UserQuery beneficiary) = ⊥
MaySay (FloorQuery floors) = ⊥
MaySay (ChairAction request verdicts reason) = Unit {0}
MaySay Hello = ⊥

may : (x a : Ask) → Some x ≡ Some a → MaySay x → MaySay a
may x a e h = let same : x ≡ a = cc in subst MaySay same h

may_request : (floors : List ℕ) (b : Option ℕ) (priority : ℕ) (kept : Option (Option (List ℕ))) (a : Ask) → floor_request floors b priority kept ≡ Some a → MaySay a
may_request [] b priority kept a e = cc
may_request (f ∷ floors) b priority None a e = cc
may_request (f ∷ floors) b priority (Some info) a e = may (FloorRequest b (f ∷ floors) priority info) a e tt

may_release : (o : Option ℕ) (a : Ask) → option_map FloorRelease o ≡ Some a → MaySay a
may_release None a e = cc
may_release (Some n) a e = may (FloorRelease n) a e tt

may_kept : (request : ℕ) (verdicts : List (ℕ × Verdict)) (kept : Option (Option (List ℕ))) (a : Ask) → option_and_then (chair_action request verdicts) kept ≡ Some a → MaySay a
may_kept request verdicts None a e = cc
may_kept request [] (Some reason) a e = cc
may_kept request (v ∷ verdicts) (Some reason) a e = may (ChairAction request (v ∷ verdicts) reason) a e tt

may_action : (request : ℕ) (kept : Option (Option (List ℕ))) (o : Option (List (ℕ × Verdict))) (a : Ask)
    → option_and_then (λ verdicts. option_and_then (chair_action request verdicts) kept) o ≡ Some a → MaySay a
may_action request kept None a e = cc
may_action request kept (Some verdicts) a e = may_kept request verdicts kept a e

may_chair : (o : Option (ℕ × List Attr)) (a : Ask) → option_and_then chair_asked o ≡ Some a → MaySay a
may_chair None a e = cc
may_chair (Some g) a e = may_action g.0 (reason_kept g.1) (given (floors_judged g.1)) a e

may_wanted : (p : Option Primitive) (attrs : Option Attributes) (a : Ask) → wanted (sayable p) attrs ≡ Some a → MaySay a
may_wanted None attrs a e = cc
may_wanted (Some primitive.FloorRequest) None a e = cc
may_wanted (Some primitive.FloorRequest) (Some attrs) a e =
    may_request (distinct (numbers FLOOR_ID (items attrs))) (first (numbers BENEFICIARY_ID (items attrs))) (priority_asked (first (pairs PRIORITY (items attrs))))
    (text_kept 62 (first (octet_strings PARTICIPANT_PROVIDED_INFO (items attrs)))) a e
may_wanted (Some primitive.FloorRelease) None a e = cc
may_wanted (Some primitive.FloorRelease) (Some attrs) a e = may_release (first (numbers FLOOR_REQUEST_ID (items attrs))) a e
may_wanted (Some primitive.FloorRequestQuery) attrs a e = cc
may_wanted (Some primitive.FloorRequestStatus) attrs a e = cc
may_wanted (Some primitive.UserQuery) attrs a e = cc
may_wanted (Some primitive.UserStatus) attrs a e = cc
may_wanted (Some primitive.FloorQuery) attrs a e = cc
may_wanted (Some primitive.FloorStatus) attrs a e = cc
may_wanted (Some primitive.ChairAction) None a e = cc
may_wanted (Some primitive.ChairAction) (Some attrs) a e = may_chair (first (groups FLOOR_REQUEST_INFORMATION (items attrs))) a e
may_wanted (Some primitive.ChairActionAck) attrs a e = cc
may_wanted (Some primitive.Hello) attrs a e = cc
may_wanted (Some primitive.HelloAck) attrs a e = cc
may_wanted (Some primitive.Error) attrs a e = cc

-- what is said may be
pub said-may : (bytes : List ℕ) (b : Binding) (a : Ask) → said bytes b ≡ asks a → MaySay a
unfolding said
said-may bytes b a e =
    let p : Option Primitive = primitive_of (header_of bytes).primitive in
    may_wanted p (spelled (drop 12 bytes)) a (asked-wanted (header_of bytes) b (sayable p) (spelled (drop 12 bytes)) a e)

-- it changes the same, whoever sends it
asked-same : (s : Conference) (n m : Option ℕ) (user : ℕ) (a : Ask) → MaySay a → asked_change s n user a ≡ asked_change s m user a
asked-same s n m user (FloorRequest beneficiary floors priority info) h = refl
asked-same s n m user (FloorRelease request) h = refl
asked-same s n m user (FloorRequestQuery request) h = absurd h
asked-same s n m user (UserQuery beneficiary) h = absurd h
asked-same s n m user (FloorQuery floors) h = absurd h
asked-same s n m user (ChairAction request verdicts reason) h = refl
asked-same s n m user Hello h = absurd h

answer-same : (s : Conference) (n m : Option ℕ) (user : ℕ) (a : Answer) → ((x : Ask) → a ≡ asks x → MaySay x) → message_change s n user a ≡ message_change s m user a
answer-same s n m user unanswered h = refl
answer-same s n m user (refused code details) h = refl
answer-same s n m user (asks a) h = ap (λ (c : Change). cond (is_some (refusal s user a)) (no_change s) c) (asked-same s n m user a (h a refl))

change-spoken : (s : Conference) (n : ℕ) (bytes : List ℕ) → is_some (sayable (primitive_of (header_of bytes).primitive)) ≡ true → change s (Say (user_of s n) bytes) ≡ change s (Message n bytes)
change-spoken s n bytes is =
    let b : Binding = binding s n in
    change-said s (user_of s n) bytes
    ∙ answer-same s None (Some n) (user_of s n) (said bytes b) (λ a e. said-may bytes b a e)
    ∙ ap (message_change s (Some n) (user_of s n)) (said-same bytes b is)
    ∙ sym (change-message s n bytes)

-- so it shows the same
shown-same : (s : Conference) (e f : Event) → change s e ≡ change s f → shown s e ≡ shown s f
unfolding shown
shown-same s e f same = ap (λ (c : Change). settle_entries c.config.floors c.entries) same

tells-same : (s : Conference) (e f : Event) (user : ℕ) (a : Ask) → MaySay a → shown s e ≡ shown s f → answer_tells s e user a ≡ answer_tells s f user a
tells-same s e f user (FloorRequest beneficiary floors priority info) h same = ap (λ (es : List Entry). request_answer s.config es (s.given + 1)) same
tells-same s e f user (FloorRelease request) h same = ap (λ (es : List Entry). request_answer s.config es request) same
tells-same s e f user (FloorRequestQuery request) h same = absurd h
tells-same s e f user (UserQuery beneficiary) h same = absurd h
tells-same s e f user (FloorQuery floors) h same = absurd h
tells-same s e f user (ChairAction request verdicts reason) h same = refl
tells-same s e f user Hello h same = absurd h

-- and is answered the same
reply-same : (s : Conference) (e f : Event) (user : ℕ) (a : Answer) → ((x : Ask) → a ≡ asks x → MaySay x) → shown s e ≡ shown s f → reply_tells s e user a ≡ reply_tells s f user a
reply-same s e f user unanswered h same = refl
reply-same s e f user (refused code details) h same = refl
reply-same s e f user (asks a) h same =
    ap (λ (tells : List Tell). option_map_or (λ code. Error (code_number code) [] ∷ []) (refusal s user a) tells) (tells-same s e f user a (h a refl) same)

reply-spoken : (s : Conference) (n : ℕ) (bytes : List ℕ) → is_some (sayable (primitive_of (header_of bytes).primitive)) ≡ true → reply s (Say (user_of s n) bytes) ≡ reply s (Message n bytes)
reply-spoken s n bytes is =
    let b : Binding = binding s n in
    let e : Event = Say (user_of s n) bytes in
    let f : Event = Message n bytes in
    sym (reply-said s (user_of s n) bytes)
    ∙ ap (headed (response_head bytes))
    (reply-same s e f (user_of s n) (said bytes b) (λ a e. said-may bytes b a e) (shown-same s e f (change-spoken s n bytes is))
    ∙ ap (reply_tells s f (user_of s n)) (said-same bytes b is))
    ∙ reply-message s n bytes

-- what is said does what it would as a message of a member
pub said_is_sent : SaidIsSent
said_is_sent = λ s n bytes is. (change-spoken s n bytes is, reply-spoken s n bytes is)
