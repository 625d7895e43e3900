-- What an event comes to is what it changes, whom it answers and whom it tells.
use Rattle.std.proofs.Common.{◌≡◌, ℕ, Bool, true, false, cond, List, [], map, Option, Some, None, refl, sym, ap, ◌∙◌}
use Rattle.std.specs.Prelude.{◌==◌, option_map}
use Rattle.std.specs.List.{list_any}
use Rattle.std.specs.Option.{option_map_or}
use Rattle.floor_message.specs.Ask.{Answer, asks, refused, unanswered, ask}
use Rattle.floor_message.specs.Head.{response_head}
use Rattle.floor_message.specs.Picked.{first}
use Rattle.floor_message.specs.declared.ask.Ask.{Ask}
use Rattle.floor_message.specs.declared.ask.Ask.TheVariants.{FloorRequest, FloorRelease, FloorRequestQuery, UserQuery, FloorQuery, ChairAction, Hello}
use Rattle.floor_message.specs.declared.code.ErrorCode.{ErrorCode}
use Rattle.floor_machine.specs.declared.course.Ended.{Ended}
use Rattle.floor_machine.specs.declared.decision.Change.TheVariants as to
use Rattle.floor_machine.specs.declared.decision.Decision.{Decision}
use Rattle.floor_machine.specs.declared.decision.EndedBy.TheVariants.{Chair}
use Rattle.floor_machine.specs.declared.decision.Sender.{Sender}
use Rattle.floor_machine.specs.declared.event.Event.{Event}
use Rattle.floor_machine.specs.declared.event.Event.TheVariants.{Join, Message, Took, Leave, Revoke, Close, AddUser, AddFloor, SetChair, Say}
use Rattle.floor_machine.specs.declared.replied.Replied.{Replied}
use Rattle.floor_machine.specs.Conference.{Conference, binding, binding_for, user_of}
use Rattle.floor_machine.specs.Said.{said}
use Rattle.floor_machine.specs.Change.{change, is_final, message_change, settled, shown}
use Rattle.floor_machine.specs.Checks.{refusal}
use Rattle.floor_machine.specs.Outgoing.{Outgoing, outgoing_bytes}
use Rattle.floor_machine.specs.Reply.{headed, reply_tells, said_reply}
use Rattle.floor_machine.specs.Told.{reply_to}
use Rattle.floor_machine.specs.steps.Deciding.{ComesTo, accepted, change_by, decision_of, is_closing, refused_by}
use Rattle.floor_machine.specs.steps.Serving.{ended_of, is_rising, is_telling, is_untaking, numbers_in, replied_by, tells_by}
use Rattle.floor_machine.specs.steps.Telling.{answered, answered_to, entry_of_ended, said_of}
use Rattle.floor_machine.proofs.Configs.{keeps_config}
use Rattle.floor_machine.proofs.Left.{change-revoke}
use Rattle.floor_machine.proofs.Served.{change-decided, change-message, change-said, reply-made, reply-message, reply-said}

-- it changes what its decision does
pub change-comes : (s : Conference) (e : Event) (sender : Option Sender) (d : Decision) → ComesTo s e sender d → change s e ≡ change_by s d.change
change-comes s (Join user) sender d h = absurd h
change-comes s (Message n bytes) sender d h = change-message s n bytes ∙ change-decided s (Some n) (user_of s n) (ask bytes (binding s n)) ∙ ap (λ (x : Decision). change_by s x.change) (sym h.1)
change-comes s (Took n k) sender d h = absurd h
change-comes s (Leave n) sender d h = ap (λ (x : Decision). change_by s x.change) (sym h.1)
change-comes s (Revoke request) sender d h = change-revoke s request ∙ ap (λ (x : Decision). change_by s x.change) (sym h.1)
change-comes s Close sender d h = ap (λ (x : Decision). change_by s x.change) (sym h.1)
change-comes s (AddUser user) sender d h = ap (λ (x : Decision). change_by s x.change) (sym h.1)
change-comes s (AddFloor floor) sender d h = ap (λ (x : Decision). change_by s x.change) (sym h.1)
change-comes s (SetChair floor chair) sender d h = ap (λ (x : Decision). change_by s x.change) (sym h.1)
change-comes s (Say user bytes) sender d h = change-said s user bytes ∙ change-decided s None user (said bytes (binding_for s user)) ∙ ap (λ (x : Decision). change_by s x.change) (sym h.1)

-- no message ends the conference
unclosing-accepted : (n : Option ℕ) (user : ℕ) (a : Ask) → is_closing (accepted n user a).change ≡ false
unclosing-accepted n user (FloorRequest beneficiary floors priority info) = refl
unclosing-accepted n user (FloorRelease request) = refl
unclosing-accepted n user (FloorRequestQuery request) = refl
unclosing-accepted n user (UserQuery beneficiary) = refl
unclosing-accepted None user (FloorQuery floors) = refl
unclosing-accepted (Some n) user (FloorQuery floors) = refl
unclosing-accepted n user (ChairAction request verdicts reason) = by (list_any (λ v. is_final v.1) verdicts)
  where
    by : (b : Bool) → is_closing (cond b (to.End request Chair reason) (to.Words request verdicts reason)) ≡ false
    by true = refl
    by false = refl
unclosing-accepted n user Hello = refl

unclosing-decided : (s : Conference) (n : Option ℕ) (user : ℕ) (a : Answer) → is_closing (decision_of s n user a).change ≡ false
unclosing-decided s n user unanswered = refl
unclosing-decided s n user (refused code details) = refl
unclosing-decided s n user (asks a) = by (refusal s user a)
  where
    by : (o : Option ErrorCode) → is_closing (option_map_or refused_by o (accepted n user a)).change ≡ false
    by None = unclosing-accepted n user a
    by (Some code) = refl

-- whatever tells live members anything doesn't end the conference
pub unclosing-comes : (s : Conference) (e : Event) (sender : Option Sender) (d : Decision) → ComesTo s e sender d → is_telling e ≡ true → is_closing d.change ≡ false
unclosing-comes s (Join user) sender d h telling = absurd h
unclosing-comes s (Message n bytes) sender d h telling =
    ap (λ (x : Decision). is_closing x.change) h.1 ∙ unclosing-decided s (Some n) (user_of s n) (ask bytes (binding s n))
unclosing-comes s (Took n k) sender d h telling = absurd h
unclosing-comes s (Leave n) sender d h telling = ap (λ (x : Decision). is_closing x.change) h.1
unclosing-comes s (Revoke request) sender d h telling = ap (λ (x : Decision). is_closing x.change) h.1
unclosing-comes s Close sender d h telling = cc
unclosing-comes s (AddUser user) sender d h telling = ap (λ (x : Decision). is_closing x.change) h.1
unclosing-comes s (AddFloor floor) sender d h telling = ap (λ (x : Decision). is_closing x.change) h.1
unclosing-comes s (SetChair floor chair) sender d h telling = ap (λ (x : Decision). is_closing x.change) h.1
unclosing-comes s (Say user bytes) sender d h telling =
    ap (λ (x : Decision). is_closing x.change) h.1 ∙ unclosing-decided s None user (said bytes (binding_for s user))

-- and the other way round
pub telling-comes : (s : Conference) (e : Event) (sender : Option Sender) (d : Decision) → ComesTo s e sender d → is_closing d.change ≡ false → is_telling e ≡ true
telling-comes s (Join user) sender d h unclosed = refl
telling-comes s (Message n bytes) sender d h unclosed = refl
telling-comes s (Took n k) sender d h unclosed = refl
telling-comes s (Leave n) sender d h unclosed = refl
telling-comes s (Revoke request) sender d h unclosed = refl
telling-comes s Close sender d h unclosed = let closed : true ≡ false = sym (ap (λ (x : Decision). is_closing x.change) h.1) ∙ unclosed in cc
telling-comes s (AddUser user) sender d h unclosed = refl
telling-comes s (AddFloor floor) sender d h unclosed = refl
telling-comes s (SetChair floor chair) sender d h unclosed = refl
telling-comes s (Say user bytes) sender d h unclosed = refl

-- it acknowledges nothing
pub untaking-comes : (s : Conference) (e : Event) (sender : Option Sender) (d : Decision) → ComesTo s e sender d → is_untaking e ≡ true
untaking-comes s (Join user) sender d h = refl
untaking-comes s (Message n bytes) sender d h = refl
untaking-comes s (Took n k) sender d h = absurd h
untaking-comes s (Leave n) sender d h = refl
untaking-comes s (Revoke request) sender d h = refl
untaking-comes s Close sender d h = refl
untaking-comes s (AddUser user) sender d h = refl
untaking-comes s (AddFloor floor) sender d h = refl
untaking-comes s (SetChair floor chair) sender d h = refl
untaking-comes s (Say user bytes) sender d h = refl

-- where nobody sent it, nobody is answered
unanswered-by : (f : Sender → Replied) (sender : Option Sender) (o : Option Replied) → sender ≡ None → o ≡ option_map f sender → (k : ℕ) → answered_to o k ≡ []
unanswered-by f sender o none is k = ap (λ (x : Option Replied). answered_to x k) (is ∙ ap (option_map f) none)

-- what the steps answer a message with
abbrev replied : Conference → Event → Option ℕ → ℕ → List ℕ → Decision → List Ended → Replied
replied s e n user bytes d ended = replied_by (settled s e) ended d.reply record { n = n; user = user; head = response_head bytes }

-- the messages are those of its answer
replied-made : (s : Conference) (e : Event) (n : Option ℕ) (user : ℕ) (bytes : List ℕ) (a : Answer) (d : Decision) (ended : List Ended) → d ≡ decision_of s n user a →
    keeps_config e ≡ true → change s e ≡ message_change s n user a →
    map entry_of_ended ended ≡ ended_of (shown s e) → is_rising (numbers_in (shown s e)) ≡ true →
    answered (response_head bytes) (replied s e n user bytes d ended).tells ≡ headed (response_head bytes) (reply_tells s e user a)
replied-made s e n user bytes a d ended decided keeps changed same rising =
    ap (λ (x : Decision). answered (response_head bytes) (tells_by (settled s e) ended user x.reply)) decided
    ∙ reply-made s e n user (response_head bytes) a ended keeps changed same rising

-- its sender is answered what the event calls for
pub answered-comes : (s : Conference) (e : Event) (sender : Option Sender) (d : Decision) (ended : List Ended) (o : Option Replied) → ComesTo s e sender d →
    map entry_of_ended ended ≡ ended_of (shown s e) → is_rising (numbers_in (shown s e)) ≡ true → o ≡ option_map (replied_by (settled s e) ended d.reply) sender →
    (k : ℕ) → answered_to o k ≡ reply_to s e k
answered-comes s (Join user) sender d ended o h same rising is k = absurd h
answered-comes s (Message n bytes) sender d ended o h same rising is k =
    let e : Event = Message n bytes in
    ap (λ (x : Option Replied). answered_to x k) (is ∙ ap (option_map (replied_by (settled s e) ended d.reply)) h.0)
    ∙ ap (λ (ms : List Outgoing). cond (n == k) ms [])
    (replied-made s e (Some n) (user_of s n) bytes (ask bytes (binding s n)) d ended h.1 refl (change-message s n bytes) same rising ∙ reply-message s n bytes)
answered-comes s (Took n j) sender d ended o h same rising is k = absurd h
answered-comes s (Leave n) sender d ended o h same rising is k = unanswered-by (replied_by (settled s (Leave n)) ended d.reply) sender o h.0 is k
answered-comes s (Revoke request) sender d ended o h same rising is k = unanswered-by (replied_by (settled s (Revoke request)) ended d.reply) sender o h.0 is k
answered-comes s Close sender d ended o h same rising is k = unanswered-by (replied_by (settled s Close) ended d.reply) sender o h.0 is k
answered-comes s (AddUser user) sender d ended o h same rising is k = unanswered-by (replied_by (settled s (AddUser user)) ended d.reply) sender o h.0 is k
answered-comes s (AddFloor floor) sender d ended o h same rising is k = unanswered-by (replied_by (settled s (AddFloor floor)) ended d.reply) sender o h.0 is k
answered-comes s (SetChair floor chair) sender d ended o h same rising is k =
    unanswered-by (replied_by (settled s (SetChair floor chair)) ended d.reply) sender o h.0 is k
answered-comes s (Say user bytes) sender d ended o h same rising is k =
    ap (λ (x : Option Replied). answered_to x k) (is ∙ ap (option_map (replied_by (settled s (Say user bytes)) ended d.reply)) h.0)

-- where nobody sent it, nothing is handed to anybody
unsaid-by : (f : Sender → Replied) (sender : Option Sender) (o : Option Replied) → sender ≡ None → o ≡ option_map f sender → said_of o ≡ None
unsaid-by f sender o none is = ap said_of (is ∙ ap (option_map f) none)

-- who says a message is handed what the event calls for
pub said-comes : (s : Conference) (e : Event) (sender : Option Sender) (d : Decision) (ended : List Ended) (o : Option Replied) → ComesTo s e sender d →
    map entry_of_ended ended ≡ ended_of (shown s e) → is_rising (numbers_in (shown s e)) ≡ true → o ≡ option_map (replied_by (settled s e) ended d.reply) sender →
    said_of o ≡ said_reply s e
said-comes s (Join user) sender d ended o h same rising is = absurd h
said-comes s (Message n bytes) sender d ended o h same rising is =
    ap said_of (is ∙ ap (option_map (replied_by (settled s (Message n bytes)) ended d.reply)) h.0)
said-comes s (Took n j) sender d ended o h same rising is = absurd h
said-comes s (Leave n) sender d ended o h same rising is = unsaid-by (replied_by (settled s (Leave n)) ended d.reply) sender o h.0 is
said-comes s (Revoke request) sender d ended o h same rising is = unsaid-by (replied_by (settled s (Revoke request)) ended d.reply) sender o h.0 is
said-comes s Close sender d ended o h same rising is = unsaid-by (replied_by (settled s Close) ended d.reply) sender o h.0 is
said-comes s (AddUser user) sender d ended o h same rising is = unsaid-by (replied_by (settled s (AddUser user)) ended d.reply) sender o h.0 is
said-comes s (AddFloor floor) sender d ended o h same rising is = unsaid-by (replied_by (settled s (AddFloor floor)) ended d.reply) sender o h.0 is
said-comes s (SetChair floor chair) sender d ended o h same rising is =
    unsaid-by (replied_by (settled s (SetChair floor chair)) ended d.reply) sender o h.0 is
said-comes s (Say user bytes) sender d ended o h same rising is =
    let e : Event = Say user bytes in
    ap said_of (is ∙ ap (option_map (replied_by (settled s e) ended d.reply)) h.0)
    ∙ ap (λ (ms : List Outgoing). first (map outgoing_bytes ms))
    (replied-made s e None user bytes (said bytes (binding_for s user)) d ended h.1 refl (change-said s user bytes) same rising ∙ reply-said s user bytes)

-- what holds of each event that tells live members anything, and of a close, holds of all
pub telling-or-close : (P : Event → Type 0) → ((e : Event) → is_telling e ≡ true → P e) → P Close → (e : Event) → P e
telling-or-close P tells closes (Join user) = tells (Join user) refl
telling-or-close P tells closes (Message n bytes) = tells (Message n bytes) refl
telling-or-close P tells closes (Took n k) = tells (Took n k) refl
telling-or-close P tells closes (Leave n) = tells (Leave n) refl
telling-or-close P tells closes (Revoke request) = tells (Revoke request) refl
telling-or-close P tells closes Close = closes
telling-or-close P tells closes (AddUser user) = tells (AddUser user) refl
telling-or-close P tells closes (AddFloor floor) = tells (AddFloor floor) refl
telling-or-close P tells closes (SetChair floor chair) = tells (SetChair floor chair) refl
telling-or-close P tells closes (Say user bytes) = tells (Say user bytes) refl
