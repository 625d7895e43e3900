-- A message is served step by step: the conference after it is the next one, and its parcels are those that it calls for.
use Rattle.std.proofs.Common.{◌≡◌, ℕ, ◌+◌, Bool, true, false, cond, List, [], ◌∷◌, map, Option, Some, None, refl, sym, ap, ◌∙◌}
use Rattle.std.specs.Prelude.{◌==◌, is_some, filter, option_map, unwrap_or}
use Rattle.std.specs.List.{list_any}
use Rattle.std.specs.Option.{option_map_or}
use Rattle.floor_config.specs.Configuration.{Configuration}
use Rattle.floor_config.specs.declared.floors.Floor.{Floor}
use Rattle.floor_queue.specs.declared.request.Request.{Request}
use Rattle.floor_queue.specs.Order.{settle}
use Rattle.floor_queue.specs.Queue.{Queue, after_settle}
use Rattle.floor_message.specs.Ask.{Answer, asks, refused, unanswered, ask}
use Rattle.floor_message.specs.Code.{code_number}
use Rattle.floor_message.specs.declared.code.ErrorCode.{ErrorCode}
use Rattle.floor_message.specs.declared.ask.Ask.{Ask}
use Rattle.floor_message.specs.declared.ask.Ask.TheVariants.{FloorRequest, FloorRelease, FloorRequestQuery, UserQuery, FloorQuery, ChairAction, Hello}
use Rattle.floor_message.specs.declared.head.Head.{Head}
use Rattle.floor_message.specs.declared.information.Info.{Info}
use Rattle.floor_message.specs.declared.tell.Tell.{Tell}
use Rattle.floor_message.specs.declared.tell.Tell.TheVariants.{FloorRequestStatus, UserStatus, Error}
use Rattle.floor_message.specs.Head.{response_head}
use Rattle.floor_machine.specs.declared.course.Course.{Course}
use Rattle.floor_machine.specs.declared.course.Ended.{Ended}
use Rattle.floor_machine.specs.declared.decision.Change.TheVariants as to
use Rattle.floor_machine.specs.declared.decision.EndedBy.TheVariants.{Chair}
use Rattle.floor_machine.specs.declared.member.Member.{Member}
use Rattle.floor_machine.specs.declared.replied.Replied.{Replied}
use Rattle.floor_machine.specs.declared.conference.State.{State}
use Rattle.floor_machine.specs.declared.tell.changed.Update.{Update}
use Rattle.floor_machine.specs.steps.Outcomes.{FloorUpdate}
use Rattle.floor_machine.specs.Conference.{Conference, binding, binding_for, is_numbered_from, user_of}
use Rattle.floor_machine.specs.declared.event.Event.{Event}
use Rattle.floor_machine.specs.declared.event.Event.TheVariants.{Message, Say}
use Rattle.floor_machine.specs.Shown.{Entry, entry_of, ongoing_of, settle_entries, info_of, described}
use Rattle.floor_machine.specs.Checks.{refusal}
use Rattle.floor_machine.specs.Said.{said}
use Rattle.floor_machine.specs.Change.{Change, asked_change, change, decided_at, dismissed, ending, ends_at, given_after, is_final, message_change, no_change, reasoned, settled, shown}
use Rattle.floor_machine.specs.Outgoing.{Outgoing}
use Rattle.floor_machine.specs.Reply.{infos, infos_of_user, request_answer, answer_tells, reply_tells, headed, reply}
use Rattle.floor_machine.specs.Told.{changed_of, changed_requests, changed_floors, is_changed, reply_to}
use Rattle.floor_machine.specs.steps.Counting.{due_parcels}
use Rattle.floor_machine.specs.steps.Telling.{entry_of_ended, entry_at, shown_of, infos_of, updates, floor_update, floor_updates, answered, answered_to, parcels_to_all}
use Rattle.floor_machine.specs.steps.Deciding.{accepted, change_by, decision_of, refused_by}
use Rattle.floor_machine.specs.steps.Serving.{is_telling, IsMade, conference_of, tells_by, status_tells, ended_of, numbers_in, is_rising, with_requests}
use Rattle.floor_machine.proofs.Configs.{config-change, conference-change, keeps_config}
use Rattle.floor_machine.proofs.Entries.{ongoing_of-settled, ended_of-settled, numbers_in-settled, entry_with, filter-number}
use Rattle.floor_machine.proofs.Sent.{numbered-settled}
use Rattle.floor_machine.proofs.Telling.{finds, update_for, updates-changed, headed-answered, parcels-told}

-- what is asked, and no check refuses, changes what its decision does
accepts : (s : Conference) (n : Option ℕ) (user : ℕ) (a : Ask) → asked_change s n user a ≡ change_by s (accepted n user a).change
accepts s n user (FloorRequest beneficiary floors priority info) = refl
accepts s n user (FloorRelease request) = refl
accepts s n user (FloorRequestQuery request) = refl
accepts s n user (UserQuery beneficiary) = refl
accepts s None user (FloorQuery floors) = refl
accepts s (Some n) user (FloorQuery floors) = refl
accepts s n user (ChairAction request verdicts reason) = by (list_any (λ v. is_final v.1) verdicts)
  where
    t : Conference
    t = reasoned s request reason

    by : (b : Bool) → record (no_change s) { entries = cond b (ending t (ends_at request dismissed)) (map (λ r. entry_of (decided_at request verdicts r)) t.ongoing) }
        ≡ change_by s (cond b (to.End request Chair reason) (to.Words request verdicts reason))
    by true = refl
    by false = refl
accepts s n user Hello = refl

-- a message changes what its decision does
pub change-decided : (s : Conference) (n : Option ℕ) (user : ℕ) (a : Answer) → message_change s n user a ≡ change_by s (decision_of s n user a).change
change-decided s n user unanswered = refl
change-decided s n user (refused code details) = refl
change-decided s n user (asks a) = by (refusal s user a)
  where
    by : (o : Option ErrorCode) → cond (is_some o) (no_change s) (asked_change s n user a) ≡ change_by s (option_map_or refused_by o (accepted n user a)).change
    by None = accepts s n user a
    by (Some code) = refl

-- one of a member
pub change-message : (s : Conference) (n : ℕ) (bytes : List ℕ) → change s (Message n bytes) ≡ message_change s (Some n) (user_of s n) (ask bytes (binding s n))
unfolding change
change-message s n bytes = refl

-- and one that is said
pub change-said : (s : Conference) (user : ℕ) (bytes : List ℕ) → change s (Say user bytes) ≡ message_change s None user (said bytes (binding_for s user))
unfolding change
change-said s user bytes = refl

-- what is asked, and no check refuses, is changed
change-accepted : (s : Conference) (n : Option ℕ) (user : ℕ) (a : Ask) → None ≡ refusal s user a → message_change s n user (asks a) ≡ asked_change s n user a
change-accepted s n user a accepted = ap (λ (o : Option ErrorCode). cond (is_some o) (no_change s) (asked_change s n user a)) (sym accepted)

-- the entries after the event are the changed ones, settled
pub shown-changed : (s : Conference) (e : Event) (c : Change) → change s e ≡ c → shown s e ≡ settle_entries c.config.floors c.entries
unfolding shown
shown-changed s e c same = ap (λ (d : Change). settle_entries d.config.floors d.entries) same

abbrev made : Configuration → ℕ → List Request → List Member → Bool → Conference
made config given ongoing members is_open = record { config = config; given = given; ongoing = ongoing; members = members; is_open = is_open }

pub settled-made : (s : Conference) (e : Event) → settled s e ≡ made (change s e).config (change s e).given (ongoing_of (shown s e)) (change s e).members (change s e).is_open
unfolding settled
settled-made s e = refl

-- the conference after the change, settled, is the next one
pub settled-changed : (s : Conference) (e : Event) (c : Change) (t : Conference) (course : Course) → change s e ≡ c → IsMade s c t course →
    made t.config t.given (settle t.config.floors t.ongoing) t.members t.is_open ≡ settled s e
settled-changed s e c t course same changed =
    ap (λ (config : Configuration). made config t.given (settle config.floors t.ongoing) t.members t.is_open) changed.config
    ∙ ap (λ (given : ℕ). made c.config given (settle c.config.floors t.ongoing) t.members t.is_open) changed.given
    ∙ ap (λ (rs : List Request). made c.config c.given rs t.members t.is_open)
    (ap (settle c.config.floors) changed.ongoing ∙ sym (ongoing_of-settled c.config.floors c.entries) ∙ ap ongoing_of (sym (shown-changed s e c same)))
    ∙ ap (λ (members : List Member). made c.config c.given (ongoing_of (shown s e)) members t.is_open) changed.members
    ∙ ap (λ (b : Bool). made c.config c.given (ongoing_of (shown s e)) c.members b) changed.is_open
    ∙ ap (λ (d : Change). made d.config d.given (ongoing_of (shown s e)) d.members d.is_open) (sym same)
    ∙ sym (settled-made s e)

-- what the course has noted is of the entries after the event
pub ended-shown : (s : Conference) (e : Event) (c : Change) (t : Conference) (course : Course) → change s e ≡ c → IsMade s c t course →
    map entry_of_ended course.ended.items ≡ ended_of (shown s e)
ended-shown s e c t course same changed =
    changed.ended ∙ sym (ended_of-settled c.config.floors c.entries) ∙ ap ended_of (sym (shown-changed s e c same))

pub numbers-shown : (s : Conference) (e : Event) (c : Change) (t : Conference) (course : Course) → change s e ≡ c → IsMade s c t course →
    course.numbers.items ≡ numbers_in (shown s e)
numbers-shown s e c t course same changed =
    changed.numbers ∙ sym (numbers_in-settled c.config.floors c.entries) ∙ ap numbers_in (sym (shown-changed s e c same))

pub settled-ongoing : (s : Conference) (e : Event) → (settled s e).ongoing ≡ ongoing_of (shown s e)
settled-ongoing s e = ap (λ (t : Conference). t.ongoing) (settled-made s e)

pub settled-config : (s : Conference) (e : Event) → keeps_config e ≡ true → (settled s e).config ≡ s.config
settled-config s e keeps = ap (λ (t : Conference). t.config) (settled-made s e) ∙ config-change s e keeps

pub settled-conference : (s : Conference) (e : Event) → (settled s e).config.conference ≡ s.config.conference
settled-conference s e = ap (λ (t : Conference). t.config.conference) (settled-made s e) ∙ conference-change s e

-- the statuses with a number are the one status that is found by it
status-shown : (config : Configuration) (all : List Entry) (ended : List Ended) (k : ℕ) → map entry_of_ended ended ≡ ended_of all → is_rising (numbers_in all) ≡ true →
    request_answer config all k ≡ option_map_or (λ shown. FloorRequestStatus shown.info ∷ []) (option_map (shown_of config (ongoing_of all)) (entry_at ended (ongoing_of all) k)) []
status-shown config all ended k same rising =
    filter-number (λ e. FloorRequestStatus (info_of config (ongoing_of all) e)) all k rising
    ∙ by (entry_with all k)
    ∙ ap (λ (o : Option Entry). option_map_or (λ shown. FloorRequestStatus shown.info ∷ []) (option_map (shown_of config (ongoing_of all)) o) []) (sym (finds all ended same k))
  where
    by : (o : Option Entry) → option_map_or (λ e. FloorRequestStatus (info_of config (ongoing_of all) e) ∷ []) o []
        ≡ option_map_or (λ shown. FloorRequestStatus shown.info ∷ []) (option_map (shown_of config (ongoing_of all)) o) []
    by None = refl
    by (Some e) = refl

status-settled : (s : Conference) (e : Event) (ended : List Ended) (k : ℕ) → keeps_config e ≡ true →
    option_map_or (λ shown. FloorRequestStatus shown.info ∷ []) (option_map (shown_of s.config (ongoing_of (shown s e))) (entry_at ended (ongoing_of (shown s e)) k)) []
    ≡ status_tells (settled s e) ended k
status-settled s e ended k keeps =
    let told : Configuration → List Request → List Tell = λ config rs. option_map_or (λ shown. FloorRequestStatus shown.info ∷ []) (option_map (shown_of config rs) (entry_at ended rs k)) [] in
    ap (told s.config) (sym (settled-ongoing s e)) ∙ ap (λ (config : Configuration). told config (settled s e).ongoing) (sym (settled-config s e keeps))

-- the answer to an accepted message, as the steps make it
pub tells-accepted : (s : Conference) (e : Event) (n : Option ℕ) (user : ℕ) (a : Ask) (ended : List Ended) → keeps_config e ≡ true →
    map entry_of_ended ended ≡ ended_of (shown s e) → is_rising (numbers_in (shown s e)) ≡ true →
    (settled s e).given ≡ given_after s a →
    answer_tells s e user a ≡ tells_by (settled s e) ended user (accepted n user a).reply
tells-accepted s e n user (FloorRequest beneficiary floors priority info) ended keeps same rising given =
    status-shown s.config (shown s e) ended (s.given + 1) same rising
    ∙ status-settled s e ended (s.given + 1) keeps
    ∙ ap (status_tells (settled s e) ended) (sym given)
tells-accepted s e n user (FloorRelease request) ended keeps same rising given =
    status-shown s.config (shown s e) ended request same rising ∙ status-settled s e ended request keeps
tells-accepted s e n user (FloorRequestQuery request) ended keeps same rising given =
    status-shown s.config (shown s e) ended request same rising ∙ status-settled s e ended request keeps
tells-accepted s e n user (UserQuery beneficiary) ended keeps same rising given =
    ap (λ (config : Configuration). UserStatus (option_map (described config) beneficiary) (infos_of_user (unwrap_or beneficiary user) (settled s e)) ∷ []) (sym (settled-config s e keeps))
tells-accepted s e n user (FloorQuery floors) ended keeps same rising given = refl
tells-accepted s e n user (ChairAction request verdicts reason) ended keeps same rising given = refl
tells-accepted s e n user Hello ended keeps same rising given = refl

-- the answer to a message, as the steps make it
pub tells-decided : (s : Conference) (e : Event) (n : Option ℕ) (user : ℕ) (a : Answer) (ended : List Ended) → keeps_config e ≡ true → change s e ≡ message_change s n user a →
    map entry_of_ended ended ≡ ended_of (shown s e) → is_rising (numbers_in (shown s e)) ≡ true →
    reply_tells s e user a ≡ tells_by (settled s e) ended user (decision_of s n user a).reply
tells-decided s e n user unanswered ended keeps changed same rising = refl
tells-decided s e n user (refused code details) ended keeps changed same rising = refl
tells-decided s e n user (asks a) ended keeps changed same rising = by (refusal s user a) refl
  where
    given : None ≡ refusal s user a → (settled s e).given ≡ given_after s a
    given accepted =
        ap (λ (t : Conference). t.given) (settled-made s e)
        ∙ ap (λ (c : Change). c.given) (changed ∙ change-accepted s n user a accepted)

    by : (o : Option ErrorCode) → o ≡ refusal s user a →
        option_map_or (λ code. Error (code_number code) [] ∷ []) o (answer_tells s e user a)
        ≡ tells_by (settled s e) ended user (option_map_or refused_by o (accepted n user a)).reply
    by None free = tells-accepted s e n user a ended keeps same rising (given free)
    by (Some code) free = refl

-- the reply that the steps make is the answer to the message
pub reply-made : (s : Conference) (e : Event) (n : Option ℕ) (user : ℕ) (head : Head) (a : Answer) (ended : List Ended) → keeps_config e ≡ true → change s e ≡ message_change s n user a →
    map entry_of_ended ended ≡ ended_of (shown s e) → is_rising (numbers_in (shown s e)) ≡ true →
    answered head (tells_by (settled s e) ended user (decision_of s n user a).reply) ≡ headed head (reply_tells s e user a)
reply-made s e n user head a ended keeps changed same rising =
    ap (answered head) (sym (tells-decided s e n user a ended keeps changed same rising)) ∙ sym (headed-answered head (reply_tells s e user a))

-- the answer to a message of a member
pub reply-message : (s : Conference) (n : ℕ) (bytes : List ℕ) → headed (response_head bytes) (reply_tells s (Message n bytes) (user_of s n) (ask bytes (binding s n))) ≡ reply s (Message n bytes)
unfolding reply
reply-message s n bytes = refl

-- and to one that is said
pub reply-said : (s : Conference) (user : ℕ) (bytes : List ℕ) → headed (response_head bytes) (reply_tells s (Say user bytes) user (said bytes (binding_for s user))) ≡ reply s (Say user bytes)
unfolding reply
reply-said s user bytes = refl

pub updates-message : (s : Conference) (e : Event) (course : Course) → map entry_of_ended course.ended.items ≡ ended_of (shown s e) → course.numbers.items ≡ numbers_in (shown s e) →
    is_rising course.numbers.items ≡ true → course.before.items ≡ infos s →
    updates (settled s e).config (settled s e).ongoing course.ended.items course.before.items course.numbers.items ≡ map update_for (changed_requests s e)
unfolding changed_requests
updates-message s e course same numbered rising before =
    let config : Configuration = (settled s e).config in
    ap (λ (rs : List Request). updates config rs course.ended.items course.before.items course.numbers.items) (settled-ongoing s e)
    ∙ updates-changed config course.before.items (shown s e) course.ended.items course.numbers.items same numbered rising
    ∙ ap (λ (is : List Info). map update_for (filter (λ c. is_changed is c.info) (map (changed_of config (shown s e)) (shown s e)))) before

pub floors-message : (s : Conference) (e : Event) (before : List Info) → before ≡ infos s →
    floor_updates before (infos (settled s e)) (settled s e).config.floors ≡ map (floor_update (infos (settled s e))) (changed_floors s e)
unfolding changed_floors
floors-message s e before b = ap (λ (is : List Info). floor_updates is (infos (settled s e)) (settled s e).config.floors) b

-- the parcels that the steps put are those that the event calls for
pub parcels-served : (s : Conference) (e : Event) (t : Conference) (course : Course) (reply : Option Replied) → is_telling e ≡ true → t ≡ settled s e →
    is_numbered_from 1 s.members ≡ true →
    map entry_of_ended course.ended.items ≡ ended_of (shown s e) → course.numbers.items ≡ numbers_in (shown s e) →
    is_rising course.numbers.items ≡ true → course.before.items ≡ infos s → ((k : ℕ) → answered_to reply k ≡ reply_to s e k) →
    parcels_to_all t.config.conference reply (updates t.config t.ongoing course.ended.items course.before.items course.numbers.items)
    (floor_updates course.before.items (infos_of t.config t.ongoing) t.config.floors) t.members
    ≡ due_parcels s e
parcels-served s e t course reply telling is numbered same numbers rising before replied =
    let u : Conference = settled s e in
    ap (λ (x : Conference). parcels_to_all x.config.conference reply (updates x.config x.ongoing course.ended.items course.before.items course.numbers.items)
    (floor_updates course.before.items (infos_of x.config x.ongoing) x.config.floors) x.members) is
    ∙ ap (λ (id : ℕ). parcels_to_all id reply (updates u.config u.ongoing course.ended.items course.before.items course.numbers.items) (floor_updates course.before.items (infos u) u.config.floors) u.members)
    (settled-conference s e)
    ∙ ap (λ (us : List Update). parcels_to_all s.config.conference reply us (floor_updates course.before.items (infos u) u.config.floors) u.members)
    (updates-message s e course same numbers rising before)
    ∙ ap (λ (us : List FloorUpdate). parcels_to_all s.config.conference reply (map update_for (changed_requests s e)) us u.members)
    (floors-message s e course.before.items before)
    ∙ parcels-told s e reply telling (numbered-settled s e numbered) replied

-- the state after the change, settled, is the next conference
pub settled-state : (s : Conference) (e : Event) (c : Change) (t : State) (course : Course) (q : Queue) → change s e ≡ c → IsMade s c (conference_of t) course →
    q ≡ after_settle t.requests → with_requests (conference_of t) q ≡ settled s e
settled-state s e c t course q same changed is_settled =
    ap (λ (x : Queue). with_requests (conference_of t) x) is_settled
    ∙ ap (λ (fs : List Floor). made t.config t.requests.given (settle fs t.requests.ongoing) t.members t.is_open)
    t.same_floors
    ∙ settled-changed s e c (conference_of t) course same changed
