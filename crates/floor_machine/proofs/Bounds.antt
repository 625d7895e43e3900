-- Each message that an event tells shows no more than a conference has.
use Rattle.std.proofs.Common.{◌≡◌, ℕ, Bool, true, false, cond, List, [], ◌∷◌, ◌++◌, map, Option, Some, None, refl, sym, ap, subst, ◌∙◌}
use Rattle.std.specs.Prelude.{◌==◌, All, filter}
use Rattle.std.specs.List.{list_any}
use Rattle.std.specs.Option.{option_map_or}
use Rattle.std.proofs.lemmas.List.Elements.{All-nil, All-cons, All-head, All-tail, All-append}
use Rattle.floor_message.specs.declared.head.Head.{Head}
use Rattle.floor_message.specs.declared.tell.Tell.{Tell}
use Rattle.floor_message.specs.declared.tell.Tell.TheVariants.{FloorRequestStatus}
use Rattle.floor_message.specs.Shown.{IsShown}
use Rattle.floor_message.specs.Laws.{WhatIsShownFits}
use Rattle.floor_machine.specs.declared.course.Course.{Course}
use Rattle.floor_machine.specs.declared.event.Event.{Event}
use Rattle.floor_machine.specs.declared.event.Event.TheVariants.{Close}
use Rattle.floor_machine.specs.declared.member.Member.{Member}
use Rattle.floor_machine.specs.steps.Outcomes.{FloorUpdate}
use Rattle.floor_machine.specs.declared.replied.Replied.{Replied}
use Rattle.floor_machine.specs.declared.tell.changed.Update.{Update}
use Rattle.floor_machine.specs.Conference.{Conference, member_with}
use Rattle.floor_machine.specs.Change.{settled, shown}
use Rattle.floor_machine.specs.steps.Serving.{is_telling, ended_of, is_rising, numbers_in}
use Rattle.floor_machine.specs.Fitting.{ToldFits}
use Rattle.floor_machine.specs.Next.{keeps_up, told}
use Rattle.floor_message.specs.Fits.{TellFits}
use Rattle.floor_machine.specs.steps.Fitting.{AreFloorsShown, AreMessagesShown, AreUpdatesShown, IsReplyShown, IsToldShown}
use Rattle.floor_machine.specs.Outgoing.{Outgoing, notice}
use Rattle.floor_machine.specs.Reply.{infos, floor_status_tell}
use Rattle.floor_machine.specs.steps.Telling.{answered, answered_to, entry_of_ended, floor_update, floor_updates, infos_of, is_to, is_watched_by, updates}
use Rattle.floor_machine.specs.Told.{Changed, changed_floors, changed_requests, floor_notices, request_notices, is_told, reply_to, due, due_to}
use Rattle.floor_machine.proofs.Watched.{picked_through, watched-found}
use Rattle.floor_machine.proofs.Telling.{due-member, update_for}
use Rattle.floor_machine.proofs.Served.{floors-message, updates-message}

-- what holds of all items, made into what follows from it, holds of those that are picked
picked_all : {A B : Type 0} (P : A → Type 0) (Q : B → Type 0) (f : A → B) (p : A → Bool) (xs : List A) → ((x : A) → P x → Q (f x)) → All P xs → All Q (map f (filter p xs))
picked_all P Q f p [] made h = All-nil Q
picked_all P Q f p (x ∷ xs) made h = by (p x) (picked_all P Q f p xs made (All-tail P x xs h))
  where
    by : (b : Bool) → All Q (map f (filter p xs)) → All Q (map f (cond b (x ∷ filter p xs) (filter p xs)))
    by true rest = All-cons Q (f x) (map f (filter p xs)) (made x (All-head P x xs h)) rest
    by false rest = rest

-- what holds of all that is made holds of each item as it is made
made_all : {A B : Type 0} (Q : B → Type 0) (f : A → B) (xs : List A) → All Q (map f xs) → All (λ x. Q (f x)) xs
made_all Q f [] h = All-nil (λ x. Q (f x))
made_all Q f (x ∷ xs) h = All-cons (λ x. Q (f x)) x xs (All-head Q (f x) (map f xs) h) (made_all Q f xs (All-tail Q (f x) (map f xs) h))

answered_all : (head : Head) (tells : List Tell) → All IsShown tells → AreMessagesShown (answered head tells)
answered_all head [] h = All-nil (λ message. IsShown message.tell)
answered_all head (tell ∷ tells) h =
    All-cons (λ message. IsShown message.tell) record { head = head; tell = tell } (answered (record head { transaction = 0 }) tells)
    (All-head IsShown tell tells h) (answered_all (record head { transaction = 0 }) tells (All-tail IsShown tell tells h))

-- the reply
reply_all : (o : Option Replied) (k : ℕ) → IsReplyShown o → AreMessagesShown (answered_to o k)
reply_all None k h = All-nil (λ message. IsShown message.tell)
reply_all (Some r) k h = by (is_to k r)
  where
    by : (b : Bool) → AreMessagesShown (cond b (answered r.head r.tells) [])
    by true = answered_all r.head r.tells h
    by false = All-nil (λ message. IsShown message.tell)

-- what is due to a live member
member_all : (s : Conference) (e : Event) (n : ℕ) (m : Member) → member_with (settled s e).members n ≡ Some m → AreMessagesShown (reply_to s e m.n) → AreUpdatesShown (map update_for (changed_requests s e)) →
    AreFloorsShown (filter (is_watched_by (settled s e).members) (map (floor_update (infos (settled s e))) (changed_floors s e))) → AreMessagesShown (due_to s e m)
member_all s e n m found replied requests floors =
    let S : Outgoing → Type 0 = λ message. IsShown message.tell in
    let R : Changed → Type 0 = λ c. IsShown (FloorRequestStatus c.info) in
    let each_request : All R (changed_requests s e) = made_all (λ (u : Update). IsShown u.tell) update_for (changed_requests s e) requests in
    let of_requests : AreMessagesShown (request_notices s e m) =
    picked_all R S (λ c. notice s.config.conference m.user (FloorRequestStatus c.info)) (is_told (reply_to s e m.n) m.user) (changed_requests s e) (λ c h. h) each_request in
    let of_floors : AreMessagesShown (floor_notices s e m) =
    picked_through (λ (u : FloorUpdate). IsShown u.tell) S (floor_update (infos (settled s e))) (λ f. notice s.config.conference m.user (floor_status_tell (settled s e) f.id))
    (λ f. list_any (λ floor. floor == f.id) m.watched) (is_watched_by (settled s e).members) (changed_floors s e)
    (λ f seen. watched-found (settled s e).members n m found (floor_update (infos (settled s e)) f) seen) (λ f h. h) floors in
    All-append S (reply_to s e m.n ++ request_notices s e m) (floor_notices s e m) (All-append S (reply_to s e m.n) (request_notices s e m) replied of_requests) of_floors

-- what is due to anyone
pub due-shown : (s : Conference) (e : Event) (o : Option Replied) → is_telling e ≡ true → ((k : ℕ) → answered_to o k ≡ reply_to s e k) → IsReplyShown o →
    AreUpdatesShown (map update_for (changed_requests s e)) → AreFloorsShown (filter (is_watched_by (settled s e).members) (map (floor_update (infos (settled s e))) (changed_floors s e))) →
    (n : ℕ) → AreMessagesShown (due s e n)
due-shown s e o telling replied shown requests floors n = subst AreMessagesShown (sym (due-member s e n telling)) (by (member_with (settled s e).members n) refl)
  where
    by : (found : Option Member) → member_with (settled s e).members n ≡ found → AreMessagesShown (option_map_or (due_to s e) found [])
    by None is = All-nil (λ message. IsShown message.tell)
    by (Some m) is = member_all s e n m is (subst AreMessagesShown (replied m.n) (reply_all o m.n shown)) requests floors

-- what the steps of an event find shown is shown of what it tells
pub served-shown : (s : Conference) (e : Event) (t : Conference) (course : Course) (o : Option Replied) → is_telling e ≡ true → t ≡ settled s e →
    map entry_of_ended course.ended.items ≡ ended_of (shown s e) → course.numbers.items ≡ numbers_in (shown s e) → is_rising course.numbers.items ≡ true → course.before.items ≡ infos s →
    ((k : ℕ) → answered_to o k ≡ reply_to s e k) → IsReplyShown o →
    AreUpdatesShown (updates t.config t.ongoing course.ended.items course.before.items course.numbers.items) →
    AreFloorsShown (filter (is_watched_by t.members) (floor_updates course.before.items (infos_of t.config t.ongoing) t.config.floors)) → IsToldShown s e
served-shown s e t course o telling is same numbers rising before replied reply requests floors =
    let us = ap (λ (x : Conference). updates x.config x.ongoing course.ended.items course.before.items course.numbers.items) is
    ∙ updates-message s e course same numbers rising before in
    let fs = ap (λ (x : Conference). filter (is_watched_by x.members) (floor_updates course.before.items (infos_of x.config x.ongoing) x.config.floors)) is
    ∙ ap (filter (is_watched_by (settled s e).members)) (floors-message s e course.before.items before) in
    due-shown s e o telling replied reply (subst AreUpdatesShown us requests) (subst AreFloorsShown fs floors)

-- a close tells nobody anything
pub close-shown : (s : Conference) → IsToldShown s Close
unfolding due
close-shown s n = All-nil (λ message. IsShown message.tell)

-- what shows no more than a conference has can be written
pub shown_fits : (s : Conference) (e : Event) → WhatIsShownFits → IsToldShown s e → ToldFits s e
unfolding told
shown_fits s e law shown n = by (keeps_up s e n)
  where
    by : (b : Bool) → All (λ (message : Outgoing). TellFits message.tell) (cond b (due s e n) [])
    by true = λ i d within. law _ (shown n i d within)
    by false = All-nil (λ (message : Outgoing). TellFits message.tell)
