-- The parcels of the steps of an event are those that it calls for.
use Rattle.std.proofs.Common.{◌≡◌, ℕ, ◌+◌, Bool, true, false, cond, List, [], ◌∷◌, ◌++◌, map, Option, Some, None, refl, sym, ap, ◌∙◌, arith}
use Rattle.std.specs.Prelude.{◌==◌, ◌||◌, ◌&&◌, not, nat_lt, nat_le, filter, option_map}
use Rattle.std.specs.List.{list_any, flat_map}
use Rattle.std.specs.Option.{option_map_or}
use Rattle.std.proofs.lemmas.List.{map-append}
use Rattle.std.proofs.lemmas.Bool.Decides.{nat_tests}
use Rattle.floor_config.specs.Configuration.{Configuration}
use Rattle.floor_queue.specs.declared.request.Request.{Request}
use Rattle.floor_queue.specs.Queue.{involves}
use Rattle.floor_message.specs.declared.head.Head.{Head}
use Rattle.floor_message.specs.declared.information.Info.{Info}
use Rattle.floor_message.specs.declared.tell.Tell.{Tell}
use Rattle.floor_message.specs.declared.tell.Tell.TheVariants.{FloorRequestStatus}
use Rattle.floor_machine.specs.declared.member.Member.{Member}
use Rattle.floor_machine.specs.Parcel.{Parcel}
use Rattle.floor_machine.specs.declared.course.Ended.{Ended}
use Rattle.floor_machine.specs.declared.replied.Replied.{Replied}
use Rattle.floor_machine.specs.declared.tell.changed.Update.{Update}
use Rattle.floor_machine.specs.Conference.{Conference, member_with, is_numbered_from}
use Rattle.floor_machine.specs.declared.event.Event.{Event}
use Rattle.floor_machine.specs.declared.event.Event.TheVariants.{Join, Message, Took, Leave, Revoke, Close, AddUser, AddFloor, SetChair, Say}
use Rattle.floor_machine.specs.Shown.{Entry, ongoing_of, info_of}
use Rattle.floor_machine.specs.Change.{settled}
use Rattle.floor_machine.specs.Outgoing.{Outgoing, notice}
use Rattle.floor_machine.specs.Reply.{infos, floor_status_tell, headed}
use Rattle.floor_machine.specs.Told.{Changed, changed_of, changed_requests, changed_floors, is_changed, is_status_of, is_told, reply_to, request_notices, floor_notices, due_to, due}
use Rattle.floor_machine.specs.Journal.{parcel}
use Rattle.floor_machine.specs.steps.Counting.{due_parcels}
use Rattle.floor_machine.specs.steps.Telling.{entry_of_ended, entry_at, shown_of, update_of, update_if, update_at, updates, floor_update, answered, answered_to, is_answered, is_due_to, is_watched, is_to, update_to, floor_update_to, parcels_to, parcels_to_all}
use Rattle.floor_machine.specs.steps.Serving.{ended_of, is_telling, numbers_in, is_rising}
use Rattle.floor_machine.proofs.Found.{and_left, and_right, same_number}
use Rattle.floor_machine.proofs.Entries.{entry_at-find, entry_with, find_entry, by_number}

-- a list that is made, filtered and made again is made of what passes
fused : {A B C D : Type 0} (p : B → Bool) (q : A → Bool) (g : A → B) (h : B → D) (l : A → C) (k : C → D) → ((x : A) → p (g x) ≡ q x) → ((x : A) → h (g x) ≡ k (l x)) →
    (xs : List A) → map h (filter p (map g xs)) ≡ map k (map l (filter q xs))
fused p q g h l k same made [] = refl
fused {B = B} {D = D} p q g h l k same made (x ∷ xs) =
    ap (λ (b : Bool). map h (cond b (g x ∷ filter p (map g xs)) (filter p (map g xs)))) (same x) ∙ by (q x) (fused p q g h l k same made xs)
  where
    by : (b : Bool) → map h (filter p (map g xs)) ≡ map k (map l (filter q xs)) →
        map h (cond b (g x ∷ filter p (map g xs)) (filter p (map g xs))) ≡ map k (map l (cond b (x ∷ filter q xs) (filter q xs)))
    by true e = ap (λ (d : D). d ∷ map h (filter p (map g xs))) (made x) ∙ ap (λ (ds : List D). k (l x) ∷ ds) e
    by false e = e

-- the status that tells of a changed request
abbrev pub update_for : Changed → Update
update_for c =
    record { number = c.request.number; requester = c.request.requester; beneficiary = c.request.beneficiary; tell = FloorRequestStatus c.info }

-- the updates are made entry by entry
updates-entries : (config : Configuration) (before : List Info) (all es : List Entry) →
    flat_map (λ e. update_if before (shown_of config (ongoing_of all) e)) es ≡ map update_for (filter (λ c. is_changed before c.info) (map (changed_of config all) es))
updates-entries config before all [] = refl
updates-entries config before all (e ∷ es) = by (is_changed before (info_of config (ongoing_of all) e)) (updates-entries config before all es)
  where
    by : (b : Bool) → flat_map (λ e. update_if before (shown_of config (ongoing_of all) e)) es ≡ map update_for (filter (λ c. is_changed before c.info) (map (changed_of config all) es)) →
        cond b (update_of (shown_of config (ongoing_of all) e) ∷ []) [] ++ flat_map (λ e. update_if before (shown_of config (ongoing_of all) e)) es
        ≡ map update_for (cond b (changed_of config all e ∷ filter (λ c. is_changed before c.info) (map (changed_of config all) es)) (filter (λ c. is_changed before c.info) (map (changed_of config all) es)))
    by true h = ap (λ (us : List Update). update_of (shown_of config (ongoing_of all) e) ∷ us) h
    by false h = h

update_at-entry : (config : Configuration) (ongoing : List Request) (before : List Info) (o : Option Entry) →
    option_map_or (update_if before) (option_map (shown_of config ongoing) o) [] ≡ option_map_or (λ e. update_if before (shown_of config ongoing e)) o []
update_at-entry config ongoing before None = refl
update_at-entry config ongoing before (Some e) = refl

pub flat_map-same : {A B : Type 0} (f g : A → List B) → ((x : A) → f x ≡ g x) → (xs : List A) → flat_map f xs ≡ flat_map g xs
flat_map-same f g same [] = refl
flat_map-same {B = B} f g same (x ∷ xs) =
    ap (λ (ys : List B). ys ++ flat_map f xs) (same x) ∙ ap (λ (ys : List B). g x ++ ys) (flat_map-same f g same xs)

-- an entry is found by its number among the ended and the ongoing ones
pub finds : (all : List Entry) (ended : List Ended) → map entry_of_ended ended ≡ ended_of all → (n : ℕ) → entry_at ended (ongoing_of all) n ≡ entry_with all n
finds all ended same n = entry_at-find ended (ongoing_of all) n ∙ ap (λ (es : List Entry). find_entry es (ongoing_of all) n) same

-- the updates that the steps find are those of the changed requests
pub updates-changed : (config : Configuration) (before : List Info) (all : List Entry) (ended : List Ended) (numbers : List ℕ) →
    map entry_of_ended ended ≡ ended_of all → numbers ≡ numbers_in all → is_rising numbers ≡ true →
    updates config (ongoing_of all) ended before numbers ≡ map update_for (filter (λ c. is_changed before c.info) (map (changed_of config all) all))
updates-changed config before all ended numbers same numbered rising =
    ap (λ (ns : List ℕ). updates config (ongoing_of all) ended before ns) numbered
    ∙ flat_map-same (update_at config (ongoing_of all) ended before) (λ n. option_map_or (λ e. update_if before (shown_of config (ongoing_of all) e)) (entry_at ended (ongoing_of all) n) [])
    (λ n. update_at-entry config (ongoing_of all) before (entry_at ended (ongoing_of all) n)) (numbers_in all)
    ∙ by_number (entry_at ended (ongoing_of all)) (λ e. update_if before (shown_of config (ongoing_of all) e)) all (ap is_rising (sym numbered) ∙ rising) (λ n k. finds all ended same n)
    ∙ updates-entries config before all all

answered-notices : (head : Head) (tells : List Tell) → map (notice head.conference head.user) tells ≡ answered (record head { transaction = 0 }) tells
answered-notices head [] = refl
answered-notices head (tell ∷ tells) = ap (λ (ms : List Outgoing). notice head.conference head.user tell ∷ ms) (answered-notices head tells)

pub headed-answered : (head : Head) (tells : List Tell) → headed head tells ≡ answered head tells
headed-answered head [] = refl
headed-answered head (tell ∷ tells) =
    let first : Outgoing = record { head = head; tell = tell } in
    ap (λ (ms : List Outgoing). first ∷ ms) (answered-notices head tells)

any-answered : (k : ℕ) (head : Head) (tells : List Tell) → list_any (λ message. is_status_of k message.tell) (answered head tells) ≡ list_any (is_status_of k) tells
any-answered k head [] = refl
any-answered k head (tell ∷ tells) = ap (λ (b : Bool). is_status_of k tell || b) (any-answered k (record head { transaction = 0 }) tells)

-- the test of the steps, whether the reply to n is a status already
is_answered-any : (reply : Option Replied) (n k : ℕ) → list_any (λ message. is_status_of k message.tell) (answered_to reply n) ≡ is_answered reply n k
is_answered-any None n k = refl
is_answered-any (Some r) n k = by (is_to n r)
  where
    by : (b : Bool) → list_any (λ message. is_status_of k message.tell) (cond b (answered r.head r.tells) []) ≡ (b && list_any (is_status_of k) r.tells)
    by true = any-answered k r.head r.tells
    by false = refl

-- the steps' parcels of the changed requests, to a member
abbrev requests_put : Conference → Event → Option Replied → Member → List Parcel
requests_put s e reply m = map (λ u. parcel m.n (update_to s.config.conference m u)) (filter (is_due_to reply m) (map update_for (changed_requests s e)))

-- the steps' parcels of the changed floors, to a member
abbrev floors_put : Conference → Event → Member → List Parcel
floors_put s e m = map (λ u. parcel m.n (floor_update_to s.config.conference m u)) (filter (is_watched m) (map (floor_update (infos (settled s e))) (changed_floors s e)))

due-told : (s : Conference) (e : Event) (reply : Option Replied) (m : Member) → answered_to reply m.n ≡ reply_to s e m.n → (c : Changed) →
    is_due_to reply m (update_for c) ≡ is_told (reply_to s e m.n) m.user c
due-told s e reply m replied c =
    ap (λ (b : Bool). involves c.request m.user && not b)
    (sym (is_answered-any reply m.n c.request.number) ∙ ap (λ (ms : List Outgoing). list_any (λ message. is_status_of c.request.number message.tell) ms) replied)

requests-told : (s : Conference) (e : Event) (reply : Option Replied) (m : Member) → answered_to reply m.n ≡ reply_to s e m.n → requests_put s e reply m ≡ map (parcel m.n) (request_notices s e m)
requests-told s e reply m replied =
    fused (is_due_to reply m) (is_told (reply_to s e m.n) m.user) update_for (λ u. parcel m.n (update_to s.config.conference m u)) (λ c. notice s.config.conference m.user (FloorRequestStatus c.info)) (parcel m.n) (due-told s e reply m replied) (λ c. refl) (changed_requests s e)

floors-told : (s : Conference) (e : Event) (m : Member) → floors_put s e m ≡ map (parcel m.n) (floor_notices s e m)
floors-told s e m =
    fused (is_watched m) (λ f. list_any (λ floor. floor == f.id) m.watched) (floor_update (infos (settled s e))) (λ u. parcel m.n (floor_update_to s.config.conference m u)) (λ f. notice s.config.conference m.user (floor_status_tell (settled s e) f.id)) (parcel m.n) (λ f. refl) (λ f. refl) (changed_floors s e)

-- what the steps put for a member is what the event tells it
member-told : (s : Conference) (e : Event) (reply : Option Replied) (m : Member) → answered_to reply m.n ≡ reply_to s e m.n →
    parcels_to s.config.conference reply (map update_for (changed_requests s e)) (map (floor_update (infos (settled s e))) (changed_floors s e)) m ≡ map (parcel m.n) (due_to s e m)
member-told s e reply m replied =
    ap (λ (ms : List Outgoing). map (parcel m.n) ms ++ requests_put s e reply m ++ floors_put s e m) replied
    ∙ ap (λ (ps : List Parcel). map (parcel m.n) (reply_to s e m.n) ++ ps ++ floors_put s e m) (requests-told s e reply m replied)
    ∙ ap (λ (ps : List Parcel). map (parcel m.n) (reply_to s e m.n) ++ map (parcel m.n) (request_notices s e m) ++ ps) (floors-told s e m)
    ∙ ap (λ (ps : List Parcel). ps ++ map (parcel m.n) (floor_notices s e m)) (sym (map-append (parcel m.n) (reply_to s e m.n) (request_notices s e m)))
    ∙ sym (map-append (parcel m.n) (reply_to s e m.n ++ request_notices s e m) (floor_notices s e m))

-- the members from k on have no number below it
none_below : (ms : List Member) (k n : ℕ) → is_numbered_from k ms ≡ true → nat_lt n k ≡ true → member_with ms n ≡ None
none_below [] k n h below = refl
none_below (m ∷ ms) k n h below =
    rw (differs m.n k n (and_left _ _ h) below) (none_below ms (k + 1) n (and_right _ _ h) (further n k below))
  where
    differs : (a k n : ℕ) → (a == k) ≡ true → nat_lt n k ≡ true → (a == n) ≡ false
    differs a k n e l = grind (arith, nat_tests)

    further : (n k : ℕ) → nat_lt n k ≡ true → nat_lt n (k + 1) ≡ true
    further n k l = grind (arith, nat_tests)

-- each member is told by its number what it is told as it stands
members-told : (f : Member → List Outgoing) (all ms : List Member) (k : ℕ) → is_numbered_from k ms ≡ true →
    ((n : ℕ) → nat_le k n ≡ true → member_with all n ≡ member_with ms n) →
    flat_map (λ m. map (parcel m.n) (option_map_or f (member_with all m.n) [])) ms ≡ flat_map (λ m. cond m.is_live (map (parcel m.n) (f m)) []) ms
members-told f all [] k h same = refl
members-told f all (m ∷ ms) k h same =
    ap (λ (o : Option Member). map (parcel m.n) (option_map_or f o []) ++ flat_map (λ m. map (parcel m.n) (option_map_or f (member_with all m.n) [])) ms)
    (same m.n (least m.n k (and_left _ _ h)) ∙ own (m.n == m.n) (same_number m.n) m.is_live)
    ∙ by m.is_live
    ∙ ap (λ (ps : List Parcel). cond m.is_live (map (parcel m.n) (f m)) [] ++ ps)
    (members-told f all ms (k + 1) (and_right _ _ h) (λ n l. same n (nearer k n l) ∙ passed (m.n == n) (other m.n k n (and_left _ _ h) l) m.is_live n))
  where
    least : (a k : ℕ) → (a == k) ≡ true → nat_le k a ≡ true
    least a k e = grind (arith, nat_tests)

    nearer : (k n : ℕ) → nat_le (k + 1) n ≡ true → nat_le k n ≡ true
    nearer k n l = grind (arith, nat_tests)

    other : (a k n : ℕ) → (a == k) ≡ true → nat_le (k + 1) n ≡ true → (a == n) ≡ false
    other a k n e l = grind (arith, nat_tests)

    above : (a k : ℕ) → (a == k) ≡ true → nat_lt a (k + 1) ≡ true
    above a k e = grind (arith, nat_tests)

    own : (b : Bool) → b ≡ true → (l : Bool) → cond (b && l) (Some m) (member_with ms m.n) ≡ cond l (Some m) None
    own b e true = rw e refl
    own b e false = rw e (none_below ms (k + 1) m.n (and_right _ _ h) (above m.n k (and_left _ _ h)))

    passed : (b : Bool) → b ≡ false → (l : Bool) → (n : ℕ) → cond (b && l) (Some m) (member_with ms n) ≡ member_with ms n
    passed b e l n = rw e refl

    by : (l : Bool) → map (parcel m.n) (option_map_or f (cond l (Some m) None) []) ++ flat_map (λ m. map (parcel m.n) (option_map_or f (member_with all m.n) [])) ms
        ≡ cond l (map (parcel m.n) (f m)) [] ++ flat_map (λ m. map (parcel m.n) (option_map_or f (member_with all m.n) [])) ms
    by true = refl
    by false = refl

-- what is told to n is told to the live member with the number
pub due-member : (s : Conference) (e : Event) (n : ℕ) → is_telling e ≡ true → due s e n ≡ option_map_or (due_to s e) (member_with (settled s e).members n) []
unfolding due
due-member s (Join user) n h = refl
due-member s (Message k bytes) n h = refl
due-member s (Took m k) n h = refl
due-member s (Leave k) n h = refl
due-member s (Revoke request) n h = refl
due-member s Close n h = cc
due-member s (AddUser user) n h = refl
due-member s (AddFloor floor) n h = refl
due-member s (SetChair floor chair) n h = refl
due-member s (Say user bytes) n h = refl

-- what an event calls for, member by member
pub due_parcels-members : (s : Conference) (e : Event) → is_telling e ≡ true → is_numbered_from 1 (settled s e).members ≡ true →
    due_parcels s e ≡ flat_map (λ m. cond m.is_live (map (parcel m.n) (due_to s e m)) []) (settled s e).members
unfolding due_parcels
due_parcels-members s e telling h =
    flat_map-same (λ m. map (parcel m.n) (due s e m.n)) (λ m. map (parcel m.n) (option_map_or (due_to s e) (member_with (settled s e).members m.n) []))
    (λ m. ap (map (parcel m.n)) (due-member s e m.n telling)) (settled s e).members
    ∙ members-told (due_to s e) (settled s e).members (settled s e).members 1 h (λ k l. refl)

-- the parcels that the steps of an event put are those that it calls for
pub parcels-told : (s : Conference) (e : Event) (reply : Option Replied) → is_telling e ≡ true → is_numbered_from 1 (settled s e).members ≡ true →
    ((k : ℕ) → answered_to reply k ≡ reply_to s e k) →
    parcels_to_all s.config.conference reply (map update_for (changed_requests s e)) (map (floor_update (infos (settled s e))) (changed_floors s e)) (settled s e).members
    ≡ due_parcels s e
parcels-told s e reply telling h replied =
    flat_map-same
    (λ m. cond m.is_live (parcels_to s.config.conference reply (map update_for (changed_requests s e)) (map (floor_update (infos (settled s e))) (changed_floors s e)) m) [])
    (λ m. cond m.is_live (map (parcel m.n) (due_to s e m)) [])
    (λ m. ap (λ (ps : List Parcel). cond m.is_live ps []) (member-told s e reply m (replied m.n)))
    (settled s e).members
    ∙ sym (due_parcels-members s e telling h)
