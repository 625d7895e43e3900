-- A user or a floor that is added changes and tells nothing else.
use Rattle.std.proofs.Common.{◌≡◌, ℕ, Bool, true, false, cond, List, [], ◌∷◌, ◌++◌, map, Option, Some, None, refl, sym, ap, ◌∙◌, arith}
use Rattle.std.specs.Prelude.{◌==◌, find}
use Rattle.std.specs.List.{list_all, list_any}
use Rattle.std.proofs.lemmas.Bool.Decides.{nat_tests}
use Rattle.floor_config.specs.declared.floors.Floor.{Floor}
use Rattle.floor_config.specs.declared.users.User.{User}
use Rattle.floor_config.specs.Changed.{added_user, floor_fault, with_floor, with_user}
use Rattle.floor_config.specs.Configuration.{Configuration}
use Rattle.floor_config.specs.Lookup.{is_user, user_with}
use Rattle.floor_config.proofs.KeptAfter.{floor_free}
use Rattle.floor_queue.specs.declared.request.Request.{Request}
use Rattle.floor_queue.specs.declared.requested_floor.RequestedFloor.{RequestedFloor}
use Rattle.floor_queue.specs.Order.{position, settle}
use Rattle.floor_queue.specs.Queue.{IsQueue, IsSettled, involves, is_ascending}
use Rattle.floor_queue.proofs.Added.{position-more, settle-more}
use Rattle.floor_queue.proofs.Places.{have_rooms, queue_has_rooms}
use Rattle.floor_message.specs.declared.information.Info.{Info}
use Rattle.floor_machine.specs.declared.event.Event.{Event}
use Rattle.floor_machine.specs.declared.event.Event.TheVariants.{Join, Message, Took, Leave, Revoke, Close, AddUser, AddFloor, SetChair, Say}
use Rattle.floor_machine.specs.declared.member.Member.{Member}
use Rattle.floor_machine.specs.Conference.{Conference}
use Rattle.floor_machine.specs.Shown.{entry_of, floor_shown, info, info_of}
use Rattle.floor_machine.specs.Change.{IsLawful, change, queue_of, settled}
use Rattle.floor_machine.specs.Next.{counted, next}
use Rattle.floor_machine.specs.Reachable.{GrowsAlone, is_growth}
use Rattle.floor_machine.specs.Told.{due, reply_to}
use Rattle.floor_machine.specs.steps.Frame.{IsKept}
use Rattle.floor_machine.specs.steps.Serving.{is_telling}
use Rattle.floor_machine.proofs.Counted.{counted-quiet}
use Rattle.floor_machine.proofs.Found.{and_left, and_right}
use Rattle.floor_machine.proofs.Grows.{are_known, user-more}
use Rattle.floor_machine.proofs.Left.{map-same}
use Rattle.floor_machine.specs.Reply.{infos}
use Rattle.floor_machine.proofs.Passed.{or-first, or-second}
use Rattle.floor_machine.proofs.Quiet.{IsStill, due-unsent, settled-still}
use Rattle.floor_machine.proofs.Reachable.{Keeps}
use Rattle.floor_machine.proofs.Sent.{told-nothing}

-- a request is shown as before where there is a user more
info-user : (config : Configuration) (user : User) (all : List Request) (r : Request) → are_known config r ≡ true → info (with_user config user) all r ≡ info config all r
unfolding info_of
info-user config user all r h =
    let theirs : user_with (with_user config user) r.beneficiary ≡ user_with config r.beneficiary =
    user-more config user r.beneficiary (and_right (is_user config r.requester) (is_user config r.beneficiary) h) in
    let mine : user_with (with_user config user) r.requester ≡ user_with config r.requester =
    user-more config user r.requester (and_left (is_user config r.requester) (is_user config r.beneficiary) h) in
    rw (theirs, mine) refl

infos-user : (config : Configuration) (user : User) (all rs : List Request) → list_all (are_known config) rs ≡ true → map (info (with_user config user) all) rs ≡ map (info config all) rs
infos-user config user all [] h = refl
infos-user config user all (r ∷ rs) h =
    ap (λ (i : Info). i ∷ map (info (with_user config user) all) rs) (info-user config user all r (and_left (are_known config r) (list_all (are_known config) rs) h))
    ∙ ap (λ (is : List Info). info config all r ∷ is) (infos-user config user all rs (and_right (are_known config r) (list_all (are_known config) rs) h))

-- and where there is a floor more, which it doesn't name
info-floor : (config : Configuration) (floor : Floor) (all : List Request) (r : Request) →
    ((id : ℕ) → position (config.floors ++ floor ∷ []) all r id ≡ position config.floors all r id) → info (with_floor config floor) all r ≡ info config all r
unfolding info_of
info-floor config floor all r same =
    let places : map (λ (f : RequestedFloor). position (config.floors ++ floor ∷ []) all r f.floor) r.floors ≡ map (λ (f : RequestedFloor). position config.floors all r f.floor) r.floors =
    map-same (λ (f : RequestedFloor). position (config.floors ++ floor ∷ []) all r f.floor) (λ (f : RequestedFloor). position config.floors all r f.floor) (λ f. same f.floor) r.floors in
    let floors : map (floor_shown (config.floors ++ floor ∷ []) all (entry_of r)) r.floors ≡ map (floor_shown config.floors all (entry_of r)) r.floors =
    map-same (floor_shown (config.floors ++ floor ∷ []) all (entry_of r)) (floor_shown config.floors all (entry_of r)) (λ f. rw (same f.floor) refl) r.floors in
    rw (places, floors) refl

infos-floor : (config : Configuration) (floor : Floor) (all rs : List Request) →
    ((r : Request) → have_rooms config.floors r ≡ true → (id : ℕ) → position (config.floors ++ floor ∷ []) all r id ≡ position config.floors all r id) →
    list_all (have_rooms config.floors) rs ≡ true → map (info (with_floor config floor) all) rs ≡ map (info config all) rs
infos-floor config floor all [] same h = refl
infos-floor config floor all (r ∷ rs) same h =
    ap (λ (i : Info). i ∷ map (info (with_floor config floor) all) rs)
    (info-floor config floor all r (same r (and_left (have_rooms config.floors r) (list_all (have_rooms config.floors) rs) h)))
    ∙ ap (λ (is : List Info). info config all r ∷ is) (infos-floor config floor all rs same (and_right (have_rooms config.floors r) (list_all (have_rooms config.floors) rs) h))

still-user : (s : Conference) (user : User) → Keeps s → IsStill s (AddUser user)
unfolding change
still-user s user k = record { entries = refl; settled = k.settled; infos = infos-user s.config user s.ongoing s.ongoing k.known }

-- whoever isn't the new user is the same one behind it
stranger-more : (config : Configuration) (user : User) (id : ℕ) → (id == user.id) ≡ false → user_with (with_user config user) id ≡ user_with config id
stranger-more config user id other = at config.users
  where
    turned : (a b : ℕ) → (a == b) ≡ false → (b == a) ≡ false
    turned a b e = grind (arith, nat_tests)

    at : (us : List User) → find (λ u. u.id == id) (us ++ added_user user ∷ []) ≡ find (λ u. u.id == id) us
    at [] = ap (λ (b : Bool). cond b (Some (added_user user)) None) (turned id user.id other)
    at (u ∷ us) = ap (λ (o : Option User). cond (u.id == id) (Some u) o) (at us)

-- a request that doesn't involve the new user is shown as before
info-stranger : (config : Configuration) (user : User) (all : List Request) (r : Request) → involves r user.id ≡ false → info (with_user config user) all r ≡ info config all r
unfolding info_of
info-stranger config user all r h =
    let theirs : user_with (with_user config user) r.beneficiary ≡ user_with config r.beneficiary = stranger-more config user r.beneficiary (or-second (r.requester == user.id) (r.beneficiary == user.id) h) in
    let mine : user_with (with_user config user) r.requester ≡ user_with config r.requester = stranger-more config user r.requester (or-first (r.requester == user.id) (r.beneficiary == user.id) h) in
    rw (theirs, mine) refl

infos-stranger : (config : Configuration) (user : User) (all rs : List Request) → list_any (λ r. involves r user.id) rs ≡ false → map (info (with_user config user) all) rs ≡ map (info config all) rs
infos-stranger config user all [] h = refl
infos-stranger config user all (r ∷ rs) h =
    ap (λ (i : Info). i ∷ map (info (with_user config user) all) rs) (info-stranger config user all r (or-first (involves r user.id) (list_any (λ r. involves r user.id) rs) h))
    ∙ ap (λ (is : List Info). info config all r ∷ is) (infos-stranger config user all rs (or-second (involves r user.id) (list_any (λ r. involves r user.id) rs) h))

pub still-stranger : (s : Conference) (user : User) → list_any (λ r. involves r user.id) s.ongoing ≡ false → IsSettled (queue_of s) → IsStill s (AddUser user)
unfolding change
still-stranger s user stranger is_settled = record { entries = refl; settled = is_settled; infos = infos-stranger s.config user s.ongoing s.ongoing stranger }

pub still-floor : (s : Conference) (floor : Floor) → floor_fault s.config floor ≡ None → IsQueue (queue_of s) → IsSettled (queue_of s) → IsStill s (AddFloor floor)
unfolding change
still-floor s floor may queue is_settled =
    let free = (floor_free s.config floor may).0 in
    record {
      entries = refl;
      settled = settle-more (queue_of s) floor free queue ∙ is_settled;
      infos = infos-floor s.config floor s.ongoing s.ongoing (position-more (queue_of s) floor free queue) (queue_has_rooms (queue_of s) queue);
    }

-- what each such event leaves
counted-all-quiet : (s : Conference) (e : Event) → ((n : ℕ) → due s e n ≡ []) → (ms : List Member) → map (counted s e) ms ≡ ms
counted-all-quiet s e quiet [] = refl
counted-all-quiet s e quiet (m ∷ ms) =
    ap (λ (x : Member). x ∷ map (counted s e) ms) (counted-quiet s e m (quiet m.n)) ∙ ap (λ (xs : List Member). m ∷ xs) (counted-all-quiet s e quiet ms)

next-quiet : (s : Conference) (e : Event) → ((n : ℕ) → due s e n ≡ []) → next s e ≡ settled s e
unfolding next
next-quiet s e quiet = ap (λ (ms : List Member). record (settled s e) { members = ms }) (counted-all-quiet s e quiet (settled s e).members)

next-still : (s : Conference) (e : Event) → is_telling e ≡ true → ((n : ℕ) → reply_to s e n ≡ []) → is_ascending s.ongoing ≡ true → IsStill s e → (change s e).given ≡ s.given → (change s e).is_open ≡ s.is_open →
    (change s e).members ≡ s.members → next s e ≡ record s { config = (change s e).config }
next-still s e telling unsent ascending still given opened members =
    next-quiet s e (due-unsent s e telling unsent still ascending)
    ∙ sym (settled-still s e still given opened)
    ∙ ap (λ (ms : List Member). record s { config = (change s e).config; members = ms }) members

-- so a user whom no request involves keeps each request as it is shown
pub kept-stranger : (s : Conference) (user : User) (t : Conference) → IsStill s (AddUser user) → t ≡ record s { config = with_user s.config user } → IsKept s (change s (AddUser user)) t
unfolding change
kept-stranger s user t still same = record { entries = still.entries; settled = still.settled; infos = still.infos; given = refl; is_open = refl; next = same }

-- and so does a floor
pub kept-floor : (s : Conference) (floor : Floor) (t : Conference) → IsStill s (AddFloor floor) → t ≡ record s { config = with_floor s.config floor } → IsKept s (change s (AddFloor floor)) t
unfolding change
kept-floor s floor t still same = record { entries = still.entries; settled = still.settled; infos = still.infos; given = refl; is_open = refl; next = same }

-- what is shown and settled by the configuration after it
pub infos-stranger-after : (s : Conference) (user : User) → IsStill s (AddUser user) → map (info (with_user s.config user) s.ongoing) s.ongoing ≡ infos s
unfolding change
infos-stranger-after s user still = still.infos

pub infos-floor-after : (s : Conference) (floor : Floor) → IsStill s (AddFloor floor) → map (info (with_floor s.config floor) s.ongoing) s.ongoing ≡ infos s
unfolding change
infos-floor-after s floor still = still.infos

pub settled-floor-after : (s : Conference) (floor : Floor) → IsStill s (AddFloor floor) → settle (with_floor s.config floor).floors s.ongoing ≡ s.ongoing
unfolding change
settled-floor-after s floor still = still.settled

alone-still : (s : Conference) (e : Event) → is_telling e ≡ true → ((n : ℕ) → reply_to s e n ≡ []) → Keeps s → IsStill s e → (change s e).given ≡ s.given → (change s e).is_open ≡ s.is_open →
    (change s e).members ≡ s.members → GrowsAlone s e
alone-still s e telling unsent k still given opened members =
    let is : next s e ≡ record s { config = (change s e).config } = next-still s e telling unsent k.queue.ascending still given opened members in
    record {
      next = is ∙ ap (λ (config : Configuration). record s { config = config }) (sym (ap (λ (x : Conference). x.config) is));
      told = λ n. told-nothing s e n (due-unsent s e telling unsent still k.queue.ascending n);
    }

alone-user : (s : Conference) (user : User) → Keeps s → GrowsAlone s (AddUser user)
unfolding change
alone-user s user k = alone-still s (AddUser user) refl (λ n. refl) k (still-user s user k) refl refl refl

alone-floor : (s : Conference) (floor : Floor) → floor_fault s.config floor ≡ None → Keeps s → GrowsAlone s (AddFloor floor)
unfolding change
alone-floor s floor may k = alone-still s (AddFloor floor) refl (λ n. refl) k (still-floor s floor may k.queue k.settled) refl refl refl

-- a user or a floor that may be added changes and tells nothing else
pub grows_alone : (s : Conference) (e : Event) → is_growth e ≡ true → IsLawful s e → Keeps s → GrowsAlone s e
grows_alone s (Join user) grows lawful k = cc
grows_alone s (Message n bytes) grows lawful k = cc
grows_alone s (Took n j) grows lawful k = cc
grows_alone s (Leave n) grows lawful k = cc
grows_alone s (Revoke request) grows lawful k = cc
grows_alone s Close grows lawful k = cc
grows_alone s (AddUser user) grows lawful k = alone-user s user k
grows_alone s (AddFloor floor) grows lawful k = alone-floor s floor lawful.1 k
grows_alone s (SetChair floor chair) grows lawful k = cc
grows_alone s (Say user bytes) grows lawful k = cc
