-- A message that isn't accepted leaves all but its sender alone, and the bytes that a journal calls for.
use Rattle.std.proofs.Common.{◌≡◌, ◌≢◌, ℕ, Bool, true, false, cond, List, [], ◌∷◌, ◌++◌, map, Option, Some, None, refl, sym, ap, ◌∙◌, arith}
use Rattle.std.specs.Prelude.{◌==◌, ◌&&◌, filter, is_some}
use Rattle.std.specs.List.{list_any}
use Rattle.std.specs.Option.{option_map_or}
use Rattle.std.proofs.lemmas.Bool.Decides.{nat_tests}
use Rattle.floor_config.specs.declared.floors.Floor.{Floor}
use Rattle.floor_queue.specs.Order.{settle}
use Rattle.floor_queue.specs.Queue.{is_ascending}
use Rattle.floor_message.specs.Ask.{Answer, asks, refused, unanswered, ask}
use Rattle.floor_message.specs.declared.code.ErrorCode.{ErrorCode}
use Rattle.floor_message.specs.declared.tell.Tell.TheVariants.{FloorRequestStatus}
use Rattle.floor_machine.specs.declared.event.Event.{Event}
use Rattle.floor_machine.specs.declared.event.Event.TheVariants.{Message, Say}
use Rattle.floor_machine.specs.declared.decision.Change.TheVariants as to
use Rattle.floor_machine.specs.declared.member.Member.{Member}
use Rattle.floor_machine.specs.Conference.{Conference, binding, binding_for, member_with, opening, user_of}
use Rattle.floor_machine.specs.Change.{change, no_change, settled}
use Rattle.floor_machine.specs.Checks.{refusal}
use Rattle.floor_machine.specs.Said.{said}
use Rattle.floor_machine.specs.Journal.{parcel, told_from}
use Rattle.floor_machine.specs.Outgoing.{Outgoing, notice, outgoing_bytes}
use Rattle.floor_machine.specs.Parcel.{Parcel}
use Rattle.floor_machine.specs.Reachable.{LeavesAll, LeavesAlone, Sent, but_for, is_unaccepted, uncounted}
use Rattle.floor_machine.specs.Reply.{floor_status_tell, reply}
use Rattle.floor_machine.specs.steps.Deciding.{accepted, change_by, decision_of, refused_by}
use Rattle.floor_machine.specs.Told.{Changed, changed_floors, changed_requests, is_told, reply_to, due, due_to}
use Rattle.floor_machine.proofs.Found.{and_left}
use Rattle.floor_machine.proofs.Kept.{kept-nothing, next-kept, still-kept}
use Rattle.floor_machine.proofs.Quiet.{IsStill, due-unsent, floors-kept, requests-kept}
use Rattle.floor_machine.proofs.Served.{change-decided, change-message, change-said}
use Rattle.floor_machine.proofs.Counted.{counted-quiet, next-quiet}
use Rattle.floor_machine.proofs.Sent.{sent_is_told, told-nothing}
use Rattle.floor_machine.specs.Next.{counted, next}
use Rattle.floor_machine.proofs.Telling.{due-member}

-- what isn't accepted changes nothing
unaccepted : (s : Conference) (n : Option ℕ) (user : ℕ) (a : Answer) → is_unaccepted s user a ≡ true → (decision_of s n user a).change ≡ to.Nothing
unaccepted s n user unanswered h = refl
unaccepted s n user (refused code details) h = refl
unaccepted s n user (asks a) h = by (refusal s user a) h
  where
    by : (o : Option ErrorCode) → is_some o ≡ true → (option_map_or refused_by o (accepted n user a)).change ≡ to.Nothing
    by None h = cc
    by (Some code) h = refl

-- the live member with a number has it
found_number : (ms : List Member) (k : ℕ) (m : Member) → member_with ms k ≡ Some m → m.n ≡ k
found_number [] k m h = cc
found_number (x ∷ ms) k m h = by (x.n == k && x.is_live) refl h (λ later. found_number ms k m later)
  where
    equal : (a b : ℕ) → (a == b) ≡ true → a ≡ b
    equal a b e = grind (arith, nat_tests)

    by : (b : Bool) → (x.n == k && x.is_live) ≡ b → cond b (Some x) (member_with ms k) ≡ Some m → (member_with ms k ≡ Some m → m.n ≡ k) → m.n ≡ k
    by true is h rest = let same : x ≡ m = cc in sym (ap (λ (y : Member). y.n) same) ∙ equal x.n k (and_left (x.n == k) x.is_live is)
    by false is h rest = rest h

-- what is due to a member, by what it is answered and by what changed
abbrev due_by : Conference → Event → Member → List Outgoing → List Changed → List Floor → List Outgoing
due_by s e m replied requests floors =
    replied
    ++ map (λ c. notice s.config.conference m.user (FloorRequestStatus c.info)) (filter (is_told replied m.user) requests)
    ++ map (λ f. notice s.config.conference m.user (floor_status_tell (settled s e) f.id)) (filter (λ f. list_any (λ floor. floor == f.id) m.watched) floors)

-- another member than the sender
due-other : (s : Conference) (n : ℕ) (bytes : List ℕ) (m : Member) → (n == m.n) ≡ false → changed_requests s (Message n bytes) ≡ [] → changed_floors s (Message n bytes) ≡ [] →
    due_to s (Message n bytes) m ≡ []
due-other s n bytes m other requests floors =
    let e : Event = Message n bytes in
    let unsent : reply_to s e m.n ≡ [] = ap (λ (b : Bool). cond b (reply s e) []) other in
    ap (λ (replied : List Outgoing). due_by s e m replied (changed_requests s e) (changed_floors s e)) unsent
    ∙ ap (λ (cs : List Changed). due_by s e m [] cs (changed_floors s e)) requests
    ∙ ap (due_by s e m [] []) floors

-- counting changes nothing but how far the one member is behind that anything is due to
uncounted-counted : (s : Conference) (e : Event) (n : ℕ) → ((i : ℕ) → i ≢ n → due s e i ≡ []) → (ms : List Member) → map (uncounted n) (map (counted s e) ms) ≡ map (uncounted n) ms
uncounted-counted s e n silent [] = refl
uncounted-counted s e n silent (m ∷ ms) =
    ap (λ (x : Member). x ∷ map (uncounted n) (map (counted s e) ms)) (by (m.n == n) refl)
    ∙ ap (λ (xs : List Member). uncounted n m ∷ xs) (uncounted-counted s e n silent ms)
  where
    apart : (a b : ℕ) → (a == b) ≡ false → a ≢ b
    apart a b e = grind (arith, nat_tests)

    by : (b : Bool) → (m.n == n) ≡ b → cond b (record (counted s e m) { backlog = 0; is_cut = false }) (counted s e m) ≡ cond b (record m { backlog = 0; is_cut = false }) m
    by true is = refl
    by false is = counted-quiet s e m (silent m.n (apart m.n n is))

but-for-counted : (s : Conference) (e : Event) (n : ℕ) → ((i : ℕ) → i ≢ n → due s e i ≡ []) → but_for n (next s e) ≡ but_for n (settled s e)
unfolding next
but-for-counted s e n silent = ap (λ (ms : List Member). record (settled s e) { members = ms }) (uncounted-counted s e n silent (settled s e).members)

pub leaves_alone : (s : Conference) (n : ℕ) (bytes : List ℕ) → settle s.config.floors s.ongoing ≡ s.ongoing → is_ascending s.ongoing ≡ true →
    is_unaccepted s (user_of s n) (ask bytes (binding s n)) ≡ true → LeavesAlone s n bytes
leaves_alone s n bytes is_settled ascending refused_is =
    let e : Event = Message n bytes in
    let nothing : change s e ≡ no_change s =
    change-message s n bytes ∙ change-decided s (Some n) (user_of s n) (ask bytes (binding s n)) ∙ ap (change_by s) (unaccepted s (Some n) (user_of s n) (ask bytes (binding s n)) refused_is) in
    let kept : IsStill s e = still-kept s e (no_change s) s nothing (kept-nothing s is_settled) in
    let unmoved : settled s e ≡ s = sym (next-kept s e (no_change s) s nothing (kept-nothing s is_settled)) in
    let silent : (i : ℕ) → i ≢ n → due s e i ≡ [] = λ i other. due-member s e i refl
    ∙ due-found s n bytes i (member_with (settled s e).members i) refl other (requests-kept s e kept ascending) (floors-kept s e kept) in
    record {
      next = but-for-counted s e n silent ∙ ap (but_for n) unmoved;
      told = λ i other. told-nothing s e i (silent i other);
    }
  where
    apart : (n a i : ℕ) → a ≡ i → i ≢ n → (n == a) ≡ false
    apart n a i e other = grind (arith, nat_tests)

    due-found : (s : Conference) (n : ℕ) (bytes : List ℕ) (i : ℕ) (o : Option Member) → member_with (settled s (Message n bytes)).members i ≡ o → i ≢ n →
        changed_requests s (Message n bytes) ≡ [] → changed_floors s (Message n bytes) ≡ [] → option_map_or (due_to s (Message n bytes)) o [] ≡ []
    due-found s n bytes i None is other requests floors = refl
    due-found s n bytes i (Some m) is other requests floors =
        due-other s n bytes m (apart n m.n i (found_number (settled s (Message n bytes)).members i m is) other) requests floors

-- one that is said leaves all
pub leaves_all : (s : Conference) (user : ℕ) (bytes : List ℕ) → settle s.config.floors s.ongoing ≡ s.ongoing → is_ascending s.ongoing ≡ true →
    is_unaccepted s user (said bytes (binding_for s user)) ≡ true → LeavesAll s user bytes
leaves_all s user bytes is_settled ascending refused_is =
    let e : Event = Say user bytes in
    let nothing : change s e ≡ no_change s =
    change-said s user bytes ∙ change-decided s None user (said bytes (binding_for s user)) ∙ ap (change_by s) (unaccepted s None user (said bytes (binding_for s user)) refused_is) in
    let kept : IsStill s e = still-kept s e (no_change s) s nothing (kept-nothing s is_settled) in
    let unmoved : settled s e ≡ s = sym (next-kept s e (no_change s) s nothing (kept-nothing s is_settled)) in
    let silent : (i : ℕ) → due s e i ≡ [] = due-unsent s e refl (λ k. refl) kept ascending in
    record {
      next = sym (next-quiet s e silent) ∙ unmoved;
      told = λ i. told-nothing s e i (silent i);
    }

-- the bytes of parcels to n
bytes-parcels : (n : ℕ) (ms : List Outgoing) → map (λ (p : Parcel). p.bytes) (map (parcel n) ms) ≡ map outgoing_bytes ms
bytes-parcels n [] = refl
bytes-parcels n (m ∷ ms) = ap (λ (bs : List (List ℕ)). outgoing_bytes m ∷ bs) (bytes-parcels n ms)

pub sent : Sent
sent = λ config es n journal.
    ap (map (λ (p : Parcel). p.bytes)) (sent_is_told config es n journal.lawful) ∙ bytes-parcels n (told_from (opening config) es n)
