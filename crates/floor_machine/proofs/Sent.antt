-- Of all parcels, those to one member are what the events tell it.
use Rattle.std.proofs.Common.{◌≡◌, ℕ, ◌+◌, ◌-◌, Bool, true, false, cond, List, [], ◌∷◌, ◌++◌, map, length, Option, Some, None, refl, sym, ap, subst, ◌∙◌, arith}
use Rattle.std.specs.Prelude.{◌==◌, ◌||◌, ◌&&◌, nat_le, nat_lt, not, is_some}
use Rattle.std.specs.List.{list_any, flat_map}
use Rattle.std.specs.Option.{option_map_or}
use Rattle.std.proofs.lemmas.Bool.Decides.{nat_tests}
use Rattle.std.proofs.lemmas.List.{map-append, append-nil}
use Rattle.std.proofs.lemmas.List.Elements.{filter-append}
use Rattle.floor_message.specs.Ask.{Answer, asks, refused, unanswered, ask}
use Rattle.floor_message.specs.declared.ask.Ask.{Ask}
use Rattle.floor_message.specs.declared.ask.Ask.TheVariants.{FloorRequest, FloorRelease, FloorRequestQuery, UserQuery, FloorQuery, ChairAction, Hello}
use Rattle.floor_machine.specs.Said.{said}
use Rattle.floor_machine.specs.declared.member.Member.{Member}
use Rattle.floor_machine.specs.Parcel.{Parcel}
use Rattle.floor_machine.specs.Conference.{Conference, backlog, binding, binding_for, is_cut, is_numbered_from, joining, member_with, opening, user_of}
use Rattle.floor_machine.specs.declared.event.Event.{Event}
use Rattle.floor_machine.specs.declared.event.Event.TheVariants.{Join, Message, Took, Leave, Revoke, Close, AddUser, AddFloor, SetChair, Say}
use Rattle.floor_machine.specs.Checks.{refusal}
use Rattle.floor_machine.specs.Change.{change, settled, no_change, asked_change, message_change, members_after, watching, acknowledging, leaving}
use Rattle.floor_machine.specs.Outgoing.{Outgoing}
use Rattle.floor_machine.specs.Told.{due, due_to}
use Rattle.floor_machine.specs.Journal.{parcel, parcels_of, parcels_from, told_from, sent_to}
use Rattle.floor_machine.specs.Laws.{SentIsTold}
use Rattle.floor_machine.specs.Next.{counted, next, told}
use Rattle.floor_machine.specs.steps.Counting.{due_parcels}
use Rattle.floor_machine.proofs.Found.{and_left, and_right, same_number}
use Rattle.floor_machine.proofs.Joining.{numbered-push}
use Rattle.floor_machine.proofs.Live.{numbered-map}

all_to : (n k : ℕ) (ms : List Outgoing) → (k == n) ≡ true → sent_to n (map (parcel k) ms) ≡ map (parcel k) ms
all_to n k [] h = refl
all_to n k (m ∷ ms) h = rw (h, all_to n k ms h) refl

none_to : (n k : ℕ) (ms : List Outgoing) → (k == n) ≡ false → sent_to n (map (parcel k) ms) ≡ []
none_to n k [] h = refl
none_to n k (m ∷ ms) h = rw (h, none_to n k ms h) refl

-- one of the members has the number
abbrev pub has_number : ℕ → List Member → Bool
has_number n ms = list_any (λ m. m.n == n) ms

-- the members from k on have no number below it
none_below : (ms : List Member) (k n : ℕ) → is_numbered_from k ms ≡ true → nat_lt n k ≡ true → has_number n ms ≡ false
none_below [] k n h below = refl
none_below (m ∷ ms) k n h below =
    rw (differs m.n k n (and_left _ _ h) below) (none_below ms (k + 1) n (and_right _ _ h) (further n k below))
  where
    differs : (a k n : ℕ) → (a == k) ≡ true → nat_lt n k ≡ true → (a == n) ≡ false
    differs a k n e l = grind (arith, nat_tests)

    further : (n k : ℕ) → nat_lt n k ≡ true → nat_lt n (k + 1) ≡ true
    further n k l = grind (arith, nat_tests)

-- the parcels of members, each by its number
abbrev by_members : (ℕ → List Outgoing) → List Member → List Parcel
by_members g ms = flat_map (λ m. map (parcel m.n) (g m.n)) ms

sent_to-members : (g : ℕ → List Outgoing) (n k : ℕ) (ms : List Member) → is_numbered_from k ms ≡ true →
    sent_to n (by_members g ms) ≡ cond (has_number n ms) (map (parcel n) (g n)) []
sent_to-members g n k [] h = refl
sent_to-members g n k (m ∷ ms) h =
    filter-append (λ p. p.n == n) (map (parcel m.n) (g m.n)) (by_members g ms)
    ∙ ap (λ (ps : List Parcel). sent_to n (map (parcel m.n) (g m.n)) ++ ps) (sent_to-members g n (k + 1) ms (and_right _ _ h))
    ∙ by (m.n == n) refl
  where
    equal : (a b : ℕ) → true ≡ (a == b) → a ≡ b
    equal a b e = grind (arith, nat_tests)

    above : (a k : ℕ) → (a == k) ≡ true → nat_lt a (k + 1) ≡ true
    above a k e = grind (arith, nat_tests)

    own : (j : ℕ) → m.n ≡ j → sent_to j (map (parcel m.n) (g m.n)) ++ cond (has_number j ms) (map (parcel j) (g j)) [] ≡ map (parcel j) (g j)
    own j same =
        let P : ℕ → Type 0 = λ i. sent_to i (map (parcel m.n) (g m.n)) ++ cond (has_number i ms) (map (parcel i) (g i)) [] ≡ map (parcel i) (g i) in
        let one : (m.n == k) ≡ true = and_left (m.n == k) (is_numbered_from (k + 1) ms) h in
        let others : is_numbered_from (k + 1) ms ≡ true = and_right (m.n == k) (is_numbered_from (k + 1) ms) h in
        subst P same (rw (all_to m.n m.n (g m.n) (same_number m.n), none_below ms (k + 1) m.n others (above m.n k one)) (append-nil (map (parcel m.n) (g m.n))))

    by : (b : Bool) → b ≡ (m.n == n) →
        sent_to n (map (parcel m.n) (g m.n)) ++ cond (has_number n ms) (map (parcel n) (g n)) [] ≡ cond (b || has_number n ms) (map (parcel n) (g n)) []
    by true same = own n (equal m.n n same)
    by false other = rw (none_to n m.n (g m.n) (sym other)) refl

absent : (ms : List Member) (n : ℕ) → has_number n ms ≡ false → member_with ms n ≡ None
absent [] n h = refl
absent (m ∷ ms) n h = by (m.n == n) m.is_live h (absent ms n)
  where
    by : (b l : Bool) → (b || has_number n ms) ≡ false → (has_number n ms ≡ false → member_with ms n ≡ None) → cond (b && l) (Some m) (member_with ms n) ≡ None
    by true l h rest = cc
    by false l h rest = rest h

-- whoever isn't there is told nothing
pub due-absent : (s : Conference) (e : Event) (n : ℕ) → has_number n (settled s e).members ≡ false → due s e n ≡ []
unfolding due
due-absent s (Join user) n h = ap (λ (o : Option Member). option_map_or (due_to s (Join user)) o []) (absent (settled s (Join user)).members n h)
due-absent s (Message k bytes) n h = ap (λ (o : Option Member). option_map_or (due_to s (Message k bytes)) o []) (absent (settled s (Message k bytes)).members n h)
due-absent s (Took j k) n h = ap (λ (o : Option Member). option_map_or (due_to s (Took j k)) o []) (absent (settled s (Took j k)).members n h)
due-absent s (Leave k) n h = ap (λ (o : Option Member). option_map_or (due_to s (Leave k)) o []) (absent (settled s (Leave k)).members n h)
due-absent s (Revoke k) n h = ap (λ (o : Option Member). option_map_or (due_to s (Revoke k)) o []) (absent (settled s (Revoke k)).members n h)
due-absent s Close n h = refl
due-absent s (AddUser user) n h = ap (λ (o : Option Member). option_map_or (due_to s (AddUser user)) o []) (absent (settled s (AddUser user)).members n h)
due-absent s (AddFloor floor) n h = ap (λ (o : Option Member). option_map_or (due_to s (AddFloor floor)) o []) (absent (settled s (AddFloor floor)).members n h)
due-absent s (SetChair floor chair) n h = ap (λ (o : Option Member). option_map_or (due_to s (SetChair floor chair)) o []) (absent (settled s (SetChair floor chair)).members n h)
due-absent s (Say user bytes) n h = ap (λ (o : Option Member). option_map_or (due_to s (Say user bytes)) o []) (absent (settled s (Say user bytes)).members n h)

-- of all that is due after an event, what is due to n
pub sent_to-due : (s : Conference) (e : Event) (n : ℕ) → is_numbered_from 1 (settled s e).members ≡ true → sent_to n (due_parcels s e) ≡ map (parcel n) (due s e n)
unfolding due_parcels
sent_to-due s e n h = sent_to-members (due s e) n 1 (settled s e).members h ∙ by (has_number n (settled s e).members) refl
  where
    by : (b : Bool) → b ≡ has_number n (settled s e).members → cond b (map (parcel n) (due s e n)) [] ≡ map (parcel n) (due s e n)
    by true here = refl
    by false gone = sym (ap (map (parcel n)) (due-absent s e n (sym gone)))

-- where nothing is due, nothing is told
pub told-nothing : (s : Conference) (e : Event) (n : ℕ) → due s e n ≡ [] → told s e n ≡ []
unfolding told
told-nothing s e n nothing =
    ap (λ (ms : List Outgoing). cond (not (is_cut s n) && nat_le (backlog s n + length ms) 1024) ms []) nothing
    ∙ by (not (is_cut s n) && nat_le (backlog s n + 0) 1024)
  where
    by : (b : Bool) → ◌≡◌ {A = List Outgoing} (cond b [] []) []
    by true = refl
    by false = refl

-- counting adds no member
has_number-counted : (s : Conference) (e : Event) (n : ℕ) (ms : List Member) → has_number n (map (counted s e) ms) ≡ has_number n ms
has_number-counted s e n [] = refl
has_number-counted s e n (m ∷ ms) = ap (λ (b : Bool). m.n == n || b) (has_number-counted s e n ms)

has_number-next : (s : Conference) (e : Event) (n : ℕ) → has_number n (next s e).members ≡ has_number n (settled s e).members
unfolding next
has_number-next s e n = has_number-counted s e n (settled s e).members

-- of an event's parcels, those to n are what it tells n
sent_to-parcels_of : (s : Conference) (e : Event) (n : ℕ) → is_numbered_from 1 (next s e).members ≡ true → sent_to n (parcels_of s e) ≡ map (parcel n) (told s e n)
unfolding parcels_of
sent_to-parcels_of s e n h = sent_to-members (told s e) n 1 (next s e).members h ∙ by (has_number n (next s e).members) refl
  where
    by : (b : Bool) → b ≡ has_number n (next s e).members → cond b (map (parcel n) (told s e n)) [] ≡ map (parcel n) (told s e n)
    by true here = refl
    by false gone = sym (ap (map (parcel n)) (told-nothing s e n (due-absent s e n (sym (has_number-next s e n) ∙ sym gone))))

pub numbered-watching : (n : ℕ) (floors : List ℕ) (k : ℕ) (ms : List Member) → is_numbered_from k ms ≡ true → is_numbered_from k (map (watching n floors) ms) ≡ true
numbered-watching n floors k [] h = refl
numbered-watching n floors k (m ∷ ms) h = by (m.n == n) (numbered-watching n floors (k + 1) ms (and_right _ _ h))
  where
    by : (b : Bool) → is_numbered_from (k + 1) (map (watching n floors) ms) ≡ true → is_numbered_from k (cond b (record m { watched = floors }) m ∷ map (watching n floors) ms) ≡ true
    by true rest = rw (and_left (m.n == k) (is_numbered_from (k + 1) ms) h) rest
    by false rest = rw (and_left (m.n == k) (is_numbered_from (k + 1) ms) h) rest

pub numbered-leaving : (n : ℕ) (k : ℕ) (ms : List Member) → is_numbered_from k ms ≡ true → is_numbered_from k (map (leaving n) ms) ≡ true
numbered-leaving n k [] h = refl
numbered-leaving n k (m ∷ ms) h = by (m.n == n) (numbered-leaving n (k + 1) ms (and_right _ _ h))
  where
    by : (b : Bool) → is_numbered_from (k + 1) (map (leaving n) ms) ≡ true → is_numbered_from k (cond b (record m { is_live = false }) m ∷ map (leaving n) ms) ≡ true
    by true rest = rw (and_left (m.n == k) (is_numbered_from (k + 1) ms) h) rest
    by false rest = rw (and_left (m.n == k) (is_numbered_from (k + 1) ms) h) rest

pub n-acknowledging : (n k : ℕ) (m : Member) → (acknowledging n k m).n ≡ m.n
n-acknowledging n k m = by (m.n == n)
  where
    by : (b : Bool) → (cond b (record m { backlog = m.backlog - k }) m).n ≡ m.n
    by true = refl
    by false = refl

pub live-acknowledging : (j k : ℕ) (m : Member) → (acknowledging j k m).is_live ≡ m.is_live
live-acknowledging j k m = by (m.n == j)
  where
    by : (b : Bool) → (cond b (record m { backlog = m.backlog - k }) m).is_live ≡ m.is_live
    by true = refl
    by false = refl

numbered-asked : (s : Conference) (n : Option ℕ) (a : Ask) → is_numbered_from 1 s.members ≡ true → is_numbered_from 1 (members_after s n a) ≡ true
numbered-asked s n (FloorRequest beneficiary floors priority info) h = h
numbered-asked s n (FloorRelease request) h = h
numbered-asked s n (FloorRequestQuery request) h = h
numbered-asked s n (UserQuery beneficiary) h = h
numbered-asked s None (FloorQuery floors) h = h
numbered-asked s (Some n) (FloorQuery floors) h = numbered-watching n floors 1 s.members h
numbered-asked s n (ChairAction request verdicts reason) h = h
numbered-asked s n Hello h = h

numbered-message : (s : Conference) (n : Option ℕ) (user : ℕ) (a : Answer) → is_numbered_from 1 s.members ≡ true → is_numbered_from 1 (message_change s n user a).members ≡ true
numbered-message s n user unanswered h = h
numbered-message s n user (refused code details) h = h
numbered-message s n user (asks a) h = by (is_some (refusal s user a))
  where
    by : (b : Bool) → is_numbered_from 1 (cond b (no_change s) (asked_change s n user a)).members ≡ true
    by true = h
    by false = numbered-asked s n a h

numbered-change : (s : Conference) (e : Event) → is_numbered_from 1 s.members ≡ true → is_numbered_from 1 (change s e).members ≡ true
unfolding change
numbered-change s (Join user) h = numbered-push 1 s.members (joining (length s.members + 1) user) refl h
numbered-change s (Message n bytes) h = numbered-message s (Some n) (user_of s n) (ask bytes (binding s n)) h
numbered-change s (Took n k) h = numbered-map (acknowledging n k) (n-acknowledging n k) 1 s.members h
numbered-change s (Leave n) h = numbered-leaving n 1 s.members h
numbered-change s (Revoke request) h = h
numbered-change s Close h = h
numbered-change s (AddUser user) h = h
numbered-change s (AddFloor floor) h = h
numbered-change s (SetChair floor chair) h = h
numbered-change s (Say user bytes) h = numbered-message s None user (said bytes (binding_for s user)) h

-- the members stay numbered
pub numbered-settled : (s : Conference) (e : Event) → is_numbered_from 1 s.members ≡ true → is_numbered_from 1 (settled s e).members ≡ true
unfolding settled
numbered-settled s e h = numbered-change s e h

pub numbered-next : (s : Conference) (e : Event) → is_numbered_from 1 s.members ≡ true → is_numbered_from 1 (next s e).members ≡ true
unfolding next
numbered-next s e h = numbered-map (counted s e) (λ m. refl) 1 (settled s e).members (numbered-settled s e h)

sent_to-run : (s : Conference) (es : List Event) (n : ℕ) → is_numbered_from 1 s.members ≡ true → sent_to n (parcels_from s es) ≡ map (parcel n) (told_from s es n)
sent_to-run s [] n h = refl
sent_to-run s (e ∷ es) n h =
    filter-append (λ p. p.n == n) (parcels_of s e) (parcels_from (next s e) es)
    ∙ ap (λ (ps : List Parcel). ps ++ sent_to n (parcels_from (next s e) es)) (sent_to-parcels_of s e n (numbered-next s e h))
    ∙ ap (λ (ps : List Parcel). map (parcel n) (told s e n) ++ ps) (sent_to-run (next s e) es n (numbered-next s e h))
    ∙ sym (map-append (parcel n) (told s e n) (told_from (next s e) es n))

pub sent_is_told : SentIsTold
sent_is_told = λ config es n lawful. sent_to-run (opening config) es n refl
