-- What an event tells the members and makes of them, once all that is due is told.
use Rattle.std.proofs.Common.{◌≡◌, ℕ, ◌+◌, ◌-◌, ◌<◌, ◌≤◌, Bool, true, false, cond, List, [], ◌∷◌, ◌++◌, length, map, Option, Some, None, refl, sym, ap, subst, ◌∙◌, arith, append-nil}
use Rattle.std.specs.Prelude.{◌==◌, ◌&&◌, ◌||◌, nat_le, nat_lt, not, All, find, is_some, sum_by}
use Rattle.std.specs.List.{flat_map}
use Rattle.std.specs.Option.{option_map_or}
use Rattle.std.proofs.lemmas.Bool.Decides.{nat_tests}
use Rattle.std.proofs.lemmas.List.{length-map}
use Rattle.std.proofs.Common.{length-append}
use Rattle.std.proofs.lemmas.List.Elements.{All-map, All-push, All-weaker}
use Rattle.std.proofs.lemmas.List.Sums.{sum_by-cons}
use Rattle.floor_queue.specs.Order.{settle}
use Rattle.floor_queue.specs.Queue.{is_ascending}
use Rattle.floor_message.specs.Ask.{Answer, asks, refused, unanswered, ask}
use Rattle.floor_message.specs.declared.ask.Ask.{Ask}
use Rattle.floor_message.specs.declared.ask.Ask.TheVariants.{FloorRequest, FloorRelease, FloorRequestQuery, UserQuery, FloorQuery, ChairAction, Hello}
use Rattle.floor_machine.specs.Said.{said}
use Rattle.floor_machine.specs.declared.event.Event.{Event}
use Rattle.floor_machine.specs.declared.event.Event.TheVariants.{Join, Message, Took, Leave, Revoke, Close, AddUser, AddFloor, SetChair, Say}
use Rattle.floor_machine.specs.declared.member.Member.{Member}
use Rattle.floor_machine.specs.Parcel.{Parcel}
use Rattle.floor_machine.specs.Outgoing.{Outgoing, outgoing_bytes}
use Rattle.floor_machine.specs.Conference.{Conference, backlog, binding, binding_for, is_cut, is_numbered_from, joining, opening, user_of}
use Rattle.floor_machine.specs.Checks.{refusal}
use Rattle.floor_machine.specs.Events.{acknowledged_by}
use Rattle.floor_machine.specs.Change.{IsLawful, acknowledging, asked_change, change, leaving, members_after, message_change, no_change, settled, watching}
use Rattle.floor_machine.specs.Told.{due}
use Rattle.floor_machine.specs.Next.{counted, is_nothing, next, told}
use Rattle.floor_machine.specs.Journal.{IsLawfulFrom, after_from, parcel, parcels_of, sent_to, told_from}
use Rattle.floor_machine.specs.Reachable.{Counted, Silent}
use Rattle.floor_machine.specs.steps.Serving.{is_untaking}
use Rattle.floor_machine.specs.steps.Counting.{counted_all, counted_of, due_parcels, is_told, taken_on, told_of, told_of_all}
use Rattle.floor_machine.proofs.Counting.{each-own, map-flat}
use Rattle.floor_machine.proofs.Quiet.{due_of-took}
use Rattle.floor_machine.proofs.Sent.{due-absent, has_number, numbered-settled, sent_to-due, told-nothing}
use Rattle.floor_machine.proofs.Telling.{flat_map-same}
use Rattle.floor_machine.proofs.Together.{told_by_both}

-- a member to which nothing is due stays as it was
pub counted-quiet : (s : Conference) (e : Event) (m : Member) → due s e m.n ≡ [] → counted s e m ≡ m
counted-quiet s e m nothing =
    ap (λ (ms : List Outgoing). record m { backlog = m.backlog + length (told s e m.n); is_cut = m.is_cut || not (is_nothing ms) && is_nothing (told s e m.n) }) nothing
    ∙ ap (λ (ms : List Outgoing). record m { backlog = m.backlog + length ms; is_cut = m.is_cut || false && is_nothing ms }) (told-nothing s e m.n nothing)
    ∙ ap (λ (k : ℕ). record m { backlog = k; is_cut = m.is_cut || false }) same
    ∙ ap (λ (b : Bool). record m { is_cut = b }) (kept m.is_cut)
  where
    same : m.backlog + 0 ≡ m.backlog
    same = omega arith

    kept : (b : Bool) → (b || false) ≡ b
    kept true = refl
    kept false = refl

all-quiet : (s : Conference) (e : Event) → ((n : ℕ) → due s e n ≡ []) → (ms : List Member) → map (counted s e) ms ≡ ms
all-quiet s e nothing [] = refl
all-quiet s e nothing (m ∷ ms) =
    ap (λ (x : Member). x ∷ map (counted s e) ms) (counted-quiet s e m (nothing m.n)) ∙ ap (λ (xs : List Member). m ∷ xs) (all-quiet s e nothing ms)

-- where nothing is due to anybody, nothing is counted
pub next-quiet : (s : Conference) (e : Event) → ((n : ℕ) → due s e n ≡ []) → settled s e ≡ next s e
unfolding next
next-quiet s e nothing = ap (λ (ms : List Member). record (settled s e) { members = ms }) (sym (all-quiet s e nothing (settled s e).members))

no-parcels : (s : Conference) (e : Event) → ((n : ℕ) → due s e n ≡ []) → (ms : List Member) → flat_map (λ m. map (parcel m.n) (told s e m.n)) ms ≡ []
no-parcels s e nothing [] = refl
no-parcels s e nothing (m ∷ ms) =
    ap (λ (xs : List Outgoing). map (parcel m.n) xs ++ flat_map (λ x. map (parcel x.n) (told s e x.n)) ms) (told-nothing s e m.n (nothing m.n)) ∙ no-parcels s e nothing ms

-- and nobody is told anything
pub parcels_of-quiet : (s : Conference) (e : Event) → ((n : ℕ) → due s e n ≡ []) → parcels_of s e ≡ []
unfolding parcels_of
parcels_of-quiet s e nothing = no-parcels s e nothing (next s e).members

-- what is said of the member with a number, and this where there is none
abbrev said_of : {B : Type 0} → (Member → B) → B → ℕ → List Member → B
said_of g d n ms = option_map_or g (find (λ m. m.n == n) ms) d

said-map : {B : Type 0} (g : Member → B) (d : B) (f : Member → Member) → ((m : Member) → (f m).n ≡ m.n) → ((m : Member) → g (f m) ≡ g m) → (n : ℕ) (ms : List Member) →
    said_of g d n (map f ms) ≡ said_of g d n ms
said-map g d f number same n [] = refl
said-map {B = B} g d f number same n (m ∷ ms) =
    ap (λ (k : ℕ). option_map_or g (cond (k == n) (Some (f m)) (find (λ x. x.n == n) (map f ms))) d) (number m) ∙ by (m.n == n) (said-map g d f number same n ms)
  where
    by : (b : Bool) → said_of g d n (map f ms) ≡ said_of g d n ms → option_map_or g (cond b (Some (f m)) (find (λ x. x.n == n) (map f ms))) d ≡ option_map_or g (cond b (Some m) (find (λ x. x.n == n) ms)) d
    by true rest = same m
    by false rest = rest

said-push : {B : Type 0} (g : Member → B) (d : B) (new : Member) → g new ≡ d → (n : ℕ) (ms : List Member) → said_of g d n (ms ++ new ∷ []) ≡ said_of g d n ms
said-push g d new same n [] = by (new.n == n)
  where
    by : (b : Bool) → option_map_or g (cond b (Some new) None) d ≡ d
    by true = same
    by false = refl
said-push g d new same n (m ∷ ms) = by (m.n == n) (said-push g d new same n ms)
  where
    by : (b : Bool) → said_of g d n (ms ++ new ∷ []) ≡ said_of g d n ms → option_map_or g (cond b (Some m) (find (λ x. x.n == n) (ms ++ new ∷ []))) d ≡ option_map_or g (cond b (Some m) (find (λ x. x.n == n) ms)) d
    by true rest = refl
    by false rest = rest

-- what no event changes but one that acknowledges
record IsSteady {B : Type 0} (g : Member → B) (d : B) : Type 0 where
  join : (n user : ℕ) → g (joining n user) ≡ d
  watch : (n : ℕ) (floors : List ℕ) (m : Member) → g (watching n floors m) ≡ g m
  leave : (n : ℕ) (m : Member) → g (leaving n m) ≡ g m

n-watching : (n : ℕ) (floors : List ℕ) (m : Member) → (watching n floors m).n ≡ m.n
n-watching n floors m = by (m.n == n)
  where
    by : (b : Bool) → (cond b (record m { watched = floors }) m).n ≡ m.n
    by true = refl
    by false = refl

n-leaving : (n : ℕ) (m : Member) → (leaving n m).n ≡ m.n
n-leaving n m = by (m.n == n)
  where
    by : (b : Bool) → (cond b (record m { is_live = false }) m).n ≡ m.n
    by true = refl
    by false = refl

said-asked : {B : Type 0} (g : Member → B) (d : B) → IsSteady g d → (s : Conference) (k : Option ℕ) (n : ℕ) (a : Ask) → said_of g d n (members_after s k a) ≡ said_of g d n s.members
said-asked g d steady s k n (FloorRequest beneficiary floors priority info) = refl
said-asked g d steady s k n (FloorRelease request) = refl
said-asked g d steady s k n (FloorRequestQuery request) = refl
said-asked g d steady s k n (UserQuery beneficiary) = refl
said-asked g d steady s None n (FloorQuery floors) = refl
said-asked g d steady s (Some k) n (FloorQuery floors) = said-map g d (watching k floors) (n-watching k floors) (steady.watch k floors) n s.members
said-asked g d steady s k n (ChairAction request verdicts reason) = refl
said-asked g d steady s k n Hello = refl

said-message : {B : Type 0} (g : Member → B) (d : B) → IsSteady g d → (s : Conference) (k : Option ℕ) (user n : ℕ) (a : Answer) → said_of g d n (message_change s k user a).members ≡ said_of g d n s.members
said-message g d steady s k user n unanswered = refl
said-message g d steady s k user n (refused code details) = refl
said-message {B = B} g d steady s k user n (asks a) = by (is_some (refusal s user a))
  where
    by : (b : Bool) → said_of g d n (cond b (no_change s) (asked_change s k user a)).members ≡ said_of g d n s.members
    by true = refl
    by false = said-asked g d steady s k n a

said-change : {B : Type 0} (g : Member → B) (d : B) → IsSteady g d → (s : Conference) (e : Event) (n : ℕ) → is_untaking e ≡ true → said_of g d n (change s e).members ≡ said_of g d n s.members
unfolding change
said-change g d steady s (Join user) n h = said-push g d (joining (length s.members + 1) user) (steady.join (length s.members + 1) user) n s.members
said-change g d steady s (Message k bytes) n h = said-message g d steady s (Some k) (user_of s k) n (ask bytes (binding s k))
said-change g d steady s (Took k many) n h = cc
said-change g d steady s (Leave k) n h = said-map g d (leaving k) (n-leaving k) (steady.leave k) n s.members
said-change g d steady s (Revoke request) n h = refl
said-change g d steady s Close n h = refl
said-change g d steady s (AddUser user) n h = refl
said-change g d steady s (AddFloor floor) n h = refl
said-change g d steady s (SetChair floor chair) n h = refl
said-change g d steady s (Say user bytes) n h = said-message g d steady s None user n (said bytes (binding_for s user))

said-settled : {B : Type 0} (g : Member → B) (d : B) → IsSteady g d → (s : Conference) (e : Event) (n : ℕ) → is_untaking e ≡ true → said_of g d n (settled s e).members ≡ said_of g d n s.members
unfolding settled
said-settled g d steady s e n h = said-change g d steady s e n h

abbrev backlog_of : Member → ℕ
backlog_of m = m.backlog

abbrev cut_of : Member → Bool
cut_of m = m.is_cut

backlog-steady : IsSteady backlog_of 0
backlog-steady = record { join = λ n user. refl; watch = λ n floors m. watch m floors (m.n == n); leave = λ n m. leave m (m.n == n) }
  where
    watch : (m : Member) (floors : List ℕ) (b : Bool) → (cond b (record m { watched = floors }) m).backlog ≡ m.backlog
    watch m floors true = refl
    watch m floors false = refl

    leave : (m : Member) (b : Bool) → (cond b (record m { is_live = false }) m).backlog ≡ m.backlog
    leave m true = refl
    leave m false = refl

cut-steady : IsSteady cut_of false
cut-steady = record { join = λ n user. refl; watch = λ n floors m. watch m floors (m.n == n); leave = λ n m. leave m (m.n == n) }
  where
    watch : (m : Member) (floors : List ℕ) (b : Bool) → (cond b (record m { watched = floors }) m).is_cut ≡ m.is_cut
    watch m floors true = refl
    watch m floors false = refl

    leave : (m : Member) (b : Bool) → (cond b (record m { is_live = false }) m).is_cut ≡ m.is_cut
    leave m true = refl
    leave m false = refl

-- so many messages are told to a member that is found
abbrev told_found : ℕ → Option Member → Bool
told_found many o = not (option_map_or cut_of o false) && nat_le (option_map_or backlog_of o 0 + many) 1024

-- what an event that acknowledges nothing tells n, by the member after it
told-found : (s : Conference) (e : Event) → is_untaking e ≡ true → (n : ℕ) →
    told s e n ≡ cond (told_found (length (due s e n)) (find (λ m. m.n == n) (settled s e).members)) (due s e n) []
unfolding told settled
told-found s e untaking n =
    ap (λ (b : Bool). cond (not b && nat_le (backlog s n + length (due s e n)) 1024) (due s e n) []) (sym (said-settled cut_of false cut-steady s e n untaking))
    ∙ ap (λ (k : ℕ). cond (not (said_of cut_of false n (settled s e).members) && nat_le (k + length (due s e n)) 1024) (due s e n) []) (sym (said-settled backlog_of 0 backlog-steady s e n untaking))

map-cond : {A B : Type 0} (f : A → B) (b : Bool) (xs : List A) → map f (cond b xs []) ≡ cond b (map f xs) []
map-cond f true xs = refl
map-cond f false xs = refl

-- what is due to a member, as it is told
put-told : (m : Member) (ms : List Outgoing) → map (parcel m.n) (cond (is_told (length ms) m) ms []) ≡ cond (is_told (length (map (parcel m.n) ms)) m) (map (parcel m.n) ms) []
put-told m ms =
    map-cond (parcel m.n) (is_told (length ms) m) ms
    ∙ ap (λ (k : ℕ). cond (is_told k m) (map (parcel m.n) ms) []) (sym (length-map ms (parcel m.n)))

same-numbers : {B : Type 0} (h : ℕ → List B) (f : Member → Member) → ((m : Member) → (f m).n ≡ m.n) → (ms : List Member) → flat_map (λ m. h m.n) (map f ms) ≡ flat_map (λ m. h m.n) ms
same-numbers h f number [] = refl
same-numbers {B = B} h f number (m ∷ ms) =
    ap (λ (k : ℕ). h k ++ flat_map (λ x. h x.n) (map f ms)) (number m) ∙ ap (λ (bs : List B). h m.n ++ bs) (same-numbers h f number ms)

-- an event's parcels are those to the members that are settled
parcels_of-settled : (s : Conference) (e : Event) → parcels_of s e ≡ flat_map (λ m. map (parcel m.n) (told s e m.n)) (settled s e).members
unfolding parcels_of next
parcels_of-settled s e = same-numbers (λ n. map (parcel n) (told s e n)) (counted s e) (λ m. refl) (settled s e).members

-- once all that is due is told, that is what the event tells
pub told-all : (s : Conference) (e : Event) → is_untaking e ≡ true → is_numbered_from 1 s.members ≡ true → told_of_all (due_parcels s e) (settled s e).members ≡ parcels_of s e
told-all s e untaking numbered =
    let ms : List Member = (settled s e).members in
    let ordered : is_numbered_from 1 ms ≡ true = numbered-settled s e numbered in
    flat_map-same (told_of (due_parcels s e)) (λ m. cond (is_told (length (map (parcel m.n) (due s e m.n))) m) (map (parcel m.n) (due s e m.n)) [])
    (λ m. ap (λ (ps : List Parcel). cond (is_told (length ps) m) ps []) (sent_to-due s e m.n ordered)) ms
    ∙ flat_map-same (λ m. cond (is_told (length (map (parcel m.n) (due s e m.n))) m) (map (parcel m.n) (due s e m.n)) [])
    (λ m. map (parcel m.n) (cond (told_found (length (due s e m.n)) (Some m)) (due s e m.n) []))
    (λ m. sym (put-told m (due s e m.n))) ms
    ∙ sym (each-own (λ m o. map (parcel m.n) (cond (told_found (length (due s e m.n)) o) (due s e m.n) [])) ms ordered)
    ∙ flat_map-same (λ m. map (parcel m.n) (cond (told_found (length (due s e m.n)) (find (λ x. x.n == m.n) ms)) (due s e m.n) [])) (λ m. map (parcel m.n) (told s e m.n))
    (λ m. ap (map (parcel m.n)) (sym (told-found s e untaking m.n))) ms
    ∙ sym (parcels_of-settled s e)

-- a member after it is told these, of which those are due
abbrev counted_by : Member → List Outgoing → List Outgoing → Member
counted_by m ms told_ms = record m { backlog = m.backlog + length told_ms; is_cut = m.is_cut || not (is_nothing ms) && is_nothing told_ms }

-- all or nothing of what is due is told
counted-taken : (m : Member) (ms : List Outgoing) → counted_by m ms (cond (is_told (length ms) m) ms []) ≡ taken_on (length ms) m
counted-taken m ms = by (is_told (length ms) m)
  where
    never : (a b : Bool) → (a || not b && b) ≡ a
    never true b = refl
    never false true = refl
    never false false = refl

    none : m.backlog + 0 ≡ m.backlog
    none = omega arith

    some : (c : Bool) (xs : List Outgoing) → (c || not (is_nothing xs) && true) ≡ (c || nat_lt 0 (length xs))
    some true xs = refl
    some false [] = refl
    some false (x ∷ xs) = let more : nat_lt 0 (length (x ∷ xs)) ≡ true = within (length (x ∷ xs)) (omega arith) in sym more
      where
        within : (k : ℕ) → 0 < k → nat_lt 0 k ≡ true
        within k h = grind (arith, nat_tests)

    by : (b : Bool) → counted_by m ms (cond b ms []) ≡ cond b (record m { backlog = m.backlog + length ms }) (record m { is_cut = m.is_cut || nat_lt 0 (length ms) })
    by true = ap (λ (c : Bool). record m { backlog = m.backlog + length ms; is_cut = c }) (never m.is_cut (is_nothing ms))
    by false =
        ap (λ (k : ℕ). record m { backlog = k; is_cut = m.is_cut || not (is_nothing ms) && true }) none
        ∙ ap (λ (c : Bool). record m { is_cut = c }) (some m.is_cut ms)

members-all : (s : Conference) (e : Event) → is_untaking e ≡ true → is_numbered_from 1 s.members ≡ true → map (counted_of (due_parcels s e)) (settled s e).members ≡ map (counted s e) (settled s e).members
members-all s e untaking numbered =
    let ms : List Member = (settled s e).members in
    let ordered : is_numbered_from 1 ms ≡ true = numbered-settled s e numbered in
    map-flat (counted_of (due_parcels s e)) ms
    ∙ flat_map-same (λ m. counted_of (due_parcels s e) m ∷ []) (λ m. taken_on (length (due s e m.n)) m ∷ [])
    (λ m. ap (λ (ps : List Parcel). taken_on (length ps) m ∷ []) (sent_to-due s e m.n ordered) ∙ ap (λ (k : ℕ). taken_on k m ∷ []) (length-map (due s e m.n) (parcel m.n))) ms
    ∙ flat_map-same (λ m. taken_on (length (due s e m.n)) m ∷ []) (λ m. counted_by m (due s e m.n) (cond (told_found (length (due s e m.n)) (Some m)) (due s e m.n) []) ∷ [])
    (λ m. ap (λ (x : Member). x ∷ []) (sym (counted-taken m (due s e m.n)))) ms
    ∙ sym (each-own (λ m o. counted_by m (due s e m.n) (cond (told_found (length (due s e m.n)) o) (due s e m.n) []) ∷ []) ms ordered)
    ∙ flat_map-same (λ m. counted_by m (due s e m.n) (cond (told_found (length (due s e m.n)) (find (λ x. x.n == m.n) ms)) (due s e m.n) []) ∷ []) (λ m. counted s e m ∷ [])
    (λ m. ap (λ (xs : List Outgoing). counted_by m (due s e m.n) xs ∷ []) (sym (told-found s e untaking m.n))) ms
    ∙ sym (map-flat (counted s e) ms)

-- and the conference is the next one
pub counted-all : (s : Conference) (e : Event) → is_untaking e ≡ true → is_numbered_from 1 s.members ≡ true → counted_all (due_parcels s e) (settled s e) ≡ next s e
unfolding next
counted-all s e untaking numbered = ap (λ (ms : List Member). record (settled s e) { members = ms }) (members-all s e untaking numbered)

-- no backlog is above the most
abbrev pub AreWithin : List Member → Type 0
AreWithin ms = All (λ (m : Member). m.backlog ≤ 1024) ms

abbrev IsWithin : Member → Type 0
IsWithin m = m.backlog ≤ 1024

within-map : (f : Member → Member) → ((m : Member) → IsWithin m → IsWithin (f m)) → (ms : List Member) → AreWithin ms → AreWithin (map f ms)
within-map f keeps ms h = All-map IsWithin f ms (All-weaker IsWithin (λ (m : Member). IsWithin (f m)) keeps ms h)

within-watching : (n : ℕ) (floors : List ℕ) (m : Member) → IsWithin m → IsWithin (watching n floors m)
within-watching n floors m h = subst (λ (k : ℕ). k ≤ 1024) (sym (backlog-steady.watch n floors m)) h

within-leaving : (n : ℕ) (m : Member) → IsWithin m → IsWithin (leaving n m)
within-leaving n m h = subst (λ (k : ℕ). k ≤ 1024) (sym (backlog-steady.leave n m)) h

within-acknowledging : (n k : ℕ) (m : Member) → IsWithin m → IsWithin (acknowledging n k m)
within-acknowledging n k m h = by (m.n == n)
  where
    by : (b : Bool) → IsWithin (cond b (record m { backlog = m.backlog - k }) m)
    by true = omega (arith, h)
    by false = h

within-taken : (many : ℕ) (m : Member) → IsWithin m → IsWithin (taken_on many m)
within-taken many m h = by m.is_cut (nat_le (m.backlog + many) 1024) refl
  where
    below : (k : ℕ) → nat_le k 1024 ≡ true → k ≤ 1024
    below k e = grind (arith, nat_tests)

    by : (c b : Bool) → nat_le (m.backlog + many) 1024 ≡ b → IsWithin (cond (not c && b) (record m { backlog = m.backlog + many }) (record m { is_cut = m.is_cut || nat_lt 0 many }))
    by true b is = h
    by false true is = below (m.backlog + many) is
    by false false is = h

within-asked : (s : Conference) (n : Option ℕ) (a : Ask) → AreWithin s.members → AreWithin (members_after s n a)
within-asked s n (FloorRequest beneficiary floors priority info) h = h
within-asked s n (FloorRelease request) h = h
within-asked s n (FloorRequestQuery request) h = h
within-asked s n (UserQuery beneficiary) h = h
within-asked s None (FloorQuery floors) h = h
within-asked s (Some n) (FloorQuery floors) h = within-map (watching n floors) (within-watching n floors) s.members h
within-asked s n (ChairAction request verdicts reason) h = h
within-asked s n Hello h = h

within-message : (s : Conference) (n : Option ℕ) (user : ℕ) (a : Answer) → AreWithin s.members → AreWithin (message_change s n user a).members
within-message s n user unanswered h = h
within-message s n user (refused code details) h = h
within-message s n user (asks a) h = by (is_some (refusal s user a))
  where
    by : (b : Bool) → AreWithin (cond b (no_change s) (asked_change s n user a)).members
    by true = h
    by false = within-asked s n a h

within-change : (s : Conference) (e : Event) → AreWithin s.members → AreWithin (change s e).members
unfolding change
within-change s (Join user) h = All-push IsWithin s.members (joining (length s.members + 1) user) h (omega arith)
within-change s (Message n bytes) h = within-message s (Some n) (user_of s n) (ask bytes (binding s n)) h
within-change s (Took n k) h = within-map (acknowledging n k) (within-acknowledging n k) s.members h
within-change s (Leave n) h = within-map (leaving n) (within-leaving n) s.members h
within-change s (Revoke request) h = h
within-change s Close h = h
within-change s (AddUser user) h = h
within-change s (AddFloor floor) h = h
within-change s (SetChair floor chair) h = h
within-change s (Say user bytes) h = within-message s None user (said bytes (binding_for s user)) h

within-settled : (s : Conference) (e : Event) → AreWithin s.members → AreWithin (settled s e).members
unfolding settled
within-settled s e h = within-change s e h

within-untaking : (s : Conference) (e : Event) → is_untaking e ≡ true → is_numbered_from 1 s.members ≡ true → AreWithin s.members → AreWithin (next s e).members
within-untaking s e untaking numbered h =
    subst (λ (x : Conference). AreWithin x.members) (counted-all s e untaking numbered)
    (within-map (counted_of (due_parcels s e)) (λ m w. within-taken (length (sent_to m.n (due_parcels s e))) m w) (settled s e).members (within-settled s e h))

-- each event of a settled conference leaves it so
pub within-next : (s : Conference) (e : Event) → settle s.config.floors s.ongoing ≡ s.ongoing → is_ascending s.ongoing ≡ true → is_numbered_from 1 s.members ≡ true →
    AreWithin s.members → AreWithin (next s e).members
within-next s (Join user) is_settled ascending numbered h = within-untaking s (Join user) refl numbered h
within-next s (Message n bytes) is_settled ascending numbered h = within-untaking s (Message n bytes) refl numbered h
within-next s (Took n k) is_settled ascending numbered h =
    subst (λ (x : Conference). AreWithin x.members) (next-quiet s (Took n k) (due_of-took s n k is_settled ascending)) (within-settled s (Took n k) h)
within-next s (Leave n) is_settled ascending numbered h = within-untaking s (Leave n) refl numbered h
within-next s (Revoke request) is_settled ascending numbered h = within-untaking s (Revoke request) refl numbered h
within-next s Close is_settled ascending numbered h = within-untaking s Close refl numbered h
within-next s (AddUser user) is_settled ascending numbered h = within-untaking s (AddUser user) refl numbered h
within-next s (AddFloor floor) is_settled ascending numbered h = within-untaking s (AddFloor floor) refl numbered h
within-next s (SetChair floor chair) is_settled ascending numbered h = within-untaking s (SetChair floor chair) refl numbered h
within-next s (Say user bytes) is_settled ascending numbered h = within-untaking s (Say user bytes) refl numbered h

-- what is told to n is added to its backlog, where it is a member
said-counted : (s : Conference) (e : Event) (n : ℕ) (ms : List Member) →
    said_of backlog_of 0 n (map (counted s e) ms) ≡ said_of backlog_of 0 n ms + cond (has_number n ms) (length (told s e n)) 0
said-counted s e n [] = refl
said-counted s e n (m ∷ ms) = by (m.n == n) refl (said-counted s e n ms)
  where
    equal : (a b : ℕ) → (a == b) ≡ true → a ≡ b
    equal a b e = grind (arith, nat_tests)

    by : (b : Bool) → (m.n == n) ≡ b → said_of backlog_of 0 n (map (counted s e) ms) ≡ said_of backlog_of 0 n ms + cond (has_number n ms) (length (told s e n)) 0 →
        option_map_or backlog_of (cond b (Some (counted s e m)) (find (λ x. x.n == n) (map (counted s e) ms))) 0
        ≡ option_map_or backlog_of (cond b (Some m) (find (λ x. x.n == n) ms)) 0 + cond (b || has_number n ms) (length (told s e n)) 0
    by true is rest = ap (λ (k : ℕ). m.backlog + length (told s e k)) (equal m.n n is)
    by false is rest = rest

backlog-next : (s : Conference) (e : Event) (n : ℕ) → backlog (next s e) n ≡ said_of backlog_of 0 n (settled s e).members + length (told s e n)
unfolding next
backlog-next s e n = said-counted s e n (settled s e).members ∙ by (has_number n (settled s e).members) refl
  where
    by : (b : Bool) → has_number n (settled s e).members ≡ b →
        said_of backlog_of 0 n (settled s e).members + cond b (length (told s e n)) 0 ≡ said_of backlog_of 0 n (settled s e).members + length (told s e n)
    by true here = refl
    by false gone = ap (λ (ms : List Outgoing). said_of backlog_of 0 n (settled s e).members + length ms) (sym (told-nothing s e n (due-absent s e n gone)))

-- what is acknowledged is taken off it
said-acknowledging : (j k n : ℕ) (ms : List Member) → said_of backlog_of 0 n (map (acknowledging j k) ms) ≡ said_of backlog_of 0 n ms - cond (j == n) k 0
said-acknowledging j k n [] = omega arith
said-acknowledging j k n (m ∷ ms) = by (m.n == j) (m.n == n) refl refl (said-acknowledging j k n ms)
  where
    meet : (a j n : ℕ) → (a == j) ≡ true → (a == n) ≡ true → (j == n) ≡ true
    meet a j n e f = grind (arith, nat_tests)

    part : (a j n : ℕ) → (a == j) ≡ false → (a == n) ≡ true → (j == n) ≡ false
    part a j n e f = grind (arith, nat_tests)

    none : (b k : ℕ) → k ≡ 0 → b ≡ b - k
    none b k e = omega (arith, e)

    by : (b d : Bool) → (m.n == j) ≡ b → (m.n == n) ≡ d → said_of backlog_of 0 n (map (acknowledging j k) ms) ≡ said_of backlog_of 0 n ms - cond (j == n) k 0 →
        option_map_or backlog_of (cond ((cond b (record m { backlog = m.backlog - k }) m).n == n) (Some (cond b (record m { backlog = m.backlog - k }) m)) (find (λ x. x.n == n) (map (acknowledging j k) ms))) 0
        ≡ option_map_or backlog_of (cond d (Some m) (find (λ x. x.n == n) ms)) 0 - cond (j == n) k 0
    by true true is own rest = rw (own, meet m.n j n is own) refl
    by true false is own rest = rw own rest
    by false true is own rest = rw (own, part m.n j n is own) (none m.backlog 0 refl)
    by false false is own rest = rw own rest

members-took : (s : Conference) (j k : ℕ) → (settled s (Took j k)).members ≡ map (acknowledging j k) s.members
unfolding settled change
members-took s j k = refl

backlog-settled : (s : Conference) (e : Event) (n : ℕ) → IsLawful s e → said_of backlog_of 0 n (settled s e).members + acknowledged_by n e ≡ backlog s n
backlog-settled s (Join user) n lawful = omega (arith, said-settled backlog_of 0 backlog-steady s (Join user) n refl)
backlog-settled s (Message k bytes) n lawful = omega (arith, said-settled backlog_of 0 backlog-steady s (Message k bytes) n refl)
backlog-settled s (Took j k) n lawful =
    ap (λ (ms : List Member). said_of backlog_of 0 n ms + cond (j == n) k 0) (members-took s j k)
    ∙ ap (λ (b : ℕ). b + cond (j == n) k 0) (said-acknowledging j k n s.members)
    ∙ by (j == n) refl
  where
    equal : (a b : ℕ) → (a == b) ≡ true → a ≡ b
    equal a b e = grind (arith, nat_tests)

    back : (a k : ℕ) → k ≤ a → a - k + k ≡ a
    back a k l = omega (arith, l)

    none : (a : ℕ) → a - 0 + 0 ≡ a
    none a = omega arith

    by : (b : Bool) → (j == n) ≡ b → backlog s n - cond b k 0 + cond b k 0 ≡ backlog s n
    by true is = back (backlog s n) k (subst (λ (i : ℕ). k ≤ backlog s i) (equal j n is) lawful.3)
    by false is = none (backlog s n)
backlog-settled s (Leave k) n lawful = omega (arith, said-settled backlog_of 0 backlog-steady s (Leave k) n refl)
backlog-settled s (Revoke request) n lawful = omega (arith, said-settled backlog_of 0 backlog-steady s (Revoke request) n refl)
backlog-settled s Close n lawful = omega (arith, said-settled backlog_of 0 backlog-steady s Close n refl)
backlog-settled s (AddUser user) n lawful = omega (arith, said-settled backlog_of 0 backlog-steady s (AddUser user) n refl)
backlog-settled s (AddFloor floor) n lawful = omega (arith, said-settled backlog_of 0 backlog-steady s (AddFloor floor) n refl)
backlog-settled s (SetChair floor chair) n lawful = omega (arith, said-settled backlog_of 0 backlog-steady s (SetChair floor chair) n refl)
backlog-settled s (Say user bytes) n lawful = omega (arith, said-settled backlog_of 0 backlog-steady s (Say user bytes) n refl)

-- what lawful events tell n is what they acknowledge, and what is added to its backlog
counted-run : (s : Conference) (es : List Event) (n : ℕ) → IsLawfulFrom s es →
    backlog s n + length (told_from s es n) ≡ sum_by (acknowledged_by n) es + backlog (after_from s es) n
counted-run s [] n lawful = omega arith
counted-run s (e ∷ es) n lawful =
    omega (
      arith,
      length-append (told s e n) (told_from (next s e) es n),
      sum_by-cons (acknowledged_by n) e es,
      counted-run (next s e) es n lawful.1,
      backlog-next s e n,
      backlog-settled s e n lawful.0,
    )

pub backlogs_counted : Counted
backlogs_counted = λ config es n journal.
    let run : 0 + length (told_from (opening config) es n) ≡ sum_by (acknowledged_by n) es + backlog (after_from (opening config) es) n = counted-run (opening config) es n journal.lawful in
    length-map (told_from (opening config) es n) outgoing_bytes ∙ omega (arith, run)

-- whoever is cut stays cut
cut-counted : (s : Conference) (e : Event) (n : ℕ) (ms : List Member) → said_of cut_of false n ms ≡ true → said_of cut_of false n (map (counted s e) ms) ≡ true
cut-counted s e n [] h = h
cut-counted s e n (m ∷ ms) h = by (m.n == n) h (cut-counted s e n ms)
  where
    stays : (c d : Bool) → c ≡ true → (c || d) ≡ true
    stays true d h = refl
    stays false d h = cc

    by : (b : Bool) → option_map_or cut_of (cond b (Some m) (find (λ x. x.n == n) ms)) false ≡ true → (said_of cut_of false n ms ≡ true → said_of cut_of false n (map (counted s e) ms) ≡ true) →
        option_map_or cut_of (cond b (Some (counted s e m)) (find (λ x. x.n == n) (map (counted s e) ms))) false ≡ true
    by true h rest = stays m.is_cut (not (is_nothing (due s e m.n)) && is_nothing (told s e m.n)) h
    by false h rest = rest h

cut-acknowledging : (j k : ℕ) (m : Member) → cut_of (acknowledging j k m) ≡ cut_of m
cut-acknowledging j k m = by (m.n == j)
  where
    by : (b : Bool) → (cond b (record m { backlog = m.backlog - k }) m).is_cut ≡ m.is_cut
    by true = refl
    by false = refl

n-acknowledging : (j k : ℕ) (m : Member) → (acknowledging j k m).n ≡ m.n
n-acknowledging j k m = by (m.n == j)
  where
    by : (b : Bool) → (cond b (record m { backlog = m.backlog - k }) m).n ≡ m.n
    by true = refl
    by false = refl

cut-settled : (s : Conference) (e : Event) (n : ℕ) → said_of cut_of false n (settled s e).members ≡ is_cut s n
cut-settled s (Join user) n = said-settled cut_of false cut-steady s (Join user) n refl
cut-settled s (Message k bytes) n = said-settled cut_of false cut-steady s (Message k bytes) n refl
cut-settled s (Took j k) n =
    ap (said_of cut_of false n) (members-took s j k) ∙ said-map cut_of false (acknowledging j k) (n-acknowledging j k) (cut-acknowledging j k) n s.members
cut-settled s (Leave k) n = said-settled cut_of false cut-steady s (Leave k) n refl
cut-settled s (Revoke request) n = said-settled cut_of false cut-steady s (Revoke request) n refl
cut-settled s Close n = said-settled cut_of false cut-steady s Close n refl
cut-settled s (AddUser user) n = said-settled cut_of false cut-steady s (AddUser user) n refl
cut-settled s (AddFloor floor) n = said-settled cut_of false cut-steady s (AddFloor floor) n refl
cut-settled s (SetChair floor chair) n = said-settled cut_of false cut-steady s (SetChair floor chair) n refl
cut-settled s (Say user bytes) n = said-settled cut_of false cut-steady s (Say user bytes) n refl

pub cut-next : (s : Conference) (e : Event) (n : ℕ) → is_cut s n ≡ true → is_cut (next s e) n ≡ true
unfolding next
cut-next s e n h = cut-counted s e n (settled s e).members (cut-settled s e n ∙ h)

told-cut : (s : Conference) (e : Event) (n : ℕ) → is_cut s n ≡ true → told s e n ≡ []
unfolding told
told-cut s e n h = rw h refl

-- and is told nothing
silent-run : (s : Conference) (es : List Event) (n : ℕ) → is_cut s n ≡ true → told_from s es n ≡ []
silent-run s [] n h = refl
silent-run s (e ∷ es) n h = ap (λ (ms : List Outgoing). ms ++ told_from (next s e) es n) (told-cut s e n h) ∙ silent-run (next s e) es n (cut-next s e n h)

pub cut_silent : Silent
cut_silent = λ config es fs n journal h.
    ap (map outgoing_bytes)
    (told_by_both (opening config) es fs n
    ∙ ap (λ (ms : List Outgoing). told_from (opening config) es n ++ ms) (silent-run (after_from (opening config) es) fs n h)
    ∙ append-nil (told_from (opening config) es n))
