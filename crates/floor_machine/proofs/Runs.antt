-- A run of events, one after another.
use Rattle.std.proofs.Common.{◌≡◌, ℕ, ◌+◌, ◌<◌, ◌≤◌, Bool, true, false, cond, List, [], ◌∷◌, ◌++◌, length, get_or, take, append_assoc, append-nil, length-append, refl, sym, ap, subst, ◌∙◌, arith}
use Rattle.std.specs.Prelude.{is_some, not, None, Option, Some, Ok}
use Rattle.std.proofs.lemmas.List.{take_more, length-map, length-take-le}
use Rattle.floor_message.specs.Ask.{Answer, asks, refused, unanswered, ask}
use Rattle.floor_message.specs.declared.ask.Ask.{Ask}
use Rattle.floor_message.specs.declared.ask.Ask.TheVariants.{FloorRequest, FloorRelease, FloorRequestQuery, UserQuery, FloorQuery, ChairAction, Hello}
use Rattle.floor_machine.specs.Said.{said}
use Rattle.floor_machine.specs.declared.event.Event.{Event}
use Rattle.floor_machine.specs.declared.event.Event.TheVariants.{Join, Message, Took, Leave, Revoke, Close, AddUser, AddFloor, SetChair, Say}
use Rattle.floor_machine.specs.Parcel.{Parcel}
use Rattle.floor_machine.specs.Conference.{Conference, binding, binding_for, joining, user_of}
use Rattle.floor_machine.specs.Checks.{refusal}
use Rattle.floor_machine.specs.Change.{change, settled, no_change, asked_change, message_change, members_after, watching, acknowledging, leaving, IsLawful}
use Rattle.floor_machine.specs.declared.machine.Refusal.{Refusal}
use Rattle.floor_machine.specs.declared.machine.Refusal.TheVariants.{Broken, Ended}
use Rattle.floor_machine.specs.Journal.{IsLawfulFrom, after_from, parcels_of, parcels_from}
use Rattle.floor_machine.specs.Machine.{Machine, IsRefusedBy, event_refusal, machine_after, refusal_of, whole}
use Rattle.floor_machine.specs.Next.{counted, next}

-- one more event
pub after_from-more : (s : Conference) (es : List Event) (e : Event) → after_from s (es ++ e ∷ []) ≡ next (after_from s es) e
after_from-more s [] e = refl
after_from-more s (x ∷ es) e = after_from-more (next s x) es e

pub parcels_from-more : (s : Conference) (es : List Event) (e : Event) → parcels_from s (es ++ e ∷ []) ≡ parcels_from s es ++ parcels_of (after_from s es) e
parcels_from-more s [] e = append-nil (parcels_of s e)
parcels_from-more s (x ∷ es) e =
    ap (λ (ps : List Parcel). parcels_of s x ++ ps) (parcels_from-more (next s x) es e)
    ∙ sym (append_assoc (parcels_of s x) (parcels_from (next s x) es) (parcels_of (after_from (next s x) es) e))

pub lawful-more : (s : Conference) (es : List Event) (e : Event) → IsLawfulFrom s es → IsLawful (after_from s es) e → IsLawfulFrom s (es ++ e ∷ [])
lawful-more s [] e h k = (k, tt)
lawful-more s (x ∷ es) e h k = (h.0, lawful-more (next s x) es e h.1 k)

-- an event adds one member at most
members-asked : (s : Conference) (n : Option ℕ) (a : Ask) → length (members_after s n a) ≤ length s.members + 1
members-asked s n (FloorRequest beneficiary floors priority info) = omega arith
members-asked s n (FloorRelease request) = omega arith
members-asked s n (FloorRequestQuery request) = omega arith
members-asked s n (UserQuery beneficiary) = omega arith
members-asked s None (FloorQuery floors) = omega arith
members-asked s (Some n) (FloorQuery floors) = omega (arith, length-map s.members (watching n floors))
members-asked s n (ChairAction request verdicts reason) = omega arith
members-asked s n Hello = omega arith

members-message : (s : Conference) (n : Option ℕ) (user : ℕ) (a : Answer) → length (message_change s n user a).members ≤ length s.members + 1
members-message s n user unanswered = omega arith
members-message s n user (refused code details) = omega arith
members-message s n user (asks a) = by (is_some (refusal s user a))
  where
    by : (b : Bool) → length (cond b (no_change s) (asked_change s n user a)).members ≤ length s.members + 1
    by true = omega arith
    by false = members-asked s n a

members-change : (s : Conference) (e : Event) → length (change s e).members ≤ length s.members + 1
unfolding change
members-change s (Join user) = omega (arith, length-append s.members (joining (length s.members + 1) user ∷ []))
members-change s (Message n bytes) = members-message s (Some n) (user_of s n) (ask bytes (binding s n))
members-change s (Took n k) = omega (arith, length-map s.members (acknowledging n k))
members-change s (Leave n) = omega (arith, length-map s.members (leaving n))
members-change s (Revoke request) = omega arith
members-change s Close = omega arith
members-change s (AddUser user) = omega arith
members-change s (AddFloor floor) = omega arith
members-change s (SetChair floor chair) = omega arith
members-change s (Say user bytes) = members-message s None user (said bytes (binding_for s user))

members-next : (s : Conference) (e : Event) → length (next s e).members ≤ length s.members + 1
unfolding next settled
members-next s e = omega (arith, length-map (settled s e).members (counted s e), members-change s e)

pub members-after : (s : Conference) (es : List Event) → length (after_from s es).members ≤ length s.members + length es
members-after s [] = omega arith
members-after s (e ∷ es) = omega (arith, members-after (next s e) es, members-next s e)

-- the events so far, with the one at i
taken-more : (es : List Event) (i : ℕ) (e : Event) → i < length es → e ≡ get_or es i e → take (i + 1) es ≡ take i es ++ e ∷ []
taken-more es i e within is = take_more es i e within ∙ ap (λ (x : Event). take i es ++ x ∷ []) (sym is)

-- a machine that takes an event isn't broken
whole-taken : {T : Type 0} (v : T) (m : Machine) (other : Option Refusal) → IsRefusedBy (refusal_of m other) (Ok v) → m.is_broken ≡ false
whole-taken v m other h = by m.is_broken (cond (not m.conference.is_open) (Some Ended) other) h
  where
    by : (b : Bool) (o : Option Refusal) → IsRefusedBy (cond b (Some Broken) o) (Ok v) → b ≡ false
    by true o h = cc
    by false o h = refl

whole-event : {T : Type 0} (v : T) (m : Machine) (e : Event) → IsRefusedBy (event_refusal m e) (Ok v) → m.is_broken ≡ false
whole-event v m (Join user) h = whole-taken v m _ h
whole-event v m (Message n bytes) h = whole-taken v m _ h
whole-event v m (Took n k) h = whole-taken v m _ h
whole-event v m (Leave n) h = whole-taken v m _ h
whole-event v m (Revoke request) h = whole-taken v m _ h
whole-event v m Close h = whole-taken v m _ h
whole-event v m (AddUser user) h = whole-taken v m _ h
whole-event v m (AddFloor floor) h = whole-taken v m _ h
whole-event v m (SetChair floor chair) h = whole-taken v m _ h
whole-event v m (Say user bytes) h = whole-taken v m _ h

-- the machine after one more event
pub run-next : {T : Type 0} (v : T) (m now new : Machine) (es : List Event) (i : ℕ) (e : Event) → i < length es → e ≡ get_or es i e → now ≡ machine_after m (take i es) →
    IsRefusedBy (event_refusal now e) (Ok v) → new ≡ whole (next now.conference e) → new ≡ machine_after m (take (i + 1) es)
run-next v m now new es i e within is same taken made =
    let after : Conference = after_from m.conference (take i es) in
    let broken : m.is_broken ≡ false = sym (ap (λ (x : Machine). x.is_broken) same) ∙ whole-event v now e taken in
    made
    ∙ ap (λ (x : Machine). whole (next x.conference e)) same
    ∙ ap whole (sym (after_from-more m.conference (take i es) e))
    ∙ ap (λ (xs : List Event). whole (after_from m.conference xs)) (sym (taken-more es i e within is))
    ∙ ap (λ (b : Bool). record (whole (after_from m.conference (take (i + 1) es))) { is_broken = b }) (sym broken)

-- what it has told with one more event
pub run-out : (m now : Machine) (es : List Event) (i : ℕ) (e : Event) (out new first : List Parcel) → i < length es → e ≡ get_or es i e → now ≡ machine_after m (take i es) →
    out ≡ first ++ parcels_from m.conference (take i es) → new ≡ out ++ parcels_of now.conference e → new ≡ first ++ parcels_from m.conference (take (i + 1) es)
run-out m now es i e out new first within is same before told =
    told
    ∙ ap (λ (ps : List Parcel). ps ++ parcels_of now.conference e) before
    ∙ append_assoc first (parcels_from m.conference (take i es)) (parcels_of now.conference e)
    ∙ ap (λ (x : Machine). first ++ (parcels_from m.conference (take i es) ++ parcels_of x.conference e)) same
    ∙ ap (λ (ps : List Parcel). first ++ ps) (sym (parcels_from-more m.conference (take i es) e))
    ∙ ap (λ (xs : List Event). first ++ parcels_from m.conference xs) (sym (taken-more es i e within is))

-- one more lawful event
pub run-lawful : (m now : Machine) (es : List Event) (i : ℕ) (e : Event) → i < length es → e ≡ get_or es i e → now ≡ machine_after m (take i es) →
    IsLawfulFrom m.conference (take i es) → IsLawful now.conference e → IsLawfulFrom m.conference (take (i + 1) es)
run-lawful m now es i e within is same before lawful =
    let L : List Event → Type 0 = λ xs. IsLawfulFrom m.conference xs in
    let E : Machine → Type 0 = λ x. IsLawful x.conference e in
    subst L (sym (taken-more es i e within is)) (lawful-more m.conference (take i es) e before (subst E same lawful))

-- the members before one more event
pub run-members : (m now : Machine) (es : List Event) (i : ℕ) → i < length es → now ≡ machine_after m (take i es) → length m.conference.members + length es < 4294967296 →
    length now.conference.members < 4294967295
run-members m now es i within same few =
    let W : Machine → Type 0 = λ x. length x.conference.members < 4294967295 in
    let taken : length (take i es) ≡ i = length-take-le i es (omega arith) in
    subst W (sym same) (omega (arith, members-after m.conference (take i es), taken))
