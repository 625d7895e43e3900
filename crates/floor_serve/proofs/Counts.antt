-- A part of what a journal has of a member, and the messages that are counted.
use Rattle.std.proofs.Common.{◌≡◌, ℕ, zero, suc, ◌+◌, ◌-◌, ◌<◌, ◌≤◌, Bool, true, false, List, [], ◌∷◌, ◌++◌, length, get_or, drop, take, refl, sym, ap, subst, ◌∙◌, arith, append_assoc, length-append, add-one}
use Rattle.std.specs.Prelude.{◌==◌, nat_eq, nat_lt, if◌then◌else◌, slice_get, Some, None}
use Rattle.std.specs.Option.{option_map_or}
use Rattle.std.proofs.lemmas.Bool.Decides.{nat_tests}
use Rattle.floor_machine.specs.declared.event.Event.{Event}
use Rattle.floor_machine.specs.declared.event.Event.TheVariants.{Join, Message, Took, Leave, Revoke, Close, AddUser, AddFloor, SetChair, Say}
use Rattle.floor_serve.specs.Fits.{messages_of, sent_at, sent_from}
use Rattle.floor_serve.specs.Seat.{Seat}
use Rattle.floor_serve.specs.declared.seat.Sent.{Sent}
use Rattle.floor_serve.specs.steps.Parts.{FitsAt, IsCounted, IsPart, StandsAt, lower_count, message_count, messages_below, messages_in}
use Rattle.floor_serve.proofs.Firsts.{before-more, if-some, some-at}
use Rattle.floor_serve.proofs.Ordered.{any-default}
use Rattle.floor_serve.proofs.Matching.{drop-at, drop-past, next-event}

part-none : (all : List Sent) → IsPart [] all
part-none all = record { few = omega arith; whole = λ e. by all e }
  where
    by : (l : List Sent) → 0 ≡ length l → [] ≡ l
    by [] e = refl
    by (x ∷ l) e = absurd (omega arith)

part-more : (x : Sent) (some skipped all : List Sent) → IsPart some all → IsPart (x ∷ some) (skipped ++ x ∷ all)
part-more x some skipped all h =
    record {
      few = omega (arith, h.few, length-append skipped (x ∷ all));
      whole = λ e. by skipped e;
    }
  where
    by : (l : List Sent) → length (x ∷ some) ≡ length (l ++ x ∷ all) → x ∷ some ≡ l ++ x ∷ all
    by [] e = ap (λ (r : List Sent). x ∷ r) (h.whole (omega arith))
    by (y ∷ l) e = absurd (omega (arith, h.few, length-append l (x ∷ all)))

-- what is recorded of the event behind so many others, and of all behind it
abbrev from_there : List Event → ℕ → Event → ℕ → List Sent
from_there es n e l = sent_at (l + 1) (get_or es l e) n ++ sent_from (l + 1 + 1) (drop (l + 1) es) n

one-event : (es : List Event) (at n : ℕ) (e : Event) → at < length es → sent_from (at + 1) (drop at es) n ≡ from_there es n e at
one-event es at n e h = next-event es at n (get_or es at e) h (any-default es at e (get_or es at e) h)

-- events are passed over
passed : (es : List Event) (gap at n : ℕ) (e : Event) → at + gap < length es → (skipped : List Sent) × (sent_from (at + 1) (drop at es) n ≡ skipped ++ from_there es n e (at + gap))
passed es zero at n e h = ([], one-event es at n e (omega arith) ∙ ap (λ (l : ℕ). from_there es n e l) (omega arith))
passed es (suc gap) at n e h =
    let first : List Sent = sent_at (at + 1) (get_or es at e) n in
    let r = passed es gap (at + 1) n e (omega arith) in (
      first ++ r.0,
      one-event es at n e (omega arith)
          ∙ ap (λ (l : List Sent). first ++ l) r.1
          ∙ sym (append_assoc first r.0 (from_there es n e (at + 1 + gap)))
          ∙ ap (λ (l : ℕ). (first ++ r.0) ++ from_there es n e l) (omega arith),
    )

-- an entry of the record is found
pub part-step : (G : Type 0) (journal : List Event) (sent : List Sent) (i at next n : ℕ) (x : Sent) → i < length sent → x ≡ get_or sent i x → StandsAt journal at n x next →
    (IsPart (drop i sent) (sent_from (at + 1) (drop at journal) n) → G) → IsPart (drop (i + 1) sent) (sent_from (next + 1) (drop next journal) n) → G
part-step G journal sent i at next n x h is s goes part =
    let e : Event = Close in
    let gap : ℕ = next - 1 - at in
    let last : at + gap ≡ next - 1 = omega (arith, s.behind) in
    let within : at + gap < length journal = omega (arith, s.behind, s.within) in
    let r = passed journal gap at n e within in
    let tail : List Sent = sent_from (next + 1) (drop next journal) n in
    let there : from_there journal n e (at + gap) ≡ x ∷ tail =
    ap (λ (l : ℕ). from_there journal n e l) last
    ∙ ap (λ (l : ℕ). sent_at l (get_or journal (next - 1) e) n ++ sent_from (l + 1) (drop l journal) n) (omega (arith, s.behind))
    ∙ ap (λ (l : List Sent). l ++ tail) (s.is e) in
    goes
    (subst (λ (l : List Sent). IsPart l (sent_from (at + 1) (drop at journal) n)) (sym (drop-at sent i x h is ∙ ap (λ (k : ℕ). x ∷ drop k sent) (sym (add-one i))))
    (subst (λ (l : List Sent). IsPart (x ∷ drop (i + 1) sent) l) (sym (r.1 ∙ ap (λ (l : List Sent). r.0 ++ l) there)) (part-more x (drop (i + 1) sent) r.0 tail part)))

-- each entry was found
pub part-end : (G : Type 0) (sent all : List Sent) (i : ℕ) → length sent ≤ i → (IsPart (drop i sent) all → G) → G
part-end G sent all i h goes = goes (subst (λ (l : List Sent). IsPart l all) (sym (drop-past sent i h)) (part-none all))

lt-true : (a b : ℕ) → nat_lt a b ≡ true → a < b
lt-true a b e = grind (arith, nat_tests)

lt-false : (a b : ℕ) → nat_lt a b ≡ false → b ≤ a
lt-false a b e = grind (arith, nat_tests)

is-true : (a b : ℕ) → (a == b) ≡ true → a ≡ b
is-true a b e = grind (arith, nat_tests)

-- a message of n is below n + 1, and not below what is no more than n
counts : (b n m place : ℕ) (bytes : List ℕ) → b ≤ n → lower_count b (Message m bytes) + length (sent_at place (Message m bytes) n) ≤ lower_count (n + 1) (Message m bytes)
counts b n m place bytes h = by (nat_lt m b) (m == n) (nat_lt m (n + 1)) refl refl refl
  where
    by : (x y z : Bool) → nat_lt m b ≡ x → (m == n) ≡ y → nat_lt m (n + 1) ≡ z → (if x then 1 else 0) + length {A = Sent} (option_map_or (λ bs. record { place = place; bytes = bs } ∷ []) (if y then Some bytes else None) []) ≤ (if z then 1 else 0)
    by true true z e f g = absurd (omega (arith, lt-true m b e, is-true m n f))
    by true false true e f g = omega arith
    by true false false e f g = absurd (omega (arith, lt-true m b e, lt-false m (n + 1) g))
    by false true true e f g = omega arith
    by false true false e f g = absurd (omega (arith, is-true m n f, lt-false m (n + 1) g))
    by false false z e f g = omega arith

-- those of n are among those below n + 1
below-more : (es : List Event) (b n place : ℕ) → b ≤ n → messages_below b es + length (sent_from place es n) ≤ messages_below (n + 1) es
below-more [] b n place h = omega arith
below-more (e ∷ es) b n place h = by e (below-more es b n (place + 1) h)
  where
    sums : (x y z u v w l : ℕ) → x + y ≤ z → u + v ≤ w → l ≡ y + v → (x + u) + l ≤ z + w
    sums x y z u v w l f g k = omega arith

    none : (u w l : ℕ) → u + l ≤ w → (0 + u) + l ≤ 0 + w
    none u w l h = omega arith

    by : (x : Event) → messages_below b es + length (sent_from (place + 1) es n) ≤ messages_below (n + 1) es →
        (lower_count b x + messages_below b es) + length (sent_at place x n ++ sent_from (place + 1) es n) ≤ lower_count (n + 1) x + messages_below (n + 1) es
    by (Message m bytes) r =
        let own : List Sent = sent_at place (Message m bytes) n in
        sums (lower_count b (Message m bytes)) (length own) (lower_count (n + 1) (Message m bytes)) (messages_below b es) (length (sent_from (place + 1) es n)) (messages_below (n + 1) es)
        (length (own ++ sent_from (place + 1) es n)) (counts b n m place bytes h) r (length-append own (sent_from (place + 1) es n))
    by (Join user) r = none (messages_below b es) (messages_below (n + 1) es) (length (sent_from (place + 1) es n)) r
    by (Took m k) r = none (messages_below b es) (messages_below (n + 1) es) (length (sent_from (place + 1) es n)) r
    by (Leave m) r = none (messages_below b es) (messages_below (n + 1) es) (length (sent_from (place + 1) es n)) r
    by (Revoke request) r = none (messages_below b es) (messages_below (n + 1) es) (length (sent_from (place + 1) es n)) r
    by Close r = none (messages_below b es) (messages_below (n + 1) es) (length (sent_from (place + 1) es n)) r
    by (AddUser user) r = none (messages_below b es) (messages_below (n + 1) es) (length (sent_from (place + 1) es n)) r
    by (AddFloor floor) r = none (messages_below b es) (messages_below (n + 1) es) (length (sent_from (place + 1) es n)) r
    by (SetChair floor chair) r = none (messages_below b es) (messages_below (n + 1) es) (length (sent_from (place + 1) es n)) r
    by (Say user bytes) r = none (messages_below b es) (messages_below (n + 1) es) (length (sent_from (place + 1) es n)) r

below-all : (es : List Event) (b : ℕ) → messages_below b es ≤ messages_in es
below-all [] b = omega arith
below-all (e ∷ es) b = by e (below-all es b)
  where
    one : (t : Bool) → (if t then 1 else 0) ≤ 1
    one true = omega arith
    one false = omega arith

    sums : (x u w : ℕ) → x ≤ 1 → u ≤ w → x + u ≤ 1 + w
    sums x u w f g = omega arith

    none : (u w : ℕ) → u ≤ w → 0 + u ≤ 0 + w
    none u w h = omega arith

    by : (x : Event) → messages_below b es ≤ messages_in es → lower_count b x + messages_below b es ≤ message_count x + messages_in es
    by (Message m bytes) r = sums (lower_count b (Message m bytes)) (messages_below b es) (messages_in es) (one (nat_lt m b)) r
    by (Join user) r = none (messages_below b es) (messages_in es) r
    by (Took m k) r = none (messages_below b es) (messages_in es) r
    by (Leave m) r = none (messages_below b es) (messages_in es) r
    by (Revoke request) r = none (messages_below b es) (messages_in es) r
    by Close r = none (messages_below b es) (messages_in es) r
    by (AddUser user) r = none (messages_below b es) (messages_in es) r
    by (AddFloor floor) r = none (messages_below b es) (messages_in es) r
    by (SetChair floor chair) r = none (messages_below b es) (messages_in es) r
    by (Say user bytes) r = none (messages_below b es) (messages_in es) r

messages-few : (es : List Event) → messages_in es ≤ length es
messages-few [] = omega arith
messages-few (e ∷ es) = by e (messages-few es)
  where
    more : (a b : ℕ) → a ≤ b → 1 + a ≤ suc b
    more a b h = omega arith

    less : (a b : ℕ) → a ≤ b → 0 + a ≤ suc b
    less a b h = omega arith

    by : (x : Event) → messages_in es ≤ length es → message_count x + messages_in es ≤ suc (length es)
    by (Message m bytes) r = more (messages_in es) (length es) r
    by (Join user) r = less (messages_in es) (length es) r
    by (Took m k) r = less (messages_in es) (length es) r
    by (Leave m) r = less (messages_in es) (length es) r
    by (Revoke request) r = less (messages_in es) (length es) r
    by Close r = less (messages_in es) (length es) r
    by (AddUser user) r = less (messages_in es) (length es) r
    by (AddFloor floor) r = less (messages_in es) (length es) r
    by (SetChair floor chair) r = less (messages_in es) (length es) r
    by (Say user bytes) r = less (messages_in es) (length es) r

pub counted-none : (es : List Event) (seats : List Seat) → IsCounted es seats 0 0 0
counted-none es seats = record { few = omega arith; fit = λ e k l. absurd (omega arith) }

pub part-of : (es : List Event) (s : Seat) (sent : List Sent) (n : ℕ) → sent ≡ s.sent → n ≡ s.n → IsPart sent (messages_of es n) → IsPart s.sent (messages_of es s.n)
part-of es s sent n e f h = subst (λ (l : List Sent). IsPart l (messages_of es s.n)) e (subst (λ (m : ℕ). IsPart sent (messages_of es m)) f h)

-- one seat more
pub counted-more : (es : List Event) (seats : List Seat) (i bound count next total : ℕ) (s : Seat) → i < length seats → s ≡ get_or seats i s → bound ≤ s.n → next ≡ s.n + 1 → total ≡ count + length s.sent →
    IsPart s.sent (messages_of es s.n) → IsCounted es seats i bound count → IsCounted es seats (i + 1) next total
counted-more es seats i bound count next total s h is low f g part before =
    let more = below-more es bound s.n 1 low in
    subst (λ (b : ℕ). IsCounted es seats (i + 1) b total) (sym f)
    (record {
      few = omega (arith, g, before.few, part.few, more);
      fit = λ e. before-more (FitsAt es seats) i (before.fit (omega (arith, e, g, before.few, part.few, more)))
          (if-some (λ t. t.sent ≡ messages_of es t.n) (slice_get seats i) s (some-at seats i s h is) (part.whole (omega (arith, e, g, before.few, part.few, more))));
    })

-- so the next count is no more than the events
pub counted-few : (es : List Event) (seats : List Seat) (i bound count : ℕ) → IsCounted es seats i bound count → count ≤ length es
counted-few es seats i bound count h = omega (arith, h.few, below-all es bound, messages-few es)

-- all messages are counted
pub counted-all : (es : List Event) (seats : List Seat) (i bound count total : ℕ) → IsCounted es seats i bound count → length seats ≤ i → total ≡ messages_in es → nat_eq count total ≡ true → (k : ℕ) → k < length seats → FitsAt es seats k
counted-all es seats i bound count total h past e same k l = h.fit (omega (arith, below-all es bound, e, is-same count total same)) k (omega (arith, l, past))
  where
    is-same : (a b : ℕ) → nat_eq a b ≡ true → a ≡ b
    is-same a b f = grind (arith, nat_tests)

-- one event more
pub messages-more : (es : List Event) (i : ℕ) (e : Event) → i < length es → e ≡ get_or es i e → messages_in (take (i + 1) es) ≡ messages_in (take i es) + message_count e
messages-more [] i e h is = absurd (omega arith)
messages-more (x ∷ es) zero e h is = ap (λ (y : Event). message_count y + 0) (sym is) ∙ zeros (message_count e)
  where
    zeros : (a : ℕ) → a + 0 ≡ 0 + a
    zeros a = omega arith
messages-more (x ∷ es) (suc i) e h is =
    ap (λ (k : ℕ). messages_in (take k (x ∷ es))) (shift i)
    ∙ ap (λ (k : ℕ). message_count x + k) (messages-more es i e (omega arith) is)
    ∙ sums (message_count x) (messages_in (take i es)) (message_count e)
  where
    shift : (a : ℕ) → suc a + 1 ≡ suc (a + 1)
    shift a = omega arith

    sums : (a b c : ℕ) → a + (b + c) ≡ (a + b) + c
    sums a b c = omega arith
