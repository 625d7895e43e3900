-- The fault of bytes is that of the attribute with the lowest offset that has one itself.
use Rattle.std.proofs.Common.{◌≡◌, ◌⊎◌, inl, inr, ℕ, ◌+◌, ◌-◌, ◌<◌, ◌≤◌, Bool, List, [], ◌∷◌, ◌++◌, length, drop, get_or, refl, sym, ◌∙◌, ap, subst, arith, length-append, length-drop, length-take, Some, None}
use Rattle.std.proofs.lemmas.List.{append-nil, drop_at}
use Rattle.std.proofs.lemmas.Bool.{cases_lt}
use Rattle.std.specs.List.{slice_range}
use Rattle.floor_wire.specs.Attributes.{Content, Attributes, no_attributes, attribute}
use Rattle.floor_wire.specs.Spelling.{format_of, first_byte, Spells, SpellsFirst}
use Rattle.floor_wire.specs.Bytes.{IsBytes}
use Rattle.floor_wire.specs.Fault.{padded, front_kind, front_len, front_fault, Begins, HasFault, itself, inside}
use Rattle.floor_wire.specs.FirstFault.{BeginsAt, foremost, behind, included, IsFirstFault}
use Rattle.floor_wire.specs.declared.format.Format.TheVariants.{Grouped}
use Rattle.floor_wire.specs.declared.fault.Cause.{Cause}
use Rattle.floor_wire.proofs.OneReading.{Starts, starts, starts_sound, inner_spelled, padded_is}
use Rattle.floor_wire.proofs.ReadSteps.{long_of_good}
use Rattle.floor_wire.proofs.Either.{sound_of, either}

-- an attribute takes as many bytes as its padded Length
size_of_first : {k : ℕ} {m : Bool} {IsBody IsRest : List ℕ → Type 0} {bytes : List ℕ} (first : SpellsFirst k m IsBody IsRest bytes)
    → padded (front_len bytes) ≡ 2 + length first.contents + length first.padding
size_of_first first =
    ap (λ s. padded (get_or s 1 0)) first.whole ∙ padded_is (length first.contents) (length first.padding) first.short first.aligned

-- what stands behind the first attribute
behind_first : {k : ℕ} {m : Bool} {IsBody IsRest : List ℕ → Type 0} {bytes : List ℕ} (first : SpellsFirst k m IsBody IsRest bytes)
    → drop (padded (front_len bytes)) bytes ≡ first.after
behind_first {k = k} {m = m} {bytes = bytes} first =
    let size = 2 + length first.contents + length first.padding in
    let attribute_is = first_byte k m ∷ (2 + length first.contents) ∷ (first.contents ++ first.padding) in
    ap (λ n. drop n bytes) (size_of_first first) ∙ ap (λ s. drop size s) first.whole
    ∙ drop_at attribute_is first.after size (omega (arith, length-append first.contents first.padding))

-- a first attribute with no fault takes some bytes
some_size : (s : List ℕ) → front_fault s ≡ None → 0 < padded (front_len s)
some_size s none =
    let sound = sound_of s none in
    omega (arith, long_of_good (format_of (front_kind s)) (front_len s) sound.good)

-- bytes of which a part is spelled begin with its first attribute
starts_with : (k : ℕ) (m : Bool) (c : Content) (rest : Attributes) (front tail bytes : List ℕ) → Spells (attribute k m c rest) front
    → bytes ≡ front ++ tail → Starts k m c bytes
starts_with k m c rest front tail bytes spelled whole =
    subst (λ (s : List ℕ). Starts k m c s) (sym whole) (starts k m c rest front tail spelled)

-- behind its first attribute stand the others of a spelled front
others_behind : (k : ℕ) (m : Bool) (c : Content) (rest : Attributes) (front tail bytes : List ℕ) (spelled : Spells (attribute k m c rest) front)
    → bytes ≡ front ++ tail → drop (padded (front_len bytes)) bytes ≡ spelled.1.after ++ tail
unfolding starts
others_behind k m c rest front tail bytes spelled whole =
    ap (λ s. drop (padded (front_len s)) s) whole
    ∙ behind_first (starts k m c rest front tail spelled).first

-- a spelled front is as long as its first attribute and the others
front_size : (k : ℕ) (m : Bool) (c : Content) (rest : Attributes) (front tail bytes : List ℕ) (spelled : Spells (attribute k m c rest) front)
    → bytes ≡ front ++ tail → length front ≡ padded (front_len bytes) + length spelled.1.after
unfolding starts
front_size k m c rest front tail bytes spelled whole =
    let first = spelled.1 in
    let size : padded (front_len bytes) ≡ 2 + length first.contents + length first.padding
    = ap (λ s. padded (front_len s)) whole
    ∙ size_of_first (starts k m c rest front tail spelled).first in
    ap length first.whole ∙ omega (arith, size, length-append (first.contents ++ first.padding) first.after, length-append first.contents first.padding)

-- an attribute that begins in bytes begins before their end
within_bytes : (s : List ℕ) (at : ℕ) (other : List ℕ) → BeginsAt s at other → at < length s
within_bytes s at other (foremost some) = some
within_bytes s at other (behind {further = further} none later place) =
    omega (arith, place, within_bytes (drop (padded (front_len s)) s) further other later, length-drop (padded (front_len s)) s)
within_bytes s at other (included {further = further} none is_group inner place) =
    omega (arith, place, within_bytes (slice_range s 4 (front_len s)) further other inner, length-take (front_len s - 4) (drop 4 s), length-drop 4 s)

-- what begins inside a group begins before the group's end
within_group : (s : List ℕ) (at : ℕ) (other : List ℕ) → BeginsAt (slice_range s 4 (front_len s)) at other → 4 + at < padded (front_len s)
within_group s at other inner =
    omega (arith, within_bytes (slice_range s 4 (front_len s)) at other inner, length-take (front_len s - 4) (drop 4 s))

-- no two attributes begin at one offset
one_begins : (s : List ℕ) (x y : ℕ) (a b : List ℕ) → BeginsAt s x a → BeginsAt s y b → x ≡ y → a ≡ b
one_begins s x y a b (foremost some) (foremost some') same = refl
one_begins s x y a b (foremost some) (behind none later place) same = absurd (omega (arith, same, place, some_size s none))
one_begins s x y a b (foremost some) (included none is_group inner place) same = absurd (omega (arith, same, place))
one_begins s x y a b (behind none later place) (foremost some) same = absurd (omega (arith, same, place, some_size s none))
one_begins s x y a b (behind {further = further} none later place) (behind {further = further'} none' later' place') same =
    one_begins (drop (padded (front_len s)) s) further further' a b later later' (omega (arith, same, place, place'))
one_begins s x y a b (behind none later place) (included {further = further} none' is_group inner place') same =
    absurd (omega (arith, same, place, place', within_group s further b inner))
one_begins s x y a b (included none is_group inner place) (foremost some) same = absurd (omega (arith, same, place))
one_begins s x y a b (included {further = further} none is_group inner place) (behind none' later place') same =
    absurd (omega (arith, same, place, place', within_group s further a inner))
one_begins s x y a b (included {further = further} none is_group inner place) (included {further = further'} none' is_group' inner' place') same =
    one_begins (slice_range s 4 (front_len s)) further further' a b inner inner' (omega (arith, same, place, place'))

-- an attribute that begins in bytes with a spelled front has no fault, or begins behind the front
begins_before : (attrs : Attributes) (front tail bytes : List ℕ) (at : ℕ) (other : List ℕ) → Spells attrs front → bytes ≡ front ++ tail
    → BeginsAt bytes at other → (front_fault other ≡ None) ⊎ ((further : ℕ) × (at ≡ length front + further) × BeginsAt tail further other)
begins_before no_attributes front tail bytes at other spelled whole begun =
    let P : List ℕ → Type 0 = λ s. BeginsAt s at other in
    inr (at, omega (arith, ap length spelled), subst P (whole ∙ ap (λ s. s ++ tail) spelled) begun)
begins_before (attribute k m c rest) front tail bytes at other spelled whole (foremost some) =
    inl (starts_sound k m c bytes (starts_with k m c rest front tail bytes spelled whole))
begins_before (attribute k m c rest) front tail bytes at other spelled whole (behind {further = further} none later place) =
    let size = front_size k m c rest front tail bytes spelled whole in
    elim (begins_before rest spelled.1.after tail (drop (padded (front_len bytes)) bytes) further other spelled.1.others
    (others_behind k m c rest front tail bytes spelled whole) later) [
      | inl sound ↦ inl sound
      | inr in_tail ↦ inr (in_tail.0, omega (arith, place, size, in_tail.1), in_tail.2)
    ]
begins_before (attribute k m c rest) front tail bytes at other spelled whole (included {further = further} none is_group inner place) =
    let group = inner_spelled k m c bytes (starts_with k m c rest front tail bytes spelled whole) is_group in
    let text = slice_range bytes 4 (front_len bytes) in
    elim (begins_before group.0 text [] text further other group.1 (sym (append-nil text)) inner) [
      | inl sound ↦ inl sound
      | inr in_nothing ↦ absurd (omega (arith, within_bytes [] in_nothing.0 other in_nothing.2))
    ]

-- what begins behind a spelled front begins in the whole
begins_behind : (attrs : Attributes) (front tail bytes : List ℕ) (at further : ℕ) (other : List ℕ) → Spells attrs front → bytes ≡ front ++ tail
    → at ≡ length front + further → BeginsAt tail further other → BeginsAt bytes at other
begins_behind no_attributes front tail bytes at further other spelled whole place begun =
    let no_front : bytes ≡ tail = whole ∙ ap (λ s. s ++ tail) spelled in
    let same_place : at ≡ further = omega (arith, place, ap length spelled) in
    rw (no_front, same_place) begun
begins_behind (attribute k m c rest) front tail bytes at further other spelled whole place begun =
    let after = spelled.1.after in
    let size = front_size k m c rest front tail bytes spelled whole in
    let later = begins_behind rest after tail (drop (padded (front_len bytes)) bytes) (length after + further) further other spelled.1.others
    (others_behind k m c rest front tail bytes spelled whole) refl begun in
    behind (starts_sound k m c bytes (starts_with k m c rest front tail bytes spelled whole)) later (omega (arith, place, size))

-- a faulty attribute at the front is the first
first_here : (s : List ℕ) (cause : Cause) → 0 < length s → front_fault s ≡ Some cause → IsFirstFault s 0 cause
first_here s cause some faulty = record {
  tail = s;
  begins = foremost some;
  alone = λ other begun. one_begins s 0 0 other s begun (foremost some) refl;
  faulty = faulty;
  first = λ lower other begun less. absurd (omega (arith, less));
}

-- what begins in a group before its first fault has none
sound_before : (s : List ℕ) (within : ℕ) (cause : Cause) (lower : ℕ) (other : List ℕ) → front_fault s ≡ None
    → IsFirstFault (slice_range s 4 (front_len s)) within cause → BeginsAt s lower other → lower < 4 + within → front_fault other ≡ None
sound_before s within cause lower other none inner (foremost some) less = none
sound_before s within cause lower other none inner (behind none' later place) less =
    absurd (omega (arith, place, less, within_group s within inner.tail inner.begins))
sound_before s within cause lower other none inner (included {further = further} none' is_group begun place) less =
    inner.first further other begun (omega (arith, place, less))

-- the first fault in a group at the front is the first of all
first_in_group : (s : List ℕ) (within : ℕ) (cause : Cause) → front_fault s ≡ None → format_of (front_kind s) ≡ Grouped
    → IsFirstFault (slice_range s 4 (front_len s)) within cause → IsFirstFault s (4 + within) cause
first_in_group s within cause none is_group inner =
    let begun : BeginsAt s (4 + within) inner.tail = included none is_group inner.begins refl in record {
      tail = inner.tail;
      begins = begun;
      alone = λ other again. one_begins s (4 + within) (4 + within) other inner.tail again begun refl;
      faulty = inner.faulty;
      first = λ lower other. sound_before s within cause lower other none inner;
    }

-- the first fault behind spelled attributes is the first of all
first_behind : (bytes : List ℕ) (attrs : Attributes) (front tail : List ℕ) (at further : ℕ) (cause : Cause) → Begins bytes attrs front tail
    → at ≡ length front + further → IsFirstFault tail further cause → IsFirstFault bytes at cause
first_behind bytes attrs front tail at further cause in_front place found =
    let begun = begins_behind attrs front tail bytes at further found.tail in_front.spelled in_front.whole place found.begins in record {
      tail = found.tail;
      begins = begun;
      alone = λ other again. one_begins bytes at at other found.tail again begun refl;
      faulty = found.faulty;
      first = λ lower other other_begun less. elim (begins_before attrs front tail bytes lower other in_front.spelled in_front.whole other_begun) [
        | inl sound ↦ sound
        | inr in_tail ↦ found.first in_tail.0 other in_tail.2 (omega (arith, place, less, in_tail.1))
      ];
    }

-- a fault is the first
pub first_fault : (s : List ℕ) (at : ℕ) (cause : Cause) → HasFault s at cause → IsFirstFault s at cause
first_fault s at cause (itself {front = front} {tail = tail} {attrs = attrs} in_front faulty place) =
    first_behind s attrs front tail at 0 cause in_front (omega (arith, place)) (first_here tail cause in_front.more faulty)
first_fault s at cause (inside {front = front} {tail = tail} {attrs = attrs} {within = within} in_front none is_group inner place) =
    let found = first_fault (slice_range tail 4 (front_len tail)) within cause inner in
    first_behind s attrs front tail at (4 + within) cause in_front (omega (arith, place)) (first_in_group tail within cause none is_group found)

-- no attribute of spelled bytes has a fault
spelled_sound : (attrs : Attributes) (s : List ℕ) (at : ℕ) (other : List ℕ) → Spells attrs s → BeginsAt s at other → front_fault other ≡ None
spelled_sound attrs s at other spelled begun = elim (begins_before attrs s [] s at other spelled (sym (append-nil s)) begun) [
  | inl sound ↦ sound
  | inr in_nothing ↦ absurd (omega (arith, within_bytes [] in_nothing.0 other in_nothing.2))
]

-- a first fault is at no higher offset than another fault
not_behind : (s : List ℕ) (x y : ℕ) (c d : Cause) → IsFirstFault s x c → IsFirstFault s y d → x ≤ y
not_behind s x y c d one other = elim (cases_lt y x) [
  | inl less ↦ let sound = one.first y other.tail other.begins less in let faulty = other.faulty in absurd (cc)
  | inr at_most ↦ at_most
]

-- bytes have one first fault at most
one_first : (s : List ℕ) (x y : ℕ) (c d : Cause) → IsFirstFault s x c → IsFirstFault s y d → (x ≡ y) × (c ≡ d)
one_first s x y c d one other =
    let place : x ≡ y = omega (arith, not_behind s x y c d one other, not_behind s y x d c other one) in
    let same = one_begins s x y one.tail other.tail one.begins other.begins place in
    let faulty = one.faulty in
    let faulty' = other.faulty in (place, cc)

-- the first fault is the fault
pub fault_of_first : (s : List ℕ) (at : ℕ) (cause : Cause) → IsBytes s → IsFirstFault s at cause → HasFault s at cause
fault_of_first s at cause bytes first = elim (either s bytes) [
  | inl spelled ↦
      let sound = spelled_sound spelled.0 s at first.tail spelled.1 first.begins in
      let faulty = first.faulty in absurd (cc)
  | inr fault ↦
      let same = one_first s at fault.0 cause fault.1 first (first_fault s fault.0 fault.1 fault.2) in
      rw (same.0, same.1) fault.2
]
