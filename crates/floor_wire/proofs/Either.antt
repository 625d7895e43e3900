-- Bytes spell attributes or have a fault.
use Rattle.std.proofs.Common.{◌≡◌, ◌⊎◌, inl, inr, ℕ, zero, suc, ◌+◌, ◌-◌, ◌/◌, ◌%◌, ◌<◌, ◌≤◌, Bool, true, false, cond, List, [], ◌∷◌, length, take, drop, get_or, refl, sym, ◌∙◌, ap, subst, arith, Option, Some, None, length-drop, length-take}
use Rattle.std.proofs.lemmas.List.{length-take-le, take-append-drop}
use Rattle.std.proofs.lemmas.Bool.{ltb-false}
use Rattle.std.proofs.lemmas.Bool.Decides.{leb_tells, nat_tests}
use Rattle.std.specs.List.{slice_range}
use Rattle.floor_wire.specs.Attributes.{Attributes, no_attributes}
use Rattle.floor_wire.specs.View.{attributes_of}
use Rattle.floor_wire.specs.Spelling.{format_of, number_of, first_byte, Spells}
use Rattle.floor_wire.specs.Bytes.{IsBytes}
use Rattle.floor_wire.specs.Fault.{is_bad_length, padded, front_kind, front_len, front_fault, HasFault}
use Rattle.floor_wire.specs.steps.Reading.{IsHead, IsFront, IsBodyOf}
use Rattle.floor_wire.specs.declared.attribute.Attr.{Attr}
use Rattle.floor_wire.specs.declared.attribute.Body.{Body}
use Rattle.floor_wire.specs.declared.attribute.Body.TheVariants as bodies
use Rattle.floor_wire.specs.declared.read.Head.{Head}
use Rattle.floor_wire.specs.declared.format.Format.{Format}
use Rattle.floor_wire.specs.declared.format.Format.TheVariants.{Unsigned16, OctetString16, Grouped, OctetString}
use Rattle.floor_wire.specs.declared.fault.Cause.{Cause}
use Rattle.floor_wire.proofs.Rewritten.{IsBytes-drop, IsBytes-take}
use Rattle.floor_wire.proofs.ReadSteps.{joined, Spells-joined, fault_here, fault_in_group, fault_at, inside_is, long_group, kind_is, front_spelled}

abbrev pub Spelled : List ℕ → Type 0
Spelled s = (a : Attributes) × Spells a s

abbrev pub Faulty : List ℕ → Type 0
Faulty s = (at : ℕ) × (cause : Cause) × HasFault s at cause

cond_none : (b : Bool) (x : Cause) (o : Option Cause) → cond b (Some x) o ≡ None → (b ≡ false) × (o ≡ None)
cond_none true x o e = cc
cond_none false x o e = (refl, e)

-- what a sound attribute at the front has
pub record Sound (s : List ℕ) : Type 0 where
  pub two : 2 ≤ length s
  pub good : is_bad_length (format_of (front_kind s)) (front_len s) ≡ false
  pub whole : padded (front_len s) ≤ length s

pub sound_of : (s : List ℕ) → front_fault s ≡ None → Sound s
sound_of s e =
    let a = cond_none _ _ _ e in
    let b = cond_none _ _ _ a.1 in
    let c = cond_none _ _ _ b.1 in
    record { two = ltb-false _ _ a.0; good = b.0; whole = ltb-false _ _ c.0 }

must_of : (n : ℕ) → (m : Bool) × (n ≡ first_byte (n / 2) m)
must_of n = elim (leb_tells 1 (n % 2)) [ inl w ↦ (true, omega (arith, w.1)) | inr w ↦ (false, omega (arith, w.1)) ]

pub head_for : (s : List ℕ) → IsBytes s → Sound s → (head : Head) × IsHead s head
head_for s bytes h =
    let bit = must_of (get_or s 0 0) in (
      record { kind = front_kind s; must = bit.0; len = front_len s; end = padded (front_len s) },
      record { first = bit.1; kind_fits = omega (arith, bytes 0); len = refl; len_fits = bytes 1; good = h.good; end = refl; whole = h.whole },
    )

pub two_of : (s : List ℕ) → length s ≡ 2 → s ≡ get_or s 0 0 ∷ get_or s 1 0 ∷ []
two_of [] e = absurd (omega arith)
two_of (x ∷ []) e = absurd (omega arith)
two_of (x ∷ y ∷ []) e = refl
two_of (x ∷ y ∷ z ∷ s) e = absurd (omega arith)

len_of_four : (len : ℕ) → is_bad_length Unsigned16 len ≡ false → len ≡ 4
len_of_four len e = grind (arith, nat_tests)

-- a body of each format, or a fault inside a group
body_for : (format : Format) (s : List ℕ) (head : Head) → IsHead s head → format_of head.kind ≡ format
    → (format ≡ Grouped → Spelled (slice_range s 4 head.len) ⊎ Faulty s) → length (slice_range s 2 head.len) ≡ head.len - 2
    → ((body : Body) × IsBodyOf format (slice_range s 2 head.len) body) ⊎ Faulty s
body_for Unsigned16 s head h e inner len =
    let four = len_of_four head.len (ap (λ f. is_bad_length f head.len) (sym e) ∙ h.good) in
    inl (bodies.Num (number_of (slice_range s 2 head.len)), record { format_is = refl; spelled = (omega (arith, len, four), refl) })
body_for OctetString16 s head h e inner len =
    let four = len_of_four head.len (ap (λ f. is_bad_length f head.len) (sym e) ∙ h.good) in
    let c = slice_range s 2 head.len in
    inl (bodies.Pair (get_or c 0 0) (get_or c 1 0), record { format_is = refl; spelled = two_of c (omega (arith, len, four)) })
body_for OctetString s head h e inner len = inl (bodies.Octets (slice_range s 2 head.len), record { format_is = refl; spelled = refl })
body_for Grouped s head h e inner len =
    let long = long_group head.len (ap (λ f. is_bad_length f head.len) (sym e) ∙ h.good) in
    elim (inner refl) [
      | inl i ↦ inl (
        bodies.Group (number_of (slice_range s 2 head.len)) i.0,
        record {
          format_is = refl;
          spelled = (omega (arith, len, long), refl, subst (λ (x : List ℕ). Spells i.0 x) (sym (inside_is s head.len long)) i.1);
        },
      )
      | inr f ↦ inr f
    ]

-- shorter bytes spell attributes or have a fault
abbrev Below : ℕ → Type 0
Below n = (t : List ℕ) → length t ≤ n → IsBytes t → Spelled t ⊎ Faulty t

inner_for : (n : ℕ) (s : List ℕ) (head : Head) → Below n → length s ≤ suc n → 0 < length s → IsBytes s → front_fault s ≡ None → IsHead s head
    → format_of head.kind ≡ Grouped → Spelled (slice_range s 4 head.len) ⊎ Faulty s
inner_for n s head below size some bytes none h g =
    let kind : format_of (front_kind s) ≡ Grouped = ap format_of (kind_is (get_or s 0 0) head.kind head.must h.first) ∙ g in
    elim (below (slice_range s 4 head.len) (omega (arith, length-take (head.len - 4) (drop 4 s), length-drop 4 s))
    (IsBytes-take (head.len - 4) (drop 4 s) (IsBytes-drop 4 s bytes))) [
      | inl i ↦ inl i
      | inr f ↦ inr (
        4 + f.0,
        f.1,
        fault_in_group s f.0 f.1 some none kind
            (subst (λ (len : ℕ). HasFault (slice_range s 4 len) f.0 f.1) (sym h.len) f.2),
      )
    ]

front_for : (n : ℕ) (s : List ℕ) → Below n → length s ≤ suc n → 0 < length s → IsBytes s → front_fault s ≡ None
    → ((attr : Attr) × (end : ℕ) × IsFront s attr end) ⊎ Faulty s
front_for n s below size some bytes none =
    let found = head_for s bytes (sound_of s none) in
    let head = found.0 in
    let h = found.1 in
    let end_is : head.len + (4 - head.len % 4) % 4 ≡ head.end = h.end in
    let len : length (slice_range s 2 head.len) ≡ head.len - 2
    = length-take-le (head.len - 2) (drop 2 s) (omega (arith, length-drop 2 s, h.whole, end_is)) in
    elim (body_for (format_of head.kind) s head h refl (λ g. inner_for n s head below size some bytes none h g) len) [
      | inl b ↦ inl (record { kind = head.kind; must = head.must; body = b.0 }, head.end, front_spelled s head b.0 h b.1)
      | inr f ↦ inr f
    ]

by_fault : (n : ℕ) (s : List ℕ) → Below n → length s ≤ suc n → 0 < length s → IsBytes s → (o : Option Cause) → front_fault s ≡ o
    → Spelled s ⊎ Faulty s
by_fault n s below size some bytes (Some cause) e = inr (0, cause, fault_here s cause some e)
by_fault n s below size some bytes None e = elim (front_for n s below size some bytes e) [
  | inl f ↦ elim (below (drop f.1 s) (omega (arith, length-drop f.1 s, f.2.some)) (IsBytes-drop f.1 s bytes)) [
    | inl r ↦ inl (
      joined (attributes_of (f.0 ∷ [])) r.0,
      subst (λ (x : List ℕ). Spells (joined (attributes_of (f.0 ∷ [])) r.0) x) (take-append-drop f.1 s)
          (Spells-joined (attributes_of (f.0 ∷ [])) r.0 (take f.1 s) (drop f.1 s) f.2.spelled r.1),
    )
    | inr g ↦ inr (f.1 + g.0, g.1, fault_at (attributes_of (f.0 ∷ [])) s f.1 g.0 g.1 f.2.within f.2.spelled g.2)
  ]
  | inr f ↦ inr f
]

decide : (n : ℕ) (s : List ℕ) → length s ≤ n → IsBytes s → Spelled s ⊎ Faulty s
decide n [] h bytes = inl (no_attributes, refl)
decide zero (x ∷ s) h bytes = absurd (omega arith)
decide (suc n) (x ∷ s) h bytes = by_fault n (x ∷ s) (λ t l b. decide n t l b) h (omega arith) bytes (front_fault (x ∷ s)) refl

pub either : (s : List ℕ) → IsBytes s → Spelled s ⊎ Faulty s
either s bytes = decide (length s) s (omega arith) bytes
