-- What reading one attribute after another finds.
use Rattle.std.proofs.Common.{◌≡◌, ℕ, zero, suc, ◌+◌, ◌-◌, ◌/◌, ◌%◌, ◌<◌, ◌≤◌, Bool, true, false, List, [], ◌∷◌, ◌++◌, length, take, drop, get_or, refl, sym, ◌∙◌, ap, subst, arith, append_assoc, length-append, length-drop, Some, None}
use Rattle.std.proofs.lemmas.List.{append-nil, take-append-drop, length-take-le, drop-take, drop-drop}
use Rattle.std.proofs.Math.Seq.{take-add}
use Rattle.std.proofs.lemmas.Bool.Decides.{nat_tests}
use Rattle.std.specs.List.{slice_range}
use Rattle.floor_wire.specs.Attributes.{Attributes, no_attributes, attribute}
use Rattle.floor_wire.specs.View.{attributes_of, content_of}
use Rattle.floor_wire.specs.Spelling.{format_of, first_byte, Spells}
use Rattle.floor_wire.specs.Fault.{is_bad_length, front_kind, front_len, front_fault, Begins, HasFault, itself, inside, IsFaultFrom}
use Rattle.floor_wire.specs.steps.Reading.{IsHead, IsFront, IsBodyOf}
use Rattle.floor_wire.specs.declared.attribute.Attr.{Attr}
use Rattle.floor_wire.specs.declared.attribute.Body.{Body}
use Rattle.floor_wire.specs.declared.read.Head.{Head}
use Rattle.floor_wire.specs.declared.format.Format.{Format}
use Rattle.floor_wire.specs.declared.format.Format.TheVariants.{Unsigned16, OctetString16, Grouped, OctetString}
use Rattle.floor_wire.specs.declared.fault.Cause.{Cause}
use Rattle.floor_wire.specs.declared.fault.Cause.TheVariants.{BadLength, Overrun}
use Rattle.floor_wire.specs.declared.fault.WireFault.{WireFault}
use Rattle.floor_wire.specs.declared.fault.WireFault.TheVariants as faults

-- one list of attributes, and then another
abbrev pub joined : Attributes → Attributes → Attributes
joined no_attributes others = others
joined (attribute kind must content rest) others = attribute kind must content (joined rest others)

attributes_of-append : (xs ys : List Attr) → attributes_of (xs ++ ys) ≡ joined (attributes_of xs) (attributes_of ys)
attributes_of-append [] ys = refl
attributes_of-append (x ∷ xs) ys = ap (λ rest. attribute x.kind x.must (content_of x.body) rest) (attributes_of-append xs ys)

pub Spells-joined : (a b : Attributes) (s t : List ℕ) → Spells a s → Spells b t → Spells (joined a b) (s ++ t)
Spells-joined no_attributes b s t p q = rw p q
Spells-joined (attribute kind must content rest) b s t p q = (
  p.0,
  record {
    contents = p.1.contents;
    padding = p.1.padding;
    after = p.1.after ++ t;
    whole = ap (λ x. x ++ t) p.1.whole
        ∙ ap (λ x. first_byte kind must ∷ (2 + length p.1.contents) ∷ x) (append_assoc (p.1.contents ++ p.1.padding) p.1.after t);
    kind_fits = p.1.kind_fits;
    length_fits = p.1.length_fits;
    short = p.1.short;
    aligned = p.1.aligned;
    body = p.1.body;
    others = Spells-joined rest b p.1.after t p.1.others q;
  },
)

-- an attribute whose own check fails is a fault, at the front
pub fault_here : (bytes : List ℕ) (cause : Cause) → 0 < length bytes → front_fault bytes ≡ Some cause → HasFault bytes 0 cause
fault_here bytes cause some e = itself {front = []} {tail = bytes} {attrs = no_attributes} (record { whole = refl; spelled = refl; more = some }) e refl

pub fault_in_group : (bytes : List ℕ) (within : ℕ) (cause : Cause) → 0 < length bytes → front_fault bytes ≡ None → format_of (front_kind bytes) ≡ Grouped
    → HasFault (slice_range bytes 4 (front_len bytes)) within cause → HasFault bytes (4 + within) cause
fault_in_group bytes within cause some none group f =
    inside {front = []} {tail = bytes} {attrs = no_attributes} (record { whole = refl; spelled = refl; more = some }) none group f (omega arith)

Begins-after : (attrs others : Attributes) (s t front tail : List ℕ) → Spells attrs s → Begins t others front tail
    → Begins (s ++ t) (joined attrs others) (s ++ front) tail
Begins-after attrs others s t front tail p b = record {
  whole = ap (λ x. s ++ x) b.whole ∙ sym (append_assoc s front tail);
  spelled = Spells-joined attrs others s front p b.spelled;
  more = b.more;
}

-- a fault after spelled attributes
fault_after : (attrs : Attributes) (s t : List ℕ) (at : ℕ) (cause : Cause) → Spells attrs s → HasFault t at cause → HasFault (s ++ t) (length s + at) cause
fault_after attrs s t at cause p (itself {front = front} {tail = tail} {attrs = others} b e place) =
    itself (Begins-after attrs others s t front tail p b) e (omega (arith, length-append s front))
fault_after attrs s t at cause p (inside {front = front} {tail = tail} {attrs = others} {within = within} b none group f place) =
    inside (Begins-after attrs others s t front tail p b) none group f (omega (arith, length-append s front))

pub fault_at : (attrs : Attributes) (bytes : List ℕ) (at within : ℕ) (cause : Cause) → at ≤ length bytes → Spells attrs (take at bytes)
    → HasFault (drop at bytes) within cause → HasFault bytes (at + within) cause
fault_at attrs bytes at within cause h p f =
    rw (take-append-drop at bytes, length-take-le at bytes h) at (fault_after attrs (take at bytes) (drop at bytes) within cause p f)

pub told_after : (e : WireFault) (base at : ℕ) (bytes : List ℕ) (attrs : Attributes) → at ≤ length bytes → Spells attrs (take at bytes)
    → IsFaultFrom (base + at) (drop at bytes) e → IsFaultFrom base bytes e
told_after faults.Memory base at bytes attrs h p f = tt
told_after (faults.BadLength place) base at bytes attrs h p f = (at + f.0, omega (arith, f.1), fault_at attrs bytes at f.0 BadLength h p f.2)
told_after (faults.Overrun place) base at bytes attrs h p f = (at + f.0, omega (arith, f.1), fault_at attrs bytes at f.0 Overrun h p f.2)

pub told_here_length : (base : ℕ) (bytes : List ℕ) → 0 < length bytes → front_fault bytes ≡ Some BadLength → IsFaultFrom base bytes (faults.BadLength base)
told_here_length base bytes some e = (0, omega arith, fault_here bytes BadLength some e)

pub told_here_overrun : (base : ℕ) (bytes : List ℕ) → 0 < length bytes → front_fault bytes ≡ Some Overrun → IsFaultFrom base bytes (faults.Overrun base)
told_here_overrun base bytes some e = (0, omega arith, fault_here bytes Overrun some e)

-- the attributes of a group stand behind its number
pub inside_is : (bytes : List ℕ) (len : ℕ) → 4 ≤ len → drop 2 (slice_range bytes 2 len) ≡ slice_range bytes 4 len
inside_is bytes len h =
    let e : len - 2 ≡ 2 + (len - 4) = omega arith in
    ap (λ n. drop 2 (take n (drop 2 bytes))) e ∙ drop-take 2 (len - 4) (drop 2 bytes) ∙ ap (λ x. take (len - 4) x) (drop-drop 2 2 bytes)

pub kind_is : (n kind : ℕ) (must : Bool) → n ≡ first_byte kind must → n / 2 ≡ kind
kind_is n kind true e = omega arith
kind_is n kind false e = omega arith

pub long_group : (len : ℕ) → is_bad_length Grouped len ≡ false → 4 ≤ len
long_group len e = grind (arith, nat_tests)

pub long_of_good : (format : Format) (len : ℕ) → is_bad_length format len ≡ false → 2 ≤ len
long_of_good Unsigned16 len e = grind (arith, nat_tests)
long_of_good OctetString16 len e = grind (arith, nat_tests)
long_of_good Grouped len e = grind (arith, nat_tests)
long_of_good OctetString len e = grind (arith, nat_tests)

fault_of_group : (bytes : List ℕ) (len within : ℕ) (cause : Cause) → 0 < length bytes → front_fault bytes ≡ None → format_of (front_kind bytes) ≡ Grouped
    → front_len bytes ≡ len → 4 ≤ len → HasFault (drop 2 (slice_range bytes 2 len)) within cause → HasFault bytes (4 + within) cause
fault_of_group bytes len within cause some none group e long f =
    let P : List ℕ → Type 0 = λ x. HasFault x within cause in
    fault_in_group bytes within cause some none group (subst P (inside_is bytes len long ∙ ap (λ n. slice_range bytes 4 n) (sym e)) f)

told_of_group : (e : WireFault) (base : ℕ) (bytes : List ℕ) (len : ℕ) → 0 < length bytes → front_fault bytes ≡ None → format_of (front_kind bytes) ≡ Grouped
    → front_len bytes ≡ len → 4 ≤ len → IsFaultFrom (base + 2 + 2) (drop 2 (slice_range bytes 2 len)) e → IsFaultFrom base bytes e
told_of_group faults.Memory base bytes len some none group e long f = tt
told_of_group (faults.BadLength place) base bytes len some none group e long f =
    (4 + f.0, omega (arith, f.1), fault_of_group bytes len f.0 BadLength some none group e long f.2)
told_of_group (faults.Overrun place) base bytes len some none group e long f =
    (4 + f.0, omega (arith, f.1), fault_of_group bytes len f.0 Overrun some none group e long f.2)

pub told_in_group : (e : WireFault) (base : ℕ) (bytes : List ℕ) (head : Head) → 0 < length bytes → front_fault bytes ≡ None → IsHead bytes head
    → format_of head.kind ≡ Grouped → IsFaultFrom (base + 2 + 2) (drop 2 (slice_range bytes 2 head.len)) e → IsFaultFrom base bytes e
told_in_group e base bytes head some none h group f =
    told_of_group e base bytes head.len some none
    (ap format_of (kind_is (get_or bytes 0 0) head.kind head.must h.first) ∙ group) h.len
    (long_group head.len (ap (λ format. is_bad_length format head.len) (sym group) ∙ h.good)) f

-- the bytes up to an end, as two bytes, contents and padding
cut : (bytes : List ℕ) (len end : ℕ) → 2 ≤ len → len ≤ end → end ≤ length bytes
    → take end bytes ≡ get_or bytes 0 0 ∷ get_or bytes 1 0 ∷ (slice_range bytes 2 len ++ take (end - len) (drop (len - 2) (drop 2 bytes)))
cut [] len end two le within = absurd (omega arith)
cut (x ∷ []) len end two le within = absurd (omega arith)
cut (x ∷ y ∷ rest) len zero two le within = absurd (omega arith)
cut (x ∷ y ∷ rest) len (suc zero) two le within = absurd (omega arith)
cut (x ∷ y ∷ rest) len (suc (suc n)) two le within =
    let e : n ≡ (len - 2) + (suc (suc n) - len) = omega arith in
    ap (λ k. x ∷ y ∷ take k rest) e ∙ ap (λ z. x ∷ y ∷ z) (take-add (len - 2) (suc (suc n) - len) rest)

aligned_of : (len : ℕ) → (len + (4 - len % 4) % 4) % 4 ≡ 0
aligned_of len = omega arith

-- the attribute of a head and a body stands at the front
pub front_spelled : (bytes : List ℕ) (head : Head) (body : Body) → IsHead bytes head → IsBodyOf (format_of head.kind) (slice_range bytes 2 head.len) body
    → IsFront bytes (record { kind = head.kind; must = head.must; body = body }) head.end
front_spelled bytes head body h b =
    let len = head.len in
    let two : 2 ≤ len = long_of_good (format_of head.kind) len h.good in
    let end_is : len + (4 - len % 4) % 4 ≡ head.end = h.end in
    let le : len ≤ head.end = omega (arith, end_is) in
    let contents = slice_range bytes 2 len in
    let padding = take (head.end - len) (drop (len - 2) (drop 2 bytes)) in
    let contents_len : length contents ≡ len - 2 = length-take-le (len - 2) (drop 2 bytes) (omega (arith, length-drop 2 bytes, h.whole, le)) in
    let padding_len : length padding ≡ head.end - len
    = length-take-le (head.end - len) (drop (len - 2) (drop 2 bytes)) (omega (arith, length-drop (len - 2) (drop 2 bytes), length-drop 2 bytes, h.whole, le, two)) in
    let all : 2 + length contents + length padding ≡ len + (4 - len % 4) % 4 = omega (arith, contents_len, padding_len, two, le, end_is) in
    record {
      some = omega (arith, two, le);
      within = h.whole;
      spelled = (
        b.format_is,
        record {
          contents = contents;
          padding = padding;
          after = [];
          whole = cut bytes len head.end two le h.whole
              ∙ ap (λ n. n ∷ get_or bytes 1 0 ∷ (contents ++ padding)) h.first
              ∙ ap (λ n. first_byte head.kind head.must ∷ n ∷ (contents ++ padding)) (let e : get_or bytes 1 0 ≡ 2 + length contents = omega (arith, h.len, contents_len, two) in e)
              ∙ ap (λ x. first_byte head.kind head.must ∷ (2 + length contents) ∷ x) (sym (append-nil (contents ++ padding)));
          kind_fits = h.kind_fits;
          length_fits = omega (arith, contents_len, two, h.len_fits);
          short = omega (arith, padding_len, end_is);
          aligned = ap (λ n. n % 4) all ∙ aligned_of len;
          body = b.spelled;
          others = refl;
        },
      );
    }

-- one more attribute
pub spelled_more : (items : List Attr) (attr : Attr) (at end : ℕ) (bytes : List ℕ) → Spells (attributes_of items) (take at bytes)
    → IsFront (drop at bytes) attr end → Spells (attributes_of (items ++ attr ∷ [])) (take (at + end) bytes)
spelled_more items attr at end bytes p f =
    rw (attributes_of-append items (attr ∷ []), take-add at end bytes)
    (Spells-joined (attributes_of items) (attributes_of (attr ∷ [])) (take at bytes) (take end (drop at bytes)) p f.spelled)
