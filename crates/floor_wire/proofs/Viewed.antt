-- The attributes that stand in bytes, as views show them.
use Rattle.std.proofs.Common.{◌≡◌, ℕ, ◌%◌, ◌<◌, ◌≤◌, List, [], ◌∷◌, length, take, drop, get_or, refl, sym, ◌∙◌, ap, subst, arith, Option, Some, None}
use Rattle.std.specs.Prelude.{◌==◌}
use Rattle.std.specs.List.{slice_range}
use Rattle.std.proofs.lemmas.List.{take-append-drop}
use Rattle.floor_wire.specs.Attributes.{Content, num, pair, group, octets, Attributes, no_attributes, attribute}
use Rattle.floor_wire.specs.Bytes.{IsBytes}
use Rattle.floor_wire.specs.Fault.{padded, front_kind, front_len, front_fault}
use Rattle.floor_wire.specs.Spelled.{spelled}
use Rattle.floor_wire.specs.Spelling.{format_of, format_of_content, number_of, IsWritable, Spells, SpellsContent}
use Rattle.floor_wire.specs.View.{attributes_of, body_of, content_of, items}
use Rattle.floor_wire.specs.Views.{or_none, attrs_in, body_in, IsSpelled, IsContent}
use Rattle.floor_wire.specs.steps.Reading.{IsHead, FitsFormat}
use Rattle.floor_wire.specs.declared.attribute.Attr.{Attr}
use Rattle.floor_wire.specs.declared.attribute.Body.TheVariants as bodies
use Rattle.floor_wire.specs.declared.fault.Cause.{Cause}
use Rattle.floor_wire.specs.declared.format.Format.{Format}
use Rattle.floor_wire.specs.declared.format.Format.TheVariants.{Unsigned16, OctetString16, Grouped, OctetString}
use Rattle.floor_wire.specs.declared.read.Head.{Head}
use Rattle.floor_wire.proofs.Either.{Sound, sound_of, two_of}
use Rattle.floor_wire.proofs.Found.{content_of-body_of, found_is_spelled}
use Rattle.floor_wire.proofs.ReadSteps.{Spells-joined, front_spelled, kind_is, long_of_good}
use Rattle.floor_wire.proofs.Rewritten.{spelled_writable}
use Rattle.floor_wire.proofs.Spelled.{front_parts, spelled_found}

spelled_is : (a : Attributes) (s : List ℕ) → Spells a s → spelled s ≡ Some a
unfolding spelled
spelled_is a s p = spelled_found (length s) a s (omega arith) p

pub attrs_in_is : (a : Attributes) (s : List ℕ) → Spells a s → attrs_in s ≡ items a
attrs_in_is a s p = ap (λ o. items (or_none o)) (spelled_is a s p)

pub attrs_in_none : (s : List ℕ) → s ≡ [] → attrs_in s ≡ []
attrs_in_none s e = attrs_in_is no_attributes s e

attributes_of-items : (a : Attributes) → attributes_of (items a) ≡ a
attributes_of-items no_attributes = refl
attributes_of-items (attribute kind must c rest) =
    ap (λ x. attribute kind must x (attributes_of (items rest))) (content_of-body_of c) ∙ ap (λ x. attribute kind must c x) (attributes_of-items rest)

seen_is : (a : Attributes) (s : List ℕ) → Spells a s → attributes_of (attrs_in s) ≡ a
seen_is a s p = ap attributes_of (attrs_in_is a s p) ∙ attributes_of-items a

pub group_seen : (s : List ℕ) → IsSpelled s → attributes_of (attrs_in s) ≡ or_none (spelled s)
group_seen s w = seen_is w.0 s w.1 ∙ sym (ap or_none (spelled_is w.0 s w.1))

pub view_spelled : (s : List ℕ) → IsSpelled s → Some (attributes_of (attrs_in s)) ≡ spelled s
view_spelled s w = ap (λ a. Some a) (seen_is w.0 s w.1) ∙ sym (spelled_is w.0 s w.1)

pub view_writable : (s : List ℕ) → IsBytes s → IsSpelled s → IsWritable (attributes_of (attrs_in s))
view_writable s bytes w = subst (λ (a : Attributes). IsWritable a) (sym (seen_is w.0 s w.1)) (spelled_writable w.0 s bytes w.1)

none_by : (s : List ℕ) (o : Option Attributes) → IsBytes s → (IsSpelled s → ⊥) → spelled s ≡ o → None ≡ o
none_by s None bytes none e = refl
none_by s (Some a) bytes none e = absurd (none (a, found_is_spelled s a bytes e))

pub none_spelled : (s : List ℕ) → IsBytes s → (IsSpelled s → ⊥) → None ≡ spelled s
none_spelled s bytes none = none_by s (spelled s) bytes none refl

body_in_is : (c : Content) (s : List ℕ) → SpellsContent c s → body_in (format_of_content c) s ≡ body_of c
body_in_is (num n) s p = ap (λ x. bodies.Num x) (sym p.1)
body_in_is (pair a b) s p = rw p refl
body_in_is (group n i) s p =
    ap (λ x. bodies.Group x (or_none (spelled (drop 2 s)))) (sym p.1) ∙ ap (λ o. bodies.Group n (or_none o)) (spelled_is i (drop 2 s) p.2)
body_in_is (octets os) s p = ap (λ x. bodies.Octets x) p

none_is_empty : (s : List ℕ) → 0 < length s → Spells no_attributes s → ⊥
none_is_empty s some p = absurd (omega (arith, ap length p))

-- the head at the front of what is spelled is whole
front_sound_by : (s : List ℕ) → 0 < length s → (a : Attributes) → Spells a s → Sound s
front_sound_by s some no_attributes p = absurd (none_is_empty s some p)
front_sound_by s some (attribute k m c rest) p = sound_of s (front_parts k m c rest s p).sound

pub front_sound : (s : List ℕ) → 0 < length s → IsSpelled s → Sound s
front_sound s some w = front_sound_by s some w.0 w.1

pub front_is_long : (s : List ℕ) → Sound s → 2 ≤ front_len s
front_is_long s h = long_of_good (format_of (front_kind s)) (front_len s) h.good

-- its contents are such of its format
front_content_by : (s : List ℕ) → 0 < length s → (a : Attributes) → Spells a s → IsContent (format_of (front_kind s)) (slice_range s 2 (front_len s))
front_content_by s some no_attributes p = absurd (none_is_empty s some p)
front_content_by s some (attribute k m c rest) p =
    let parts = front_parts k m c rest s p in
    (c, ap format_of parts.kind ∙ p.0, subst (λ (x : List ℕ). SpellsContent c x) (sym parts.contents) p.1.body)

pub front_content : (s : List ℕ) → 0 < length s → IsSpelled s → IsContent (format_of (front_kind s)) (slice_range s 2 (front_len s))
front_content s some w = front_content_by s some w.0 w.1

-- what stands behind it is spelled too
front_others_by : (s : List ℕ) → 0 < length s → (a : Attributes) → Spells a s → IsSpelled (drop (padded (front_len s)) s)
front_others_by s some no_attributes p = absurd (none_is_empty s some p)
front_others_by s some (attribute k m c rest) p =
    (rest, subst (λ (x : List ℕ). Spells rest x) (sym (front_parts k m c rest s p).after) p.1.others)

pub front_others : (s : List ℕ) → 0 < length s → IsSpelled s → IsSpelled (drop (padded (front_len s)) s)
front_others s some w = front_others_by s some w.0 w.1

-- the attribute at the front, as a view shows it
abbrev pub front_attr : List ℕ → Attr
front_attr s = record { kind = front_kind s; must = get_or s 0 0 % 2 == 1; body = body_in (format_of (front_kind s)) (slice_range s 2 (front_len s)) }

front_shown_by : (s : List ℕ) → 0 < length s → (a : Attributes) → Spells a s → attrs_in s ≡ front_attr s ∷ attrs_in (drop (padded (front_len s)) s)
front_shown_by s some no_attributes p = absurd (none_is_empty s some p)
front_shown_by s some (attribute k m c rest) p =
    let parts = front_parts k m c rest s p in
    let contents = slice_range s 2 (front_len s) in
    let body : body_in (format_of (front_kind s)) contents ≡ body_of c
    = ap (λ x. body_in (format_of x) contents) parts.kind ∙ ap (λ x. body_in (format_of k) x) parts.contents
    ∙ ap (λ f. body_in f p.1.contents) p.0 ∙ body_in_is c p.1.contents p.1.body in
    let others : attrs_in (drop (padded (front_len s)) s) ≡ items rest
    = ap attrs_in parts.after ∙ attrs_in_is rest p.1.after p.1.others in
    let shown : front_attr s ≡ record { kind = k; must = m; body = body_of c }
    = ap (λ x. record (front_attr s) { kind = x }) parts.kind ∙ ap (λ x. record { kind = k; must = x; body = body_in (format_of (front_kind s)) contents }) parts.must
    ∙ ap (λ x. record { kind = k; must = m; body = x }) body in
    attrs_in_is (attribute k m c rest) s p ∙ sym (ap (λ x. x ∷ attrs_in (drop (padded (front_len s)) s)) shown ∙ ap (λ l. record { kind = k; must = m; body = body_of c } ∷ l) others)

pub front_shown : (s : List ℕ) → 0 < length s → IsSpelled s → attrs_in s ≡ front_attr s ∷ attrs_in (drop (padded (front_len s)) s)
front_shown s some w = front_shown_by s some w.0 w.1

-- contents of a group hold attributes behind its number
pub group_is_content : (format : Format) (s : List ℕ) → format ≡ Grouped → FitsFormat format (length s) → IsSpelled (drop 2 s) → IsContent format s
group_is_content Grouped s e fits w = (group (number_of s) w.0, refl, (fits, refl, w.1))
group_is_content Unsigned16 s e fits w = cc
group_is_content OctetString16 s e fits w = cc
group_is_content OctetString s e fits w = cc

group_holds : (s : List ℕ) (c : Content) → Grouped ≡ format_of_content c → SpellsContent c s → IsSpelled (drop 2 s)
group_holds s (group n i) e p = (i, p.2)
group_holds s (num n) e p = cc
group_holds s (pair a b) e p = cc
group_holds s (octets os) e p = cc

pub group_content : (format : Format) (s : List ℕ) → format ≡ Grouped → IsContent format s → IsSpelled (drop 2 s)
group_content format s e w = group_holds s w.0 (sym e ∙ w.1) w.2

-- contents of the other formats are so by their length alone
pub number_is_content : (format : Format) (s : List ℕ) → format ≡ Unsigned16 → FitsFormat format (length s) → IsContent format s
number_is_content Unsigned16 s e fits = (num (number_of s), refl, (fits, refl))
number_is_content Grouped s e fits = cc
number_is_content OctetString16 s e fits = cc
number_is_content OctetString s e fits = cc

pub pair_is_content : (format : Format) (s : List ℕ) → format ≡ OctetString16 → FitsFormat format (length s) → IsContent format s
pair_is_content OctetString16 s e fits = (pair (get_or s 0 0) (get_or s 1 0), refl, two_of s fits)
pair_is_content Grouped s e fits = cc
pair_is_content Unsigned16 s e fits = cc
pair_is_content OctetString s e fits = cc

pub octets_are_content : (format : Format) (s : List ℕ) → format ≡ OctetString → IsContent format s
octets_are_content OctetString s e = (octets s, refl, refl)
octets_are_content Grouped s e = cc
octets_are_content Unsigned16 s e = cc
octets_are_content OctetString16 s e = cc

-- what has a fault at the front is not spelled
fault_by : (s : List ℕ) (cause : Cause) → 0 < length s → front_fault s ≡ Some cause → (a : Attributes) → Spells a s → ⊥
fault_by s cause some e no_attributes p = none_is_empty s some p
fault_by s cause some e (attribute k m c rest) p = let sound = (front_parts k m c rest s p).sound in cc

pub not_spelled : (s : List ℕ) (cause : Cause) → 0 < length s → front_fault s ≡ Some cause → IsSpelled s → ⊥
not_spelled s cause some e w = fault_by s cause some e w.0 w.1

module _ (s : List ℕ) (head : Head) (h : IsHead s head) where
  kind_same : front_kind s ≡ head.kind
  kind_same = kind_is (get_or s 0 0) head.kind head.must h.first

  pub head_content : 0 < length s → IsSpelled s → IsContent (format_of head.kind) (slice_range s 2 head.len)
  head_content some w =
      let P : ℕ → Type 0 = λ x. IsContent (format_of x) (slice_range s 2 head.len) in
      let Q : ℕ → Type 0 = λ x. IsContent (format_of (front_kind s)) (slice_range s 2 x) in
      subst P kind_same (subst Q h.len (front_content s some w))

  pub head_others : 0 < length s → IsSpelled s → IsSpelled (drop head.end s)
  head_others some w = let P : ℕ → Type 0 = λ x. IsSpelled (drop x s) in
      subst P (ap padded h.len ∙ h.end) (front_others s some w)

  -- with contents, and what is spelled behind it, it is spelled
  pub head_joined : IsContent (format_of head.kind) (slice_range s 2 head.len) → IsSpelled (drop head.end s) → IsSpelled s
  head_joined i w =
      let same = content_of-body_of i.0 in
      let front = front_spelled s head (body_of i.0) h (record {
        format_is = i.1 ∙ ap format_of_content (sym same);
        spelled = subst (λ (c : Content). SpellsContent c (slice_range s 2 head.len)) (sym same) i.2;
      }) in
      let all = Spells-joined (attributes_of (record { kind = head.kind; must = head.must; body = body_of i.0 } ∷ [])) w.0 (take head.end s) (drop head.end s) front.spelled w.1 in
      let a = attribute head.kind head.must (content_of (body_of i.0)) w.0 in
      (a, subst (λ (t : List ℕ). Spells a t) (take-append-drop head.end s) all)
