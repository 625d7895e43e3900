-- The attributes that are computed of bytes are spelled by them.
use Rattle.std.proofs.Common.{◌≡◌, ℕ, zero, suc, ◌+◌, ◌-◌, ◌%◌, Bool, false, List, [], ◌∷◌, length, take, drop, get_or, refl, sym, ◌∙◌, ap, subst, arith, Option, Some, None, length-drop}
use Rattle.std.proofs.lemmas.List.{length-take-le, take-append-drop}
use Rattle.std.proofs.lemmas.Bool.Decides.{nat_tests}
use Rattle.std.specs.Prelude.{◌==◌, option_map}
use Rattle.std.specs.List.{slice_range}
use Rattle.floor_wire.specs.Attributes.{Content, num, pair, group, octets, Attributes, no_attributes, attribute}
use Rattle.floor_wire.specs.View.{content_of, body_of}
use Rattle.floor_wire.specs.Spelling.{format_of, format_of_content, number_of, Spells, SpellsContent}
use Rattle.floor_wire.specs.Bytes.{IsBytes}
use Rattle.floor_wire.specs.Fault.{is_bad_length, padded, front_kind, front_len, front_fault}
use Rattle.floor_wire.specs.steps.Reading.{FitsFormat}
use Rattle.floor_wire.specs.Spelled.{content_in, in_front, front_first, spelled_within, spelled}
use Rattle.floor_wire.specs.declared.format.Format.{Format}
use Rattle.floor_wire.specs.declared.format.Format.TheVariants.{Unsigned16, OctetString16, Grouped, OctetString}
use Rattle.floor_wire.specs.declared.fault.Cause.{Cause}
use Rattle.floor_wire.proofs.ReadSteps.{Spells-joined, front_spelled, kind_is}
use Rattle.floor_wire.proofs.Either.{head_for, sound_of, two_of}
use Rattle.floor_wire.proofs.Rewritten.{IsBytes-drop, IsBytes-take}
use Rattle.floor_wire.proofs.Spelled.{must_of_first}

-- what an option that was mapped held
mapped_some : {A B : Type 0} (f : A → B) (o : Option A) (y : B) → option_map f o ≡ Some y → (x : A) × (o ≡ Some x) × (f x ≡ y)
mapped_some f None y e = absurd (cc)
mapped_some f (Some x) y e = (x, refl, cc)

-- the parts of a list that was put together of a front and others
in_front_some : (kind : ℕ) (must : Bool) (content : Option Content) (rest : Option Attributes) (a : Attributes) → in_front kind must content rest ≡ Some a
    → (c : Content) × (r : Attributes) × (content ≡ Some c) × (rest ≡ Some r) × (attribute kind must c r ≡ a)
in_front_some kind must None rest a e = absurd (cc)
in_front_some kind must (Some c) None a e = absurd (cc)
in_front_some kind must (Some c) (Some r) a e = (c, r, refl, refl, cc)

-- contents with a Length of their format
fits_format : (format : Format) (len size : ℕ) → is_bad_length format len ≡ false → size ≡ len - 2 → FitsFormat format size
fits_format Unsigned16 len size good e = grind (arith, nat_tests)
fits_format OctetString16 len size good e = grind (arith, nat_tests)
fits_format Grouped len size good e = grind (arith, nat_tests)
fits_format OctetString len size good e = tt

-- the content that is computed of contents is spelled by them
content_found : (format : Format) (contents : List ℕ) (others : List ℕ → Option Attributes) (c : Content) → FitsFormat format (length contents)
    → ((i : Attributes) → others (drop 2 contents) ≡ Some i → Spells i (drop 2 contents)) → content_in format contents others ≡ Some c
    → (format ≡ format_of_content c) × SpellsContent c contents
content_found Unsigned16 contents others c fits inside e =
    let P : Content → Type 0 = λ x. (Unsigned16 ≡ format_of_content x) × SpellsContent x contents in
    let is : num (number_of contents) ≡ c = cc in subst P is (refl, (fits, refl))
content_found OctetString16 contents others c fits inside e =
    let P : Content → Type 0 = λ x. (OctetString16 ≡ format_of_content x) × SpellsContent x contents in
    let is : pair (get_or contents 0 0) (get_or contents 1 0) ≡ c = cc in subst P is (refl, two_of contents fits)
content_found Grouped contents others c fits inside e =
    let P : Content → Type 0 = λ x. (Grouped ≡ format_of_content x) × SpellsContent x contents in
    let included = mapped_some (group (number_of contents)) (others (drop 2 contents)) c e in
    subst P included.2 (refl, (fits, refl, inside included.0 included.1))
content_found OctetString contents others c fits inside e =
    let P : Content → Type 0 = λ x. (OctetString ≡ format_of_content x) × SpellsContent x contents in
    let is : octets contents ≡ c = cc in subst P is (refl, refl)

pub content_of-body_of : (c : Content) → content_of (body_of c) ≡ c
content_of-body_of (num n) = refl
content_of-body_of (pair a b) = refl
content_of-body_of (group n i) = refl
content_of-body_of (octets os) = refl

-- what is computed of shorter bytes is spelled by them
abbrev IsFoundBelow : ℕ → Type 0
IsFoundBelow n = (t : List ℕ) (a : Attributes) → IsBytes t → spelled_within n t ≡ Some a → Spells a t

by_front : (n : ℕ) (s : List ℕ) (a : Attributes) → IsFoundBelow n → IsBytes s → (o : Option Cause) → front_fault s ≡ o
    → front_first o s (λ t. spelled_within n t) ≡ Some a → Spells a s
by_front n s a below bytes (Some cause) fault e = absurd (cc)
by_front n s a below bytes None sound e =
    let others : List ℕ → Option Attributes = λ t. spelled_within n t in
    let parts = in_front_some (front_kind s) (get_or s 0 0 % 2 == 1) (content_in (format_of (front_kind s)) (slice_range s 2 (front_len s)) others)
    (others (drop (padded (front_len s)) s)) a e in
    let found = head_for s bytes (sound_of s sound) in
    let head = found.0 in
    let h = found.1 in
    let kind : front_kind s ≡ head.kind = kind_is (get_or s 0 0) head.kind head.must h.first in
    let must : (get_or s 0 0 % 2 == 1) ≡ head.must = ap (λ x. x % 2 == 1) h.first ∙ must_of_first head.kind head.must in
    let end : padded (front_len s) ≡ head.end = ap padded h.len ∙ h.end in
    let end_is : head.len + (4 - head.len % 4) % 4 ≡ head.end = h.end in
    let contents = slice_range s 2 head.len in
    let size : length contents ≡ head.len - 2 = length-take-le (head.len - 2) (drop 2 s) (omega (arith, length-drop 2 s, h.whole, end_is)) in
    let content : content_in (format_of head.kind) contents others ≡ Some parts.0
    = ap (λ k. content_in (format_of k) contents others) (sym kind) ∙ ap (λ len. content_in (format_of (front_kind s)) (slice_range s 2 len) others) (sym h.len) ∙ parts.2 in
    let body = content_found (format_of head.kind) contents others parts.0 (fits_format (format_of head.kind) head.len (length contents) h.good size)
    (λ i t. below (drop 2 contents) i (IsBytes-drop 2 contents (IsBytes-take (head.len - 2) (drop 2 s) (IsBytes-drop 2 s bytes))) t) content in
    let same = content_of-body_of parts.0 in
    let front = front_spelled s head (body_of parts.0) h (record {
      format_is = body.0 ∙ ap format_of_content (sym same);
      spelled = subst (λ (c : Content). SpellsContent c contents) (sym same) body.1;
    }) in
    let rest : Spells parts.1 (drop head.end s)
    = subst (λ (t : List ℕ). Spells parts.1 t) (ap (λ k. drop k s) end) (below (drop (padded (front_len s)) s) parts.1 (IsBytes-drop (padded (front_len s)) s bytes) parts.3) in
    let whole = Spells-joined (attribute head.kind head.must (content_of (body_of parts.0)) no_attributes) parts.1 (take head.end s) (drop head.end s) front.spelled rest in
    let is : attribute head.kind head.must (content_of (body_of parts.0)) parts.1 ≡ a
    = ap (λ c. attribute head.kind head.must c parts.1) same ∙ ap (λ k. attribute k head.must parts.0 parts.1) (sym kind)
    ∙ ap (λ m. attribute (front_kind s) m parts.0 parts.1) (sym must) ∙ parts.4 in
    subst (λ (x : Attributes). Spells x s) is (subst (λ (t : List ℕ). Spells (attribute head.kind head.must (content_of (body_of parts.0)) parts.1) t) (take-append-drop head.end s) whole)

found_within : (n : ℕ) (s : List ℕ) (a : Attributes) → IsBytes s → spelled_within n s ≡ Some a → Spells a s
unfolding spelled_within
found_within n [] a bytes e = let is : no_attributes ≡ a = cc in subst (λ (x : Attributes). Spells x []) is refl
found_within zero (b ∷ s) a bytes e = absurd (cc)
found_within (suc n) (b ∷ s) a bytes e = by_front n (b ∷ s) a (λ t x h f. found_within n t x h f) bytes (front_fault (b ∷ s)) refl e

-- what is computed of bytes is spelled by them
pub found_is_spelled : (s : List ℕ) (a : Attributes) → IsBytes s → spelled s ≡ Some a → Spells a s
unfolding spelled
found_is_spelled s a bytes e = found_within (length s) s a bytes e
