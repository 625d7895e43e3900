-- One attribute of a list, and the list up to it.
use Rattle.std.proofs.Common.{◌≡◌, ℕ, zero, suc, ◌+◌, ◌<◌, ◌≤◌, List, [], ◌∷◌, ◌++◌, length, take, get_or, sym, ◌∙◌, ap, arith, append_assoc, subst, length-append}
use Rattle.std.proofs.lemmas.List.{take_more, append-nil}
use Rattle.floor_wire.specs.declared.attribute.Attr.{Attr}
use Rattle.floor_wire.specs.Bytes.{IsContentOfBytes, IsOfBytes}
use Rattle.floor_wire.specs.Attributes.{content_size, attributes_size}
use Rattle.floor_wire.specs.View.{content_of, attributes_of}
use Rattle.floor_wire.specs.steps.Writable.{IsWritableAttribute, attribute_bytes, IsShort}
use Rattle.floor_wire.specs.Spelling.{canon, IsWritable}

-- the body of an element is smaller than the list
pub content_size_at : (xs : List Attr) (i : ℕ) (d : Attr) → i < length xs
    → content_size (content_of (get_or xs i d).body) < attributes_size (attributes_of xs)
content_size_at [] i d h = absurd (omega arith)
content_size_at (x ∷ xs) zero d h = omega arith
content_size_at (x ∷ xs) (suc i) d h = omega (arith, content_size_at xs i d (omega arith))

-- what the loop over the attributes needs of the next
pub record NextIs (xs : List Attr) (a : Attr) : Type 0 where
  pub smaller : content_size (content_of a.body) < attributes_size (attributes_of xs)
  pub writable : IsWritableAttribute a

pub IsWritableAttribute-at : (xs : List Attr) (i : ℕ) (d : Attr) → i < length xs → IsWritable (attributes_of xs) → IsWritableAttribute (get_or xs i d)
IsWritableAttribute-at [] i d h w = absurd (omega arith)
IsWritableAttribute-at (x ∷ xs) zero d h w = record { kind = w.0; format = w.1; len = w.2; content = w.3 }
IsWritableAttribute-at (x ∷ xs) (suc i) d h w = IsWritableAttribute-at xs i d (omega arith) w.4

pub NextIs-at : (xs : List Attr) (i : ℕ) (a : Attr) → i < length xs → a ≡ get_or xs i a → IsWritable (attributes_of xs) → NextIs xs a
NextIs-at xs i a h e w = let P : Attr → Type 0 = λ x. NextIs xs x in
    subst P (sym e) (record { smaller = content_size_at xs i a h; writable = IsWritableAttribute-at xs i a h w })

canon-attributes_of-append : (xs : List Attr) (a : Attr) → canon (attributes_of (xs ++ a ∷ [])) ≡ canon (attributes_of xs) ++ attribute_bytes a
canon-attributes_of-append [] a = append-nil (attribute_bytes a)
canon-attributes_of-append (x ∷ xs) a = ap (λ t. attribute_bytes x ++ t) (canon-attributes_of-append xs a) ∙ sym (append_assoc (attribute_bytes x) (canon (attributes_of xs)) (attribute_bytes a))

pub canon-attributes_of-take : (xs : List Attr) (i : ℕ) (a : Attr) → i < length xs → a ≡ get_or xs i a
    → canon (attributes_of (take (i + 1) xs)) ≡ canon (attributes_of (take i xs)) ++ attribute_bytes a
canon-attributes_of-take xs i a h e =
    ap (λ l. canon (attributes_of l)) (take_more xs i a h ∙ ap (λ x. take i xs ++ x ∷ []) (sym e)) ∙ canon-attributes_of-append (take i xs) a

writable_append : (xs : List Attr) (a : Attr) → IsWritable (attributes_of xs) → IsWritableAttribute a → IsWritable (attributes_of (xs ++ a ∷ []))
writable_append [] a w h = (h.kind, h.format, h.len, h.content, tt)
writable_append (x ∷ xs) a w h = (w.0, w.1, w.2, w.3, writable_append xs a w.4 h)

-- one more writable attribute
pub writable_more : (xs : List Attr) (i : ℕ) (a : Attr) → i < length xs → a ≡ get_or xs i a → IsWritable (attributes_of (take i xs)) → IsWritableAttribute a
    → IsWritable (attributes_of (take (i + 1) xs))
writable_more xs i a h e w s = let P : List Attr → Type 0 = λ l. IsWritable (attributes_of l) in
    subst P (sym (take_more xs i a h ∙ ap (λ x. take i xs ++ x ∷ []) (sym e))) (writable_append (take i xs) a w s)

bytes_append : (xs : List Attr) (a : Attr) → IsOfBytes (attributes_of xs) → IsContentOfBytes (content_of a.body) → IsOfBytes (attributes_of (xs ++ a ∷ []))
bytes_append [] a w h = (h, tt)
bytes_append (x ∷ xs) a w h = (w.0, bytes_append xs a w.1 h)

-- one more attribute of bytes
pub bytes_more : (xs : List Attr) (i : ℕ) (a : Attr) → i < length xs → a ≡ get_or xs i a → IsOfBytes (attributes_of (take i xs)) → IsContentOfBytes (content_of a.body)
    → IsOfBytes (attributes_of (take (i + 1) xs))
bytes_more xs i a h e w s = let P : List Attr → Type 0 = λ l. IsOfBytes (attributes_of l) in
    subst P (sym (take_more xs i a h ∙ ap (λ x. take i xs ++ x ∷ []) (sym e))) (bytes_append (take i xs) a w s)

-- one attribute that has no spelling is enough
pub not_writable : (xs : List Attr) (i : ℕ) (a : Attr) → i < length xs → a ≡ get_or xs i a → (IsWritableAttribute a → ⊥) → IsWritable (attributes_of xs) → ⊥
not_writable xs i a h e none w = none (NextIs-at xs i a h e w).writable

canon_take_le : (xs : List Attr) (i : ℕ) → length (canon (attributes_of (take i xs))) ≤ length (canon (attributes_of xs))
canon_take_le [] zero = omega arith
canon_take_le [] (suc i) = omega arith
canon_take_le (x ∷ xs) zero = omega arith
canon_take_le (x ∷ xs) (suc i) =
    omega (arith, length-append (attribute_bytes x) (canon (attributes_of (take i xs))), length-append (attribute_bytes x) (canon (attributes_of xs)), canon_take_le xs i)

pub canon_more_len : (xs : List Attr) (i : ℕ) (a : Attr) → i < length xs → a ≡ get_or xs i a
    → length (canon (attributes_of (take (i + 1) xs))) ≡ length (canon (attributes_of (take i xs))) + length (attribute_bytes a)
canon_more_len xs i a h e = ap length (canon-attributes_of-take xs i a h e) ∙ length-append (canon (attributes_of (take i xs))) (attribute_bytes a)

-- a front that is too long makes the list too long
pub too_long : (xs : List Attr) (i most : ℕ) (a : Attr) → i < length xs → a ≡ get_or xs i a
    → most < length (canon (attributes_of (take i xs))) + length (attribute_bytes a) → IsShort xs most → ⊥
too_long xs i most a h e long short = absurd (omega (arith, long, short.1, canon_more_len xs i a h e, canon_take_le xs (i + 1)))

pub smaller_at : (xs : List Attr) (i : ℕ) (a : Attr) → i < length xs → a ≡ get_or xs i a → content_size (content_of a.body) < attributes_size (attributes_of xs)
smaller_at xs i a h e = let P : Attr → Type 0 = λ x. content_size (content_of x.body) < attributes_size (attributes_of xs) in
    subst P (sym e) (content_size_at xs i a h)
