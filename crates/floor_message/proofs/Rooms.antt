-- What is left of room behind one attribute, and behind one list after another.
use Rattle.std.proofs.Common.{◌≡◌, ℕ, zero, suc, ◌+◌, ◌-◌, ◌*◌, ◌^◌, ◌<◌, ◌≤◌, ◌%◌, Bool, false, List, [], ◌∷◌, ◌++◌, length, take, drop, map, get_or, Option, Some, None, refl, sym, ◌∙◌, ap, subst, arith, length-append, append_assoc}
use Rattle.std.specs.Prelude.{All, SomeIff}
use Rattle.std.specs.Int.{w16, to_be_bytes, next_multiple_of}
use Rattle.std.proofs.lemmas.List.{length-replicate, take_more, take-append-drop, map-append}
use Rattle.floor_wire.specs.Attributes.{Content, num, pair, Attributes, no_attributes, attribute}
use Rattle.floor_wire.specs.Attributes as wire
use Rattle.floor_wire.specs.Bytes.{IsBytes, IsOfBytes}
use Rattle.floor_wire.specs.Spelling.{canon, content_canon, written, zeros_after, format_of, IsWritable}
use Rattle.floor_wire.specs.View.{attributes_of, content_of}
use Rattle.floor_wire.specs.declared.attribute.Attr.{Attr}
use Rattle.floor_wire.specs.declared.attribute.Body.TheVariants.{Num, Pair}
use Rattle.floor_wire.specs.declared.format.Format.TheVariants.{Unsigned16, OctetString16, Grouped, OctetString}
use Rattle.floor_message.specs.steps.Leaves.{Leaves}
use Rattle.floor_message.specs.Written.{plain, octets, group}

-- an attribute takes its head and its contents, up to a multiple of 4
pub length-written : (kind : ℕ) (must : Bool) (bytes : List ℕ) → length (written kind must bytes) ≡ next_multiple_of (2 + length bytes) 4
length-written kind must bytes =
    omega (arith, length-append bytes (zeros_after (length bytes)), length-replicate {A = ℕ} ((4 - (2 + length bytes) % 4) % 4) 0)

pub length-one : (kind : ℕ) (must : Bool) (c : Content) → length (canon (attribute kind must c no_attributes)) ≡ next_multiple_of (2 + length (content_canon c)) 4
length-one kind must c = omega (arith, length-append (written kind must (content_canon c)) [], length-written kind must (content_canon c))

-- attributes take a multiple of 4 bytes
pub canon_aligned : (a : Attributes) → length (canon a) % 4 ≡ 0
canon_aligned no_attributes = refl
canon_aligned (attribute kind must c rest) =
    omega (arith, length-append (written kind must (content_canon c)) (canon rest), length-written kind must (content_canon c), canon_aligned rest)

pub canon-append : (xs ys : List Attr) → canon (attributes_of (xs ++ ys)) ≡ canon (attributes_of xs) ++ canon (attributes_of ys)
canon-append [] ys = refl
canon-append (x ∷ xs) ys =
    ap (λ l. written x.kind x.must (content_canon (content_of x.body)) ++ l) (canon-append xs ys)
    ∙ sym (append_assoc (written x.kind x.must (content_canon (content_of x.body))) (canon (attributes_of xs)) (canon (attributes_of ys)))

pub length-canon-append : (xs ys : List Attr) → length (canon (attributes_of (xs ++ ys))) ≡ length (canon (attributes_of xs)) + length (canon (attributes_of ys))
length-canon-append xs ys = ap length (canon-append xs ys) ∙ length-append (canon (attributes_of xs)) (canon (attributes_of ys))

pub writable_append : (xs ys : List Attr) → IsWritable (attributes_of xs) → IsWritable (attributes_of ys) → IsWritable (attributes_of (xs ++ ys))
writable_append [] ys w v = v
writable_append (x ∷ xs) ys w v = (w.0, w.1, w.2, w.3, writable_append xs ys w.4 v)

pub writable_front : (xs ys : List Attr) → IsWritable (attributes_of (xs ++ ys)) → IsWritable (attributes_of xs)
writable_front [] ys w = tt
writable_front (x ∷ xs) ys w = (w.0, w.1, w.2, w.3, writable_front xs ys w.4)

pub writable_back : (xs ys : List Attr) → IsWritable (attributes_of (xs ++ ys)) → IsWritable (attributes_of ys)
writable_back [] ys w = w
writable_back (x ∷ xs) ys w = writable_back xs ys w.4

pub bytes_append : (xs ys : List Attr) → IsOfBytes (attributes_of xs) → IsOfBytes (attributes_of ys) → IsOfBytes (attributes_of (xs ++ ys))
bytes_append [] ys w v = v
bytes_append (x ∷ xs) ys w v = (w.0, bytes_append xs ys w.1 v)

-- behind two lists is left what is left behind the second of what is left behind the first
pub leaves_append : (xs ys : List Attr) (room middle : ℕ) (r : Option ℕ) → Leaves xs room (Some middle) → Leaves ys middle r → Leaves (xs ++ ys) room r
leaves_append xs ys room middle None p q = λ f. q (record { writable = writable_back xs ys f.writable; bytes = omega (arith, p.1, f.bytes, length-canon-append xs ys) })
leaves_append xs ys room middle (Some left) p q = (writable_append xs ys p.0 q.0, omega (arith, p.1, q.1, length-canon-append xs ys), bytes_append xs ys p.2 q.2)

-- what doesn't fit doesn't fit with more behind it
pub leaves_none : (xs ys : List Attr) (room : ℕ) → Leaves xs room None → Leaves (xs ++ ys) room None
leaves_none xs ys room p = λ f. p (record { writable = writable_front xs ys f.writable; bytes = omega (arith, f.bytes, length-canon-append xs ys) })

-- types below 128, doubled, are bytes
pub doubled_bytes : (types : List ℕ) → All (λ kind. kind < 128) types → IsBytes (map (λ k. 2 * k) types)
doubled_bytes [] h i = omega arith
doubled_bytes (k ∷ ks) h zero = omega (arith, h 0 k (omega arith))
doubled_bytes (k ∷ ks) h (suc i) = doubled_bytes ks (λ j d l. h (suc j) d (omega arith)) i

-- no attributes leave all room
pub leaves_all : (room : ℕ) → Leaves [] room (Some room)
leaves_all room = (tt, omega arith, tt)

-- behind an attribute of two bytes
pub pair_leaves : (kind a b room : ℕ) (r : Option ℕ) → kind < 128 → format_of kind ≡ OctetString16 → a < 256 → b < 256 → SomeIff r (4 ≤ room) (room - 4) → Leaves (plain kind (Pair a b) ∷ []) room r
pair_leaves kind a b room None k f m n s = λ p. s p.bytes
pair_leaves kind a b room (Some left) k f m n s = ((k, f, omega arith, tt, tt), omega (arith, s.0, s.1), ((m, n), tt))

-- behind an attribute that is a number
pub number_leaves : (kind n room : ℕ) (r : Option ℕ) → kind < 128 → format_of kind ≡ Unsigned16 → n < 2 ^ 16 → SomeIff r (4 ≤ room) (room - 4) → Leaves (plain kind (Num n) ∷ []) room r
number_leaves kind n room None k f h s = λ p. s p.bytes
number_leaves kind n room (Some left) k f h s = ((k, f, omega arith, h, tt), omega (arith, s.0, s.1), (tt, tt))

-- behind octets
pub octets_leave : (kind : ℕ) (bytes : List ℕ) (room : ℕ) (r : Option ℕ) → kind < 128 → format_of kind ≡ OctetString → length bytes ≤ 253 → IsBytes bytes
    → SomeIff r (next_multiple_of (2 + length bytes) 4 ≤ room) (room - next_multiple_of (2 + length bytes) 4) → Leaves (octets kind bytes ∷ []) room r
octets_leave kind bytes room None k f h m s = λ p. s (omega (arith, p.bytes, length-one kind false (wire.octets bytes)))
octets_leave kind bytes room (Some left) k f h m s = ((k, f, omega arith, tt, tt), omega (arith, s.0, s.1, length-one kind false (wire.octets bytes)), (m, tt))

pub octets_too_long : (kind : ℕ) (bytes : List ℕ) (room : ℕ) → 253 < length bytes → Leaves (octets kind bytes ∷ []) room None
octets_too_long kind bytes room h = λ p. absurd (omega (arith, p.writable.2))

pub length-group : (kind n : ℕ) (inside : List Attr) → length (canon (attributes_of (group kind n inside ∷ []))) ≡ 4 + length (canon (attributes_of inside))
length-group kind n inside =
    omega (arith, length-one kind false (wire.group n (attributes_of inside)), canon_aligned (attributes_of inside), length-append (to_be_bytes w16 n) (canon (attributes_of inside)))

-- behind a group, by what is left inside it
pub group_leaves : (kind n : ℕ) (inside : List Attr) (room left : ℕ) (r : Option ℕ) → kind < 128 → format_of kind ≡ Grouped → n < 2 ^ 16 → Leaves inside 248 (Some left)
    → SomeIff r (252 - left ≤ room) (room - (252 - left)) → Leaves (group kind n inside ∷ []) room r
group_leaves kind n inside room left None k f h i s = λ p. s (omega (arith, p.bytes, i.1, length-group kind n inside))
group_leaves kind n inside room left (Some rest) k f h i s =
    ((k, f, omega (arith, i.1, length-append (to_be_bytes w16 n) (canon (attributes_of inside))), (h, i.0), tt), omega (arith, s.0, s.1, i.1, length-group kind n inside), (i.2, tt))

pub group_too_long : (kind n : ℕ) (inside : List Attr) (room : ℕ) → Leaves inside 248 None → Leaves (group kind n inside ∷ []) room None
group_too_long kind n inside room i = λ p. i (record {
  writable = p.writable.3.1;
  bytes = omega (arith, p.writable.2, canon_aligned (attributes_of inside), length-append (to_be_bytes w16 n) (canon (attributes_of inside)));
})

pub map_take_more : {A : Type 0} (f : A → Attr) (xs : List A) (i : ℕ) (x d : A) → i < length xs → x ≡ get_or xs i d → map f (take (i + 1) xs) ≡ map f (take i xs) ++ f x ∷ []
map_take_more f xs i x d h e =
    ap (λ l. map f l) (take_more xs i d h) ∙ map-append f (take i xs) (get_or xs i d ∷ []) ∙ ap (λ y. map f (take i xs) ++ f y ∷ []) (sym e)

-- one more of a list of values
pub leaves_more : {A : Type 0} (f : A → Attr) (xs : List A) (i : ℕ) (x d : A) (room left : ℕ) (r : Option ℕ) → i < length xs → x ≡ get_or xs i d
    → Leaves (map f (take i xs)) room (Some left) → Leaves (f x ∷ []) left r → Leaves (map f (take (i + 1) xs)) room r
leaves_more f xs i x d room left r h e p q =
    let P : List Attr → Type 0 = λ l. Leaves l room r in
    subst P (sym (map_take_more f xs i x d h e)) (leaves_append (map f (take i xs)) (f x ∷ []) room left r p q)

-- one of a list of values doesn't fit
pub leaves_stopped : {A : Type 0} (f : A → Attr) (xs : List A) (i : ℕ) (x d : A) (room left : ℕ) → i < length xs → x ≡ get_or xs i d
    → Leaves (map f (take i xs)) room (Some left) → Leaves (f x ∷ []) left None → Leaves (map f xs) room None
leaves_stopped f xs i x d room left h e p q =
    let P : List Attr → Type 0 = λ l. Leaves l room None in
    subst P (sym (map-append f (take (i + 1) xs) (drop (i + 1) xs)) ∙ ap (λ l. map f l) (take-append-drop (i + 1) xs))
    (leaves_none (map f (take (i + 1) xs)) (map f (drop (i + 1) xs)) room (leaves_more f xs i x d room left None h e p q))

-- what is answered where it doesn't fit
pub leaves_told : (xs : List Attr) (room : ℕ) (r : Option ℕ) → r ≡ None → Leaves xs room None → Leaves xs room r
leaves_told xs room r e p = let P : Option ℕ → Type 0 = λ o. Leaves xs room o in subst P (sym e) p

-- the six parts inside FLOOR-REQUEST-INFORMATION, one after another
module _ (a b c d e f : List Attr) (room : ℕ) where
  pub stopped_2 : (m : ℕ) → Leaves a room (Some m) → Leaves b m None → Leaves (a ++ b ++ c ++ d ++ e ++ f) room None
  stopped_2 m p q = leaves_none (a ++ b ++ c ++ d ++ e) f room (leaves_none (a ++ b ++ c ++ d) e room (leaves_none (a ++ b ++ c) d room (leaves_none (a ++ b) c room (leaves_append a b room m None p q))))

  pub stopped_3 : (m n : ℕ) → Leaves a room (Some m) → Leaves b m (Some n) → Leaves c n None → Leaves (a ++ b ++ c ++ d ++ e ++ f) room None
  stopped_3 m n p q r = leaves_none (a ++ b ++ c ++ d ++ e) f room (leaves_none (a ++ b ++ c ++ d) e room (leaves_none (a ++ b ++ c) d room
      (leaves_append (a ++ b) c room n None (leaves_append a b room m (Some n) p q) r)))

  pub stopped_4 : (m n o : ℕ) → Leaves a room (Some m) → Leaves b m (Some n) → Leaves c n (Some o) → Leaves d o None → Leaves (a ++ b ++ c ++ d ++ e ++ f) room None
  stopped_4 m n o p q r s = leaves_none (a ++ b ++ c ++ d ++ e) f room (leaves_none (a ++ b ++ c ++ d) e room
      (leaves_append (a ++ b ++ c) d room o None (leaves_append (a ++ b) c room n (Some o) (leaves_append a b room m (Some n) p q) r) s))

  pub stopped_5 : (m n o k : ℕ) → Leaves a room (Some m) → Leaves b m (Some n) → Leaves c n (Some o) → Leaves d o (Some k) → Leaves e k None
      → Leaves (a ++ b ++ c ++ d ++ e ++ f) room None
  stopped_5 m n o k p q r s t = leaves_none (a ++ b ++ c ++ d ++ e) f room
      (leaves_append (a ++ b ++ c ++ d) e room k None (leaves_append (a ++ b ++ c) d room o (Some k) (leaves_append (a ++ b) c room n (Some o) (leaves_append a b room m (Some n) p q) r) s) t)

  pub six_leave : (m n o k l : ℕ) (left : Option ℕ) → Leaves a room (Some m) → Leaves b m (Some n) → Leaves c n (Some o) → Leaves d o (Some k) → Leaves e k (Some l) → Leaves f l left
      → Leaves (a ++ b ++ c ++ d ++ e ++ f) room left
  six_leave m n o k l left p q r s t u = leaves_append (a ++ b ++ c ++ d ++ e) f room l left
      (leaves_append (a ++ b ++ c ++ d) e room k (Some l) (leaves_append (a ++ b ++ c) d room o (Some k) (leaves_append (a ++ b) c room n (Some o) (leaves_append a b room m (Some n) p q) r) s) t) u
