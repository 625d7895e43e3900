-- Bytes spell at most one list of attributes, or have one fault, and never both.
use Rattle.std.proofs.Common.{◌≡◌, ℕ, ◌+◌, ◌-◌, ◌/◌, ◌%◌, ◌<◌, ◌≤◌, Bool, true, false, List, [], ◌∷◌, ◌++◌, length, take, drop, get_or, refl, sym, ◌∙◌, ap, subst, arith, append_assoc, length-append, length-drop, Some, None}
use Rattle.std.proofs.lemmas.List.{append-nil, take_at, drop_at, drop-append-le}
use Rattle.std.proofs.lemmas.Bool.{le-ltb}
use Rattle.std.specs.List.{slice_range}
use Rattle.floor_wire.specs.Attributes.{Content, num, pair, group, octets, Attributes, no_attributes, attribute}
use Rattle.floor_wire.specs.Spelling.{format_of, format_of_content, first_byte, Spells, SpellsContent, SpellsFirst}
use Rattle.std.proofs.lemmas.Bool.Decides.{nat_tests}
use Rattle.floor_wire.specs.Fault.{is_bad_length, padded, front_kind, front_len, front_fault, HasFault, itself, inside}
use Rattle.floor_wire.specs.declared.fault.Cause.{Cause}
use Rattle.floor_wire.specs.declared.format.Format.TheVariants.{Grouped}

same_front : (a b x y : List ℕ) → length a ≡ length b → a ++ x ≡ b ++ y → (a ≡ b) × (x ≡ y)
same_front a b x y l e = (
  sym (take_at a x (length a) refl) ∙ ap (λ s. take (length a) s) e ∙ take_at b y (length a) (sym l),
  sym (drop_at a x (length a) refl) ∙ ap (λ s. drop (length a) s) e ∙ drop_at b y (length a) (sym l),
)

same_first_byte : (k l : ℕ) (m n : Bool) → first_byte k m ≡ first_byte l n → (k ≡ l) × (m ≡ n)
same_first_byte k l true true e = (omega arith, refl)
same_first_byte k l false false e = (omega arith, refl)
same_first_byte k l true false e = absurd (omega arith)
same_first_byte k l false true e = absurd (omega arith)

same_padding : (n p q : ℕ) → p < 4 → q < 4 → (2 + n + p) % 4 ≡ 0 → (2 + n + q) % 4 ≡ 0 → p ≡ q
same_padding n p q hp hq ep eq = omega arith

-- Bytes that begin with an attribute tell its parts.
pub record SameFirst (k l : ℕ) (m n : Bool) (c d u v : List ℕ) : Type 0 where
  pub kind : k ≡ l
  pub must : m ≡ n
  pub contents : c ≡ d
  pub after : u ≡ v

same_first : (k l : ℕ) (m n : Bool) (c d p q u v : List ℕ) → length p < 4 → length q < 4
    → (2 + length c + length p) % 4 ≡ 0 → (2 + length d + length q) % 4 ≡ 0
    → first_byte k m ∷ (2 + length c) ∷ (c ++ p ++ u) ≡ first_byte l n ∷ (2 + length d) ∷ (d ++ q ++ v)
    → SameFirst k l m n c d u v
same_first k l m n c d p q u v hp hq ap_ aq e =
    let first : first_byte k m ≡ first_byte l n = cc in
    let lens : 2 + length c ≡ 2 + length d = cc in
    let others : c ++ p ++ u ≡ d ++ q ++ v = cc in
    let len : length c ≡ length d = omega (arith, lens) in
    let pad : length p ≡ length q = same_padding (length c) (length p) (length q) hp hq ap_ (ap (λ x. (2 + x + length q) % 4) len ∙ aq) in
    let fronts = same_front (c ++ p) (d ++ q) u v (omega (arith, length-append c p, length-append d q, len, pad)) others in
    record {
      kind = (same_first_byte k l m n first).0;
      must = (same_first_byte k l m n first).1;
      contents = (same_front c d p q len fronts.0).0;
      after = fronts.1;
    }

mutual
  content_unique : (a b : Content) (s : List ℕ) → format_of_content a ≡ format_of_content b → SpellsContent a s → SpellsContent b s → a ≡ b
  content_unique (num n) (num m) s e p q = ap num (p.1 ∙ sym q.1)
  content_unique (pair n m) (pair k l) s e p q = cc
  content_unique (group n i) (group m j) s e p q = let heads : n ≡ m = p.1 ∙ sym q.1 in let rests : i ≡ j = unique i j (drop 2 s) p.2 q.2 in cc
  content_unique (octets os) (octets ps) s e p q = cc
  content_unique (num n) b s e p q = cc
  content_unique (pair n m) b s e p q = cc
  content_unique (group n i) b s e p q = cc
  content_unique (octets os) b s e p q = cc

  pub unique : (a b : Attributes) (s : List ℕ) → Spells a s → Spells b s → a ≡ b
  unique no_attributes no_attributes s p q = refl
  unique no_attributes (attribute l n d other) s p q = let w = q.1.whole in cc
  unique (attribute k m c rest) no_attributes s p q = let w = p.1.whole in cc
  unique (attribute k m c rest) (attribute l n d other) s p q =
      let same = same_first k l m n p.1.contents q.1.contents p.1.padding q.1.padding p.1.after q.1.after p.1.short q.1.short p.1.aligned q.1.aligned (sym p.1.whole ∙ q.1.whole) in
      let contents : c ≡ d = content_unique c d q.1.contents (sym p.0 ∙ ap format_of same.kind ∙ q.0) (subst (λ (x : List ℕ). SpellsContent c x) same.contents p.1.body) q.1.body in
      let rests : rest ≡ other = unique rest other q.1.after (subst (λ (x : List ℕ). Spells rest x) same.after p.1.others) q.1.others in
      let kinds : k ≡ l = same.kind in
      let musts : m ≡ n = same.must in cc

-- what follows bytes that spell a front of the attributes spells the others
split : (front_attrs attrs : Attributes) (front tail : List ℕ) → Spells front_attrs front → Spells attrs (front ++ tail)
    → (others : Attributes) × Spells others tail
split no_attributes attrs front tail p q = (attrs, rw p at q)
split (attribute k m c rest) no_attributes front tail p q =
    let w : front ++ tail ≡ (first_byte k m ∷ (2 + length p.1.contents) ∷ (p.1.contents ++ p.1.padding ++ p.1.after)) ++ tail = ap (λ x. x ++ tail) p.1.whole in
    cc
split (attribute k m c rest) (attribute l n d other) front tail p q =
    let w = ap (λ x. x ++ tail) p.1.whole
    ∙ ap (λ x. first_byte k m ∷ (2 + length p.1.contents) ∷ x) (append_assoc (p.1.contents ++ p.1.padding) p.1.after tail) in
    let same = same_first k l m n p.1.contents q.1.contents p.1.padding q.1.padding (p.1.after ++ tail) q.1.after p.1.short q.1.short p.1.aligned q.1.aligned (sym w ∙ q.1.whole) in
    split rest other p.1.after tail p.1.others (subst (λ (x : List ℕ). Spells other x) (sym same.after) q.1.others)

-- the bytes begin with this attribute
pub record Starts (k : ℕ) (m : Bool) (c : Content) (bytes : List ℕ) : Type 0 where
  pub format : format_of k ≡ format_of_content c
  pub first : SpellsFirst k m (SpellsContent c) (λ _. Unit {0}) bytes

unfoldable pub starts : (k : ℕ) (m : Bool) (c : Content) (rest : Attributes) (front tail : List ℕ) → Spells (attribute k m c rest) front → Starts k m c (front ++ tail)
starts k m c rest front tail p = record {
  format = p.0;
  first = record {
    contents = p.1.contents;
    padding = p.1.padding;
    after = p.1.after ++ tail;
    whole = ap (λ x. x ++ tail) p.1.whole
        ∙ ap (λ x. first_byte k m ∷ (2 + length p.1.contents) ∷ x) (append_assoc (p.1.contents ++ p.1.padding) p.1.after tail);
    kind_fits = p.1.kind_fits;
    length_fits = p.1.length_fits;
    short = p.1.short;
    aligned = p.1.aligned;
    body = p.1.body;
    others = tt;
  };
}

aligned_sum : (n p after : ℕ) → (2 + n + p) % 4 ≡ 0 → after % 4 ≡ 0 → (2 + n + p + after) % 4 ≡ 0
aligned_sum n p after e f = omega arith

-- a spelling takes whole units of 4 bytes
pub spelled_aligned : (a : Attributes) (s : List ℕ) → Spells a s → length s % 4 ≡ 0
spelled_aligned no_attributes s p = ap (λ x. length x % 4) p
spelled_aligned (attribute k m c rest) s p =
    let len : length s ≡ 2 + length p.1.contents + length p.1.padding + length p.1.after
    = ap length p.1.whole ∙ omega (arith, length-append (p.1.contents ++ p.1.padding) p.1.after, length-append p.1.contents p.1.padding) in
    ap (λ x. x % 4) len ∙ aligned_sum (length p.1.contents) (length p.1.padding) (length p.1.after) p.1.aligned (spelled_aligned rest p.1.after p.1.others)

group_aligned : (n : ℕ) → 2 ≤ n → (n - 2) % 4 ≡ 0 → (2 + n) % 4 ≡ 0
group_aligned n h e = omega arith

-- contents of a body have a Length of its format
good_length : (c : Content) (s : List ℕ) → SpellsContent c s → is_bad_length (format_of_content c) (2 + length s) ≡ false
good_length (num n) s p = let e : length s ≡ 2 = p.0 in rw e refl
good_length (pair a b) s p = rw p refl
good_length (group n i) s p =
    let e : (2 + length s) % 4 ≡ 0 = group_aligned (length s) p.0 (ap (λ x. x % 4) (sym (length-drop 2 s)) ∙ spelled_aligned i (drop 2 s) p.2) in
    let h : 2 ≤ length s = p.0 in grind (arith, nat_tests)
good_length (octets os) s p = grind (arith, nat_tests)

pub kind_of_first : (k : ℕ) (m : Bool) → first_byte k m / 2 ≡ k
kind_of_first k true = omega arith
kind_of_first k false = omega arith

pub padded_is : (n p : ℕ) → p < 4 → (2 + n + p) % 4 ≡ 0 → padded (2 + n) ≡ 2 + n + p
padded_is n p h e = omega arith

sound_when : (bytes : List ℕ) → 2 ≤ length bytes → is_bad_length (format_of (front_kind bytes)) (front_len bytes) ≡ false
    → padded (front_len bytes) ≤ length bytes → front_fault bytes ≡ None
sound_when bytes two good whole =
    let a = le-ltb (length bytes) 2 two in
    let b = le-ltb (length bytes) (padded (front_len bytes)) whole in
    rw (a, good, b) refl

-- what begins with an attribute has no fault there
pub starts_sound : (k : ℕ) (m : Bool) (c : Content) (bytes : List ℕ) → Starts k m c bytes → front_fault bytes ≡ None
starts_sound k m c bytes h =
    let f = h.first in
    let size : length bytes ≡ 2 + length f.contents + length f.padding + length f.after
    = ap length f.whole ∙ omega (arith, length-append (f.contents ++ f.padding) f.after, length-append f.contents f.padding) in
    let kind : front_kind bytes ≡ k = ap (λ s. get_or s 0 0 / 2) f.whole ∙ kind_of_first k m in
    let len : front_len bytes ≡ 2 + length f.contents = ap (λ s. get_or s 1 0) f.whole in
    let end : padded (front_len bytes) ≡ 2 + length f.contents + length f.padding
    = ap padded len ∙ padded_is (length f.contents) (length f.padding) f.short f.aligned in
    sound_when bytes (omega (arith, size))
    (ap (λ x. is_bad_length (format_of x) (front_len bytes)) kind ∙ ap (λ n. is_bad_length (format_of k) n) len
    ∙ ap (λ format. is_bad_length format (2 + length f.contents)) h.format ∙ good_length c f.contents f.body)
    (omega (arith, size, end))

group_body : (c : Content) (s : List ℕ) → format_of_content c ≡ Grouped → SpellsContent c s → (i : Attributes) × (2 ≤ length s) × Spells i (drop 2 s)
group_body (group n i) s e p = (i, p.0, p.2)
group_body (num n) s e p = cc
group_body (pair a b) s e p = cc
group_body (octets os) s e p = cc

group_text : (first : ℕ) (c p after : List ℕ) → 2 ≤ length c → slice_range (first ∷ (2 + length c) ∷ (c ++ p ++ after)) 4 (2 + length c) ≡ drop 2 c
group_text first c p after h =
    let e : 2 + length c - 4 ≡ length (drop 2 c) = omega (arith, length-drop 2 c) in
    let d : drop 2 (c ++ p ++ after) ≡ drop 2 c ++ (p ++ after) = ap (λ x. drop 2 x) (append_assoc c p after) ∙ drop-append-le 2 c (p ++ after) h in
    ap (λ n. take n (drop 2 (c ++ p ++ after))) e ∙ ap (λ x. take (length (drop 2 c)) x) d ∙ take_at (drop 2 c) (p ++ after) (length (drop 2 c)) refl

-- the attributes inside a group at the front
pub inner_spelled : (k : ℕ) (m : Bool) (c : Content) (tail : List ℕ) → Starts k m c tail → format_of (front_kind tail) ≡ Grouped
    → (i : Attributes) × Spells i (slice_range tail 4 (front_len tail))
inner_spelled k m c tail h is_group =
    let f = h.first in
    let kind : front_kind tail ≡ k = ap (λ s. get_or s 0 0 / 2) f.whole ∙ kind_of_first k m in
    let len : front_len tail ≡ 2 + length f.contents = ap (λ s. get_or s 1 0) f.whole in
    let i = group_body c f.contents (sym h.format ∙ ap format_of (sym kind) ∙ is_group) f.body in
    let text : slice_range tail 4 (front_len tail) ≡ drop 2 f.contents
    = ap (λ n. slice_range tail 4 n) len ∙ ap (λ s. slice_range s 4 (2 + length f.contents)) f.whole
    ∙ group_text (first_byte k m) f.contents f.padding f.after i.1 in
    (i.0, subst (λ (x : List ℕ). Spells i.0 x) (sym text) i.2)

begins : (a : Attributes) (s : List ℕ) → Spells a s → 0 < length s → (k : ℕ) × (m : Bool) × (c : Content) × Starts k m c s
begins no_attributes s p h = absurd (omega (arith, ap length p))
begins (attribute k m c rest) s p h = (k, m, c, subst (λ (x : List ℕ). Starts k m c x) (append-nil s) (starts k m c rest s [] p))

-- what is spelled has no fault
pub exclusive : (a : Attributes) (s : List ℕ) (at : ℕ) (cause : Cause) → HasFault s at cause → Spells a s → ⊥
exclusive a s at cause (itself {front = front} {tail = tail} {attrs = attrs} b e place) q =
    let r = split attrs a front tail b.spelled (subst (λ (x : List ℕ). Spells a x) b.whole q) in
    let w = begins r.0 tail r.1 b.more in
    let sound = starts_sound w.0 w.1 w.2 tail w.3 in cc
exclusive a s at cause (inside {front = front} {tail = tail} {attrs = attrs} {within = within} b none group_ f place) q =
    let r = split attrs a front tail b.spelled (subst (λ (x : List ℕ). Spells a x) b.whole q) in
    let w = begins r.0 tail r.1 b.more in
    let i = inner_spelled w.0 w.1 w.2 tail w.3 group_ in
    exclusive i.0 (slice_range tail 4 (front_len tail)) within cause f i.1

-- no attribute stands whole at the front
abbrev pub Stops : List ℕ → Type 0
Stops tail = (k : ℕ) (m : Bool) (c : Content) → Starts k m c tail → ⊥

stops_itself : (tail : List ℕ) (cause : Cause) → front_fault tail ≡ Some cause → Stops tail
stops_itself tail cause e k m c h = let sound = starts_sound k m c tail h in cc

stops_group : (tail : List ℕ) (within : ℕ) (cause : Cause) → format_of (front_kind tail) ≡ Grouped
    → HasFault (slice_range tail 4 (front_len tail)) within cause → Stops tail
stops_group tail within cause g f k m c h =
    let i = inner_spelled k m c tail h g in exclusive i.0 (slice_range tail 4 (front_len tail)) within cause f i.1

-- the place where a reading stops is one
compare : (a b : Attributes) (front tail front' tail' : List ℕ) → Spells a front → Spells b front' → front ++ tail ≡ front' ++ tail'
    → Stops tail → Stops tail' → (length front ≡ length front') × (tail ≡ tail')
compare no_attributes no_attributes front tail front' tail' p q e h h' =
    (ap length (p ∙ sym q), ap (λ x. x ++ tail) (sym p) ∙ e ∙ ap (λ x. x ++ tail') q)
compare no_attributes (attribute l n d other) front tail front' tail' p q e h h' =
    absurd (h l n d (subst (λ (x : List ℕ). Starts l n d x) (sym e ∙ ap (λ x. x ++ tail) p) (starts l n d other front' tail' q)))
compare (attribute k m c rest) no_attributes front tail front' tail' p q e h h' =
    absurd (h' k m c (subst (λ (x : List ℕ). Starts k m c x) (e ∙ ap (λ x. x ++ tail') q) (starts k m c rest front tail p)))
compare (attribute k m c rest) (attribute l n d other) front tail front' tail' p q e h h' =
    let w = ap (λ x. x ++ tail) p.1.whole
    ∙ ap (λ x. first_byte k m ∷ (2 + length p.1.contents) ∷ x) (append_assoc (p.1.contents ++ p.1.padding) p.1.after tail) in
    let v = ap (λ x. x ++ tail') q.1.whole
    ∙ ap (λ x. first_byte l n ∷ (2 + length q.1.contents) ∷ x) (append_assoc (q.1.contents ++ q.1.padding) q.1.after tail') in
    let same = same_first k l m n p.1.contents q.1.contents p.1.padding q.1.padding (p.1.after ++ tail) (q.1.after ++ tail')
    p.1.short q.1.short p.1.aligned q.1.aligned (sym w ∙ e ∙ v) in
    let later = compare rest other p.1.after tail q.1.after tail' p.1.others q.1.others same.after h h' in
    let all = ap length e in
    (omega (arith, ap length later.1, all, length-append front tail, length-append front' tail'), later.1)

-- bytes have one fault at most
pub one_fault : (s : List ℕ) (x y : ℕ) (c d : Cause) → HasFault s x c → HasFault s y d → (x ≡ y) × (c ≡ d)
one_fault s x y c d (itself {front = front} {tail = tail} {attrs = a} h e place) (itself {front = front'} {tail = tail'} {attrs = b} h' e' place') =
    let same = compare a b front tail front' tail' h.spelled h'.spelled (sym h.whole ∙ h'.whole) (stops_itself tail c e) (stops_itself tail' d e') in
    let causes : Some c ≡ Some d = sym e ∙ ap front_fault same.1 ∙ e' in
    (place ∙ same.0 ∙ sym place', cc)
one_fault s x y c d (itself {front = front} {tail = tail} {attrs = a} h e place) (inside {front = front'} {tail = tail'} {attrs = b} {within = u} h' none g f place') =
    let same = compare a b front tail front' tail' h.spelled h'.spelled (sym h.whole ∙ h'.whole) (stops_itself tail c e) (stops_group tail' u d g f) in
    let causes : Some c ≡ None = sym e ∙ ap front_fault same.1 ∙ none in absurd (cc)
one_fault s x y c d (inside {front = front} {tail = tail} {attrs = a} {within = u} h none g f place) (itself {front = front'} {tail = tail'} {attrs = b} h' e' place') =
    let same = compare a b front tail front' tail' h.spelled h'.spelled (sym h.whole ∙ h'.whole) (stops_group tail u c g f) (stops_itself tail' d e') in
    let causes : None ≡ Some d = sym none ∙ ap front_fault same.1 ∙ e' in absurd (cc)
one_fault s x y c d (inside {front = front} {tail = tail} {attrs = a} {within = u} h none g f place) (inside {front = front'} {tail = tail'} {attrs = b} {within = u'} h' none' g' f' place') =
    let same = compare a b front tail front' tail' h.spelled h'.spelled (sym h.whole ∙ h'.whole) (stops_group tail u c g f) (stops_group tail' u' d g' f') in
    let texts : slice_range tail 4 (front_len tail) ≡ slice_range tail' 4 (front_len tail') = ap (λ t. slice_range t 4 (front_len t)) same.1 in
    let within = one_fault (slice_range tail 4 (front_len tail)) u u' c d f (subst (λ (t : List ℕ). HasFault t u' d) (sym texts) f') in
    (omega (arith, place, place', same.0, within.0), within.1)
