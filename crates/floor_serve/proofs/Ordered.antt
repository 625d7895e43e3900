-- Seats that ascend, and those of one conference among them.
use Rattle.std.proofs.Common.{◌≡◌, ℕ, zero, suc, ◌+◌, ◌-◌, ◌<◌, ◌≤◌, Bool, true, false, List, [], ◌∷◌, length, get_or, take, drop, Option, Some, None, refl, sym, ap, subst, ◌∙◌, arith}
use Rattle.std.specs.Prelude.{nat_le, slice_get, IfSome, All}
use Rattle.std.specs.List.{AllWithin}
use Rattle.std.specs.List.Sorted.{IsNonDecreasingBy}
use Rattle.std.proofs.lemmas.Bool.Decides.{nat_tests}
use Rattle.floor_serve.specs.Booth as spec
use Rattle.floor_serve.specs.Finish.{Agrees, AreOneMember}
use Rattle.floor_serve.specs.Fits.{messages_of}
use Rattle.floor_serve.specs.Seat.{Seat}
use Rattle.floor_serve.specs.steps.Ascending.{Ascend, IsBefore, IsBlock}
use Rattle.floor_serve.specs.steps.First.{AgreesAt, SingleAt}
use Rattle.floor_serve.specs.steps.Parts.{FitsAt}

below : (a b : ℕ) → nat_le a b ≡ true → a ≤ b
below a b e = grind (arith, nat_tests)

above : (a b : ℕ) → nat_le a b ≡ false → b < a
above a b e = grind (arith, nat_tests)

before-trans : (a b c : Seat) → IsBefore a b → IsBefore b c → IsBefore a c
before-trans a b c h k =
    record {
      conference = omega (arith, h.conference, k.conference);
      number = λ e. behind e (first e) (second e);
    }
  where
    first : a.conference ≡ c.conference → a.conference ≡ b.conference
    first e = omega (arith, h.conference, k.conference)

    second : a.conference ≡ c.conference → b.conference ≡ c.conference
    second e = omega (arith, h.conference, k.conference)

    behind : a.conference ≡ c.conference → a.conference ≡ b.conference → b.conference ≡ c.conference → a.n < c.n
    behind e f g = omega (arith, h.number f, k.number g)

pub any-default : {A : Type 0} (xs : List A) (i : ℕ) (d e : A) → i < length xs → get_or xs i d ≡ get_or xs i e
any-default [] i d e h = absurd (omega arith)
any-default (x ∷ xs) zero d e h = refl
any-default (x ∷ xs) (suc i) d e h = any-default xs i d e (omega arith)

pub before-at : (seats : List Seat) (i j : ℕ) (s t d : Seat) → i < length seats → j < length seats → s ≡ get_or seats i s → t ≡ get_or seats j t → IsBefore s t → IsBefore (get_or seats i d) (get_or seats j d)
before-at seats i j s t d h k is also b =
    subst (λ (x : Seat). IsBefore x (get_or seats j d)) (is ∙ any-default seats i s d h) (subst (λ (x : Seat). IsBefore s x) (also ∙ any-default seats j t d k) b)

-- one seat more
pub ascend-more : (seats : List Seat) (at : ℕ) → 0 < at → ((i j : ℕ) (d : Seat) → i < j → j < at → IsBefore (get_or seats i d) (get_or seats j d)) →
    ((d : Seat) → IsBefore (get_or seats (at - 1) d) (get_or seats at d)) → (i j : ℕ) (d : Seat) → i < j → j < at + 1 → IsBefore (get_or seats i d) (get_or seats j d)
ascend-more seats at some h last i j d l m = by (nat_le at j) refl
  where
    lower : (t : Bool) → nat_le (at - 1) i ≡ t → j ≡ at → IsBefore (get_or seats i d) (get_or seats at d)
    lower true f e =
        let g : at - 1 ≤ i = below (at - 1) i f in
        let same : at - 1 ≡ i = omega arith in
        subst (λ (k : ℕ). IsBefore (get_or seats k d) (get_or seats at d)) same (last d)
    lower false f e =
        let g : i < at - 1 = above (at - 1) i f in
        let b : at - 1 < at = omega arith in
        before-trans (get_or seats i d) (get_or seats (at - 1) d) (get_or seats at d) (h i (at - 1) d g b) (last d)

    by : (t : Bool) → nat_le at j ≡ t → IsBefore (get_or seats i d) (get_or seats j d)
    by true f =
        let g : at ≤ j = below at j f in
        let same : j ≡ at = omega arith in
        subst (λ (k : ℕ). IsBefore (get_or seats i d) (get_or seats k d)) (sym same) (lower (nat_le (at - 1) i) refl same)
    by false f = h i j d l (above at j f)

pub some-of : {A : Type 0} (xs : List A) (k : ℕ) (x : A) → slice_get xs k ≡ Some x → (k < length xs) × ((d : A) → get_or xs k d ≡ x)
some-of [] k x e = absurd (none e)
  where
    none : None ≡ Some x → ⊥
    none f = cc
some-of (y ∷ ys) zero x e = (omega arith, λ d. inner e)
  where
    inner : Some y ≡ Some x → y ≡ x
    inner f = cc
some-of (y ∷ ys) (suc k) x e = let r = some-of ys k x e in (omega (arith, r.0), r.1)

take-at : {A : Type 0} (xs : List A) (k j : ℕ) (d : A) → j < length (take k xs) → (j < k) × (get_or (take k xs) j d ≡ get_or xs j d)
take-at [] zero j d h = absurd (omega arith)
take-at [] (suc k) j d h = absurd (omega arith)
take-at (y ∷ ys) zero j d h = absurd (omega arith)
take-at (y ∷ ys) (suc k) zero d h = (omega arith, refl)
take-at (y ∷ ys) (suc k) (suc j) d h = let r = take-at ys k j d (omega arith) in (omega (arith, r.0), r.1)

-- no two seats that ascend are of one member
pub ascend-single : (seats : List Seat) → Ascend seats → (k : ℕ) → SingleAt seats k
ascend-single seats h k = by (slice_get seats k) refl
  where
    apart : (s t : Seat) → IsBefore t s → AreOneMember t s → ⊥
    apart s t b one = absurd (omega (arith, b.number one.0, one.1))

    by : (o : Option Seat) → slice_get seats k ≡ o → IfSome o (λ s. All (λ t. ¬ AreOneMember t s) (take k seats))
    by None e = tt
    by (Some s) e = λ j d l.
        let r = some-of seats k s e in
        let t = take-at seats k j d l in
        subst (λ (x : Seat). AreOneMember x s → ⊥) (sym t.1) (apart s (get_or seats j d) (subst (λ (x : Seat). IsBefore (get_or seats j d) x) (r.1 d) (h j k d t.0 r.0)))

-- so their conferences never fall
pub ascend-conferences : (seats : List Seat) → Ascend seats → IsNonDecreasingBy (λ s. s.conference) seats
ascend-conferences seats h i j d l m = by (nat_le j i) refl
  where
    by : (t : Bool) → nat_le j i ≡ t → (get_or seats i d).conference ≤ (get_or seats j d).conference
    by true f =
        let g : j ≤ i = below j i f in
        let same : i ≡ j = omega arith in
        subst (λ (k : ℕ). (get_or seats i d).conference ≤ (get_or seats k d).conference) same (omega arith)
    by false f = (h i j d (above j i f) m).conference

-- where the seats of a conference stand
pub block-found : (seats : List Seat) (conference from to : ℕ) → from ≤ length seats → to ≤ length seats → AllWithin (λ s. s.conference < conference) seats 0 from →
    AllWithin (λ s. conference ≤ s.conference) seats from (length seats) → AllWithin (λ s. s.conference ≤ conference) seats 0 to → AllWithin (λ s. conference < s.conference) seats to (length seats) →
    IsBlock seats conference from to
block-found seats conference from to a b lower others also higher =
    record {
      parts = order (nat_le from to) refl;
      within = b;
      others = λ k d l e. (front k d l e (nat_le from k) refl, back k d l e (nat_le to k) refl);
    }
  where
    seat : Seat
    seat = record { conference = 0; n = 0; sent = [] }

    clash : (s : Seat) → s.conference < conference → conference < s.conference → ⊥
    clash s x y = absurd (omega arith)

    order : (t : Bool) → nat_le from to ≡ t → from ≤ to
    order true f = below from to f
    order false f =
        let g : to < from = above from to f in
        absurd (clash (get_or seats to seat) (lower to seat (omega arith) g) (higher to seat (omega arith) (omega arith)))

    front : (k : ℕ) (d : Seat) → k < length seats → (get_or seats k d).conference ≡ conference → (t : Bool) → nat_le from k ≡ t → from ≤ k
    front k d l e true f = below from k f
    front k d l e false f = absurd (omega (arith, lower k d (omega arith) (above from k f)))

    back : (k : ℕ) (d : Seat) → k < length seats → (get_or seats k d).conference ≡ conference → (t : Bool) → nat_le to k ≡ t → k < to
    back k d l e true f = absurd (omega (arith, higher k d (below to k f) l))
    back k d l e false f = above to k f

pub drop-get : {A : Type 0} (xs : List A) (from j : ℕ) → slice_get (drop from xs) j ≡ slice_get xs (from + j)
drop-get xs zero j = ap (λ (k : ℕ). slice_get xs k) (omega arith)
drop-get [] (suc from) j = refl
drop-get (y ∷ ys) (suc from) j = drop-get ys from j ∙ ap (λ (k : ℕ). slice_get (y ∷ ys) k) (more from j)
  where
    more : (a b : ℕ) → suc (a + b) ≡ suc a + b
    more a b = omega arith

pub take-get : {A : Type 0} (xs : List A) (m j : ℕ) → j < m → slice_get (take m xs) j ≡ slice_get xs j
take-get xs zero j h = absurd (omega arith)
take-get [] (suc m) j h = refl
take-get (y ∷ ys) (suc m) zero h = refl
take-get (y ∷ ys) (suc m) (suc j) h = take-get ys m j (omega arith)

-- the seats of a conference fit where those of its part of them do
pub block-agrees : (booth : spec.Booth) (conference from to : ℕ) (seats part : List Seat) → IsBlock seats conference from to → part ≡ take (to - from) (drop from seats) →
    ((j : ℕ) → j < length part → FitsAt booth.ledger.journal part j) → (k : ℕ) → AgreesAt booth conference seats k
block-agrees booth conference from to seats part block is fit k = by (slice_get seats k) refl
  where
    within : (o : Option Seat) (j : ℕ) → slice_get part j ≡ o → IfSome o (λ s. j < length part)
    within None j e = tt
    within (Some s) j e = (some-of part j s e).0

    at : (s : Seat) → slice_get seats k ≡ Some s → s.conference ≡ conference → slice_get part (k - from) ≡ Some s
    at s e c =
        let r = some-of seats k s e in
        let inside = block.others k s r.0 (ap (λ (x : Seat). x.conference) (r.1 s) ∙ c) in
        ap (λ (l : List Seat). slice_get l (k - from)) is
        ∙ take-get (drop from seats) (to - from) (k - from) (omega (arith, inside.0, inside.1))
        ∙ drop-get seats from (k - from)
        ∙ ap (λ (i : ℕ). slice_get seats i) (omega (arith, inside.0))
        ∙ e

    by : (o : Option Seat) → slice_get seats k ≡ o → IfSome o (Agrees (record { conference = conference; booth = booth }))
    by None e = tt
    by (Some s) e = λ c.
        let here = at s e c in
        subst (λ (o : Option Seat). IfSome o (λ t. t.sent ≡ messages_of booth.ledger.journal t.n)) here
        (fit (k - from) (subst (λ (o : Option Seat). IfSome o (λ t. k - from < length part)) here (within (slice_get part (k - from)) (k - from) refl)))
