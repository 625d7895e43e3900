-- The fragments that are held lie beside one another in the payload of a message.
use Rattle.std.proofs.Common.{◌≡◌, inl, inr, ℕ, zero, suc, ◌+◌, ◌*◌, ◌<◌, ◌≤◌, ◌==◌, Bool, true, false, not, ◌&&◌, ◌||◌, List, [], ◌∷◌, ◌++◌, length, Option, Some, None, nat_eq, nat_lt, refl, sym, ap, subst, ◌∙◌, if◌then◌else◌, arith, length-drop}
use Rattle.std.specs.List.{insert, list_any}
use Rattle.std.specs.Cmp.Lexicographic.{pointwise}
use Rattle.std.proofs.lemmas.Bool.{lt-ltb, le-ltb, eqb-true}
use Rattle.std.proofs.lemmas.Bool.Decides.{leb_tells, eqb_tells}
use Rattle.floor_wire.specs.Message.{message_len}
use Rattle.floor_wire.specs.Header.{header_of}
use Rattle.floor_datagram.specs.Fragments.{Fragments, none_held, Placed, placed_in, held_of, without, whole_of, with_range, is_same_range, overlaps, is_from, offset_of, units_of, body_of, fragment_of, head_of, range_of, payload_of, joined, max_request_len}
use Rattle.floor_datagram.specs.Holding.{total, held_len}
use Rattle.floor_datagram.specs.declared.fragments.Fragment.TheVariants as Fragment_is
use Rattle.floor_datagram.specs.declared.fragments.Range.{Range}
use Rattle.floor_datagram.proofs.Ordering.{from_front, inserted, place-front}

-- From this unit to that one ranges lie behind one another; none is empty, and each body is as long as its range.
abbrev pub Fit : (at end : ℕ) → List Range → Type 0
Fit at end [] = at ≤ end
Fit at end (r ∷ rs) = (at ≤ r.offset) × (0 < r.units) × (length r.body ≡ 4 * r.units) × Fit (r.offset + r.units) end rs

fit-len : (at end : ℕ) (rs : List Range) → Fit at end rs → held_len rs + 4 * at ≤ 4 * end
fit-len at end [] f = omega (arith, f)
fit-len at end (r ∷ rs) f =
    let rest = fit-len (r.offset + r.units) end rs f.3 in
    omega (arith, rest, f.0, f.1, f.2)

-- ---- what a part of a message is

record IsPart (d : List ℕ) : Type 0 where
  some : 0 < units_of d
  within : offset_of d + units_of d ≤ payload_of d
  long : length d ≡ 16 + 4 * units_of d
  short : 12 + 4 * payload_of d ≤ 8192

or-false : (a b : Bool) → (a || b) ≡ false → (a ≡ false) × (b ≡ false)
or-false true b h = absurd (cc h)
or-false false b h = (refl, h)

not-false : (b : Bool) → not b ≡ false → b ≡ true
not-false true h = refl
not-false false h = absurd (cc h)

not-less : (a b : ℕ) → nat_lt a b ≡ false → b ≤ a
not-less a b h = elim (leb_tells b a) [
  | inl w ↦ w.1
  | inr w ↦ absurd (cc (sym h ∙ lt-ltb a b w.1))
]

less : (a b : ℕ) → nat_lt a b ≡ true → a < b
less a b h = elim (leb_tells b a) [
  | inl w ↦ absurd (cc (sym h ∙ le-ltb a b w.1))
  | inr w ↦ w.1
]

-- the tests that say what a fragment is
which : (a b : Bool) → (if a then Fragment_is.Nothing else if b then Fragment_is.Beyond else Fragment_is.Part) ≡ Fragment_is.Part → (a ≡ false) × (b ≡ false)
which true b h = absurd (cc h)
which false true h = absurd (cc h)
which false false h = (refl, refl)

not-zero : (n : ℕ) → (n == 0) ≡ false → 0 < n
not-zero n h = elim (eqb_tells n 0) [
  | inl w ↦ absurd (cc (sym h ∙ w.0))
  | inr w ↦ positive n w.1
]
  where
    positive : (k : ℕ) → (k ≡ 0 → ⊥) → 0 < k
    positive zero ne = absurd (ne refl)
    positive (suc k) ne = omega arith

part-is : (d : List ℕ) → fragment_of d ≡ Fragment_is.Part → IsPart d
part-is d is =
    let w = which ((header_of d).transaction_responder || nat_lt (length d) 16 || units_of d == 0)
    (nat_lt (payload_of d) (offset_of d + units_of d) || not (length d == 16 + 4 * units_of d) || nat_lt max_request_len (message_len d)) is in
    let units = or-false ((header_of d).transaction_responder || nat_lt (length d) 16) (units_of d == 0) w.0 in
    let sizes = or-false (nat_lt (payload_of d) (offset_of d + units_of d) || not (length d == 16 + 4 * units_of d)) (nat_lt max_request_len (message_len d)) w.1 in
    let ends = or-false (nat_lt (payload_of d) (offset_of d + units_of d)) (not (length d == 16 + 4 * units_of d)) sizes.0 in
    record {
      some = not-zero (units_of d) units.1;
      within = not-less (payload_of d) (offset_of d + units_of d) ends.0;
      long = eqb-true (length d) (16 + 4 * units_of d) (not-false (length d == 16 + 4 * units_of d) ends.1);
      short = not-less max_request_len (message_len d) sizes.1;
    }

body-len : (d : List ℕ) → IsPart d → length (body_of d) ≡ 4 * units_of d
body-len d p = let whole = length-drop 16 d in let long = p.long in omega (arith, whole, long)

-- ---- a fragment is put in its place

and-false-second : (a b : Bool) → a ≡ true → (a && b) ≡ false → b ≡ false
and-false-second true b is h = h
and-false-second false b is h = absurd (cc is)

and-false-first : (a b : Bool) → b ≡ true → (a && b) ≡ false → a ≡ false
and-false-first true b is h = absurd (cc (sym is ∙ h))
and-false-first false b is h = refl

-- what doesn't overlap, and begins before
ends-before : (d : List ℕ) (r : Range) → r.offset < offset_of d → overlaps d r ≡ false → r.offset + r.units ≤ offset_of d
ends-before d r before apart =
    not-less (offset_of d) (r.offset + r.units)
    (and-false-second (nat_lt r.offset (offset_of d + units_of d)) (nat_lt (offset_of d) (r.offset + r.units)) (lt-ltb r.offset (offset_of d + units_of d) (omega (arith, before))) apart)

-- what doesn't overlap, and begins here or behind
begins-behind : (d : List ℕ) (r : Range) → offset_of d ≤ r.offset → 0 < r.units → overlaps d r ≡ false → offset_of d + units_of d ≤ r.offset
begins-behind d r behind some apart =
    not-less r.offset (offset_of d + units_of d)
    (and-false-first (nat_lt r.offset (offset_of d + units_of d)) (nat_lt (offset_of d) (r.offset + r.units)) (lt-ltb (offset_of d) (r.offset + r.units) (omega (arith, behind, some))) apart)

fit-less : (a b end : ℕ) (rs : List Range) → a ≤ b → Fit b end rs → Fit a end rs
fit-less a b end [] h f = omega (arith, h, f)
fit-less a b end (r ∷ rs) h f = (omega (arith, h, f.0), f.1, f.2, f.3)

-- the place of a fragment, and what stands there then
abbrev goes : (d : List ℕ) (r : Range) (rs : List Range) (b : Bool) → List Range
goes d r rs true = range_of d ∷ r ∷ rs
goes d r rs false = r ∷ inserted d rs

goes-is : (d : List ℕ) (r : Range) (rs : List Range) (b : Bool) → insert (r ∷ rs) (if b then 0 else suc (from_front (offset_of d) rs)) (range_of d) ≡ goes d r rs b
goes-is d r rs true = refl
goes-is d r rs false = refl

by-not : (c : Bool) → not c ≡ true → c ≡ false
by-not true h = absurd (cc h)
by-not false h = refl

goes-fit : (at end : ℕ) (d : List ℕ) (r : Range) (rs : List Range) (b : Bool) → is_from (offset_of d) r ≡ b → IsPart d → at ≤ offset_of d → overlaps d r ≡ false → Fit at end (r ∷ rs)
    → (r.offset < offset_of d → Fit (r.offset + r.units) end (inserted d rs)) → Fit at end (goes d r rs b)
goes-fit at end d r rs true is p low apart f rest =
    let behind : offset_of d ≤ r.offset = not-less r.offset (offset_of d) (by-not (nat_lt r.offset (offset_of d)) is) in
    (low, p.some, body-len d p, (begins-behind d r behind f.1 apart, f.1, f.2, f.3))
goes-fit at end d r rs false is p low apart f rest =
    let before : r.offset < offset_of d = less r.offset (offset_of d) (not-false (nat_lt r.offset (offset_of d)) is) in
    (f.0, f.1, f.2, rest before)

inserted-fit : (at end : ℕ) (d : List ℕ) (rs : List Range) → IsPart d → at ≤ offset_of d → offset_of d + units_of d ≤ end
    → list_any (λ r. overlaps d r) rs ≡ false → Fit at end rs → Fit at end (inserted d rs)
inserted-fit at end d [] p low high apart f = (low, p.some, body-len d p, high)
inserted-fit at end d (r ∷ rs) p low high apart f =
    let each = or-false (overlaps d r) (list_any (λ x. overlaps d x) rs) apart in
    let P : List Range → Type 0 = λ l. Fit at end l in
    subst P (sym (goes-is d r rs (is_from (offset_of d) r)))
    (goes-fit at end d r rs (is_from (offset_of d) r) refl p low each.0 f
    (λ before. inserted-fit (r.offset + r.units) end d rs p (ends-before d r before each.0) high each.1 f.3))

goes-len : (d : List ℕ) (r : Range) (rs : List Range) (b : Bool) → held_len (inserted d rs) ≡ length (body_of d) + held_len rs
    → held_len (goes d r rs b) ≡ length (body_of d) + (length r.body + held_len rs)
goes-len d r rs true rest = refl
goes-len d r rs false rest = omega (arith, rest)

inserted-len : (d : List ℕ) (rs : List Range) → held_len (inserted d rs) ≡ length (body_of d) + held_len rs
inserted-len d [] = refl
inserted-len d (r ∷ rs) = ap held_len (goes-is d r rs (is_from (offset_of d) r)) ∙ goes-len d r rs (is_from (offset_of d) r) (inserted-len d rs)

-- ---- what is held

-- the ranges lie beside one another, and came
pub record Fits (came : List (List ℕ)) (rs : List Range) : Type 0 where
  pub fit : Fit 0 2045 rs
  pub came_before : held_len rs ≤ total came

pub fits-nothing : (came : List (List ℕ)) → Fits came []
fits-nothing came = record { fit = omega arith; came_before = omega arith }

pub total-append : (a b : List (List ℕ)) → total (a ++ b) ≡ total a + total b
total-append [] b = omega arith
total-append (d ∷ a) b = let rest = total-append a b in omega (arith, rest)

pub fits-more : (came more : List (List ℕ)) (rs : List Range) → Fits came rs → Fits (came ++ more) rs
fits-more came more rs f = let all = total-append came more in let before = f.came_before in record { fit = f.fit; came_before = omega (arith, all, before) }

pub fits-len : (came : List (List ℕ)) (rs : List Range) → Fits came rs → held_len rs ≤ 8180
fits-len came rs f = let all = fit-len 0 2045 rs f.fit in omega (arith, all)

choose-fits : (came : List (List ℕ)) (b : Bool) (p q : Placed) → (b ≡ true → Fits came p.held.ranges) → (b ≡ false → Fits came q.held.ranges) → Fits came (if b then p else q).held.ranges
choose-fits came true p q x y = x refl
choose-fits came false p q x y = y refl

whole-fits : (came : List (List ℕ)) (d : List ℕ) (since : ℕ) (o : Option (List ℕ)) (rs : List Range) → Fits came rs → Fits came (whole_of d since o rs).held.ranges
whole-fits came d since None rs f = f
whole-fits came d since (Some payload) rs f = fits-nothing came

pub placed-fits : (came : List (List ℕ)) (d : List ℕ) (since : ℕ) (rs : List Range) → fragment_of d ≡ Fragment_is.Part → Fits came rs → Fits (came ++ d ∷ []) (placed_in d since rs).held.ranges
placed-fits came d since rs part f =
    choose-fits (came ++ d ∷ []) (list_any (λ r. is_same_range d r) rs) _ _ (λ h. fits-more came (d ∷ []) rs f)
    (λ h. choose-fits (came ++ d ∷ []) (list_any (λ r. overlaps d r) rs) _ _ (λ g. fits-nothing (came ++ d ∷ []))
    (λ apart. whole-fits (came ++ d ∷ []) d since (joined 0 (payload_of d) (with_range d rs)) (with_range d rs)
    (let P : List Range → Type 0 = λ l. Fits (came ++ d ∷ []) l in
    subst P (ap (λ n. insert rs n (range_of d)) (sym (place-front (offset_of d) rs))) (added apart))))
  where
    p : IsPart d
    p = part-is d part

    added : list_any (λ r. overlaps d r) rs ≡ false → Fits (came ++ d ∷ []) (inserted d rs)
    added apart =
        let within = p.within in
        let short = p.short in
        let all = total-append came (d ∷ []) in
        let bytes = inserted-len d rs in
        let body = body-len d p in
        let long = p.long in
        let before = f.came_before in
        record {
          fit = inserted-fit 0 2045 d rs p (omega arith) (omega (arith, within, short)) apart f.fit;
          came_before = omega (arith, all, bytes, body, long, before);
        }

pub held_of-fits : (came : List (List ℕ)) (d : List ℕ) (f : Fragments) → Fits came f.ranges → Fits came (held_of f d)
held_of-fits came d f h = by (pointwise nat_eq f.head (head_of d))
  where
    by : (b : Bool) → Fits came (if b then f.ranges else [])
    by true = h
    by false = fits-nothing came

pub without-fits : (came : List (List ℕ)) (d : List ℕ) (f : Fragments) → Fits came f.ranges → Fits came (without f d).ranges
without-fits came d f h = by (pointwise nat_eq f.head (head_of d))
  where
    by : (b : Bool) → let g : Fragments = if b then none_held else f in Fits came g.ranges
    by true = fits-nothing came
    by false = h
