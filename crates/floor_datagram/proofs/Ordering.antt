-- Fragments that come in any order.
use Rattle.std.proofs.Common.{◌≡◌, ℕ, suc, ◌+◌, ◌<◌, ◌≤◌, ◌==◌, Bool, true, false, not, cond, ◌&&◌, ◌||◌, List, [], ◌∷◌, length, Some, None, unwrap_or, nat_lt, refl, sym, ap, ◌∙◌, if◌then◌else◌, arith}
use Rattle.std.specs.List.{insert, list_any, position_from}
use Rattle.std.proofs.lemmas.Iterator.Adapters.{position_from-zero}
use Rattle.std.proofs.lemmas.Bool.{eqb-true, lt-ltb, le-ltb}
use Rattle.floor_datagram.specs.Fragments.{none_held, head_of, offset_of, units_of, range_of, payload_of, is_same_range, overlaps, is_from, place_of, with_range, joined, whole_of, placed_in}
use Rattle.floor_datagram.specs.Order.{come, Comes, Follow}
use Rattle.floor_datagram.specs.declared.fragments.Range.{Range}

-- ---- a range put in its place, from the front on

abbrev pub from_front : (offset : ℕ) → List Range → ℕ
from_front offset [] = 0
from_front offset (r ∷ rs) = if is_from offset r then 0 else suc (from_front offset rs)

place-from : (offset i : ℕ) (rs : List Range) → unwrap_or (position_from (λ r. is_from offset r) i rs) (i + length rs) ≡ i + from_front offset rs
place-from offset i [] = refl
place-from offset i (r ∷ rs) = by (is_from offset r) (place-from offset (i + 1) rs)
  where
    by : (b : Bool) → unwrap_or (position_from (λ r. is_from offset r) (i + 1) rs) (i + 1 + length rs) ≡ i + 1 + from_front offset rs
        → unwrap_or (cond b (Some i) (position_from (λ r. is_from offset r) (i + 1) rs)) (i + suc (length rs)) ≡ i + (if b then 0 else suc (from_front offset rs))
    by true rest = omega arith
    by false rest =
        let len : i + suc (length rs) ≡ i + 1 + length rs = omega arith in
        let sum : i + 1 + from_front offset rs ≡ i + suc (from_front offset rs) = omega arith in
        ap (λ n. unwrap_or (position_from (λ r. is_from offset r) (i + 1) rs) n) len ∙ rest ∙ sum

pub place-front : (offset : ℕ) (rs : List Range) → place_of offset rs ≡ from_front offset rs
place-front offset rs =
    let zero_sum : length rs ≡ 0 + length rs = omega arith in
    let result : 0 + from_front offset rs ≡ from_front offset rs = omega arith in
    ap (λ p. unwrap_or p (length rs)) (position_from-zero (λ r. is_from offset r) rs)
    ∙ ap (λ n. unwrap_or (position_from (λ r. is_from offset r) 0 rs) n) zero_sum ∙ place-from offset 0 rs ∙ result

abbrev pub inserted : List ℕ → List Range → List Range
inserted d rs = insert rs (from_front (offset_of d) rs) (range_of d)

-- ---- where ranges follow one another

-- all begin at this unit or behind it
abbrev Behind : ℕ → List Range → Type 0
Behind at [] = Unit {0}
Behind at (r ∷ rs) = (at ≤ r.offset) × Behind at rs

behind-less : (a b : ℕ) (rs : List Range) → a ≤ b → Behind b rs → Behind a rs
behind-less a b [] h p = tt
behind-less a b (r ∷ rs) h p = (omega (arith, p.0), behind-less a b rs h p.1)

follow-behind : (at : ℕ) (rs : List Range) (bs : List Bool) → Follow at rs → Behind at (come bs rs)
follow-behind at rs [] f = tt
follow-behind at [] (b ∷ bs) f = tt
follow-behind at (r ∷ rs) (true ∷ bs) f =
    let first : r.offset ≡ at = f.0 in
    (omega arith, behind-less at (r.offset + r.units) (come bs rs) (omega arith) (follow-behind (r.offset + r.units) rs bs f.2))
follow-behind at (r ∷ rs) (false ∷ bs) f =
    let first : r.offset ≡ at = f.0 in
    behind-less at (r.offset + r.units) (come bs rs) (omega arith) (follow-behind (r.offset + r.units) rs bs f.2)

-- what is from an offset on
is-from : (offset : ℕ) (r : Range) → offset ≤ r.offset → is_from offset r ≡ true
is-from offset r h = ap (λ b. not b) (le-ltb r.offset offset h)

not-from : (offset : ℕ) (r : Range) → r.offset < offset → is_from offset r ≡ false
not-from offset r h = ap (λ b. not b) (lt-ltb r.offset offset h)

front-zero : (offset : ℕ) (rs : List Range) → Behind offset rs → from_front offset rs ≡ 0
front-zero offset [] p = refl
front-zero offset (r ∷ rs) p = ap (λ b. if b then 0 else suc (from_front offset rs)) (is-from offset r p.0)

later-behind : (at : ℕ) (r x : Range) → x.offset ≡ at → (x.offset + x.units ≤ r.offset) × (0 < r.units) → (at ≤ r.offset) × (0 < r.units)
later-behind at r x first next = let behind : x.offset + x.units ≤ r.offset = next.0 in (omega arith, next.1)

-- one of them begins at this unit or behind it
comes-behind : (at : ℕ) (r : Range) (rs : List Range) (bs cs : List Bool) → Follow at rs → Comes r rs bs cs → (at ≤ r.offset) × (0 < r.units)
comes-behind at r [] bs cs f c = absurd c
comes-behind at r (x ∷ rs) [] cs f c = absurd c
comes-behind at r (x ∷ rs) (b ∷ bs) [] f c = absurd c
comes-behind at r (x ∷ rs) (true ∷ bs) (false ∷ cs) f c = absurd c
comes-behind at r (x ∷ rs) (false ∷ bs) (true ∷ cs) f c =
    let first : x.offset ≡ at = f.0 in
    let same : x.offset ≡ r.offset = ap (λ y. y.offset) c.0 in
    let size : x.units ≡ r.units = ap (λ y. y.units) c.0 in
    let some : 0 < x.units = f.1 in
    (omega arith, omega arith)
comes-behind at r (x ∷ rs) (true ∷ bs) (true ∷ cs) f c = later-behind at r x f.0 (comes-behind (x.offset + x.units) r rs bs cs f.2 c)
comes-behind at r (x ∷ rs) (false ∷ bs) (false ∷ cs) f c = later-behind at r x f.0 (comes-behind (x.offset + x.units) r rs bs cs f.2 c)

-- put in its place it is among those that have come
comes-inserted : (at : ℕ) (d : List ℕ) (rs : List Range) (bs cs : List Bool) → Follow at rs → Comes (range_of d) rs bs cs → inserted d (come bs rs) ≡ come cs rs
comes-inserted at d [] bs cs f c = absurd c
comes-inserted at d (x ∷ rs) [] cs f c = absurd c
comes-inserted at d (x ∷ rs) (b ∷ bs) [] f c = absurd c
comes-inserted at d (x ∷ rs) (true ∷ bs) (false ∷ cs) f c = absurd c
comes-inserted at d (x ∷ rs) (false ∷ bs) (true ∷ cs) f c =
    let same : x.offset ≡ offset_of d = ap (λ y. y.offset) c.0 in
    let behind = behind-less (offset_of d) (x.offset + x.units) (come bs rs) (omega arith) (follow-behind (x.offset + x.units) rs bs f.2) in
    ap (λ n. insert (come bs rs) n (range_of d)) (front-zero (offset_of d) (come bs rs) behind)
    ∙ ap (λ y. y ∷ come bs rs) (sym c.0) ∙ ap (λ l. x ∷ come l rs) c.1
comes-inserted at d (x ∷ rs) (true ∷ bs) (true ∷ cs) f c =
    let next = comes-behind (x.offset + x.units) (range_of d) rs bs cs f.2 c in
    let some : 0 < x.units = f.1 in
    let behind : x.offset + x.units ≤ offset_of d = next.0 in
    let less : x.offset < offset_of d = omega arith in
    ap (λ b. insert (x ∷ come bs rs) (if b then 0 else suc (from_front (offset_of d) (come bs rs))) (range_of d)) (not-from (offset_of d) x less)
    ∙ ap (λ l. x ∷ l) (comes-inserted (x.offset + x.units) d rs bs cs f.2 c)
comes-inserted at d (x ∷ rs) (false ∷ bs) (false ∷ cs) f c = comes-inserted (x.offset + x.units) d rs bs cs f.2 c

-- ---- none is the same, and none overlaps

and-first : (a b : Bool) → a ≡ false → (a && b) ≡ false
and-first false b h = refl
and-first true b h = absurd (cc h)

and-second : (a b : Bool) → b ≡ false → (a && b) ≡ false
and-second true b h = h
and-second false b h = refl

or-both : (a b : Bool) → a ≡ false → b ≡ false → (a || b) ≡ false
or-both a b p q = ap (λ x. x || b) p ∙ q

unequal : (a b : ℕ) → (a ≡ b → ⊥) → (a == b) ≡ false
unequal a b h = by (a == b) refl
  where
    by : (c : Bool) → (a == b) ≡ c → (a == b) ≡ false
    by false is = is
    by true is = absurd (h (eqb-true a b is))

-- what lies before another, or behind it, overlaps it nowhere
apart-before : (d : List ℕ) (r : Range) → r.offset + r.units ≤ offset_of d → 0 < r.units → (is_same_range d r ≡ false) × (overlaps d r ≡ false)
apart-before d r h some = (
  and-first (r.offset == offset_of d) (r.units == units_of d) (unequal r.offset (offset_of d) (λ e. omega (arith, e))),
  and-second (nat_lt r.offset (offset_of d + units_of d)) (nat_lt (offset_of d) (r.offset + r.units)) (le-ltb (offset_of d) (r.offset + r.units) h),
)

apart-behind : (d : List ℕ) (r : Range) → offset_of d + units_of d ≤ r.offset → 0 < units_of d → (is_same_range d r ≡ false) × (overlaps d r ≡ false)
apart-behind d r h some = (
  and-first (r.offset == offset_of d) (r.units == units_of d) (unequal r.offset (offset_of d) (λ e. omega (arith, e))),
  and-first (nat_lt r.offset (offset_of d + units_of d)) (nat_lt (offset_of d) (r.offset + r.units)) (le-ltb r.offset (offset_of d + units_of d) h),
)

-- none of these is the same, and none overlaps
abbrev Apart : List ℕ → List Range → Type 0
Apart d rs = (list_any (λ r. is_same_range d r) rs ≡ false) × (list_any (λ r. overlaps d r) rs ≡ false)

apart-all : (d : List ℕ) (rs : List Range) → 0 < units_of d → Behind (offset_of d + units_of d) rs → Apart d rs
apart-all d [] some p = (refl, refl)
apart-all d (r ∷ rs) some p =
    let one = apart-behind d r p.0 some in
    let others = apart-all d rs some p.1 in
    (or-both (is_same_range d r) (list_any (λ x. is_same_range d x) rs) one.0 others.0, or-both (overlaps d r) (list_any (λ x. overlaps d x) rs) one.1 others.1)

comes-apart : (at : ℕ) (d : List ℕ) (rs : List Range) (bs cs : List Bool) → Follow at rs → Comes (range_of d) rs bs cs → Apart d (come bs rs)
comes-apart at d [] bs cs f c = absurd c
comes-apart at d (x ∷ rs) [] cs f c = absurd c
comes-apart at d (x ∷ rs) (b ∷ bs) [] f c = absurd c
comes-apart at d (x ∷ rs) (true ∷ bs) (false ∷ cs) f c = absurd c
comes-apart at d (x ∷ rs) (false ∷ bs) (true ∷ cs) f c =
    let same : x.offset ≡ offset_of d = ap (λ y. y.offset) c.0 in
    let size : x.units ≡ units_of d = ap (λ y. y.units) c.0 in
    let some : 0 < x.units = f.1 in
    apart-all d (come bs rs) (omega arith) (behind-less (offset_of d + units_of d) (x.offset + x.units) (come bs rs) (omega arith) (follow-behind (x.offset + x.units) rs bs f.2))
comes-apart at d (x ∷ rs) (true ∷ bs) (true ∷ cs) f c =
    let next = comes-behind (x.offset + x.units) (range_of d) rs bs cs f.2 c in
    let one = apart-before d x next.0 f.1 in
    let others = comes-apart (x.offset + x.units) d rs bs cs f.2 c in (
      or-both (is_same_range d x) (list_any (λ y. is_same_range d y) (come bs rs)) one.0 others.0,
      or-both (overlaps d x) (list_any (λ y. overlaps d y) (come bs rs)) one.1 others.1,
    )
comes-apart at d (x ∷ rs) (false ∷ bs) (false ∷ cs) f c = comes-apart (x.offset + x.units) d rs bs cs f.2 c

-- ---- a fragment that hasn't come is put where it belongs

pub comes-placed : (at : ℕ) (d : List ℕ) (since : ℕ) (rs : List Range) (bs cs : List Bool) → Follow at rs → Comes (range_of d) rs bs cs
    → placed_in d since (come bs rs) ≡ whole_of d since (joined 0 (payload_of d) (come cs rs)) (come cs rs)
comes-placed at d since rs bs cs f c =
    let apart = comes-apart at d rs bs cs f c in
    let put : with_range d (come bs rs) ≡ come cs rs =
    ap (λ n. insert (come bs rs) n (range_of d)) (place-front (offset_of d) (come bs rs)) ∙ comes-inserted at d rs bs cs f c in
    ap (λ b. if b then record { held = record { head = head_of d; ranges = come bs rs; since = since }; message = None } else if list_any (λ r. overlaps d r) (come bs rs) then record { held = none_held; message = None } else whole_of d since (joined 0 (payload_of d) (with_range d (come bs rs))) (with_range d (come bs rs))) apart.0
    ∙ ap (λ b. if b then record { held = none_held; message = None } else whole_of d since (joined 0 (payload_of d) (with_range d (come bs rs))) (with_range d (come bs rs))) apart.1
    ∙ ap (λ l. whole_of d since (joined 0 (payload_of d) l) l) put
