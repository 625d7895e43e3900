-- Transaction IDs that are told apart around 65,535.
use Rattle.std.proofs.Common.{◌≡◌, ℕ, zero, suc, ◌+◌, ◌-◌, ◌%◌, ◌<◌, ◌≤◌, ◌==◌, Bool, true, false, ◌&&◌, Option, Some, None, nat_lt, refl, ap, ◌∙◌, if◌then◌else◌, arith}
use Rattle.std.proofs.lemmas.Bool.{eqb-true, le-ltb, lt-ltb, ltb-true}
use Rattle.floor_datagram.specs.Numbering.{steps_to, is_newer, age_of}
use Rattle.floor_datagram.specs.Notices.{not_zero, is_near, fresh_id}
use Rattle.floor_datagram.specs.NoticeIds.{IsLastId, Own}
use Rattle.floor_datagram.specs.declared.numbering.Age.TheVariants.{Copy, Older, Newer}

-- as many steps lead up to an ID as it is ahead
steps-ahead : (from k : ℕ) → from < 65536 → k < 65536 → steps_to ((from + k) % 65536) from ≡ k
steps-ahead from k h i = omega arith

-- and the others lead up from it
steps-behind : (id k : ℕ) → id < 65536 → 0 < k → k < 65536 → steps_to id ((id + k) % 65536) ≡ 65536 - k
steps-behind id k h i j = omega arith

and-false : (a b : Bool) → b ≡ false → (a && b) ≡ false
and-false true b h = h
and-false false b h = refl

not-equal : (a b : ℕ) → (a ≡ b → ⊥) → (a == b) ≡ false
not-equal a b h = by (a == b) refl
  where
    by : (c : Bool) → (a == b) ≡ c → (a == b) ≡ false
    by false is = is
    by true is = absurd (h (eqb-true a b is))

-- a copy that comes within 32,768 newer steps is older
pub late-is-older : (id k : ℕ) → id < 65536 → 0 < k → k ≤ 32768 → age_of (Some ((id + k) % 65536)) id ≡ Older
late-is-older id k h i j =
    let other : (id ≡ (id + k) % 65536) → ⊥ = λ e. omega (arith, e) in
    let steps = steps-behind id k h i (omega arith) in
    let far : 32768 ≤ steps_to id ((id + k) % 65536) = omega (arith, steps) in
    ap (λ b. if b then Copy else if is_newer id ((id + k) % 65536) then Newer else Older) (not-equal id ((id + k) % 65536) other)
    ∙ ap (λ b. if b then Newer else Older) (and-false (nat_lt 0 (steps_to id ((id + k) % 65536))) (nat_lt (steps_to id ((id + k) % 65536)) 32768) (le-ltb (steps_to id ((id + k) % 65536)) 32768 far))

-- ---- the IDs of notices

positive : (n : ℕ) → (n == 0) ≡ false → 0 < n
positive zero h = absurd (cc h)
positive (suc n) h = omega arith

-- an ID that is ahead by this or, where 0 is passed over, by one step more
record Ahead (from k id : ℕ) : Type 0 where
  by : ℕ
  least : k ≤ by
  most : by ≤ k + 1
  is : id ≡ (from + by) % 65536
  some : 0 < id

not_zero-ahead : (from k : ℕ) → from < 65536 → Ahead from k (not_zero ((from + k) % 65536))
not_zero-ahead from k h = cases ((from + k) % 65536 == 0) refl
  where
    cases : (b : Bool) → ((from + k) % 65536 == 0) ≡ b → Ahead from k (if b then 1 else (from + k) % 65536)
    cases true is =
        let zero_is : (from + k) % 65536 ≡ 0 = eqb-true _ _ is in
        record { by = k + 1; least = omega arith; most = omega arith; is = omega arith; some = omega arith }
    cases false is = record { by = k; least = omega arith; most = omega arith; is = refl; some = positive _ is }

both : (a b : Bool) → a ≡ true → b ≡ true → (a && b) ≡ true
both a b p q = ap (λ x. x && b) p ∙ q

newer-ahead : (from k id : ℕ) → from < 65536 → 0 < k → k < 32767 → Ahead from k id → is_newer id from ≡ true
newer-ahead from k id h i j a =
    let least : k ≤ a.by = a.least in
    let most : a.by ≤ k + 1 = a.most in
    let steps : steps_to id from ≡ a.by = ap (λ x. steps_to x from) a.is ∙ steps-ahead from a.by h (omega arith) in
    both (nat_lt 0 (steps_to id from)) (nat_lt (steps_to id from) 32768) (lt-ltb 0 (steps_to id from) (omega arith)) (lt-ltb (steps_to id from) 32768 (omega arith))

steps-more : (from id k : ℕ) → from < 65536 → id < 65536 → steps_to id from + k < 65536 → steps_to ((id + k) % 65536) from ≡ steps_to id from + k
steps-more from id k h i j = omega arith

far-ahead : (last : Option ℕ) (id far : ℕ) → IsLastId last → id < 65536 → is_near last id ≡ true → Ahead id 16384 far → is_near last far ≡ false
far-ahead None id far h i near a = refl
far-ahead (Some last) id far h i near a =
    let least : 16384 ≤ a.by = a.least in
    let most : a.by ≤ 16385 = a.most in
    let close : steps_to id last < 1024 = ltb-true _ _ near in
    let steps : steps_to far last ≡ steps_to id last + a.by = ap (λ x. steps_to x last) a.is ∙ steps-more last id a.by h i (omega arith) in
    le-ltb (steps_to far last) 1024 (omega arith)

below : (id n : ℕ) → id ≡ n % 65536 → id < 65536
below id n is = omega arith

newer-by : (from k id : ℕ) → from < 65536 → 0 < k → k < 32768 → id ≡ (from + k) % 65536 → is_newer id from ≡ true
newer-by from k id h i j is =
    let steps : steps_to id from ≡ k = ap (λ x. steps_to x from) is ∙ steps-ahead from k h (omega arith) in
    both (nat_lt 0 (steps_to id from)) (nat_lt (steps_to id from) 32768) (lt-ltb 0 (steps_to id from) (omega arith)) (lt-ltb (steps_to id from) 32768 (omega arith))

own-by : (last : Option ℕ) (before id : ℕ) (b : Bool) → is_near last id ≡ b → IsLastId last → before < 65536 → Ahead before 1 id
    → Own last before (if b then not_zero ((id + 16384) % 65536) else id)
own-by last before id false is l h a =
    record { some = a.some; fits = below id (before + a.by) a.is; newer = newer-ahead before 1 id h (omega arith) (omega arith) a; far = is }
own-by last before id true is l h a =
    let fits : id < 65536 = below id (before + a.by) a.is in
    let b = not_zero-ahead id 16384 fits in
    let least : 16384 ≤ b.by = b.least in
    let most : b.by ≤ 16385 = b.most in
    let first : 1 ≤ a.by = a.least in
    let second : a.by ≤ 2 = a.most in
    let whole : not_zero ((id + 16384) % 65536) ≡ (before + (a.by + b.by)) % 65536 = omega (arith, a.is, b.is) in
    record {
      some = b.some;
      fits = below _ (id + b.by) b.is;
      newer = newer-by before (a.by + b.by) _ h (omega arith) (omega arith) whole;
      far = far-ahead last id _ l fits is b;
    }

-- the ID of the notice behind one with the ID before
pub fresh-own : (last : Option ℕ) (before : ℕ) → IsLastId last → before < 65536 → Own last before (fresh_id last ((before + 1) % 65536))
fresh-own last before l h = own-by last before (not_zero ((before + 1) % 65536)) (is_near last (not_zero ((before + 1) % 65536))) refl l h (not_zero-ahead before 1 h)
