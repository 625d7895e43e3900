-- How many requests name an event's floors, counted until they are too many.
use Rattle.std.proofs.Common.{◌≡◌, ℕ, ◌+◌, ◌-◌, ◌<◌, ◌≤◌, Bool, true, false, true≢false, List, get_or, length, take, arith, refl, sym, ◌∙◌, ap}
use Rattle.std.specs.Prelude.{◌↔◌, ◌&&◌, ◌/◌, IsTrue, count_by, nat_le, nat_lt}
use Rattle.std.proofs.lemmas.Bool.{le-leb, leb-true}
use Rattle.std.proofs.lemmas.Bool.Decides.{nat_tests}
use Rattle.std.proofs.lemmas.List.Sums.{sum_by_more, sum_by_more_le}
use Rattle.floor_queue.specs.declared.request.Request.{Request}
use Rattle.floor_queue.specs.Order.{names}
use Rattle.floor_machine.specs.steps.Renewing.{naming}

-- how many name a floor
abbrev on : List Request → ℕ → ℕ
on ongoing f = count_by (λ r. names r f) ongoing

-- one floor more is counted
pub one-counted : (ongoing : List Request) (floors : List ℕ) (i d left most count : ℕ) → left + naming ongoing (take i floors) ≡ most → i < length floors →
    count ≡ count_by (λ r. names r (get_or floors i d)) ongoing → count ≤ left → (left - count) + naming ongoing (take (i + 1) floors) ≡ most
one-counted ongoing floors i d left most count so_far within is enough =
    let more : naming ongoing (take (i + 1) floors) ≡ naming ongoing (take i floors) + on ongoing (get_or floors i d) = sum_by_more (on ongoing) floors i d within in
    omega (arith, so_far, is, enough, more)

-- they are too many with it
pub too-many : (ongoing : List Request) (floors : List ℕ) (i d left most count : ℕ) → left + naming ongoing (take i floors) ≡ most → i < length floors →
    count ≡ count_by (λ r. names r (get_or floors i d)) ongoing → left < count → naming ongoing floors ≤ most → ⊥
too-many ongoing floors i d left most count so_far within is fewer h =
    let part : naming ongoing (take i floors) + on ongoing (get_or floors i d) ≤ naming ongoing floors = sum_by_more_le (on ongoing) floors i d within in
    omega (arith, so_far, is, fewer, part, h)

lt-yes : (a b : ℕ) → nat_lt a b ≡ true → a < b
lt-yes a b e = grind (arith, nat_tests)

lt-no : (a b : ℕ) → nat_lt a b ≡ false → b ≤ a
lt-no a b e = grind (arith, nat_tests)

less : (a b : ℕ) → b ≤ a → a < b → ⊥
less a b h k = omega (arith, h, k)

not-lt : (a b : ℕ) → b ≤ a → nat_lt a b ≡ false
not-lt a b h = by (nat_lt a b) refl
  where
    by : (x : Bool) → nat_lt a b ≡ x → x ≡ false
    by true e = absurd (less a b h (lt-yes a b e))
    by false e = refl

is-lt : (a b : ℕ) → (b ≤ a → ⊥) → nat_lt a b ≡ true
is-lt a b h = by (nat_lt a b) refl
  where
    by : (x : Bool) → nat_lt a b ≡ x → x ≡ true
    by true e = refl
    by false e = absurd (h (lt-no a b e))

-- few numbers are looked at one by one
pub few-numbers : (n : ℕ) (b : Bool) → n ≤ 16 → false ≡ (nat_lt 16 n && b)
few-numbers n b few = ap (λ (x : Bool). x && b) (sym (not-lt 16 n few))

-- so are those of an event whose floors many name
pub many-named : (n m : ℕ) (known : Bool) → (IsTrue known ↔ (m ≤ n / 4)) → known ≡ false → false ≡ (nat_lt 16 n && nat_le m (n / 4))
many-named n m known is fails = by (nat_lt 16 n) ∙ ap (λ (x : Bool). nat_lt 16 n && x) (sym (beyond (nat_le m (n / 4)) refl))
  where
    beyond : (x : Bool) → nat_le m (n / 4) ≡ x → x ≡ false
    beyond true e = absurd (true≢false (sym (is.1 (leb-true m (n / 4) e)) ∙ fails))
    beyond false e = refl

    by : (x : Bool) → false ≡ (x && false)
    by true = refl
    by false = refl

-- and an event of many numbers whose floors few name is narrowed to these
pub narrowed : (n m : ℕ) (known : Bool) → (IsTrue known ↔ (m ≤ n / 4)) → known ≡ true → (n ≤ 16 → ⊥) → true ≡ (nat_lt 16 n && nat_le m (n / 4))
narrowed n m known is passes many = sym (ap (λ (x : Bool). x && nat_le m (n / 4)) (is-lt 16 n many) ∙ le-leb m (n / 4) (is.0 passes))
