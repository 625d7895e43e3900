-- The numbers of a client's transactions (RFC 8855, section 8.1).
use Rattle.std.specs.Prelude.{◌≡◌, ℕ, ◌+◌, ◌%◌, ◌<◌, ◌≤◌, Bool, true, false, ◌==◌, List, filter, not}
use Rattle.std.specs.List.{list_any}
use Rattle.std.specs.Ordering.{nat_cmp}
use Rattle.std.specs.BTreeSet.{insert_key}

-- the number that was chosen last, 0 before the first, and the numbers of the transactions that wait for their response
pub record Transactions : Type 0 where
  pub last : ℕ
  pub open_numbers : List ℕ

-- the number is among the open ones
abbrev pub is_open : List ℕ → ℕ → Bool
is_open open_numbers number = list_any (λ n. n == number) open_numbers

-- the number so many places behind the one that follows the last: from 1 to 65,535 in turn, since 0 stands in what the server starts
abbrev pub number_after : ℕ → ℕ → ℕ
number_after last places = (last + places) % 65535 + 1

-- The number isn't open, and each that comes before it behind the last is.
pub record IsNext (t : Transactions) (number : ℕ) : Type 0 where
  pub places : ℕ
  pub behind : number ≡ number_after t.last places
  pub free : is_open t.open_numbers number ≡ false
  pub first : (before : ℕ) → before < places → is_open t.open_numbers (number_after t.last before) ≡ true

-- all numbers from 1 to 65,535 are open
abbrev pub IsFull : Transactions → Type 0
IsFull t = (number : ℕ) → 0 < number → number ≤ 65535 → is_open t.open_numbers number ≡ true

-- the number is the last chosen, and open beside the others
abbrev pub opened : Transactions → ℕ → Transactions
opened t number = record { last = number; open_numbers = insert_key nat_cmp t.open_numbers number }

-- the number isn't open any more
abbrev pub closed : Transactions → ℕ → Transactions
closed t number = record { last = t.last; open_numbers = filter (λ n. not (n == number)) t.open_numbers }
