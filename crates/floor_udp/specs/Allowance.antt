-- How much a peer may have: so much a second, and so much at once.
use Rattle.std.specs.Prelude.{ℕ, ◌+◌, ◌-◌, ◌*◌, ◌≤◌, min}

-- a rate a second, how much there is at most, how much is left in thousandths, and at which millisecond
pub record Allowance : Type 0 where
  pub rate : ℕ
  pub most : ℕ
  pub left : ℕ
  pub at : ℕ

-- nothing was taken of it
abbrev pub whole : (rate most now : ℕ) → Allowance
whole rate most now = record { rate = rate; most = most; left = most * 1000; at = now }

-- what it is by now: a thousandth of the rate more for each millisecond, and no more than the most
abbrev pub grown : (now : ℕ) → Allowance → Allowance
grown now a = record a { left = min (a.left + (now - a.at) * a.rate) (a.most * 1000); at = now }

-- there is as much by now
abbrev pub Has : (count now : ℕ) → Allowance → Type 0
Has count now a = count * 1000 ≤ (grown now a).left

-- so much was taken
abbrev pub without : (count : ℕ) → Allowance → Allowance
without count a = record a { left = a.left - count * 1000 }
