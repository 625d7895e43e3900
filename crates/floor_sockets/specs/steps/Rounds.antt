-- How the marks of slots, and the turns of groups, agree with who waits.
use Rattle.std.specs.Prelude.{◌≡◌, ℕ, Bool, false, List, if◌then◌else◌, length, nat_eq, slice_index_or, count_by}
use Rattle.floor_sockets.specs.Rounds.{queue_in, times_in}

-- whether a slot has its mark
abbrev pub stands_in : List Bool → ℕ → Bool
stands_in standing slot = slice_index_or standing slot false

-- each slot that has its mark waits once, and no other; each group of whom somebody waits has one turn, and no other
pub record IsInTurn (groups : List ℕ) (waiting : List (List ℕ)) (standing : List Bool) : Type 0 where
  pub once : (slot : ℕ) → times_in waiting slot ≡ (if stands_in standing slot then 1 else 0)
  pub turns : (group : ℕ) → count_by (nat_eq group) groups ≡ (if nat_eq (length (queue_in waiting group)) 0 then 0 else 1)
