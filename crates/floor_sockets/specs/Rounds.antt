-- Whose turn it is.
use Rattle.std.specs.Prelude.{◌≡◌, ℕ, ◌++◌, false, List, [], ◌∷◌, length, nat_eq, slice_index_or, sum_by, count_by}

-- groups in the order of their turns, and of each group who waits, who came first in front
pub record Rounds : Type 0 where
  pub groups : List ℕ
  pub waiting : List (List ℕ)

-- who waits of a group
abbrev pub queue_in : List (List ℕ) → ℕ → List ℕ
queue_in waiting group = slice_index_or waiting group []

abbrev pub queue : Rounds → ℕ → List ℕ
queue r group = queue_in r.waiting group

-- how often a slot waits
abbrev pub times_in : List (List ℕ) → ℕ → ℕ
times_in waiting slot = sum_by (λ q. count_by (nat_eq slot) q) waiting

abbrev pub times : Rounds → ℕ → ℕ
times r slot = times_in r.waiting slot

-- how many wait
abbrev pub total_in : List (List ℕ) → ℕ
total_in waiting = sum_by length waiting

abbrev pub total : Rounds → ℕ
total r = total_in r.waiting

-- the same wait, in the same order
pub record SameQueues (old new : Rounds) : Type 0 where
  pub groups : new.groups ≡ old.groups
  pub queues : (group : ℕ) → queue new group ≡ queue old group

-- a group of whom these wait has a turn, one of whom nobody waits has none
abbrev pub turn_of : ℕ → List ℕ → List ℕ
turn_of group [] = []
turn_of group (slot ∷ slots) = group ∷ []

-- a group that had no turn has one now
abbrev pub new_turn : ℕ → List ℕ → List ℕ
new_turn group [] = group ∷ []
new_turn group (slot ∷ slots) = []

-- A slot has come behind those of its group who wait; a group of whom nobody waited has its turn behind the others.
pub record IsPut (old new : Rounds) (group slot : ℕ) : Type 0 where
  pub here : queue new group ≡ queue old group ++ slot ∷ []
  pub others : (g : ℕ) → nat_eq group g ≡ false → queue new g ≡ queue old g
  pub behind : new.groups ≡ old.groups ++ new_turn group (queue old group)

-- A slot has the turn: the first of the first group, which has its next turn behind all others where more of it wait.
pub record IsTurn (old new : Rounds) (slot : ℕ) : Type 0 where
  pub group : ℕ
  pub behind : List ℕ
  pub first : old.groups ≡ group ∷ behind
  pub served : queue old group ≡ slot ∷ queue new group
  pub others : (g : ℕ) → nat_eq group g ≡ false → queue new g ≡ queue old g
  pub again : new.groups ≡ behind ++ turn_of group (queue new group)
