-- How a list grows by what is new.
use Rattle.std.specs.Prelude.{ℕ, ◌==◌, List, [], ◌∷◌, ◌++◌, if◌then◌else◌}
use Rattle.std.specs.List.{list_any}

-- one more item, unless one with its number is there
abbrev pub add_new : {A : Type 0} → (A → ℕ) → List A → A → List A
add_new key seen x = if list_any (λ y. key x == key y) seen then seen else seen ++ x ∷ []

-- the items, and then those of the others that are new
abbrev pub add_all : {A : Type 0} → (A → ℕ) → List A → List A → List A
add_all key seen [] = seen
add_all key seen (x ∷ xs) = add_all key (add_new key seen x) xs
