-- What the parts of a configuration are tested for, wherever they come from.
use Rattle.std.specs.Prelude.{ℕ, Bool, true, ◌&&◌, ◌==◌, nat_le, List, length, Option, Some, None, if◌then◌else◌}
use Rattle.std.specs.List.{list_all, list_any}
use Rattle.floor_config.specs.declared.users.User.{User}
use Rattle.floor_config.specs.declared.floors.Floor.{Floor}

-- the number lies from `least` to `most`
abbrev pub is_within : ℕ → ℕ → ℕ → Bool
is_within least most n = nat_le least n && nat_le n most

-- the text, where it isn't empty
abbrev pub unless_empty : List ℕ → Option (List ℕ)
unless_empty text = if length text == 0 then None else Some text

-- there is no chair, or it is one of these users
abbrev pub is_known : List User → Option ℕ → Bool
is_known users None = true
is_known users (Some chair) = list_any (λ u. u.id == chair) users

-- each floor has no chair, or one of these users
abbrev pub chairs_are_known : List User → List Floor → Bool
chairs_are_known users floors = list_all (λ f. is_known users f.chair) floors
