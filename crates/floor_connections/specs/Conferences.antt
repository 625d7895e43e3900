-- The conferences that there are sockets of, and who isn't let in to each.
use Rattle.std.specs.Prelude.{◌≡◌, ℕ, Bool, false, nat_eq, Option}
use Rattle.std.specs.List.{list_any}
use Rattle.std.specs.Map.{lookup}
use Rattle.std.specs.Option.{option_map_or}
use Rattle.floor_connections.specs.declared.conferences.Conference.{Conference}
use Rattle.floor_connections.specs.declared.conferences.Conferences.{Conferences}

-- what is known of the conference with this number
abbrev pub conference_at : Conferences → ℕ → Option Conference
conference_at cs number = lookup (nat_eq number) cs.items.entries

-- its user was shown out, and wasn't admitted again since
abbrev pub is_removed : Conferences → ℕ → ℕ → Bool
is_removed cs conference user = option_map_or (λ c. list_any (nat_eq user) c.removed.items) (conference_at cs conference) false

-- The same users of the same conferences are let in.
abbrev pub SameUsers : Conferences → Conferences → Type 0
SameUsers old new = (conference user : ℕ) → is_removed new conference user ≡ is_removed old conference user

-- it is held: no event of it is to be taken
abbrev pub is_held : Conferences → ℕ → Bool
is_held cs conference = option_map_or (λ c. c.is_held) (conference_at cs conference) false

-- The same conferences are held.
abbrev pub SameHeld : Conferences → Conferences → Type 0
SameHeld old new = (conference : ℕ) → is_held new conference ≡ is_held old conference
